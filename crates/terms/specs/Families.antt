-- The index families, column by column.
use Rattle.std.specs.Prelude.{ℕ, Bool, true, false, List, [], ◌∷◌}
use Rattle.terms.specs.declared.family.Family.{Family}
use Rattle.terms.specs.declared.family.Family.TheVariants.{HangSeng, ChinaEnterprises, MsciTaiwan}
use Rattle.terms.specs.declared.steps.StepBand.{StepBand}

abbrev pub family_number : Family → ℕ
family_number HangSeng = 0
family_number ChinaEnterprises = 1
family_number MsciTaiwan = 2

-- the cents by which one hundredth of a point moves one unit
abbrev pub cents_of : Family → ℕ
cents_of HangSeng = 10
cents_of ChinaEnterprises = 10
cents_of MsciTaiwan = 20

-- the tick of a traded price, in hundredths: a point, a point, a tenth
abbrev pub tick_of : Family → ℕ
tick_of HangSeng = 100
tick_of ChinaEnterprises = 100
tick_of MsciTaiwan = 10

-- the position limit in full contracts
abbrev pub limit_of : Family → ℕ
limit_of HangSeng = 15000
limit_of ChinaEnterprises = 25000
limit_of MsciTaiwan = 20000

abbrev pub minis_in : Family → Bool
minis_in HangSeng = true
minis_in ChinaEnterprises = true
minis_in MsciTaiwan = false

abbrev pub future_options_in : Family → Bool
future_options_in HangSeng = true
future_options_in ChinaEnterprises = true
future_options_in MsciTaiwan = false

abbrev pub band : ℕ → ℕ → StepBand
band from step = record { from = from; step = step }

-- 50; 100 from 5,000; 200 from 20,000. A table has four bands, so the last stands twice.
abbrev pub index_bands : List StepBand
index_bands = band 0 50 ∷ band 5000 100 ∷ band 20000 200 ∷ band 20000 200 ∷ []

-- 1; 2 from 200; 5 from 500; 10 from 1,000
abbrev pub taiwan_bands : List StepBand
taiwan_bands = band 0 1 ∷ band 200 2 ∷ band 500 5 ∷ band 1000 10 ∷ []

abbrev pub bands_of : Family → List StepBand
bands_of HangSeng = index_bands
bands_of ChinaEnterprises = index_bands
bands_of MsciTaiwan = taiwan_bands
