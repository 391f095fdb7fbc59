-- The numbers and layers of refusals, as offices know them.
use Rattle.std.specs.Prelude.{ℕ}
use Rattle.terms.specs.declared.refusal.Reason.{Reason}
use Rattle.terms.specs.declared.refusal.Reason.TheVariants.{
  OutOfRange,
  OffStep,
  Present,
  Absent,
  WrongState,
  SameAccount,
  OverLimit,
  CloseExceeds,
  NoSpace,
  AllowanceFull,
  NoRate,
  AmountOutOfRange,
}
use Rattle.terms.specs.declared.refusal.Refusal.{Refusal}

abbrev pub reason_number : Reason → ℕ
reason_number OutOfRange = 4
reason_number OffStep = 5
reason_number Present = 6
reason_number Absent = 7
reason_number WrongState = 8
reason_number SameAccount = 9
reason_number OverLimit = 10
reason_number CloseExceeds = 11
reason_number NoSpace = 12
reason_number AllowanceFull = 12
reason_number NoRate = 13
reason_number AmountOutOfRange = 14

-- 3 where the tariff refuses, 2 where the book does
abbrev pub reason_layer : Reason → ℕ
reason_layer OutOfRange = 2
reason_layer OffStep = 2
reason_layer Present = 2
reason_layer Absent = 2
reason_layer WrongState = 2
reason_layer SameAccount = 2
reason_layer OverLimit = 2
reason_layer CloseExceeds = 2
reason_layer NoSpace = 2
reason_layer AllowanceFull = 3
reason_layer NoRate = 3
reason_layer AmountOutOfRange = 2

-- a refusal that concerns one account
abbrev pub about : Reason → ℕ → Refusal
about why account = record { reason = why; account = account }

-- one that concerns none: 65,535 is no account's number
abbrev pub plain : Reason → Refusal
plain why = about why 65535
