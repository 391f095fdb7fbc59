use Rattle.std.proofs.Common.{refl, arith}
use Rattle.registers.specs.Laws.{PutLaws, TakeLaws, StretchLaws, RewriteLaws}
use Rattle.registers.proofs.OneRow.{lookup-put_same, lookup-put_other, rising_put, lookup-without_same, lookup-without_other, without_absent, rising_without, once, lookup_at}
use Rattle.registers.proofs.Sums.{total-put, total-without, total_ℤ-put, total_ℤ-without, length-put, length_without}
use Rattle.registers.proofs.Stretches.{parts, kept, lookup-others, rising_others, length-others, total-others, total_ℤ-others, keys_rewritten, lookup-rewritten, total-rewritten, total_ℤ-rewritten}
use Rattle.registers.proofs.laws.register_laws.Goals as goal

pub put_laws : {V : Type 0} → PutLaws V
put_laws {V} = record {
  same = lookup-put_same;
  other = lookup-put_other;
  order = λ k v rs o. rising_put k 0 v rs (omega arith) o;
  count = length-put;
  sum = total-put;
  sum_ℤ = total_ℤ-put;
}

pub take_laws : {V : Type 0} → TakeLaws V
take_laws {V} = record {
  same = λ k rs o. lookup-without_same k 0 rs o;
  other = λ k j rs o n. lookup-without_other k j 0 rs o n;
  absent = without_absent;
  order = λ k rs o. rising_without k 0 rs o;
  count = length_without;
  sum = total-without;
  sum_ℤ = total_ℤ-without;
}

pub stretch_laws : {V : Type 0} → StretchLaws V
stretch_laws {V} = record {
  parts = parts;
  within = λ a b rs o. (kept a b 0 rs o).0;
  others = λ a b rs o. (kept a b 0 rs o).1;
  looked = λ a b j rs o. lookup-others a b j 0 rs o;
  order = λ a b rs o. rising_others a b 0 rs o;
  count = length-others;
  sum = total-others;
  sum_ℤ = total_ℤ-others;
}

pub rewrite_laws : {V : Type 0} → RewriteLaws V
rewrite_laws {V} = record {
  keys = keys_rewritten;
  looked = λ a b j ws rs o n i. lookup-rewritten a b j 0 ws rs o n i;
  sum = λ f a b ws rs. total-rewritten f a b rs ws;
  sum_ℤ = λ f a b ws rs. total_ℤ-rewritten f a b rs ws;
}

pub returns : goal.returns
returns g c = record {
  answer = refl;
  put = put_laws;
  take = take_laws;
  order = record { once = λ rs i j o. once 0 rs i j o; found = λ rs i o. lookup_at 0 rs i o };
  stretch = stretch_laws;
  rewrite = rewrite_laws;
}
