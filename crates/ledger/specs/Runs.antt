-- One event, and a list of them: the answer, the book after it, the tariff's standing, and the scratch.

use Rattle.std.specs.Prelude.{Bool, true, false, cond, List, [], ◌∷◌, ◌++◌, drop, replicate, ℤ, pos, Ok, Err, fold}
use Rattle.terms.specs.declared.refusal.Reason.{Reason}
use Rattle.terms.specs.declared.refusal.Reason.TheVariants.{
  OutOfRange,
  OffStep,
  Present,
  Absent,
  WrongState,
  SameAccount,
  OverLimit,
  CloseExceeds,
  NoSpace,
  AllowanceFull,
  NoRate,
  AmountOutOfRange,
}
use Rattle.tariffs.specs.declared.side.Side.{Side}
use Rattle.ledger.specs.Calls.{Event}
use Rattle.ledger.specs.Book.{Book}
use Rattle.ledger.specs.Charges.{charged}
use Rattle.ledger.specs.Post.{post}
use Rattle.ledger.specs.Judge.{Verdict, accepted, also, places, judge_call, judge_opening}

-- the answer to an event
unfoldable pub judge : Book → Event → Verdict
judge b e =
    also (judge_opening b.family b.spaces)
    (judge_call b e.call e.pricing e.scratch (post b e.call e.pricing))

unfoldable pub afterwards : Book → Event → Verdict → Book
afterwards b e (Ok _) = post b e.call e.pricing
afterwards b e (Err r) = b

-- the book after an event
abbrev pub step : Book → Event → Book
step b e = afterwards b e (judge b e)

unfoldable pub run : Book → List Event → Book
run b [] = b
run b (e ∷ es) = run (step b e) es

-- ---- the tariff
-- the standing after an event: an accepted call charges its sides in their order, a refused one none
abbrev pub standing_after : {T : Type 0} → (T → Side → T) → T → Book → Event → T
standing_after next t b e = cond (accepted (judge b e)) (fold next t (charged b e.call)) t

-- ---- the scratch
abbrev pub amounts_tested : Reason → Bool
amounts_tested OutOfRange = false
amounts_tested OffStep = false
amounts_tested Present = false
amounts_tested Absent = false
amounts_tested WrongState = false
amounts_tested SameAccount = false
amounts_tested OverLimit = false
amounts_tested CloseExceeds = false
amounts_tested NoSpace = false
amounts_tested AllowanceFull = false
amounts_tested NoRate = true
amounts_tested AmountOutOfRange = true

abbrev pub used : Verdict → Bool
used (Ok _) = true
used (Err e) = amounts_tested e.reason

-- the scratch after an event: its first places, one for each position of the series, are 0 where the call was accepted or refused by 13
-- or 14; everything else stays
abbrev pub scratch_after : Book → Event → List ℤ → List ℤ
scratch_after b e space = cond (used (judge b e)) (replicate (places b e.call) (pos 0) ++ drop (places b e.call) space) space
