-- How refusals are printed, in the codes of the characters.
use Rattle.std.specs.Prelude.{ℕ, List, ◌++◌, if◌then◌else◌, ◌==◌, codes, decimal}
use Rattle.terms.specs.declared.refusal.Reason.{Reason}
use Rattle.terms.specs.declared.refusal.Reason.TheVariants.{
  OutOfRange,
  OffStep,
  Present,
  Absent,
  WrongState,
  SameAccount,
  OverLimit,
  CloseExceeds,
  NoSpace,
  AllowanceFull,
  NoRate,
  AmountOutOfRange,
}
use Rattle.terms.specs.declared.refusal.Refusal.{Refusal}
use Rattle.terms.specs.Refusals.{reason_number, reason_layer}

abbrev pub reason_text : Reason → List ℕ
reason_text OutOfRange = codes "range"
reason_text OffStep = codes "step"
reason_text Present = codes "present"
reason_text Absent = codes "absent"
reason_text WrongState = codes "state"
reason_text SameAccount = codes "same account"
reason_text OverLimit = codes "limit"
reason_text CloseExceeds = codes "exceeds"
reason_text NoSpace = codes "space"
reason_text AllowanceFull = codes "space"
reason_text NoRate = codes "no rate"
reason_text AmountOutOfRange = codes "amount"

-- an account by its number, and no account by a dash
abbrev pub account_text : ℕ → List ℕ
account_text account = if account == 65535 then codes "-" else decimal account

abbrev pub refusal_text : Refusal → List ℕ
refusal_text e =
    codes "refused " ++ (decimal (reason_number e.reason)
    ++ (codes " " ++ (reason_text e.reason
    ++ (codes ", layer " ++ (decimal (reason_layer e.reason)
    ++ (codes ", account " ++ account_text e.account))))))
