-- Every accepted call keeps what is kept.
use Rattle.std.proofs.Common.{◌≡◌, ℕ, Bool, true, false, cond, refl, ◌∙◌}
use Rattle.ledger.specs.Calls.{Series, Call, Pricing, admit, list, trade, close, mark, delta, enter, exercise, settle}
use Rattle.ledger.specs.Numbers.{series_kind, is_future, key_of}
use Rattle.ledger.specs.Book.{Book}
use Rattle.ledger.specs.Charges.{lapses_at}
use Rattle.ledger.specs.Post.{post_end, post_final, post_cash, post_exercise, post}
use Rattle.ledger.specs.Ledger.{Journal}
use Rattle.ledger.proofs.KeyLaws.{not_both, key_is_future}
use Rattle.ledger.proofs.Kept.{Kept, on}
use Rattle.ledger.proofs.Accepted.{ExercisePassed, SettlePassed, Passed}
use Rattle.ledger.proofs.Plain.{admit_kept, list_kept, close_kept, delta_kept, enter_kept}
use Rattle.ledger.proofs.Trades.{trade_kept}
use Rattle.ledger.proofs.Ends.{mark_kept, lapse_kept, cash_kept}
use Rattle.ledger.proofs.Finals.{final_kept}
use Rattle.ledger.proofs.Exercises.{exercise_kept}

exercises : (b : Book) (j : Journal) (x : Series) (level : ℕ) (p : Pricing) (c : Book) → ExercisePassed b x c → Kept b j → Kept (post b (exercise x level) p) (on (exercise x level) p j)
unfolding post
exercises b j x level p c π κ = ways (lapses_at x level) refl
  where
    ways : (y : Bool) → lapses_at x level ≡ y → Kept (cond y (post_end b (key_of x)) (post_exercise b x p)) (on (exercise x level) p j)
    ways true e = lapse_kept b j x level p e (key_is_future x π.range ∙ not_both (series_kind x) π.kind) κ
    ways false e = exercise_kept b j x level p κ π.range π.kind e π.live π.month

settles : (b : Book) (j : Journal) (x : Series) (p : Pricing) (c : Book) → SettlePassed b x c → Kept b j → Kept (post b (settle x) p) (on (settle x) p j)
unfolding post
settles b j x p c π κ = ways (is_future (series_kind x)) refl
  where
    ways : (y : Bool) → is_future (series_kind x) ≡ y → Kept (cond y (post_final b (key_of x)) (post_cash b x p)) (on (settle x) p j)
    ways true e = final_kept b j x p κ e (key_is_future x π.range ∙ e) (π.final e)
    ways false e = cash_kept b j x p κ e (key_is_future x π.range ∙ e) (π.live e) (π.month e)

pub by_call : (b : Book) (j : Journal) (c : Call) (p : Pricing) → Passed b c (post b c p) → Kept b j → Kept (post b c p) (on c p j)
by_call b j (admit a h) p π κ = admit_kept b j a h p π.fresh κ
by_call b j (list x v) p π κ = list_kept b j x v p π.fresh κ
by_call b j (trade t) p π κ = trade_kept b j t p (post b (trade t) p) π κ
by_call b j (close x a k) p π κ = close_kept b j x a k p π.range π.account π.some π.enough π.there κ
by_call b j (mark m x) p π κ = mark_kept b j m x p π.trading κ
by_call b j (delta x d) p π κ = delta_kept b j x d p (key_is_future x π.range ∙ π.option) κ
by_call b j (enter m f x) p π κ = enter_kept b j m f x p π.trading κ
by_call b j (exercise x level) p π κ = exercises b j x level p (post b (exercise x level) p) π κ
by_call b j (settle x) p π κ = settles b j x p (post b (settle x) p) π κ
