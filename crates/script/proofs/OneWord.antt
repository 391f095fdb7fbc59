-- A line has one next word, and a text one next line end.
use Rattle.std.proofs.Common.{◌≡◌, ℕ, List, arith}
use Rattle.script.specs.declared.words.Span.{Span}
use Rattle.script.specs.Only.{Only}
use Rattle.script.specs.Words.{WordAt, LineEnd}

-- one next word: no word starts before another does, nor ends before another that starts with it
pub one_word : (line : List ℕ) (from : ℕ) (s t : Span) → WordAt line from s → WordAt line from t → s ≡ t
one_word line from s t a b =
    let start-same : s.start ≡ t.start = grind arith in
    let end_same : s.end ≡ t.end = grind arith in
    λ i. record { start = start-same i; end = end_same i }

pub one_end : (text : List ℕ) (from m n : ℕ) → LineEnd text from m → LineEnd text from n → m ≡ n
one_end text from m n a b = grind arith

pub only_word : (line : List ℕ) (from : ℕ) (s : Span) → WordAt line from s → Only (WordAt line from) s
only_word line from s h = record { holds = h; alone = λ t k. one_word line from t s k h }

pub only_end : (text : List ℕ) (from n : ℕ) → LineEnd text from n → Only (LineEnd text from) n
only_end text from n h = record { holds = h; alone = λ m k. one_end text from m n k h }
