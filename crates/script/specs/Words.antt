-- Where the words and the lines of a text stand.
use Rattle.std.specs.Prelude.{◌≡◌, ℕ, ◌<◌, ◌≤◌, min, Bool, true, false, ◌||◌, List, length, ◌==◌, ◌≢◌, slice_index}
use Rattle.script.specs.declared.words.Span.{Span}

-- A blank separates words: a space (32), a tab (9) or a carriage return (13).
abbrev pub blank : ℕ → Bool
blank c = c == 32 || (c == 9 || c == 13)

-- The next word of a line at or after a place: only blanks are passed over, the word holds no blank,
-- and it goes on to a blank or to the line's end. Without one, and from past the end, both places are the line's length.
pub record WordAt (line : List ℕ) (from : ℕ) (s : Span) : Type 0 where
  pub after : min from (length line) ≤ s.start
  pub ordered : s.start ≤ s.end
  pub within : s.end ≤ length line
  pub skipped : (k : ℕ) → from ≤ k → k < s.start → blank (slice_index line k) ≡ true
  pub taken : (k : ℕ) → s.start ≤ k → k < s.end → blank (slice_index line k) ≡ false
  pub stops : s.end < length line → blank (slice_index line s.end) ≡ true
  pub none : s.start ≡ s.end → s.start ≡ length line

-- The end of the line that goes on at a place: the first newline (10) at or after it, or the text's length.
pub record LineEnd (text : List ℕ) (from r : ℕ) : Type 0 where
  pub after : min from (length text) ≤ r
  pub within : r ≤ length text
  pub skipped : (k : ℕ) → from ≤ k → k < r → slice_index text k ≢ 10
  pub stops : r < length text → slice_index text r ≡ 10
