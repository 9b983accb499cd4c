-- Where a word stands in a line. Definitions only.
use Rattle.std.specs.Prelude.{◌≡◌, List, ℕ, ◌-◌, ◌≤◌, length, take, drop}
use Rattle.day_words.specs.declared.Word.{Word}
use Rattle.day_words.specs.Words.{word, rest}

-- w is the first word of the line from a place on
pub record IsWord (line : List ℕ) (from : ℕ) (w : Word) : Type 0 where
  pub low : w.start ≤ w.end
  pub high : w.end ≤ length line
  pub text : take (w.end - w.start) (drop w.start line) ≡ word (drop from line)
  pub left : drop w.end line ≡ rest (drop from line)
