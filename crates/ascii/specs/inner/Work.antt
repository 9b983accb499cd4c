-- What a buffer holds after a text was written. Definitions only.
use Rattle.std.specs.Prelude.{◌≡◌, List, ℕ, ◌+◌, ◌≤◌, length}
use Rattle.endian.specs.Little.{placed}

-- `after` is `before` with `text` written from `at` on, up to `end`
pub record Wrote (before : List ℕ) (at : ℕ) (text after : List ℕ) (end : ℕ) : Type 0 where
  pub until : end ≡ at + length text
  pub fits : end ≤ length before
  pub held : after ≡ placed at text before
