-- What the functions behind the public operations are handed. Definitions only.
use Rattle.std.specs.Prelude.{ℕ, ◌*◌, ◌≤◌, ◌≡◌, List, length, Float}

-- what the tests show where none refuses
pub record UpdateReady (n : ℕ) (b s y w : List Float) (iw : List ℕ) : Type 0 where
  pub size : n ≤ 16
  pub square : length b ≡ n * n
  pub step : length s ≡ n
  pub change : length y ≡ n
  pub room : 8192 ≤ length w
  pub words : 512 ≤ length iw
