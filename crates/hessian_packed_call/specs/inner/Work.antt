-- What the functions behind the public operations are handed. Definitions only.
use Rattle.std.specs.Prelude.{ℕ, ◌≤◌, ◌≡◌, List, length, Float}
use Rattle.hessian_packed.specs.Packed.{count}

-- what the tests show of a triangle and two vectors where none refuses
pub record Ready (n : ℕ) (p s y w : List Float) (iw : List ℕ) : Type 0 where
  pub size : n ≤ 16
  pub triangle : length p ≡ count n
  pub step : length s ≡ n
  pub change : length y ≡ n
  pub room : 8192 ≤ length w
  pub words : 512 ≤ length iw
