-- Readings of LSEI's and LSI's part, which begins at 18, and of the workspace when it is back.
use mathlib.Core.Path.{◌≡◌, sym, ap, ◌∙◌}
use mathlib.Core.List.{List}
use Prim.Native.Nat.{ℕ, ◌+◌, ◌-◌, ◌≤◌}
use native.Mathlib.Omega.{arith}
use lib.ListN.{length}
use lib.Ieee.{Float, nan}
use borrow.Rule.Slice.PartMut.{put_mid}
use Rattle.numbers.specs.Numbers.{transposed}
use Rattle.numbers.proofs.Lists.{matrix-same, length-transposed, entry-transposed}
use Rattle.workspace.specs.Readings.{vec, mat, stack}
use Rattle.workspace.proofs.Readings.{vec-same, vec-part, length-stack, entry_stack, entry-mat}
use Rattle.workspace.proofs.Parts.{back-part, back-get}

-- the vectors that are stacked are a matrix's columns
pub stack-mat : (o m n : ℕ) (w : List Float) → stack o n m w ≡ transposed m n (mat o m n w)
stack-mat o m n w =
    matrix-same n m (stack o n m w) (transposed m n (mat o m n w)) (length-stack o n m w) (length-transposed m n (mat o m n w))
    (λ j i hj hi. entry_stack o n m w j i hj hi ∙ sym (entry-mat o m n w i j hi hj) ∙ sym (entry-transposed m n (mat o m n w) j i hj hi))

-- v is what came back
module _ (w v : List Float) (h : 18 ≤ length w) where
  pub vec-back : (o n : ℕ) → vec o n v ≡ vec (18 + o) n (put_mid 18 (length w - 18) w v)
  vec-back o n = ap (vec o n) (sym (back-part 18 w v h)) ∙ vec-part 18 o n (put_mid 18 (length w - 18) w v)

  pub front-back : (n : ℕ) → n ≤ 18 → vec 0 n (put_mid 18 (length w - 18) w v) ≡ vec 0 n w
  front-back n l = vec-same 0 n w (put_mid 18 (length w - 18) w v) (λ i k. back-get 18 w v h (0 + i) nan (omega arith))
