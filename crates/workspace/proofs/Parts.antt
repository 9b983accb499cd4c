-- A part that is lent to a call: what the callee sees, and what the whole is when the part is back.
use mathlib.Core.Path.{◌≡◌, sym, ap, ◌∙◌}
use mathlib.Core.List.{List, ◌++◌, append-nil}
use Prim.Native.Nat.{ℕ, ◌+◌, ◌*◌, ◌-◌, ◌≤◌, ◌<◌}
use native.Mathlib.Nat.{le_refl}
use native.Mathlib.Omega.{arith}
use lib.ListN.{length, take, drop, get_or, length-drop, drop_of_length-le, get_or-append}
use lib.Seq.{take_all, drop_at, length-take-le, get_or-take}
use lib.Ieee.{Float, nan}
use borrow.Rule.Slice.PartMut.{mid_of, put_mid, take_put}
use Rattle.workspace.specs.Tables.{cleared}
use Rattle.workspace.specs.Readings.{vec, mat, stack, nums}
use Rattle.workspace.proofs.Readings.{vec-same, mat-same, stack_same, nums-same}
use Rattle.workspace.proofs.Clears.{cleared-same}

-- ---- `&mut w[b..]`, all from b on

module _ {A : Type 0} (b : ℕ) (w v : List A) (h : b ≤ length w) where
  -- the callee is lent all from b on
  pub lent_is : mid_of b (length w - b) w ≡ drop b w
  lent_is = take_all (length w - b) (drop b w) (rw length-drop (le_refl (length w - b)))

  -- the whole, with v in the part's place
  pub back_is : put_mid b (length w - b) w v ≡ take b w ++ v
  back_is =
      ap (λ (l : List A). take b w ++ l)
      (ap (λ (l : List A). v ++ l) (drop_of_length-le (drop b w) {i = length w - b} (rw length-drop (le_refl (length w - b)))) ∙ append-nil v)

  -- the part is what the callee left
  pub back-part : drop b (put_mid b (length w - b) w v) ≡ v
  back-part = ap (drop b) back_is ∙ drop_at (take b w) v b (length-take-le b w h)

  -- the front is as it was
  pub back-front : take b (put_mid b (length w - b) w v) ≡ take b w
  back-front = take_put b (length w - b) w v h

  pub back-get : (x : ℕ) (d : A) → x < b → get_or (put_mid b (length w - b) w v) x d ≡ get_or w x d
  back-get x d l = sym (get_or-take b (put_mid b (length w - b) w v) x d l) ∙ ap (λ (m : List A). get_or m x d) back-front ∙ get_or-take b w x d l

-- ---- `&mut w[..k]`, the first k: they come back as v, and what lies behind is r

module _ (v r : List Float) where
  pub vec-front : (o n : ℕ) → o + n ≤ length v → vec o n (v ++ r) ≡ vec o n v
  vec-front o n h = vec-same o n v (v ++ r) (λ i l. get_or-append v r nan (o + i) (omega arith))

  pub mat-front : (o m n : ℕ) → m ≤ 18 → o + n * 18 ≤ length v → mat o m n (v ++ r) ≡ mat o m n v
  mat-front o m n l h = mat-same o m n v (v ++ r) (λ i j hi hj. get_or-append v r nan (o + j * 18 + i) (omega arith))

  pub stack-front : (o c m : ℕ) → m ≤ 18 → o + c * 18 ≤ length v → stack o c m (v ++ r) ≡ stack o c m v
  stack-front o c m l h = stack_same o c m v (v ++ r) (λ k i hk hi. get_or-append v r nan (o + k * 18 + i) (omega arith))

pub nums-front : (l r : List ℕ) (o n : ℕ) → o + n ≤ length l → nums o n (l ++ r) ≡ nums o n l
nums-front l r o n h = nums-same o n l (l ++ r) (λ i q. get_or-append l r 0 (o + i) (omega arith))

-- whatever the callee left in them, clearing them gives the same
pub front-cleared : {A : Type 0} (z : A) (k : ℕ) (v w : List A) → length v ≡ k → cleared z k (v ++ drop k w) ≡ cleared z k w
front-cleared z k v w e = cleared-same z k (v ++ drop k w) w (drop_at v (drop k w) k e)
