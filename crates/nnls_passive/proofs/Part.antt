-- The QR part, lent and back: the factors, and the solution for b.
use mathlib.Core.Path.{◌≡◌, refl, sym, ap, ap₂, ◌∙◌}
use mathlib.Core.List.{List}
use Prim.Native.Nat.{ℕ, ◌+◌, ◌-◌, ◌≤◌}
use native.Mathlib.Omega.{arith}
use lib.ListN.{length, drop}
use lib.Seq.{get_or-drop}
use lib.Ieee.{Float, nan}
use borrow.Rule.Slice.PartMut.{mid_of, put_mid}
use Rattle.numbers.specs.Numbers.{at}
use Rattle.workspace.specs.Readings.{vec, mat, Block}
use Rattle.workspace.proofs.Readings.{vec-is, vec-part, mat-part}
use Rattle.workspace.proofs.Writes.{block-vec}
use Rattle.workspace.proofs.Parts.{lent_is, back-part, back-get}
use Rattle.householder.specs.Qr.{factor, solve}
use Rattle.householder.specs.inner.Work.{held}
use Rattle.householder.proofs.Held.{held_same}
use Rattle.nnls_passive.specs.inner.Work.{PartFactored, SolvedPart}

pub factored-is : (m c k : ℕ) (w v : List Float) (l u : List ℕ) → 1422 ≤ length w → 198 ≤ length l
    → held m c k v u ≡ factor m c (mat 426 m c (mid_of 1422 (length w - 1422) w))
    → PartFactored m c k w (put_mid 1422 (length w - 1422) w v) l (put_mid 198 (length l - 198) l u)
factored-is m c k w v l u hw hl e = record {
  factors =
      rw (back-part 1422 w v hw, back-part 198 l u hl)
      (e ∙ ap (factor m c) (ap (mat 426 m c) (lent_is 1422 w v hw) ∙ mat-part 1422 426 m c w));
  front = λ x a. back-get 1422 w v hw x nan a;
  chosen = λ x a. back-get 198 l u hl x 0 a;
}

-- w₁ is w with b copied in, v what the kernel left
pub solved-part : (m c k : ℕ) (w w₁ v : List Float) (l : List ℕ) → m ≤ 18 → 1422 ≤ length w₁ → 198 ≤ length l
    → Block 1764 m (λ t. at w (1188 + t)) w w₁
    → vec 360 c v ≡ solve m c (held m c k (mid_of 1422 (length w₁ - 1422) w₁) (mid_of 198 (length l - 198) l)) (vec 342 m (mid_of 1422 (length w₁ - 1422) w₁))
    → SolvedPart m c k w (put_mid 1422 (length w₁ - 1422) w₁ v) l
solved-part m c k w w₁ v l m18 hw hl b e = record {
  values =
      sym (vec-part 1422 360 c (put_mid 1422 (length w₁ - 1422) w₁ v))
      ∙ ap (vec 360 c) (back-part 1422 w₁ v hw)
      ∙ e
      ∙ rw (lent_is 1422 w₁ v hw, lent_is 198 l l hl)
      (ap₂ (solve m c)
      (held_same m c k (drop 1422 w) (drop 1422 w₁) (drop 198 l) (drop 198 l) m18
      (λ x a. get_or-drop 1422 w₁ x nan ∙ b.before (1422 + x) (omega arith) ∙ sym (get_or-drop 1422 w x nan))
      (λ x a d. get_or-drop 1422 w₁ x nan ∙ b.after (1422 + x) (omega arith) ∙ sym (get_or-drop 1422 w x nan)) (λ t a. refl))
      (vec-part 1422 342 m w₁ ∙ block-vec 1764 m (λ t. at w (1188 + t)) w w₁ b ∙ sym (vec-is 1188 m w _ (λ i hi. refl))));
  front = λ x a. back-get 1422 w₁ v hw x nan a ∙ b.before x (omega arith);
}
