-- What is left of an answer that is read: the multipliers at 36, and the step at 18.
use mathlib.Core.Path.{◌≡◌, refl, sym, ap, ◌∙◌}
use mathlib.Core.List.{List, [], ◌∷◌}
use Prim.Native.Nat.{ℕ, suc, ◌+◌, ◌≤◌}
use native.Mathlib.Omega.{arith}
use lib.ListN.{length, take}
use lib.Seq.{length-take-le, get_or-take}
use lib.Ieee.{Float, nan}
use Rattle.numbers.specs.Numbers.{at}
use Rattle.numbers.proofs.Lists.{by_entries, tab-of}
use Rattle.workspace.specs.Readings.{vec, Block}
use Rattle.workspace.proofs.Readings.{length-vec, at-vec, vec-same, vec-is}
use Rattle.workspace.proofs.Writes.{block-vec}
use Rattle.step_rows.specs.Problem.{by_kind}
use Rattle.step.specs.Step.{in_order, paired}
use Rattle.step.specs.inner.Work.{Left}

pub length-in_order : (ks : List ℕ) (e i : ℕ) (l : List Float) → length (in_order ks e i l) ≡ length ks
unfolding in_order
length-in_order [] e i l = refl
length-in_order (k ∷ ks) e i l = ap suc (length-in_order ks (by_kind k (e + 1) e e) (by_kind k i (i + 1) (i + 2)) l)

pub length-paired : (ks : List ℕ) (r : ℕ) (l : List Float) → length (paired ks r l) ≡ length ks
unfolding paired
length-paired [] r l = refl
length-paired (k ∷ ks) r l = ap suc (length-paired ks (by_kind k (r + 2) (r + 1) (r + 2)) l)

-- the multipliers l are written, and then n entries from o on are copied down
pub left_is : (o n m : ℕ) (l w w₁ w₂ : List Float) → n ≤ 16 → m ≤ 16 → 52 ≤ o → length l ≡ m → Block 36 m (λ t. at l t) w w₁ → Block 18 n (λ t. at w₁ (o + t)) w₁ w₂
    → Left n m (vec o n w) l w w₂
left_is o n m l w w₁ w₂ n16 m16 h e M D = record {
  the_d = vec-is 18 n w₂ (λ t. at w₁ (o + t)) D.inside ∙ sym (vec-is o n w (λ t. at w₁ (o + t)) (λ t k. sym (M.after (o + t) (omega arith))));
  the_multipliers = vec-same 36 m w₁ w₂ (λ i k. D.after (36 + i) (omega arith)) ∙ block-vec 36 m _ w w₁ M ∙ sym (by_entries m l e);
  front = vec-same 0 n w w₂ (λ i k. D.before (0 + i) (omega arith) ∙ M.before (0 + i) (omega arith));
}

-- one entry more is not read
pub take-vec : (o n : ℕ) (w : List Float) → take n (vec o (n + 1) w) ≡ vec o n w
take-vec o n w =
    let e = length-vec o (n + 1) w in
    tab-of n (take n (vec o (n + 1) w)) (λ i. at w (o + i)) nan (length-take-le n (vec o (n + 1) w) (omega (arith, e)))
    (λ i h. get_or-take n (vec o (n + 1) w) i nan h ∙ at-vec o (n + 1) w i (omega arith))
    ∙ sym (vec-is o n w (λ i. at w (o + i)) (λ i h. refl))

pub last-vec : (o n : ℕ) (w : List Float) → at w (o + n) ≡ at (vec o (n + 1) w) n
last-vec o n w = sym (at-vec o (n + 1) w n (omega arith))
