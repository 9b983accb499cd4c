-- Laws of y, of x from its two parts, and of the equalities' multipliers.
use mathlib.Core.Path.{◌≡◌, refl, sym, ap, ap₂, ◌∙◌}
use mathlib.Core.List.{List, ◌++◌}
use mathlib.Core.Logic.{⊎_elim}
use Prim.Native.Nat.{ℕ, ◌+◌, ◌-◌, ◌*◌, ◌<◌, ◌≤◌}
use native.Mathlib.Omega.{arith}
use lib.ListN.{length, length-append, get_or-append}
use lib.Seq.{get_or-append-add}
use lib.Ieee.{Float, nan}
use Rattle.numbers.specs.Numbers.{+0, at, nth, tab, entry, Σ, ◌⊖◌, ◌⊗◌}
use Rattle.numbers.proofs.Cases.{lt-or-ge}
use Rattle.numbers.proofs.Lists.{tab-of, get_d-tab}
use Rattle.numbers.proofs.Sums.{Σ-same}
use Rattle.workspace.specs.Readings.{vec, stack, Block}
use Rattle.workspace.proofs.Readings.{at-vec, vec-is, length-vec, entry_stack}
use Rattle.householder.specs.Qr.{apply_qt, apply_q, solve_r, solve_rt}
use Rattle.householder.specs.inner.Work.{held, AppliedQt, AppliedQ, SolvedR, SolvedRt, Placed}
use Rattle.householder.proofs.Held.{held_same}
use Rattle.lsei.specs.Lsei.{fixed, gradient, equality_multipliers}
use Rattle.lsei.proofs.Rows.{gathered}
use Rattle.lsei.proofs.Squares.{placed-is}
use Rattle.lsei_nullspace.specs.inner.Work.{Fixed, Rejoined, Priced, slope_in}

-- ---- y

pub fixed-is : (mc : ℕ) (iw : List ℕ) (w w₁ w₂ w₃ : List Float) → mc ≤ 16 → ((t : ℕ) → t < mc → nth iw t < mc) → Block 360 mc (λ t. at w (714 + nth iw t)) w w₁
    → Block 714 mc (λ t. at w₁ (360 + t)) w₁ w₂ → SolvedRt mc mc 714 w₂ w₃ → Fixed mc iw w w₃
unfolding fixed
fixed-is mc iw w w₁ w₂ w₃ m16 perm P C S = record {
  y = λ m hm m18.
      S.value m iw hm
      ∙ ap₂ (solve_rt mc)
      (held_same m mc mc w w₂ iw iw m18 (λ x h. C.before x (omega arith) ∙ P.before x (omega arith)) (λ x h g. C.before x (omega arith) ∙ P.after x (omega arith)) (λ t h. refl))
      (gathered mc 714 iw w w₂ 714 perm (λ t h. C.inside t h ∙ P.inside t h));
  low = λ x h. S.before x (omega arith) ∙ C.before x (omega arith) ∙ P.before x h;
  middle = λ x h g. S.before x g ∙ C.before x g ∙ P.after x (omega arith);
  after = λ x h. S.after x (omega arith) ∙ C.after x (omega arith) ∙ P.after x (omega arith);
}

-- ---- x

-- a vector written behind another makes one of the two
joined : (o p a n : ℕ) (w w' : List Float) → a ≤ n → Block (o + a) (n - a) (λ t. at w (p + t)) w w' → vec o n w' ≡ vec o a w ++ vec p (n - a) w
unfolding vec
joined o p a n w w' an B =
    let la : length (vec o a w) ≡ a = length-vec o a w in
    let lb : length (vec p (n - a) w) ≡ n - a = length-vec p (n - a) w in
    sym (tab-of n (vec o a w ++ vec p (n - a) w) (λ i. at w' (o + i)) nan (length-append (vec o a w) (vec p (n - a) w) ∙ omega arith)
    (λ i h.
    ⊎_elim
    (λ (q : i < a). get_or-append (vec o a w) (vec p (n - a) w) nan i (omega arith) ∙ at-vec o a w i q ∙ sym (B.before (o + i) (omega arith)))
    (λ (q : a ≤ i).
    ap (λ (x : ℕ). at (vec o a w ++ vec p (n - a) w) x) (let e : i ≡ length (vec o a w) + (i - a) = omega arith in e)
    ∙ get_or-append-add (vec o a w) (vec p (n - a) w) (i - a) nan
    ∙ at-vec p (n - a) w (i - a) (omega arith)
    ∙ sym (ap (λ (x : ℕ). at w' x) (let e : o + i ≡ o + a + (i - a) = omega arith in e) ∙ B.inside (i - a) (omega arith)))
    (lt-or-ge i a)))

pub rejoined-is : (n mc : ℕ) (w w₁ w₂ : List Float) → n ≤ 17 → mc ≤ 16 → mc ≤ n → Block (714 + mc) (n - mc) (λ t. at w (2604 + t)) w w₁ → AppliedQ n mc 714 w₁ w₂
    → Rejoined n mc w w₂
rejoined-is n mc w w₁ w₂ n17 m16 mn C Q = record {
  x = λ iw.
      Q.value mc iw (omega arith)
      ∙ ap₂ (apply_q n)
      (held_same n mc mc w w₁ iw iw (omega arith) (λ x h. C.before x (omega arith)) (λ x h g. C.before x (omega arith)) (λ t h. refl))
      (joined 714 2604 mc n w w₁ mn C);
  low = λ x h. Q.before x h ∙ C.before x (omega arith);
  after = λ x h. Q.after x (omega arith) ∙ C.after x (omega arith);
}

-- ---- the equalities' multipliers

module _ (n mc me mg : ℕ) (iw : List ℕ) (w w₁ w₂ : List Float) (n17 : n ≤ 17) (m16 : mc ≤ 16) (mn : mc ≤ n) (e17 : me ≤ 17)
    (R : Block 360 me (λ i. Σ n (λ j. at w (732 + i * 18 + j) ⊗ at w (714 + j)) ⊖ at w (1038 + i)) w w₁) (G : Block 342 n (λ j. slope_in me mg j w₁) w₁ w₂) where
  residual-is : (i : ℕ) → i < me
      → at w₁ (360 + i * 1) ≡ at (tab me (λ i. Σ n (λ j. entry n (stack 732 me n w) i j ⊗ at (vec 714 n w) j) ⊖ at (vec 1038 me w) i)) i
  residual-is i hi =
      ap (λ (x : ℕ). at w₁ x) (let e : 360 + i * 1 ≡ 360 + i = omega arith in e)
      ∙ R.inside i hi
      ∙ ap₂ ◌⊖◌ (Σ-same n _ _ (λ j hj. ap₂ ◌⊗◌ (sym (entry_stack 732 me n w i j hi hj)) (sym (at-vec 714 n w j hj)))) (sym (at-vec 1038 me w i hi))
      ∙ sym (get_d-tab me (λ i. Σ n (λ j. entry n (stack 732 me n w) i j ⊗ at (vec 714 n w) j) ⊖ at (vec 1038 me w) i) nan i hi)

  gradient-is : vec 342 n w₂ ≡ gradient n me mg (stack 732 me n w) (vec 1038 me w) (stack 1056 mg n w) (vec 714 n w) (vec 4332 mg w)
  unfolding gradient
  gradient-is =
      vec-is 342 n w₂ _
      (λ j hj.
      G.inside j hj
      ∙ ap₂ ◌⊖◌
      (Σ-same me _ _
      (λ i hi.
      ap₂ ◌⊗◌
      (ap (λ (x : ℕ). at w₁ x) (let e : 732 + j + i * 18 ≡ 732 + i * 18 + j = omega arith in e) ∙ R.after (732 + i * 18 + j) (omega arith) ∙ sym (entry_stack 732 me n w i j hi hj))
      (residual-is i hi)))
      (Σ-same mg _ _
      (λ k hk.
      ap₂ ◌⊗◌
      (ap (λ (x : ℕ). at w₁ x) (let e : 1056 + j + k * 18 ≡ 1056 + k * 18 + j = omega arith in e)
      ∙ R.after (1056 + k * 18 + j) (omega arith)
      ∙ sym (entry_stack 1056 mg n w k j hk hj))
      (ap (λ (x : ℕ). at w₁ x) (let e : 4332 + k * 1 ≡ 4332 + k = omega arith in e) ∙ R.after (4332 + k) (omega arith) ∙ sym (at-vec 4332 mg w k hk)))))

  pub priced-is : (w₃ w₄ w₅ w₆ : List Float) → AppliedQt n mc 342 w₂ w₃ → SolvedR mc w₃ w₄ → Block 360 mc (λ _. +0) w₄ w₅ → Placed mc mc iw w₅ w₆
      → Priced n mc me mg iw w w₆
  unfolding equality_multipliers
  priced-is w₃ w₄ w₅ w₆ Q S B P =
      let low₂ : (x : ℕ) → x < 342 → at w₂ x ≡ at w x = λ x h. G.before x h ∙ R.before x (omega arith) in
      let high₂ : (x : ℕ) → 426 ≤ x → at w₂ x ≡ at w x = λ x h. G.after x (omega arith) ∙ R.after x (omega arith) in
      record {
        multipliers =
            placed-is mc mc n iw _ w₄ w₅ w₆ (omega arith) mn (omega arith)
            (S.value n mc n iw mn (omega arith) mn (omega arith)
            ∙ ap₂ (solve_r mc)
            (held_same n mc mc w w₃ iw iw (omega arith) (λ x h. Q.before x h ∙ low₂ x h) (λ x h g. Q.after x (omega arith) ∙ high₂ x h) (λ t h. refl))
            (Q.value mc iw (omega arith)
            ∙ ap₂ (apply_qt n) (held_same n mc mc w w₂ iw iw (omega arith) low₂ (λ x h g. high₂ x h) (λ t h. refl)) gradient-is))
            B P;
        after = λ x h. P.after x (omega arith) ∙ B.after x (omega arith) ∙ S.after x (omega arith) ∙ Q.after x (omega arith) ∙ high₂ x h;
      }
