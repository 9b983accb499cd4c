-- Laws of LSI: x restored from LDP's, and the whole.
use mathlib.Core.Path.{◌≡◌, refl, sym, ap, ap₂, ◌∙◌}
use mathlib.Core.Bool.{Bool, true, false}
use mathlib.Core.List.{List}
use Prim.Native.Nat.{ℕ, ◌+◌, ◌≤◌}
use native.Mathlib.Omega.{arith}
use lib.Dec.{ltb}
use lib.ListN.{replicate}
use lib.Ieee.{Float}
use Rattle.numbers.specs.Numbers.{+0, at, nth, scatter, ◌⊕◌}
use Rattle.numbers.proofs.Lists.{tab-replicate, scatter-same}
use Rattle.workspace.specs.Tables.{Answer, done, rank_deficient}
use Rattle.workspace.specs.Readings.{vec, nums, Block}
use Rattle.workspace.proofs.Readings.{at-vec, vec-is, vec-same, nth-nums}
use Rattle.workspace.proofs.Writes.{block-vec}
use Rattle.householder.specs.Qr.{Factors, factor, apply_qt, solve_r, standing}
use Rattle.householder.specs.inner.Work.{SolvedR, Placed}
use Rattle.nnls.specs.Counted.{Counted, and_then, factored, unless, at_once}
use Rattle.lsei.specs.Lsei.{Solution, ldp, reduced_rows, reduced_sides, restored, lsi_from, lsi}
use Rattle.lsei.specs.inner.Work.{ended_solution, Restored}
use Rattle.lsei.specs.declared.Ended.{Ended}
use Rattle.lsei.specs.declared.Unsolved.{Unsolved}
use Rattle.lsei.specs.declared.Unsolved.TheVariants.{Deficient}
use Rattle.std.specs.Prelude.{Ok, Err, ⊤}
use Rattle.lsei.proofs.Answers.{further, refused-on, done_on}
use Rattle.householder.proofs.Held.{held_same}

-- ---- a solution placed where the permutation says

pub placed-is : (n k c : ℕ) (iw : List ℕ) (v w w' w'' : List Float) → k ≤ n → k ≤ c → c ≤ 18 → vec 342 c w ≡ v → Block 360 n (λ _. +0) w w' → Placed n k iw w' w''
    → vec 360 n w'' ≡ scatter k (nums 0 n iw) v (replicate n +0)
placed-is n k c iw v w w' w'' kn kc c18 e B P =
    P.value c kc c18
    ∙ ap₂ (scatter k iw) (vec-same 342 c w w' (λ i h. B.before (342 + i) (omega arith)) ∙ e) (block-vec 360 n (λ _. +0) w w' B ∙ tab-replicate n +0)
    ∙ scatter-same k iw (nums 0 n iw) v v (replicate n +0)
    (λ t h. sym (nth-nums 0 n iw t (omega arith) ∙ ap (λ (x : ℕ). nth iw x) (let z : 0 + t ≡ t = omega arith in z))) (λ t h. refl)

pub restored-is : (n : ℕ) (iw : List ℕ) (w w₁ w₂ w₃ w₄ : List Float) → n ≤ 17 → Block 342 n (λ t. at w (2154 + t) ⊕ at w (732 + t)) w w₁ → SolvedR n w₁ w₂
    → Block 360 n (λ _. +0) w₂ w₃ → Placed n n iw w₃ w₄ → Restored n iw w w₄
unfolding restored
restored-is n iw w w₁ w₂ w₃ w₄ n17 A S B P = record {
  x = λ m hm m18.
      placed-is n n n iw _ w₂ w₃ w₄ (omega arith) (omega arith) (omega arith)
      (S.value m n n iw hm (omega arith) (omega arith) (omega arith)
      ∙ ap₂ (solve_r n)
      (held_same m n n w w₁ iw iw m18 (λ x h. A.before x h) (λ x h g. A.after x (omega arith)) (λ t h. refl))
      (vec-is 342 n w₁ (λ k. at (vec 2154 n w) k ⊕ at (vec 732 m w) k)
      (λ k h. A.inside k h ∙ ap₂ ◌⊕◌ (sym (at-vec 2154 n w k h)) (sym (at-vec 732 m w k (omega arith))))))
      B P;
  after = λ x h. P.after x (omega arith) ∙ B.after x (omega arith) ∙ S.after x (omega arith) ∙ A.after x (omega arith);
}

-- ---- the whole, from the factors q of E

module _ (n me mg : ℕ) (e f g h : List Float) (q : Factors) (fq : q ≡ factor me n e) where
  tested : (b : Bool) → ltb q.rank n ≡ b → factored (unless b (rank_deficient (standing q)) (lsi_from n me mg q f g h)) ≡ lsi n me mg e f g h
  unfolding lsi
  tested b t =
      ap (λ (z : Bool). factored (unless z (rank_deficient (standing q)) (lsi_from n me mg q f g h))) (sym t)
      ∙ ap (λ (p : Factors). factored (unless (ltb p.rank n) (rank_deficient (standing p)) (lsi_from n me mg p f g h))) fq

  pub lsi-deficient : ltb q.rank n ≡ true → (place : ℕ) → place ≡ standing q → (s : Solution) → ended_solution (record { ending = Err (Deficient place); rounds = 0; factorings = 1 }) s ≡ lsi n me mg e f g h
  lsi-deficient t place h s = ap (λ (j : ℕ). factored (at_once (rank_deficient j))) h ∙ tested true t

  module _ (full : ltb q.rank n ≡ false) (qf reduced bounds : List Float) (eqf : qf ≡ apply_qt me q f) (er : reduced ≡ reduced_rows n mg q g)
      (eb : bounds ≡ reduced_sides n mg reduced qf h) (E : Ended) (s : Solution) (L : ended_solution E s ≡ ldp mg n reduced bounds) where
    abbrev onward : Solution → Answer Solution
    onward s = done (record { x = restored n q (apply_qt me q f) s.x; multipliers = s.multipliers })

    whole : factored (and_then (ended_solution E s) onward) ≡ lsi n me mg e f g h
    unfolding lsi_from
    whole =
        ap (λ (c : Counted Solution). factored (and_then c onward))
        (L ∙ ap₂ (ldp mg n) er (eb ∙ ap₂ (λ (r : List Float) (a : List Float). reduced_sides n mg r a h) er eqf))
        ∙ tested false full

    pub lsi-refused : (t : Solution) → {u : Unsolved} → E.ending ≡ Err u → ended_solution (further E) t ≡ lsi n me mg e f g h
    lsi-refused t o = refused-on E s onward t o ∙ whole

    pub lsi-done : (x u : List Float) → {v : ⊤} → E.ending ≡ Ok v → x ≡ restored n q qf s.x → u ≡ s.multipliers
        → ended_solution (further E) (record { x = x; multipliers = u }) ≡ lsi n me mg e f g h
    lsi-done x u d ex eu =
        done_on E s onward (record { x = x; multipliers = u }) d
        (ap₂ {C = Answer Solution} (λ (a : List Float) (b : List Float). done (record { x = a; multipliers = b })) (ex ∙ ap (λ (a : List Float). restored n q a s.x) eqf) eu)
        ∙ whole
