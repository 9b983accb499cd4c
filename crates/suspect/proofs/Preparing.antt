-- Laws of K, y and Q as the code writes them.
use mathlib.Core.Path.{◌≡◌, refl, sym, ap, ap₂, subst, ◌∙◌}
use mathlib.Core.Bool.{cond}
use mathlib.Core.List.{List}
use mathlib.Core.Logic.{⊎_elim}
use Prim.Native.Nat.{ℕ, ◌+◌, ◌*◌, ◌≤◌, ◌<◌, min}
use native.Mathlib.Nat.{zero-add, mul-one}
use native.Mathlib.Omega.{arith}
use lib.Dec.{eqb}
use lib.ListN.{length}
use lib.Ieee.{Float, neg}
use Rattle.numbers.specs.Numbers.{+0, one, at, nth, tab, entry, Σ, ◌⊗◌}
use Rattle.numbers.proofs.Cases.{lt-or-ge}
use Rattle.numbers.proofs.Lists.{tab-same, row_fits}
use Rattle.numbers.proofs.Sums.{Σ-same}
use Rattle.workspace.specs.Readings.{vec, mat, nums, Block}
use Rattle.workspace.proofs.Readings.{vec-is, vec-same, mat-is, length-mat, stack_is, nth-front}
use Rattle.workspace.proofs.Writes.{block-vec}
use Rattle.workspace.proofs.Copies.{Laid}
use Rattle.householder.specs.Qr.{Factors, factor, apply_qt, solve_rt}
use Rattle.householder.specs.inner.Work.{held, AppliedQt, SolvedRt}
use Rattle.householder.proofs.Held.{held_same}
use Rattle.householder.proofs.Rank.{factor-rank}
use Rattle.householder.proofs.Sound.{factor-sound}
use Rattle.suspect.specs.Suspect.{weight, weights, gap, scaled_gaps, unit, directions}
use Rattle.suspect.specs.inner.Work.{DirectionWritten, DirectionsWritten, Prepared}

-- ---- K

pub few : (k n : ℕ) → k ≤ 16 → n ≤ 16 → k * n ≤ 256
few k n hk hn = omega (arith, row_fits 17 n k (let h : k < 17 = omega arith in h), hn)

pub weights-are : (n m : ℕ) (s c : List Float) (z : List ℕ) (w w' : List Float) → Laid 426 n m (λ k i. weight (nth z i) (at s i) (entry n c k i)) w w' → mat 426 n m w' ≡ weights n m s c z
unfolding weights
weights-are n m s c z w w' r = mat-is 426 n m w' (λ i k. weight (nth z i) (at s i) (entry n c k i)) (λ i k hi hk. r.entries k i hk hi)

-- ---- the gaps

pub gap_is : (n k : ℕ) (v c : List Float) → Σ n (λ i. at c (k * n + i * 1) ⊗ at v (0 + i * 1)) ≡ gap n v c k
gap_is n k v c = Σ-same n _ _ (λ i h. ap₂ (λ (x y : ℕ). at c (k * n + x) ⊗ at v y) (mul-one i) (zero-add (i * 1) ∙ mul-one i))

-- ---- Q

pub direction-is : (n r i : ℕ) (v : Float) (w w₁ w₂ : List Float) → n ≤ 16 → r ≤ n → i < n → v ≡ one → Block (732 + i * 18) n (λ j. cond (eqb j i) v +0) w w₁ → AppliedQt n r (732 + i * 18) w₁ w₂
    → DirectionWritten n r i w w₂
unfolding unit
direction-is n r i v w w₁ w₂ n16 rn hi ev B Q = record {
  row = λ m iw h m16.
      Q.value m iw h
      ∙ ap₂ (apply_qt n)
      (held_same n m r w w₁ iw iw (omega arith) (λ x l. B.before x (omega arith)) (λ x l u. B.before x (omega arith)) (λ t l. refl))
      (vec-is (732 + i * 18) n w₁ (λ j. cond (eqb j i) one +0) (λ j hj. B.inside j hj ∙ ap (λ (x : Float). cond (eqb j i) x +0) ev));
  before = λ x l. Q.before x l ∙ B.before x l;
  after = λ x l. Q.after x l ∙ B.after x l;
}

-- the first t rows
pub record DirectedTo (n r t : ℕ) (w w' : List Float) : Type 0 where
  pub each : (m : ℕ) (iw : List ℕ) → r ≤ m → m ≤ 16 → (i : ℕ) → i < t → vec (732 + i * 18) n w' ≡ apply_qt n (held n m r w iw) (unit n i)
  pub before : (x : ℕ) → x < 732 → at w' x ≡ at w x

pub directed-none : (n r : ℕ) (w : List Float) → DirectedTo n r 0 w w
directed-none n r w = record { each = λ m iw h g i l. absurd (omega arith); before = λ x h. refl }

pub directed-more : (n r t : ℕ) (w w' w'' : List Float) → n ≤ 16 → DirectionWritten n r t w' w'' → DirectedTo n r t w w' → DirectedTo n r (t + 1) w w''
directed-more n r t w w' w'' n16 F a = record {
  each = λ m iw h m16 i l.
      ⊎_elim (λ (q : i < t). vec-same (732 + i * 18) n w' w'' (λ j hj. F.before (732 + i * 18 + j) (omega arith)) ∙ a.each m iw h m16 i q)
      (λ (q : t ≤ i).
      let e : i ≡ t = omega arith in
      rw e
      (F.row m iw h m16
      ∙ ap (λ (f : Factors). apply_qt n f (unit n t))
      (held_same n m r w w' iw iw (omega arith) (λ x k. a.before x (omega arith)) (λ x k u. a.before x (omega arith)) (λ s k. refl))))
      (lt-or-ge i t);
  before = λ x h. F.before x (omega arith) ∙ a.before x h;
}

pub directions-are : (n r : ℕ) (w w' : List Float) → DirectedTo n r n w w' → DirectionsWritten n r w w'
unfolding directions
directions-are n r w w' a = record { rows = λ m iw h m16. stack_is 732 n n w' (λ i. apply_qt n (held n m r w iw) (unit n i)) (a.each m iw h m16); before = a.before }

-- ---- the factors as the code reads them

module _ (n m r : ℕ) (k w : List Float) (iw : List ℕ) (lk : length k ≡ n * m) (F : held n m r w iw ≡ factor n m k) where
  pub rank_is : r ≡ (factor n m k).rank
  rank_is = ap (λ (f : Factors). f.rank) F

  pub rank-few : r ≤ min n m
  rank-few = omega (arith, rank_is, factor-rank n m k)

  pub perm_is : nums 0 m iw ≡ (factor n m k).perm
  perm_is = ap (λ (f : Factors). f.perm) F

  pub perm-below : (t : ℕ) → t < m → nth iw t < m
  perm-below t h =
      let e : nth iw t ≡ nth (nums 0 m iw) t = sym (nth-front m t iw h) in
      let p : nth (nums 0 m iw) t < m = subst (λ (l : List ℕ). nth l t < m) (sym perm_is) ((factor-sound n m k lk).perm.below t h) in
      omega arith

-- ---- all of it

pub prepared-is : (n m r : ℕ) (v s c : List Float) (z iw : List ℕ) (w₁ w₂ w₃ w₄ w₅ : List Float) → n ≤ 16 → m ≤ 16 → mat 426 n m w₁ ≡ weights n m s c z
    → held n m r w₂ iw ≡ factor n m (mat 426 n m w₁) → Block 714 r (λ t. neg (gap n v c (nth iw t))) w₂ w₃ → SolvedRt m r 714 w₃ w₄ → DirectionsWritten n r w₄ w₅
    → Prepared n m r v s c z w₅
unfolding scaled_gaps
prepared-is n m r v s c z iw w₁ w₂ w₃ w₄ w₅ n16 m16 K F G S D =
    let F' : held n m r w₂ iw ≡ factor n m (weights n m s c z) = F ∙ ap (factor n m) K in
    let few : r ≤ min n m = rank-few n m r (mat 426 n m w₁) w₂ iw (length-mat 426 n m w₁) F in
    let h₃ : held n m r w₃ iw ≡ held n m r w₂ iw = held_same n m r w₂ w₃ iw iw (omega arith) (λ x l. G.before x (omega arith)) (λ x l u. G.before x (omega arith)) (λ t l. refl) in
    let h₄ : held n m r w₄ iw ≡ held n m r w₃ iw = held_same n m r w₃ w₄ iw iw (omega arith) (λ x l. S.before x (omega arith)) (λ x l u. S.before x (omega arith)) (λ t l. refl) in
    let er = ap (λ (f : Factors). f.rank) F' in
    let ep : nums 0 m iw ≡ (factor n m (weights n m s c z)).perm = ap (λ (f : Factors). f.perm) F' in
    let side : vec 714 r w₃ ≡ tab r (λ t. neg (gap n v c (nth (factor n m (weights n m s c z)).perm t))) =
    block-vec 714 r (λ t. neg (gap n v c (nth iw t))) w₂ w₃ G
    ∙ tab-same r _ _ (λ t h. ap (λ (x : ℕ). neg (gap n v c x)) (sym (nth-front m t iw (omega arith)) ∙ ap (λ (l : List ℕ). nth l t) ep)) in
    record {
      rank = er;
      gaps =
          vec-same 714 r w₄ w₅ (λ i h. D.before (714 + i) (omega arith))
          ∙ S.value n iw (omega arith)
          ∙ ap₂ (solve_rt m) (h₃ ∙ F') side
          ∙ ap (λ (x : ℕ). solve_rt m (factor n m (weights n m s c z)) (tab x (λ t. neg (gap n v c (nth (factor n m (weights n m s c z)).perm t))))) er;
      direct = D.rows m iw (omega arith) m16 ∙ ap (directions n) (h₄ ∙ h₃ ∙ F');
      few = omega arith;
    }
