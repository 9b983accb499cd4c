-- Laws of LSI's inequalities: one row reduced, all of them, and how they read as the definition's.
use mathlib.Core.Path.{◌≡◌, refl, sym, ap, ap₂, ◌∙◌, subst}
use mathlib.Core.List.{List}
use mathlib.Core.Logic.{⊎_elim}
use Prim.Native.Nat.{ℕ, ◌+◌, ◌*◌, ◌<◌, ◌≤◌}
use native.Mathlib.Omega.{arith}
use lib.ListN.{length, set, length-set}
use lib.Seq.{get_or-set_same, get_or-set_other}
use lib.Ieee.{Float, nan}
use Rattle.numbers.specs.Numbers.{at, nth, gather, row, dot, Σ, ◌⊖◌, ◌⊗◌}
use Rattle.numbers.proofs.Cases.{lt-or-ge}
use Rattle.numbers.proofs.Lists.{tab-same, get_d-tab}
use Rattle.numbers.proofs.Sums.{Σ-same}
use Rattle.workspace.specs.Readings.{vec, stack, nums, Block}
use Rattle.workspace.proofs.Readings.{at-vec, vec-is, vec-same, nth-nums, row-stack, stack_is}
use Rattle.householder.specs.Qr.{Factors, solve_rt}
use Rattle.householder.specs.inner.Work.{held, AppliedQt, SolvedRt, SolvedFour}
use Rattle.nnls.specs.inner.Dual.{row_sum, four_rows}
use Rattle.householder.specs.declared.Four.{Four}
use Rattle.lsei.specs.Lsei.{reduced_rows, reduced_sides}
use Rattle.lsei.specs.inner.Work.{sides, PermutedRow, Permuted, SolvedRows, Shifted, Reduced}
use Rattle.householder.proofs.Held.{held_same}

-- ---- entries that a permutation names, gathered

pub gathered : (n o : ℕ) (iw : List ℕ) (w w' : List Float) (p : ℕ) → ((t : ℕ) → t < n → nth iw t < n) → ((t : ℕ) → t < n → at w' (p + t) ≡ at w (o + nth iw t))
    → vec p n w' ≡ gather n (nums 0 n iw) (vec o n w)
unfolding gather
gathered n o iw w w' p perm h =
    vec-is p n w' (λ k. at (vec o n w) (nth (nums 0 n iw) k))
    (λ k l.
    h k l
    ∙ sym (at-vec o n w (nth iw k) (perm k l))
    ∙ ap (λ (j : ℕ). at (vec o n w) j) (sym (nth-nums 0 n iw k l ∙ ap (λ (x : ℕ). nth iw x) (let z : 0 + k ≡ k = omega arith in z))))

-- ---- rows permuted

pub permuted-row : (n i : ℕ) (iw : List ℕ) (w w₁ w₂ : List Float) → n ≤ 17 → Block 360 n (λ t. at w (750 + i * 18 + nth iw t)) w w₁ → Block (750 + i * 18) n (λ t. at w₁ (360 + t)) w₁ w₂
    → PermutedRow n i iw w w₂
permuted-row n i iw w w₁ w₂ n17 P C = record {
  row = λ t h. C.inside t h ∙ P.inside t h;
  low = λ x h. C.before x (omega arith) ∙ P.before x h;
  middle = λ x h g. C.before x g ∙ P.after x (omega arith);
  after = λ x h. C.after x h ∙ P.after x (omega arith);
}

pub permuted-none : (n : ℕ) (iw : List ℕ) (w : List Float) → Permuted n 0 iw w w
permuted-none n iw w = record {
  rows = λ i t h. absurd (omega arith);
  sides = λ i. refl;
  low = λ x h. refl;
  middle = λ x h g. refl;
  after = λ x h. refl;
}

pub permuted-more : (n t : ℕ) (iw : List ℕ) (w₀ w w' : List Float) → n ≤ 17 → PermutedRow n t iw w w' → Permuted n t iw w₀ w → Permuted n (t + 1) iw w₀ w'
permuted-more n t iw w₀ w w' n17 R r = record {
  rows = λ i s h l.
      ⊎_elim (λ (q : i < t). R.middle (750 + i * 18 + s) (omega arith) (omega arith) ∙ r.rows i s q l)
      (λ (q : t ≤ i). let e : i ≡ t = omega arith in rw e (R.row s l ∙ r.after (750 + t * 18 + nth iw s) (omega arith)))
      (lt-or-ge i t);
  sides = λ i.
      ⊎_elim (λ (q : i < t). R.middle (750 + i * 18 + n) (omega arith) (omega arith) ∙ r.sides i)
      (λ (q : t ≤ i). R.after (750 + i * 18 + n) (omega arith) ∙ r.sides i) (lt-or-ge i t);
  low = λ x h. R.low x h ∙ r.low x h;
  middle = λ x h g. R.middle x h (omega arith) ∙ r.middle x h g;
  after = λ x h. R.after x (omega arith) ∙ r.after x (omega arith);
}

-- ---- rows under R'^-1

pub solved-none : (n : ℕ) (w : List Float) → SolvedRows n 0 w w
solved-none n w = record { rows = λ i m iw h. absurd (omega arith); sides = λ i. refl; before = λ x h. refl; after = λ x h. refl }

pub solved-at : (n c c' : ℕ) (w w' : List Float) → c ≡ c' → SolvedRows n c w w' → SolvedRows n c' w w'
solved-at n c c' w w' e r = rw e at r

-- t rows are solved in w, and w' has more
module _ (n t : ℕ) (w₀ w w' : List Float) (n17 : n ≤ 17) (r : SolvedRows n t w₀ w) where
  -- the row at q, which is past those of w, solved with the factors that w has
  next : (q m : ℕ) (iw : List ℕ) → n ≤ m → m ≤ 18 → 750 + t * 18 ≤ q → vec q n w' ≡ solve_rt n (held m n n w iw) (vec q n w) → vec q n w' ≡ solve_rt n (held m n n w₀ iw) (vec q n w₀)
  next q m iw nm m18 l e =
      e
      ∙ ap₂ (solve_rt n) (held_same m n n w₀ w iw iw m18 (λ x h. r.before x (omega arith)) (λ x h g. r.before x (omega arith)) (λ s h. refl))
      (vec-same q n w₀ w (λ k h. r.after (q + k) (omega arith)))

  pub solved-one : SolvedRt n n (750 + t * 18) w w' → SolvedRows n (t + 1) w₀ w'
  solved-one S = record {
    rows = λ i m iw h nm m18.
        ⊎_elim (λ (q : i < t). vec-same (750 + i * 18) n w w' (λ k l. S.before (750 + i * 18 + k) (omega arith)) ∙ r.rows i m iw q nm m18)
        (λ (q : t ≤ i). let e : i ≡ t = omega arith in rw e (next (750 + t * 18) m iw nm m18 (omega arith) (S.value m iw nm)))
        (lt-or-ge i t);
    sides = λ i.
        ⊎_elim (λ (q : i < t). S.before (750 + i * 18 + n) (omega arith) ∙ r.sides i) (λ (q : t ≤ i). S.after (750 + i * 18 + n) (omega arith) ∙ r.sides i)
        (lt-or-ge i t);
    before = λ x h. S.before x (omega arith) ∙ r.before x h;
    after = λ x h. S.after x (omega arith) ∙ r.after x (omega arith);
  }

  module _ (S : SolvedFour n n (750 + t * 18) w w') where
    kept : (x : ℕ) → x < 750 + t * 18 → at w' x ≡ at w x
    kept x h = S.others x (λ j s hj hs e. omega arith)

    among : (i m : ℕ) (iw : List ℕ) → t ≤ i → i < t + 4 → n ≤ m → m ≤ 18 → vec (750 + i * 18) n w' ≡ solve_rt n (held m n n w₀ iw) (vec (750 + i * 18) n w₀)
    among i m iw l h nm m18 =
        ⊎_elim (λ (q : i < t + 1). let e : 750 + i * 18 ≡ 750 + t * 18 = omega arith in rw e (next (750 + t * 18) m iw nm m18 (omega arith) (S.first m iw nm)))
        (λ (q : t + 1 ≤ i).
        ⊎_elim (λ (p : i < t + 2). let e : 750 + i * 18 ≡ 750 + t * 18 + 18 = omega arith in rw e (next (750 + t * 18 + 18) m iw nm m18 (omega arith) (S.second m iw nm)))
        (λ (p : t + 2 ≤ i).
        ⊎_elim (λ (o : i < t + 3). let e : 750 + i * 18 ≡ 750 + t * 18 + 36 = omega arith in rw e (next (750 + t * 18 + 36) m iw nm m18 (omega arith) (S.third m iw nm)))
        (λ (o : t + 3 ≤ i). let e : 750 + i * 18 ≡ 750 + t * 18 + 54 = omega arith in rw e (next (750 + t * 18 + 54) m iw nm m18 (omega arith) (S.fourth m iw nm)))
        (lt-or-ge i (t + 3)))
        (lt-or-ge i (t + 2)))
        (lt-or-ge i (t + 1))

    pub solved-four : SolvedRows n (t + 4) w₀ w'
    solved-four = record {
      rows = λ i m iw h nm m18.
          ⊎_elim (λ (q : i < t). vec-same (750 + i * 18) n w w' (λ k l. kept (750 + i * 18 + k) (omega arith)) ∙ r.rows i m iw q nm m18)
          (λ (q : t ≤ i). among i m iw q h nm m18) (lt-or-ge i t);
      sides = λ i. S.others (750 + i * 18 + n) (λ j s hj hs e. omega arith) ∙ r.sides i;
      before = λ x h. kept x (omega arith) ∙ r.before x h;
      after = λ x h. S.others x (λ j s hj hs e. omega arith) ∙ r.after x (omega arith);
    }

-- ---- sides

pub shifted_none : (n : ℕ) (w : List Float) → Shifted n 0 w w
shifted_none n w = record { sides = λ i h. absurd (omega arith); others = λ x h. refl }

pub shifted_at : (n t u : ℕ) (w₀ w : List Float) → t ≡ u → Shifted n t w₀ w → Shifted n u w₀ w
shifted_at n t u w₀ w e r = subst (λ (i : ℕ). Shifted n i w₀ w) e r

-- side t, at the place x, less its row's product before all shifts
shifted_next : (n t x : ℕ) (w₀ w : List Float) (d : Float) → n ≤ 17 → x ≡ 750 + t * 18 + n → x < length w → d ≡ Σ n (λ k. at w₀ (750 + t * 18 + k) ⊗ at w₀ (732 + k)) → Shifted n t w₀ w
    → Shifted n (t + 1) w₀ (set w x (at w x ⊖ d))
shifted_next n t x w₀ w d n17 z l D r = record {
  sides = λ i h.
      ⊎_elim (λ (q : i < t). get_or-set_other w x (750 + i * 18 + n) _ nan (λ e. omega arith) ∙ r.sides i q)
      (λ (q : t ≤ i).
      let e : 750 + i * 18 + n ≡ x = omega arith in
      let f : i ≡ t = omega arith in
      rw (e, f) (get_or-set_same w x _ nan l ∙ ap₂ ◌⊖◌ (r.others x (λ j g y. omega arith)) D))
      (lt-or-ge i t);
  others = λ y g. get_or-set_other w x y _ nan (λ e. g t (omega arith) (omega arith)) ∙ r.others y (λ j h. g j (omega arith));
}

-- a row's product is what it was before the sides ahead of it were shifted
product-same : (n t i x : ℕ) (w₀ w : List Float) (d : Float) → n ≤ 17 → x ≡ 750 + i * 18 → d ≡ Σ n (λ k. at w (x + k) ⊗ at w (732 + k)) → Shifted n t w₀ w → d ≡ Σ n (λ k. at w₀ (750 + i * 18 + k) ⊗ at w₀ (732 + k))
product-same n t i x w₀ w d n17 z D r =
    D
    ∙ Σ-same n _ _ (λ k g. ap₂ ◌⊗◌ (ap (λ (y : ℕ). at w (y + k)) z ∙ r.others (750 + i * 18 + k) (λ j y e. omega arith)) (r.others (732 + k) (λ j y e. omega arith)))

pub shifted-more : (n t : ℕ) (w₀ w : List Float) (d : Float) → n ≤ 17 → 750 + t * 18 + n < length w → d ≡ Σ n (λ k. at w (750 + t * 18 + k) ⊗ at w (732 + k)) → Shifted n t w₀ w
    → Shifted n (t + 1) w₀ (set w (750 + t * 18 + n) (at w (750 + t * 18 + n) ⊖ d))
shifted-more n t w₀ w d n17 l D r = shifted_next n t (750 + t * 18 + n) w₀ w d n17 refl l (product-same n t t (750 + t * 18) w₀ w d n17 refl D r) r

-- a side less d
abbrev less : (x : ℕ) (d : Float) (w : List Float) → List Float
less x d w = set w x (at w x ⊖ d)

-- four sides more
pub shifted-four : (n t : ℕ) (w₀ w : List Float) (s : Four) → n ≤ 17 → 750 + t * 18 + 54 + n < length w → s ≡ four_rows (row_sum n 732 w) (750 + t * 18) → Shifted n t w₀ w
    → Shifted n (t + 4) w₀ (less (750 + t * 18 + 54 + n) s.d (less (750 + t * 18 + 36 + n) s.c (less (750 + t * 18 + 18 + n) s.b (less (750 + t * 18 + n) s.a w))))
unfolding row_sum
shifted-four n t w₀ w s n17 l e r =
    let o = 750 + t * 18 in
    let w₁ = less (o + n) s.a w in
    let w₂ = less (o + 18 + n) s.b w₁ in
    let w₃ = less (o + 36 + n) s.c w₂ in
    let l₁ : length w₁ ≡ length w = length-set w (o + n) _ in
    let l₂ : length w₂ ≡ length w = length-set w₁ (o + 18 + n) _ ∙ l₁ in
    let l₃ : length w₃ ≡ length w = length-set w₂ (o + 36 + n) _ ∙ l₂ in
    let r₁ = shifted_next n t (o + n) w₀ w s.a n17 refl (omega arith) (product-same n t t o w₀ w s.a n17 refl (ap (λ (u : Four). u.a) e) r) r in
    let r₂ =
    shifted_next n (t + 1) (o + 18 + n) w₀ w₁ s.b n17 (omega arith) (omega (arith, l, l₁)) (product-same n t (t + 1) (o + 18) w₀ w s.b n17 (omega arith) (ap (λ (u : Four). u.b) e) r) r₁ in
    let r₃ =
    shifted_next n (t + 1 + 1) (o + 36 + n) w₀ w₂ s.c n17 (omega arith) (omega (arith, l, l₂)) (product-same n t (t + 1 + 1) (o + 36) w₀ w s.c n17 (omega arith) (ap (λ (u : Four). u.c) e) r) r₂ in
    shifted_at n (t + 1 + 1 + 1 + 1) (t + 4) w₀ _ (omega arith)
    (shifted_next n (t + 1 + 1 + 1) (o + 54 + n) w₀ w₃ s.d n17 (omega arith) (omega (arith, l, l₃)) (product-same n t (t + 1 + 1 + 1) (o + 54) w₀ w s.d n17 (omega arith) (ap (λ (u : Four). u.d) e) r) r₃)

-- ---- all three, for every row

-- the rows and sides that are reduced
record RowsTo (n me t : ℕ) (iw : List ℕ) (w w' : List Float) : Type 0 where
  row : (i : ℕ) → i < t → vec (750 + i * 18) n w' ≡ solve_rt n (held me n n w iw) (gather n (nums 0 n iw) (vec (750 + i * 18) n w))
  side : (i : ℕ) → i < t → at w' (750 + i * 18 + n) ≡ at w (750 + i * 18 + n) ⊖ Σ n (λ k. at w' (750 + i * 18 + k) ⊗ at w (732 + k))
  low : (x : ℕ) → x < 360 → at w' x ≡ at w x
  middle : (x : ℕ) → 426 ≤ x → x < 750 → at w' x ≡ at w x

rows_all : (n me c : ℕ) (iw : List ℕ) (w w₁ w₂ w₃ : List Float) → n ≤ 17 → n ≤ me → me ≤ 18 → ((t : ℕ) → t < n → nth iw t < n) → Permuted n c iw w w₁ → SolvedRows n c w₁ w₂ → Shifted n c w₂ w₃
    → RowsTo n me c iw w w₃
rows_all n me c iw w w₁ w₂ w₃ n17 nme m18 perm P S L =
    let below : (x : ℕ) → x < 750 → at w₃ x ≡ at w₁ x = λ x h. L.others x (λ i l e. omega arith) ∙ S.before x h in
    let in_row : (i k : ℕ) → k < n → at w₃ (750 + i * 18 + k) ≡ at w₂ (750 + i * 18 + k) = λ i k h. L.others (750 + i * 18 + k) (λ j l e. omega arith) in
    record {
      row = λ i h.
          vec-same (750 + i * 18) n w₂ w₃ (λ k l. in_row i k l)
          ∙ S.rows i me iw h nme m18
          ∙ ap₂ (solve_rt n) (held_same me n n w w₁ iw iw m18 (λ x l. P.low x (omega arith)) (λ x l g. P.middle x l (omega arith)) (λ s l. refl))
          (gathered n (750 + i * 18) iw w w₁ (750 + i * 18) perm (λ s l. P.rows i s h l));
      side = λ i h.
          L.sides i h
          ∙ ap₂ ◌⊖◌ (S.sides i ∙ P.sides i)
          (Σ-same n _ _ (λ k l. ap₂ ◌⊗◌ (sym (in_row i k l)) (S.before (732 + k) (omega arith) ∙ P.middle (732 + k) (omega arith) (omega arith))));
      low = λ x h. below x (omega arith) ∙ P.low x h;
      middle = λ x h g. below x g ∙ P.middle x h g;
    }

-- ---- all of them, behind Q'f

pub all-reduced : (n me mg : ℕ) (iw : List ℕ) (w w₁ p s w₂ : List Float) → n ≤ 17 → n ≤ me → me ≤ 18 → ((t : ℕ) → t < n → nth iw t < n) → AppliedQt me n 732 w w₁ → Permuted n mg iw w₁ p
    → SolvedRows n mg p s → Shifted n mg s w₂ → Reduced n me mg iw w w₂
unfolding reduced_rows reduced_sides sides dot
all-reduced n me mg iw w w₁ p s w₂ n17 nme m18 perm Q P S L =
    let r = rows_all n me mg iw w₁ p s w₂ n17 nme m18 perm P S L in
    let same : held me n n w₁ iw ≡ held me n n w iw =
    held_same me n n w w₁ iw iw m18 (λ x h. Q.before x (omega arith)) (λ x h g. Q.before x (omega arith)) (λ t h. refl) in
    record {
      turned = vec-same 732 me w₁ w₂ (λ k l. r.middle (732 + k) (omega arith) (omega arith)) ∙ Q.value n iw (omega arith);
      rows =
          stack_is 750 mg n w₂ (λ i. solve_rt n (held me n n w iw) (gather n (nums 0 n iw) (row n i (stack 750 mg n w))))
          (λ i h.
          r.row i h
          ∙ ap₂ (λ (q : Factors) (v : List Float). solve_rt n q (gather n (nums 0 n iw) v)) same
          (vec-same (750 + i * 18) n w w₁ (λ k l. Q.after (750 + i * 18 + k) (omega arith)) ∙ sym (row-stack 750 mg n i w h)));
      bounds =
          tab-same mg _ _
          (λ i h.
          r.side i h
          ∙ ap₂ ◌⊖◌ (Q.after (750 + i * 18 + n) (omega arith) ∙ sym (get_d-tab mg (λ i. at w (750 + i * 18 + n)) nan i h))
          (Σ-same n _ _
          (λ k l.
          ap₂ ◌⊗◌ (sym (at-vec (750 + i * 18) n w₂ k l) ∙ ap (λ (v : List Float). at v k) (sym (row-stack 750 mg n i w₂ h)))
          (sym (r.middle (732 + k) (omega arith) (omega arith)) ∙ sym (at-vec 732 me w₂ k (omega arith))))));
      factors = held_same me n n w₁ w₂ iw iw m18 (λ x h. r.low x (omega arith)) (λ x h g. r.middle x h (omega arith)) (λ t h. refl) ∙ same;
    }
