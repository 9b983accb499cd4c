-- Laws of E Q and G Q: one row, all rows, and how their tails and shifted sides read as the definition's.
use mathlib.Core.Path.{◌≡◌, refl, sym, ap, ap₂, subst, ◌∙◌}
use mathlib.Core.List.{List}
use mathlib.Core.Logic.{⊎_elim}
use Prim.Native.Nat.{ℕ, ◌+◌, ◌-◌, ◌*◌, ◌<◌, ◌≤◌}
use native.Mathlib.Omega.{arith}
use lib.ListN.{length, set}
use lib.Seq.{get_or-set_same, get_or-set_other}
use lib.Ieee.{Float, nan}
use Rattle.numbers.specs.Numbers.{at, tab, dot, entry, rows, grid, row, Σ, ◌⊖◌, ◌⊗◌}
use Rattle.numbers.proofs.Cases.{lt-or-ge}
use Rattle.numbers.proofs.Lists.{tab-same, tab-of, get_d-tab, entry-rows, length-row}
use Rattle.numbers.proofs.Sums.{Σ-same}
use Rattle.workspace.specs.Readings.{vec, mat, stack, Block}
use Rattle.workspace.proofs.Readings.{at-vec, vec-is, vec-same, length-vec, mat-is, row-stack, stack_is}
use Rattle.householder.specs.Qr.{Factors, apply_qt}
use Rattle.householder.specs.inner.Work.{held, AppliedQt, AppliedFour}
use Rattle.householder.proofs.Held.{held_same}
use Rattle.householder.proofs.Sizes.{length-apply_qt}
use Rattle.lsei.specs.Lsei.{turned, tail_of, shifted}
use Rattle.lsei.specs.inner.Work.{sides, Spaced}
use Rattle.lsei_nullspace.specs.inner.Work.{turned_in, TurnedRow, TurnedRows, LaidE, LaidG, RowsOfE, RowsOfG, TailOfE, TailOfG}

-- ---- one row under Q'

pub turned-row : (n mc o : ℕ) (w w₁ w₂ : List Float) → n ≤ 17 → mc ≤ n → Block 342 n (λ t. at w (o + t)) w w₁ → AppliedQt n mc 342 w₁ w₂ → TurnedRow n mc o w w₂
unfolding vec
turned-row n mc o w w₁ w₂ n17 mn C Q = record {
  row = λ iw.
      Q.value mc iw (omega arith)
      ∙ ap₂ (apply_qt n)
      (held_same n mc mc w w₁ iw iw (omega arith) (λ x h. C.before x h) (λ x h g. C.after x (omega arith)) (λ t h. refl))
      (vec-is 342 n w₁ (λ t. at w (o + t)) C.inside);
  low = λ x h. Q.before x h ∙ C.before x h;
  after = λ x h. Q.after x (omega arith) ∙ C.after x (omega arith);
}

pub turned_rows : (n mc o : ℕ) (w w₁ w₂ : List Float) → n ≤ 17 → mc ≤ n → Block 342 (54 + n) (λ t. at w (o + t)) w w₁ → AppliedFour n mc 342 w₁ w₂ → TurnedRows n mc o w w₂
unfolding vec
turned_rows n mc o w w₁ w₂ n17 mn C Q = record {
  rows = λ j hj iw.
      Q.values j hj mc iw (omega arith)
      ∙ ap₂ (apply_qt n)
      (held_same n mc mc w w₁ iw iw (omega arith) (λ x h. C.before x h) (λ x h g. C.after x (omega arith)) (λ t h. refl))
      (vec-is (342 + j * 18) n w₁ (λ t. at w (o + j * 18 + t))
      (λ t h.
      ap (λ (x : ℕ). at w₁ x) (let e : 342 + j * 18 + t ≡ 342 + (j * 18 + t) = omega arith in e)
      ∙ C.inside (j * 18 + t) (omega arith)
      ∙ ap (λ (x : ℕ). at w x) (let e : o + (j * 18 + t) ≡ o + j * 18 + t = omega arith in e)));
  low = λ x h. Q.before x h ∙ C.before x h;
  after = λ x h. Q.after x (omega arith) ∙ C.after x (omega arith);
}

-- what is left as it was, a row and the factors among it, gives the same row
turned_same : (n mc o : ℕ) (iw : List ℕ) (w w' : List Float) → n ≤ 17 → mc ≤ n → 426 ≤ o → o + n ≤ 2670 → ((x : ℕ) → x < 342 → at w' x ≡ at w x)
    → ((x : ℕ) → 426 ≤ x → x < 2670 → at w' x ≡ at w x) → turned_in n mc o iw w' ≡ turned_in n mc o iw w
turned_same n mc o iw w w' n17 mn ho hn low middle =
    ap₂ (apply_qt n) (held_same n mc mc w w' iw iw (omega arith) low (λ x h g. middle x (omega arith) (omega arith)) (λ t h. refl))
    (vec-same o n w w' (λ i h. middle (o + i) (omega arith) (omega arith)))

-- ---- a matrix under Q, row by row

module _ (n m o : ℕ) (q : Factors) (w : List Float) where
  turned-entry : (i k : ℕ) → i < m → k < n → entry n (turned n m q (stack o m n w)) i k ≡ at (apply_qt n q (vec (o + i * 18) n w)) k
  unfolding turned
  turned-entry i k hi hk =
      entry-rows m n (λ i. apply_qt n q (row n i (stack o m n w))) (λ i h. length-apply_qt n q (row n i (stack o m n w)) (length-row n i (stack o m n w))) i k hi hk
      ∙ ap (λ (v : List Float). at (apply_qt n q v) k) (row-stack o m n i w hi)

  turned-whole : (i : ℕ) → i < m → row n i (turned n m q (stack o m n w)) ≡ apply_qt n q (vec (o + i * 18) n w)
  unfolding row
  turned-whole i hi =
      sym (tab-of n (apply_qt n q (vec (o + i * 18) n w)) (λ k. entry n (turned n m q (stack o m n w)) i k) nan
      (length-apply_qt n q (vec (o + i * 18) n w) (length-vec (o + i * 18) n w)) (λ k h. sym (turned-entry i k hi h)))

-- ---- rows of E

module _ (n mc i p : ℕ) (w w₁ : List Float) (d : Float) (n17 : n ≤ 17) (mn : mc ≤ n) (i17 : i < 17) (low : 342 ≤ p) (high : p + n ≤ 426)
    (S : Spaced (2670 + i) (n - mc) (λ t. at w (p + mc + t)) w w₁) (D : d ≡ Σ mc (λ k. at w₁ (p + k) ⊗ at w₁ (714 + k))) (l : 2976 + i < length w₁) where
  e-rest : (x : ℕ) → (x ≡ 2976 + i → ⊥) → at (set w₁ (2976 + i) (at w₁ (1038 + i) ⊖ d)) x ≡ at w₁ x
  e-rest x h = get_or-set_other w₁ (2976 + i) x (at w₁ (1038 + i) ⊖ d) nan h

  pub laid-e : LaidE n mc i p w (set w₁ (2976 + i) (at w₁ (1038 + i) ⊖ d))
  laid-e = record {
    tail = λ j h.
        e-rest (2670 + j * 18 + i) (λ e. omega arith)
        ∙ ap (λ (x : ℕ). at w₁ x) (let e : 2670 + j * 18 + i ≡ 2670 + i + j * 18 = omega arith in e)
        ∙ S.inside j h
        ∙ ap (λ (x : ℕ). at w x) (let e : p + mc + j ≡ p + (mc + j) = omega arith in e);
    side =
        get_or-set_same w₁ (2976 + i) (at w₁ (1038 + i) ⊖ d) nan l
        ∙ ap₂ ◌⊖◌ (S.others (1038 + i) (λ t h e. omega arith))
        (D ∙ Σ-same mc _ _ (λ k h. ap₂ ◌⊗◌ (S.others (p + k) (λ t g e. omega arith)) (S.others (714 + k) (λ t g e. omega arith))));
    others = λ x f g. e-rest x g ∙ S.others x f;
  }

pub e-none : (n mc : ℕ) (w : List Float) → RowsOfE n mc 0 w w
e-none n mc w = record { tail = λ iw i j h g. absurd (omega arith); side = λ iw i h. absurd (omega arith); low = λ x h. refl; middle = λ x h g. refl }

pub e-at : (n mc t t' : ℕ) (v w : List Float) → t ≡ t' → RowsOfE n mc t v w → RowsOfE n mc t' v w
e-at n mc t t' v w e = subst (λ (x : ℕ). RowsOfE n mc x v w) e

-- what is written before the matrix of the factors, and behind the reflectors, leaves the rows
e-kept : (n mc t : ℕ) (v w w' : List Float) → ((x : ℕ) → x < 342 → at w' x ≡ at w x) → ((x : ℕ) → 426 ≤ x → at w' x ≡ at w x) → RowsOfE n mc t v w → RowsOfE n mc t v w'
e-kept n mc t v w w' low after r = record {
  tail = λ iw i j h g. after (2670 + j * 18 + i) (omega arith) ∙ r.tail iw i j h g;
  side = λ iw i h. after (2976 + i) (omega arith) ∙ r.side iw i h;
  low = λ x h. low x h ∙ r.low x h;
  middle = λ x h g. after x h ∙ r.middle x h g;
}

-- row t, which stands turned at p, laid
e-more : (n mc t p : ℕ) (v w w' : List Float) → n ≤ 17 → mc ≤ n → t < 17 → 342 ≤ p → p + n ≤ 426 → RowsOfE n mc t v w
    → ((iw : List ℕ) → vec p n w ≡ turned_in n mc (732 + t * 18) iw v) → LaidE n mc t p w w' → RowsOfE n mc (t + 1) v w'
unfolding dot
e-more n mc t p v w w' n17 mn tl lp hp r T L = record {
  tail = λ iw i j h g.
      ⊎_elim (λ (q : i < t). L.others (2670 + j * 18 + i) (λ k l e. omega arith) (λ e. omega arith) ∙ r.tail iw i j q g)
      (λ (q : t ≤ i).
      let e : i ≡ t = omega arith in
      rw e (L.tail j g ∙ sym (at-vec p n w (mc + j) (omega arith)) ∙ ap (λ (y : List Float). at y (mc + j)) (T iw)))
      (lt-or-ge i t);
  side = λ iw i h.
      ⊎_elim (λ (q : i < t). L.others (2976 + i) (λ k l e. omega arith) (λ e. omega arith) ∙ r.side iw i q)
      (λ (q : t ≤ i).
      let e : i ≡ t = omega arith in
      rw e
      (L.side
      ∙ ap₂ ◌⊖◌ (r.middle (1038 + t) (omega arith) (omega arith))
      (Σ-same mc _ _
      (λ k l.
      ap₂ ◌⊗◌ (sym (at-vec p n w k (omega arith)) ∙ ap (λ (y : List Float). at y k) (T iw))
      (r.middle (714 + k) (omega arith) (omega arith) ∙ sym (at-vec 714 mc v k l))))))
      (lt-or-ge i t);
  low = λ x h. L.others x (λ k l e. omega arith) (λ e. omega arith) ∙ r.low x h;
  middle = λ x h g. L.others x (λ k l e. omega arith) (λ e. omega arith) ∙ r.middle x h g;
}

-- one row
pub e-row : (n mc t : ℕ) (v w w₁ w₂ : List Float) → n ≤ 17 → mc ≤ n → t < 17 → TurnedRow n mc (732 + t * 18) w w₁ → LaidE n mc t 342 w₁ w₂ → RowsOfE n mc t v w
    → RowsOfE n mc (t + 1) v w₂
e-row n mc t v w w₁ w₂ n17 mn tl T L r =
    e-more n mc t 342 v w₁ w₂ n17 mn tl (omega arith) (omega arith) (e-kept n mc t v w w₁ T.low (λ x h. T.after x (omega arith)) r)
    (λ iw. T.row iw ∙ turned_same n mc (732 + t * 18) iw v w n17 mn (omega arith) (omega arith) r.low r.middle) L

-- four rows from i on: r of them are laid, and the others still stand turned
pub record LayingE (n mc i r : ℕ) (v w : List Float) : Type 0 where
  pub rows : RowsOfE n mc (i + r) v w
  pub waiting : (j : ℕ) → r ≤ j → j < 4 → (iw : List ℕ) → vec (342 + j * 18) n w ≡ turned_in n mc (732 + i * 18 + j * 18) iw v

pub laying-e-none : (n mc i : ℕ) (v w w₁ : List Float) → n ≤ 17 → mc ≤ n → i + 4 ≤ 17 → TurnedRows n mc (732 + i * 18) w w₁ → RowsOfE n mc i v w → LayingE n mc i 0 v w₁
laying-e-none n mc i v w w₁ n17 mn il T r = record {
  rows = e-at n mc i (i + 0) v w₁ (omega arith) (e-kept n mc i v w w₁ T.low T.after r);
  waiting = λ j a b iw. T.rows j b iw ∙ turned_same n mc (732 + i * 18 + j * 18) iw v w n17 mn (omega arith) (omega arith) r.low r.middle;
}

pub laying-e-more : (n mc i r : ℕ) (v w w' : List Float) → n ≤ 17 → mc ≤ n → i + 4 ≤ 17 → r < 4 → LaidE n mc (i + r) (342 + r * 18) w w' → LayingE n mc i r v w
    → LayingE n mc i (r + 1) v w'
laying-e-more n mc i r v w w' n17 mn il r4 L h =
    let z : 732 + i * 18 + r * 18 ≡ 732 + (i + r) * 18 = omega arith in
    record {
      rows =
          e-at n mc (i + r + 1) (i + (r + 1)) v w' (omega arith)
          (e-more n mc (i + r) (342 + r * 18) v w w' n17 mn (omega arith) (omega arith) (omega arith) h.rows
          (λ iw. h.waiting r (omega arith) r4 iw ∙ ap (λ (o : ℕ). turned_in n mc o iw v) z) L);
      waiting = λ j a b iw. vec-same (342 + j * 18) n w w' (λ t ht. L.others (342 + j * 18 + t) (λ k l e. omega arith) (λ e. omega arith)) ∙ h.waiting j (omega arith) b iw;
    }

pub laying-e-done : (n mc i r : ℕ) (v w : List Float) → r ≡ 4 → LayingE n mc i r v w → RowsOfE n mc (i + 4) v w
laying-e-done n mc i r v w e h = e-at n mc (i + r) (i + 4) v w (omega arith) h.rows

pub e-all : (n mc me : ℕ) (w w' : List Float) → mc ≤ n → RowsOfE n mc me w w' → TailOfE n mc me w w'
unfolding tail_of shifted
e-all n mc me w w' mn r = record {
  matrix = λ iw.
      mat-is 2670 me (n - mc) w' (λ i j. entry n (turned n me (held n mc mc w iw) (stack 732 me n w)) i (mc + j))
      (λ i j hi hj. r.tail iw i j hi hj ∙ sym (turned-entry n me 732 (held n mc mc w iw) w i (mc + j) hi (omega arith)));
  shift = λ iw.
      vec-is 2976 me w' (λ i. at (vec 1038 me w) i ⊖ dot mc (row n i (turned n me (held n mc mc w iw) (stack 732 me n w))) (vec 714 mc w))
      (λ i hi.
      r.side iw i hi
      ∙ ap₂ ◌⊖◌ (sym (at-vec 1038 me w i hi)) (ap (λ (v : List Float). dot mc v (vec 714 mc w)) (sym (turned-whole n me 732 (held n mc mc w iw) w i hi))));
  low = r.low;
  middle = r.middle;
}

-- ---- rows of G

module _ (n mc i p : ℕ) (w w₁ : List Float) (d : Float) (n17 : n ≤ 17) (mn : mc ≤ n) (i66 : i < 66) (low : 342 ≤ p) (high : p + n ≤ 426)
    (C : Block (2994 + i * 18) (n - mc) (λ t. at w (p + mc + t)) w w₁) (D : d ≡ Σ mc (λ k. at w₁ (p + k) ⊗ at w₁ (714 + k))) (l : 2994 + i * 18 + (n - mc) < length w₁) where
  g-rest : (x : ℕ) → (x ≡ 2994 + i * 18 + (n - mc) → ⊥) → at (set w₁ (2994 + i * 18 + (n - mc)) (at w₁ (1056 + i * 18 + n) ⊖ d)) x ≡ at w₁ x
  g-rest x h = get_or-set_other w₁ (2994 + i * 18 + (n - mc)) x (at w₁ (1056 + i * 18 + n) ⊖ d) nan h

  pub laid-g : LaidG n mc i p w (set w₁ (2994 + i * 18 + (n - mc)) (at w₁ (1056 + i * 18 + n) ⊖ d))
  laid-g = record {
    tail = λ j h.
        g-rest (2994 + i * 18 + j) (λ e. omega arith)
        ∙ C.inside j h
        ∙ ap (λ (x : ℕ). at w x) (let e : p + mc + j ≡ p + (mc + j) = omega arith in e);
    side =
        get_or-set_same w₁ (2994 + i * 18 + (n - mc)) (at w₁ (1056 + i * 18 + n) ⊖ d) nan l
        ∙ ap₂ ◌⊖◌ (C.before (1056 + i * 18 + n) (omega arith))
        (D ∙ Σ-same mc _ _ (λ k h. ap₂ ◌⊗◌ (C.before (p + k) (omega arith)) (C.before (714 + k) (omega arith))));
    before = λ x h. g-rest x (λ e. omega arith) ∙ C.before x h;
  }

pub g-none : (n mc : ℕ) (w : List Float) → RowsOfG n mc 0 w w
g-none n mc w = record { tail = λ iw i j h g. absurd (omega arith); side = λ iw i h. absurd (omega arith); low = λ x h. refl; middle = λ x h g. refl }

pub g-at : (n mc t t' : ℕ) (v w : List Float) → t ≡ t' → RowsOfG n mc t v w → RowsOfG n mc t' v w
g-at n mc t t' v w e = subst (λ (x : ℕ). RowsOfG n mc x v w) e

-- what is written before the matrix of the factors, and behind the reflectors, leaves the rows
g-kept : (n mc t : ℕ) (v w w' : List Float) → ((x : ℕ) → x < 342 → at w' x ≡ at w x) → ((x : ℕ) → 426 ≤ x → at w' x ≡ at w x) → RowsOfG n mc t v w → RowsOfG n mc t v w'
g-kept n mc t v w w' low after r = record {
  tail = λ iw i j h g. after (2994 + i * 18 + j) (omega arith) ∙ r.tail iw i j h g;
  side = λ iw i h. after (2994 + i * 18 + (n - mc)) (omega arith) ∙ r.side iw i h;
  low = λ x h. low x h ∙ r.low x h;
  middle = λ x h g. after x h ∙ r.middle x h g;
}

-- row t, which stands turned at p, laid
g-more : (n mc t p : ℕ) (v w w' : List Float) → n ≤ 17 → mc ≤ n → t < 66 → 342 ≤ p → p + n ≤ 426 → RowsOfG n mc t v w
    → ((iw : List ℕ) → vec p n w ≡ turned_in n mc (1056 + t * 18) iw v) → LaidG n mc t p w w' → RowsOfG n mc (t + 1) v w'
unfolding dot
g-more n mc t p v w w' n17 mn tl lp hp r T L = record {
  tail = λ iw i j h g.
      ⊎_elim (λ (q : i < t). L.before (2994 + i * 18 + j) (omega arith) ∙ r.tail iw i j q g)
      (λ (q : t ≤ i).
      let e : i ≡ t = omega arith in
      rw e (L.tail j g ∙ sym (at-vec p n w (mc + j) (omega arith)) ∙ ap (λ (y : List Float). at y (mc + j)) (T iw)))
      (lt-or-ge i t);
  side = λ iw i h.
      ⊎_elim (λ (q : i < t). L.before (2994 + i * 18 + (n - mc)) (omega arith) ∙ r.side iw i q)
      (λ (q : t ≤ i).
      let e : i ≡ t = omega arith in
      rw e
      (L.side
      ∙ ap₂ ◌⊖◌ (r.middle (1056 + t * 18 + n) (omega arith) (omega arith))
      (Σ-same mc _ _
      (λ k l.
      ap₂ ◌⊗◌ (sym (at-vec p n w k (omega arith)) ∙ ap (λ (y : List Float). at y k) (T iw))
      (r.middle (714 + k) (omega arith) (omega arith) ∙ sym (at-vec 714 mc v k l))))))
      (lt-or-ge i t);
  low = λ x h. L.before x (omega arith) ∙ r.low x h;
  middle = λ x h g. L.before x (omega arith) ∙ r.middle x h g;
}

-- one row
pub g-row : (n mc t : ℕ) (v w w₁ w₂ : List Float) → n ≤ 17 → mc ≤ n → t < 66 → TurnedRow n mc (1056 + t * 18) w w₁ → LaidG n mc t 342 w₁ w₂ → RowsOfG n mc t v w
    → RowsOfG n mc (t + 1) v w₂
g-row n mc t v w w₁ w₂ n17 mn tl T L r =
    g-more n mc t 342 v w₁ w₂ n17 mn tl (omega arith) (omega arith) (g-kept n mc t v w w₁ T.low (λ x h. T.after x (omega arith)) r)
    (λ iw. T.row iw ∙ turned_same n mc (1056 + t * 18) iw v w n17 mn (omega arith) (omega arith) r.low (λ x h g. r.middle x h (omega arith))) L

-- four rows from i on: r of them are laid, and the others still stand turned
pub record LayingG (n mc i r : ℕ) (v w : List Float) : Type 0 where
  pub rows : RowsOfG n mc (i + r) v w
  pub waiting : (j : ℕ) → r ≤ j → j < 4 → (iw : List ℕ) → vec (342 + j * 18) n w ≡ turned_in n mc (1056 + i * 18 + j * 18) iw v

pub laying-g-none : (n mc i : ℕ) (v w w₁ : List Float) → n ≤ 17 → mc ≤ n → i + 4 ≤ 66 → TurnedRows n mc (1056 + i * 18) w w₁ → RowsOfG n mc i v w → LayingG n mc i 0 v w₁
laying-g-none n mc i v w w₁ n17 mn il T r = record {
  rows = g-at n mc i (i + 0) v w₁ (omega arith) (g-kept n mc i v w w₁ T.low T.after r);
  waiting = λ j a b iw. T.rows j b iw ∙ turned_same n mc (1056 + i * 18 + j * 18) iw v w n17 mn (omega arith) (omega arith) r.low (λ x h g. r.middle x h (omega arith));
}

pub laying-g-more : (n mc i r : ℕ) (v w w' : List Float) → n ≤ 17 → mc ≤ n → i + 4 ≤ 66 → r < 4 → LaidG n mc (i + r) (342 + r * 18) w w' → LayingG n mc i r v w
    → LayingG n mc i (r + 1) v w'
laying-g-more n mc i r v w w' n17 mn il r4 L h =
    let z : 1056 + i * 18 + r * 18 ≡ 1056 + (i + r) * 18 = omega arith in
    record {
      rows =
          g-at n mc (i + r + 1) (i + (r + 1)) v w' (omega arith)
          (g-more n mc (i + r) (342 + r * 18) v w w' n17 mn (omega arith) (omega arith) (omega arith) h.rows
          (λ iw. h.waiting r (omega arith) r4 iw ∙ ap (λ (o : ℕ). turned_in n mc o iw v) z) L);
      waiting = λ j a b iw. vec-same (342 + j * 18) n w w' (λ t ht. L.before (342 + j * 18 + t) (omega arith)) ∙ h.waiting j (omega arith) b iw;
    }

pub laying-g-done : (n mc i r : ℕ) (v w : List Float) → r ≡ 4 → LayingG n mc i r v w → RowsOfG n mc (i + 4) v w
laying-g-done n mc i r v w e h = g-at n mc (i + r) (i + 4) v w (omega arith) h.rows

pub g-all : (n mc mg : ℕ) (w w' : List Float) → mc ≤ n → RowsOfG n mc mg w w' → TailOfG n mc mg w w'
unfolding tail_of shifted sides grid
g-all n mc mg w w' mn r = record {
  rows = λ iw.
      stack_is 2994 mg (n - mc) w' (λ i. tab (n - mc) (λ j. entry n (turned n mg (held n mc mc w iw) (stack 1056 mg n w)) i (mc + j)))
      (λ i hi.
      vec-is (2994 + i * 18) (n - mc) w' (λ j. entry n (turned n mg (held n mc mc w iw) (stack 1056 mg n w)) i (mc + j))
      (λ j hj. r.tail iw i j hi hj ∙ sym (turned-entry n mg 1056 (held n mc mc w iw) w i (mc + j) hi (omega arith))));
  shift = λ iw.
      tab-same mg _ _
      (λ i hi.
      r.side iw i hi
      ∙ ap₂ ◌⊖◌ (sym (get_d-tab mg (λ i. at w (1056 + i * 18 + n)) nan i hi))
      (ap (λ (v : List Float). dot mc v (vec 714 mc w)) (sym (turned-whole n mg 1056 (held n mc mc w iw) w i hi))));
  low = r.low;
  middle = r.middle;
}
