-- What `apply_qt`, `apply_q`, `solve_r`, `solve_rt`, `place` and `solve` rest on.
use mathlib.Core.Path.{◌≡◌, refl, sym, ap, ap₂, ◌∙◌}
use mathlib.Core.List.{List}
use Prim.Native.Nat.{ℕ, suc, ◌+◌, ◌-◌, ◌*◌, ◌≤◌, ◌<◌}
use native.Mathlib.Nat.{zero-add}
use native.Mathlib.Numerals.{add-one}
use native.Mathlib.Omega.{arith}
use lib.ListN.{length, length-set, set, replicate}
use lib.Seq.{get_or-set_other}
use lib.Ieee.{Float, nan}
use Rattle.numbers.specs.Numbers.{+0, ◌⊖◌, ◌⊗◌, ◌⊘◌, Σ, at, nth, scatter, entry}
use Rattle.numbers.proofs.Sums.{Σ-same}
use Rattle.numbers.proofs.Lists.{tab-replicate, scatter-same}
use Rattle.workspace.specs.Readings.{vec, mat, nums, Block}
use Rattle.workspace.proofs.Readings.{at-vec, vec-same, vec-set, entry-mat, nth-nums}
use Rattle.workspace.proofs.Writes.{block-vec}
use Rattle.householder.specs.Qr.{image, forth, back, apply_qt, apply_q, upward, solve_r, downward, solve_rt, solve}
use Rattle.householder.specs.declared.Four.{Four}
use Rattle.householder.specs.inner.Search.{product, four}
use Rattle.householder.specs.inner.Work.{held, Reflected, ReflectedFour, AppliedQt, AppliedFour, AppliedQ, SolvedR, SolvedRt, SolvedFour, Placed}
use Rattle.householder.proofs.Held.{held_same, reflect-held, forth-same}

-- ---- Q': the first i reflectors, from the first to the last

pub applied-none : (m o : ℕ) (w : List Float) → AppliedQt m 0 o w w
unfolding apply_qt forth
applied-none m o w = record { value = λ n iw h. refl; before = λ x h. refl; after = λ x h. refl }

-- one reflector more on the vector at o
forth-more : (m i o : ℕ) (w₀ w w' : List Float) → m ≤ 18 → i < m → ((x : ℕ) → x < 342 → at w x ≡ at w₀ x) → vec o m w' ≡ image m i (vec (i * 18) m w) (at w (324 + i)) (vec o m w)
    → ((n : ℕ) (iw : List ℕ) → i ≤ n → vec o m w ≡ apply_qt m (held m n i w₀ iw) (vec o m w₀)) → (n : ℕ) (iw : List ℕ) → i + 1 ≤ n
    → vec o m w' ≡ apply_qt m (held m n (i + 1) w₀ iw) (vec o m w₀)
unfolding apply_qt forth
forth-more m i o w₀ w w' m18 im low r h n iw c =
    let u : vec (i * 18) m w ≡ vec (i * 18) m w₀ = vec-same (i * 18) m w₀ w (λ t ht. low (i * 18 + t) (omega arith)) in
    let b : at w (324 + i) ≡ at w₀ (324 + i) = low (324 + i) (omega arith) in
    rw add-one
    (r
    ∙ rw (u, b, h n iw (omega arith))
    (sym (reflect-held m n (suc i) i w₀ iw (forth m (held m n (suc i) w₀ iw) i (vec o m w₀)) im (omega arith)
    ∙ ap (image m i (vec (i * 18) m w₀) (at w₀ (324 + i))) (forth-same m i (held m n (suc i) w₀ iw) (held m n i w₀ iw) (vec o m w₀) refl refl))))

pub applied-more : (m i o : ℕ) (w₀ w w' : List Float) → m ≤ 18 → i < m → 342 ≤ o → Reflected m i o w w' → AppliedQt m i o w₀ w → AppliedQt m (i + 1) o w₀ w'
applied-more m i o w₀ w w' m18 im l r h = record {
  value = forth-more m i o w₀ w w' m18 im (λ x a. h.before x (omega arith)) r.value h.value;
  before = λ x a. r.before x a ∙ h.before x a;
  after = λ x a. r.after x a ∙ h.after x a;
}

pub applied-four-none : (m o : ℕ) (w : List Float) → AppliedFour m 0 o w w
unfolding apply_qt forth
applied-four-none m o w = record { values = λ j g n iw h. refl; before = λ x h. refl; after = λ x h. refl }

pub applied-four-more : (m i o : ℕ) (w₀ w w' : List Float) → m ≤ 18 → i < m → 342 ≤ o → ReflectedFour m i o w w' → AppliedFour m i o w₀ w → AppliedFour m (i + 1) o w₀ w'
applied-four-more m i o w₀ w w' m18 im l r h = record {
  values = λ j g. forth-more m i (o + j * 18) w₀ w w' m18 im (λ x a. h.before x (omega arith)) (r.values j g) (h.values j g);
  before = λ x a. r.before x a ∙ h.before x a;
  after = λ x a. r.after x a ∙ h.after x a;
}

-- ---- Q: i reflectors are still to do, from the last to the first

pub record ApplyingQ (m k i o : ℕ) (w₀ w : List Float) : Type 0 where
  pub left : (n : ℕ) (iw : List ℕ) → k ≤ n → apply_q m (held m n k w₀ iw) (vec o m w₀) ≡ back m (held m n k w₀ iw) i (vec o m w)
  pub before : (x : ℕ) → x < o → at w x ≡ at w₀ x
  pub after : (x : ℕ) → o + m ≤ x → at w x ≡ at w₀ x

pub applying-none : (m k o : ℕ) (w : List Float) → ApplyingQ m k k o w w
unfolding apply_q
applying-none m k o w = record { left = λ n iw h. refl; before = λ x h. refl; after = λ x h. refl }

back-turn : (m n k i : ℕ) (w : List Float) (iw : List ℕ) (v : List Float) → i < m → i < n
    → back m (held m n k w iw) (suc i) v ≡ back m (held m n k w iw) i (image m i (vec (i * 18) m w) (at w (324 + i)) v)
unfolding back
back-turn m n k i w iw v im jn = ap (back m (held m n k w iw) i) (reflect-held m n k i w iw v im jn)

pub applying-more : (m k i o : ℕ) (w₀ w w' : List Float) → m ≤ 18 → k ≤ m → 0 < i → i ≤ k → 342 ≤ o → Reflected m (i - 1) o w w' → ApplyingQ m k i o w₀ w
    → ApplyingQ m k (i - 1) o w₀ w'
applying-more m k i o w₀ w w' m18 km i0 ik l r h =
    let q = i - 1 in
    let u : vec (q * 18) m w ≡ vec (q * 18) m w₀ = vec-same (q * 18) m w₀ w (λ t ht. h.before (q * 18 + t) (omega arith)) in
    let b : at w (324 + q) ≡ at w₀ (324 + q) = h.before (324 + q) (omega arith) in
    let e : i ≡ suc q = omega arith in
    record {
      left = λ n iw c.
          h.left n iw c
          ∙ ap (λ (t : ℕ). back m (held m n k w₀ iw) t (vec o m w)) e
          ∙ back-turn m n k q w₀ iw (vec o m w) (omega arith) (omega arith)
          ∙ ap (back m (held m n k w₀ iw) q) (sym (r.value ∙ rw (u, b)));
      before = λ x a. r.before x a ∙ h.before x a;
      after = λ x a. r.after x a ∙ h.after x a;
    }

pub applying-done : (m k i o : ℕ) (w₀ w : List Float) → i ≡ 0 → ApplyingQ m k i o w₀ w → AppliedQ m k o w₀ w
unfolding back
applying-done m k i o w₀ w e h = record { value = λ n iw c. sym (rw e at (h.left n iw c)); before = h.before; after = h.after }

-- ---- R z = y: i rows are still to do, from the last to the first

pub record SolvingR (k i : ℕ) (w₀ w : List Float) : Type 0 where
  pub left : (m n c : ℕ) (iw : List ℕ) → k ≤ m → k ≤ n → k ≤ c → c ≤ 18
      → solve_r n (held m n k w₀ iw) (vec 342 c w₀) ≡ upward n k (mat 426 m n w₀) i (vec 342 c w)
  pub before : (x : ℕ) → x < 342 → at w x ≡ at w₀ x
  pub after : (x : ℕ) → 342 + k ≤ x → at w x ≡ at w₀ x

pub solving-none : (k : ℕ) (w : List Float) → SolvingR k k w w
unfolding solve_r
solving-none k w = record { left = λ m n c iw a b d e. refl; before = λ x h. refl; after = λ x h. refl }

module _ (k i : ℕ) (w₀ w : List Float) (s : Float) (k18 : k ≤ 18) (i0 : 0 < i) (ik : i ≤ k) (long : 426 ≤ length w) (h : SolvingR k i w₀ w)
    (es : s ≡ Σ (k - i) (λ t. at w (426 + (i - 1) * 18 + (i - 1) + 18 + t * 18) ⊗ at w (342 + i + t * 1))) where
  abbrev q : ℕ
  q = i - 1

  abbrev v : Float
  v = (at w (342 + q) ⊖ s) ⊘ at w (426 + q * 18 + q)

  module _ (m n c : ℕ) (iw : List ℕ) (km : k ≤ m) (kn : k ≤ n) (kc : k ≤ c) (c18 : c ≤ 18) where
    in-r : (j : ℕ) → j < k → at w (426 + j * 18 + q) ≡ entry n (mat 426 m n w₀) q j
    in-r j hj = h.after (426 + j * 18 + q) (omega arith) ∙ sym (entry-mat 426 m n w₀ q j (omega arith) (omega arith))

    tail-is : s ≡ Σ (k - (q + 1)) (λ t. entry n (mat 426 m n w₀) q (q + 1 + t) ⊗ at (vec 342 c w) (q + 1 + t))
    tail-is =
        es
        ∙ ap (λ (z : ℕ). Σ (k - z) (λ t. at w (426 + q * 18 + q + 18 + t * 18) ⊗ at w (342 + i + t * 1))) (let z : i ≡ q + 1 = omega arith in z)
        ∙ Σ-same (k - (q + 1)) _ _
        (λ t ht.
        ap₂ ◌⊗◌
        (ap (λ (x : ℕ). at w x) (let z : 426 + q * 18 + q + 18 + t * 18 ≡ 426 + (q + 1 + t) * 18 + q = omega arith in z) ∙ in-r (q + 1 + t) (omega arith))
        (ap (λ (x : ℕ). at w x) (let z : 342 + i + t * 1 ≡ 342 + (q + 1 + t) = omega arith in z) ∙ sym (at-vec 342 c w (q + 1 + t) (omega arith))))

    value-is : v ≡ (at (vec 342 c w) q ⊖ Σ (k - (q + 1)) (λ t. entry n (mat 426 m n w₀) q (q + 1 + t) ⊗ at (vec 342 c w) (q + 1 + t))) ⊘ entry n (mat 426 m n w₀) q q
    value-is = ap₂ ◌⊘◌ (ap₂ ◌⊖◌ (sym (at-vec 342 c w q (omega arith))) tail-is) (in-r q (omega arith))

    left_is : solve_r n (held m n k w₀ iw) (vec 342 c w₀) ≡ upward n k (mat 426 m n w₀) q (vec 342 c (set w (342 + q) v))
    unfolding upward
    left_is =
        h.left m n c iw km kn kc c18
        ∙ ap (λ (z : ℕ). upward n k (mat 426 m n w₀) z (vec 342 c w)) (let z : i ≡ suc q = omega arith in z)
        ∙ ap (λ (x : Float). upward n k (mat 426 m n w₀) q (set (vec 342 c w) q x)) (sym value-is)
        ∙ ap (upward n k (mat 426 m n w₀) q) (sym (vec-set 342 c q w v (omega arith) (omega arith)))

  pub solving-more : SolvingR k (i - 1) w₀ (set w (342 + (i - 1)) ((at w (342 + (i - 1)) ⊖ s) ⊘ at w (426 + (i - 1) * 18 + (i - 1))))
  solving-more = record {
    left = λ m n c iw km kn kc c18. left_is m n c iw km kn kc c18;
    before = λ x a. get_or-set_other w (342 + q) x v nan (λ e. omega arith) ∙ h.before x a;
    after = λ x a. get_or-set_other w (342 + q) x v nan (λ e. omega arith) ∙ h.after x a;
  }

pub solving-done : (k i : ℕ) (w₀ w : List Float) → i ≡ 0 → SolvingR k i w₀ w → SolvedR k w₀ w
unfolding upward
solving-done k i w₀ w e h = record { value = λ m n c iw km kn kc c18. sym (rw e at (h.left m n c iw km kn kc c18)); before = h.before; after = h.after }

-- ---- R'z = y: i rows are done, from the first to the last

pub record SolvingRt (n k o i : ℕ) (w₀ w : List Float) : Type 0 where
  pub done : (m : ℕ) → k ≤ m → vec o k w ≡ downward n (mat 426 m n w₀) i (vec o k w₀)
  pub before : (x : ℕ) → x < o → at w x ≡ at w₀ x
  pub after : (x : ℕ) → o + k ≤ x → at w x ≡ at w₀ x

pub descending-none : (n k o : ℕ) (w : List Float) → SolvingRt n k o 0 w w
unfolding downward
descending-none n k o w = record { done = λ m h. refl; before = λ x h. refl; after = λ x h. refl }

-- one row more of the vector at o: u and w agree there, and w' is u with the new entry, as far as the vector goes
module _ (n k o i : ℕ) (w₀ w u w' : List Float) (s d : Float) (ik : i < k) (k18 : k ≤ 18) (kn : k ≤ n) (r : (x : ℕ) → x < 426 + n * 18 → at w x ≡ at w₀ x)
    (es : s ≡ Σ i (λ j. at w (426 + i * 18 + j) ⊗ at w (o + j))) (ed : d ≡ at w (426 + i * 18 + i)) (long : o + k ≤ length u)
    (here : (t : ℕ) → t < k → at u (o + t) ≡ at w (o + t)) (there : (t : ℕ) → t < k → at w' (o + t) ≡ at (set u (o + i) ((at u (o + i) ⊖ s) ⊘ d)) (o + t)) where
  module _ (m : ℕ) (km : k ≤ m) (done : vec o k w ≡ downward n (mat 426 m n w₀) i (vec o k w₀)) where
    in-rt : (j : ℕ) → j < i + 1 → at w (426 + i * 18 + j) ≡ entry n (mat 426 m n w₀) j i
    in-rt j hj = r (426 + i * 18 + j) (omega arith) ∙ sym (entry-mat 426 m n w₀ j i (omega arith) (omega arith))

    in-z : (j : ℕ) → j < k → at w (o + j) ≡ at (downward n (mat 426 m n w₀) i (vec o k w₀)) j
    in-z j hj = sym (at-vec o k w j hj) ∙ ap (λ (l : List Float). at l j) done

    head-is : s ≡ Σ i (λ j. entry n (mat 426 m n w₀) j i ⊗ at (downward n (mat 426 m n w₀) i (vec o k w₀)) j)
    head-is = es ∙ Σ-same i _ _ (λ j hj. ap₂ ◌⊗◌ (in-rt j (omega arith)) (in-z j (omega arith)))

    pub row-down : vec o k w' ≡ downward n (mat 426 m n w₀) (i + 1) (vec o k w₀)
    unfolding downward
    row-down =
        vec-same o k _ w' there
        ∙ vec-set o k i u _ ik long
        ∙ rw add-one
        (ap₂ (λ (l : List Float) (x : Float). set l i x) (vec-same o k w u here ∙ done)
        (ap₂ ◌⊘◌ (ap₂ ◌⊖◌ (here i ik ∙ in-z i ik) head-is) (ed ∙ in-rt i (omega arith))))

pub descending-more : (n k o i : ℕ) (w₀ w : List Float) (s : Float) → k ≤ 18 → k ≤ n → i < k → 426 + n * 18 ≤ o → o + k ≤ length w → SolvingRt n k o i w₀ w
    → s ≡ Σ i (λ j. at w (426 + i * 18 + j) ⊗ at w (o + j)) → SolvingRt n k o (i + 1) w₀ (set w (o + i) ((at w (o + i) ⊖ s) ⊘ at w (426 + i * 18 + i)))
descending-more n k o i w₀ w s k18 kn ik far long h es = record {
  done = λ m km. row-down n k o i w₀ w w _ s _ ik k18 kn (λ x l. h.before x (omega arith)) es refl long (λ t l. refl) (λ t l. refl) m km (h.done m km);
  before = λ x a. get_or-set_other w (o + i) x _ nan (λ e. omega arith) ∙ h.before x a;
  after = λ x a. get_or-set_other w (o + i) x _ nan (λ e. omega arith) ∙ h.after x a;
}

pub descending-done : (n k o i : ℕ) (w₀ w : List Float) → i ≡ k → SolvingRt n k o i w₀ w → SolvedRt n k o w₀ w
unfolding solve_rt
descending-done n k o i w₀ w e h =
    record { value = λ m iw km. h.done m km ∙ ap (λ (t : ℕ). downward n (mat 426 m n w₀) t (vec o k w₀)) e; before = h.before; after = h.after }

-- ---- the same on four vectors side by side

pub record SolvingFour (n k o i : ℕ) (w₀ w : List Float) : Type 0 where
  pub first : (m : ℕ) → k ≤ m → vec o k w ≡ downward n (mat 426 m n w₀) i (vec o k w₀)
  pub second : (m : ℕ) → k ≤ m → vec (o + 18) k w ≡ downward n (mat 426 m n w₀) i (vec (o + 18) k w₀)
  pub third : (m : ℕ) → k ≤ m → vec (o + 36) k w ≡ downward n (mat 426 m n w₀) i (vec (o + 36) k w₀)
  pub fourth : (m : ℕ) → k ≤ m → vec (o + 54) k w ≡ downward n (mat 426 m n w₀) i (vec (o + 54) k w₀)
  pub others : (x : ℕ) → ((j t : ℕ) → j < 4 → t < k → x ≡ o + j * 18 + t → ⊥) → at w x ≡ at w₀ x

pub four-none : (n k o : ℕ) (w : List Float) → SolvingFour n k o 0 w w
unfolding downward
four-none n k o w = record { first = λ m h. refl; second = λ m h. refl; third = λ m h. refl; fourth = λ m h. refl; others = λ x h. refl }

module _ (n k o i : ℕ) (w₀ w : List Float) (f : Four) (d : Float) (k18 : k ≤ 18) (kn : k ≤ n) (ik : i < k) (far : 426 + n * 18 ≤ o) (long : o + 54 + k ≤ length w)
    (h : SolvingFour n k o i w₀ w) (ef : f ≡ four i (426 + i * 18) 0 o w) (ed : d ≡ at w (426 + i * 18 + i)) where
  abbrev z₁ : Float
  z₁ = (at w (o + i) ⊖ f.a) ⊘ d

  abbrev w₁ : List Float
  w₁ = set w (o + i) z₁

  abbrev z₂ : Float
  z₂ = (at w₁ (o + 18 + i) ⊖ f.b) ⊘ d

  abbrev w₂ : List Float
  w₂ = set w₁ (o + 18 + i) z₂

  abbrev z₃ : Float
  z₃ = (at w₂ (o + 36 + i) ⊖ f.c) ⊘ d

  abbrev w₃ : List Float
  w₃ = set w₂ (o + 36 + i) z₃

  abbrev z₄ : Float
  z₄ = (at w₃ (o + 54 + i) ⊖ f.d) ⊘ d

  abbrev w₄ : List Float
  w₄ = set w₃ (o + 54 + i) z₄

  -- what each write leaves alone
  past₁ : (x : ℕ) → (x ≡ o + i → ⊥) → at w₁ x ≡ at w x
  past₁ x g = get_or-set_other w (o + i) x z₁ nan g

  past₂ : (x : ℕ) → (x ≡ o + 18 + i → ⊥) → at w₂ x ≡ at w₁ x
  past₂ x g = get_or-set_other w₁ (o + 18 + i) x z₂ nan g

  past₃ : (x : ℕ) → (x ≡ o + 36 + i → ⊥) → at w₃ x ≡ at w₂ x
  past₃ x g = get_or-set_other w₂ (o + 36 + i) x z₃ nan g

  past₄ : (x : ℕ) → (x ≡ o + 54 + i → ⊥) → at w₄ x ≡ at w₃ x
  past₄ x g = get_or-set_other w₃ (o + 54 + i) x z₄ nan g

  -- R is as it was
  r-kept : (x : ℕ) → x < 426 + n * 18 → at w x ≡ at w₀ x
  r-kept x l = h.others x (λ j t hj ht e. omega arith)

  -- a stride of none leaves the row of R where it is
  same_head : (q c : ℕ) → c ≡ 0 → product i (426 + i * 18 + c) q w ≡ product i (426 + i * 18) q w
  same_head q c e = ap (λ (x : ℕ). product i x q w) (let y : 426 + i * 18 + c ≡ 426 + i * 18 = omega arith in y)

  length₁ : length w₁ ≡ length w
  length₁ = length-set w (o + i) z₁

  length₂ : length w₂ ≡ length w
  length₂ = length-set w₁ (o + 18 + i) z₂ ∙ length₁

  length₃ : length w₃ ≡ length w
  length₃ = length-set w₂ (o + 36 + i) z₃ ∙ length₂

  pub four-more : SolvingFour n k o (i + 1) w₀ w₄
  unfolding product
  four-more = record {
    first = λ m km.
        row-down n k o i w₀ w w w₄ f.a d ik k18 kn r-kept (ap (λ (g : Four). g.a) ef) ed (omega arith) (λ t l. refl)
        (λ t l. past₄ (o + t) (λ e. omega arith) ∙ past₃ (o + t) (λ e. omega arith) ∙ past₂ (o + t) (λ e. omega arith)) m km (h.first m km);
    second = λ m km.
        row-down n k (o + 18) i w₀ w w₁ w₄ f.b d ik k18 kn r-kept (ap (λ (g : Four). g.b) ef ∙ same_head (o + 18) 0 (omega arith)) ed (omega (arith, length₁))
        (λ t l. past₁ (o + 18 + t) (λ e. omega arith))
        (λ t l. past₄ (o + 18 + t) (λ e. omega arith) ∙ past₃ (o + 18 + t) (λ e. omega arith)) m km (h.second m km);
    third = λ m km.
        row-down n k (o + 36) i w₀ w w₂ w₄ f.c d ik k18 kn r-kept (ap (λ (g : Four). g.c) ef ∙ same_head (o + 36) (0 * 2) (omega arith)) ed (omega (arith, length₂))
        (λ t l. past₂ (o + 36 + t) (λ e. omega arith) ∙ past₁ (o + 36 + t) (λ e. omega arith))
        (λ t l. past₄ (o + 36 + t) (λ e. omega arith)) m km (h.third m km);
    fourth = λ m km.
        row-down n k (o + 54) i w₀ w w₃ w₄ f.d d ik k18 kn r-kept (ap (λ (g : Four). g.d) ef ∙ same_head (o + 54) (0 * 3) (omega arith)) ed (omega (arith, length₃))
        (λ t l. past₃ (o + 54 + t) (λ e. omega arith) ∙ past₂ (o + 54 + t) (λ e. omega arith) ∙ past₁ (o + 54 + t) (λ e. omega arith))
        (λ t l. refl) m km (h.fourth m km);
    others = λ x g.
        past₄ x (λ e. g 3 i (omega arith) ik (omega arith))
        ∙ past₃ x (λ e. g 2 i (omega arith) ik (omega arith))
        ∙ past₂ x (λ e. g 1 i (omega arith) ik (omega arith))
        ∙ past₁ x (λ e. g 0 i (omega arith) ik (omega arith))
        ∙ h.others x g;
  }

pub four-done : (n k o i : ℕ) (w₀ w : List Float) → i ≡ k → SolvingFour n k o i w₀ w → SolvedFour n k o w₀ w
unfolding solve_rt
four-done n k o i w₀ w e h =
    let down : (m q : ℕ) → downward n (mat 426 m n w₀) i (vec q k w₀) ≡ downward n (mat 426 m n w₀) k (vec q k w₀) = λ m q. ap (λ (t : ℕ). downward n (mat 426 m n w₀) t (vec q k w₀)) e in
    record {
      first = λ m iw km. h.first m km ∙ down m o;
      second = λ m iw km. h.second m km ∙ down m (o + 18);
      third = λ m iw km. h.third m km ∙ down m (o + 36);
      fourth = λ m iw km. h.fourth m km ∙ down m (o + 54);
      others = h.others;
    }

-- ---- entries into the solution

pub placed-none : (n : ℕ) (p : List ℕ) (w : List Float) → Placed n 0 p w w
unfolding scatter
placed-none n p w = record { value = λ m a b. refl; before = λ x h. refl; after = λ x h. refl }

pub placed-more : (n t j : ℕ) (p : List ℕ) (w₀ w : List Float) → n ≤ 66 → t < 18 → 426 ≤ length w → j < n → j ≡ nth p t
    → Placed n t p w₀ w → Placed n (t + 1) p w₀ (set w (360 + j) (at w (342 + t)))
unfolding scatter
placed-more n t j p w₀ w n66 t18 long jn e h = record {
  value = λ m tm m18.
      vec-set 360 n j w (at w (342 + t)) jn (omega arith)
      ∙ rw (add-one, ← e)
      (ap₂ (λ (l : List Float) (x : Float). set l j x) (h.value m (omega arith) m18) (h.before (342 + t) (omega arith) ∙ sym (at-vec 342 m w₀ t (omega arith))));
  before = λ x a. get_or-set_other w (360 + j) x (at w (342 + t)) nan (λ q. omega arith) ∙ h.before x a;
  after = λ x a. get_or-set_other w (360 + j) x (at w (342 + t)) nan (λ q. omega arith) ∙ h.after x a;
}

-- ---- the whole solve

pub solved-is : (m n k : ℕ) (iw : List ℕ) (w w₁ w₂ w₃ w₄ : List Float) → m ≤ 18 → k ≤ m → k ≤ n
    → AppliedQt m k 342 w w₁ → SolvedR k w₁ w₂ → Block 360 n (λ _. +0) w₂ w₃ → Placed n k iw w₃ w₄ → vec 360 n w₄ ≡ solve m n (held m n k w iw) (vec 342 m w)
unfolding solve
solved-is m n k iw w w₁ w₂ w₃ w₄ m18 km kn a b c d =
    let f : held m n k w₁ iw ≡ held m n k w iw = held_same m n k w w₁ iw iw m18 (λ x l. a.before x l) (λ x l g. a.after x (omega arith)) (λ t l. refl) in
    let y : vec 342 m w₃ ≡ solve_r n (held m n k w iw) (apply_qt m (held m n k w iw) (vec 342 m w)) =
    vec-same 342 m w₂ w₃ (λ i hi. c.before (342 + i) (omega arith))
    ∙ b.value m n m iw km kn km m18
    ∙ ap₂ (solve_r n) f (a.value n iw kn) in
    let x : vec 360 n w₃ ≡ replicate n +0 = block-vec 360 n (λ _. +0) w₂ w₃ c ∙ tab-replicate n +0 in
    d.value m km m18
    ∙ rw (y, x)
    (scatter-same k iw (nums 0 n iw) _ _ (replicate n +0) (λ t l. ap (λ (i : ℕ). nth iw i) (sym (zero-add t)) ∙ sym (nth-nums 0 n iw t (omega arith))) (λ t l. refl))
