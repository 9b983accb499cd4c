-- What the functions on four vectors side by side rest on: numbers added in pairs, and the four images.
use mathlib.Core.Path.{◌≡◌, refl, ap, ap₂, subst, ◌∙◌}
use mathlib.Core.List.{List}
use mathlib.Core.Logic.{⊎_elim}
use Prim.Native.Nat.{ℕ, ◌+◌, ◌-◌, ◌*◌, ◌≤◌, ◌<◌}
use native.Mathlib.Omega.{arith}
use lib.ListN.{length, set, length-set}
use lib.Seq.{get_or-set_same, get_or-set_other}
use lib.Ieee.{Float, nan}
use Rattle.numbers.specs.Numbers.{◌⊕◌, ◌⊗◌, ◌⊘◌, at}
use Rattle.numbers.proofs.Cases.{lt-or-ge}
use Rattle.workspace.specs.Readings.{vec}
use Rattle.workspace.proofs.Readings.{vec-same}
use Rattle.householder.specs.declared.Four.{Four}
use Rattle.householder.specs.Qr.{image}
use Rattle.householder.specs.inner.Search.{product, four, NonzeroFour}
use Rattle.householder.specs.inner.Work.{PutTwo, Lifted, Reflected, ReflectedFour}
use Rattle.householder.proofs.Reflections.{moved_value, product-kept}

-- ---- `put_two`

pub two-put : (o : ℕ) (a b : Float) (w : List Float) → o + 2 ≤ length w → PutTwo o a b w (set (set w o a) (o + 1) b)
two-put o a b w l =
    let k : length (set w o a) ≡ length w = length-set w o a in
    record {
      first = get_or-set_other (set w o a) (o + 1) o b nan (λ e. omega arith) ∙ get_or-set_same w o a nan (omega arith);
      second = get_or-set_same (set w o a) (o + 1) b nan (omega (arith, k));
      others = λ x f g. get_or-set_other (set w o a) (o + 1) x b nan g ∙ get_or-set_other w o x a nan f;
    }

-- ---- `lift_two`, `lift_one`: a column of two entries, and of one

column-two : (w w' : List Float) (p o : ℕ) (v : Float) → at w' o ≡ at w o ⊕ v ⊗ at w p → at w' (o + 1) ≡ at w (o + 1) ⊕ v ⊗ at w (p + 1)
    → (t : ℕ) → t < 2 → at w' (o + t) ≡ at w (o + t) ⊕ v ⊗ at w (p + t)
column-two w w' p o v z u t h =
    ⊎_elim
    (λ (y : t < 1). let a : o + t ≡ o = omega arith in let b : p + t ≡ p = omega arith in rw (a, b) z)
    (λ (y : 1 ≤ t). let e : t ≡ 1 = omega arith in rw e u)
    (lt-or-ge t 1)

column-one : (w w' : List Float) (p o : ℕ) (v : Float) → at w' o ≡ at w o ⊕ v ⊗ at w p → (t : ℕ) → t < 1 → at w' (o + t) ≡ at w (o + t) ⊕ v ⊗ at w (p + t)
column-one w w' p o v z t h = let a : o + t ≡ o = omega arith in let b : p + t ≡ p = omega arith in rw (a, b) z

module _ (p q : ℕ) (s : Four) (w w₁ w₂ w₃ w₄ : List Float) (P₁ : PutTwo q (at w q ⊕ s.a ⊗ at w p) (at w (q + 1) ⊕ s.a ⊗ at w (p + 1)) w w₁)
    (P₂ : PutTwo (q + 18) (at w (q + 18) ⊕ s.b ⊗ at w p) (at w (q + 18 + 1) ⊕ s.b ⊗ at w (p + 1)) w₁ w₂)
    (P₃ : PutTwo (q + 36) (at w (q + 36) ⊕ s.c ⊗ at w p) (at w (q + 36 + 1) ⊕ s.c ⊗ at w (p + 1)) w₂ w₃)
    (P₄ : PutTwo (q + 54) (at w (q + 54) ⊕ s.d ⊗ at w p) (at w (q + 54 + 1) ⊕ s.d ⊗ at w (p + 1)) w₃ w₄) where
  past₄ : (x : ℕ) → x < q + 54 → at w₄ x ≡ at w₃ x
  past₄ x h = P₄.others x (λ e. omega arith) (λ e. omega arith)

  past₃ : (x : ℕ) → x < q + 36 → at w₄ x ≡ at w₂ x
  past₃ x h = past₄ x (omega arith) ∙ P₃.others x (λ e. omega arith) (λ e. omega arith)

  past₂ : (x : ℕ) → x < q + 18 → at w₄ x ≡ at w₁ x
  past₂ x h = past₃ x (omega arith) ∙ P₂.others x (λ e. omega arith) (λ e. omega arith)

  pub lifted-two : Lifted p q 2 s w w₄
  lifted-two = record {
    first = column-two w w₄ p q s.a (past₂ q (omega arith) ∙ P₁.first) (past₂ (q + 1) (omega arith) ∙ P₁.second);
    second = column-two w w₄ p (q + 18) s.b (past₃ (q + 18) (omega arith) ∙ P₂.first) (past₃ (q + 18 + 1) (omega arith) ∙ P₂.second);
    third = column-two w w₄ p (q + 36) s.c (past₄ (q + 36) (omega arith) ∙ P₃.first) (past₄ (q + 36 + 1) (omega arith) ∙ P₃.second);
    fourth = column-two w w₄ p (q + 54) s.d P₄.first P₄.second;
    others = λ x g.
        P₄.others x (λ e. g 3 0 (omega arith) (omega arith) (omega arith)) (λ e. g 3 1 (omega arith) (omega arith) (omega arith))
        ∙ P₃.others x (λ e. g 2 0 (omega arith) (omega arith) (omega arith)) (λ e. g 2 1 (omega arith) (omega arith) (omega arith))
        ∙ P₂.others x (λ e. g 1 0 (omega arith) (omega arith) (omega arith)) (λ e. g 1 1 (omega arith) (omega arith) (omega arith))
        ∙ P₁.others x (λ e. g 0 0 (omega arith) (omega arith) (omega arith)) (λ e. g 0 1 (omega arith) (omega arith) (omega arith));
  }

module _ (p q : ℕ) (s : Four) (w : List Float) (long : q + 55 ≤ length w) where
  abbrev v₁ : Float
  v₁ = at w q ⊕ s.a ⊗ at w p

  abbrev w₁ : List Float
  w₁ = set w q v₁

  abbrev v₂ : Float
  v₂ = at w₁ (q + 18) ⊕ s.b ⊗ at w p

  abbrev w₂ : List Float
  w₂ = set w₁ (q + 18) v₂

  abbrev v₃ : Float
  v₃ = at w₂ (q + 36) ⊕ s.c ⊗ at w p

  abbrev w₃ : List Float
  w₃ = set w₂ (q + 36) v₃

  abbrev v₄ : Float
  v₄ = at w₃ (q + 54) ⊕ s.d ⊗ at w p

  abbrev w₄ : List Float
  w₄ = set w₃ (q + 54) v₄

  -- what each write leaves alone
  but₁ : (x : ℕ) → (x ≡ q → ⊥) → at w₁ x ≡ at w x
  but₁ x g = get_or-set_other w q x v₁ nan g

  but₂ : (x : ℕ) → (x ≡ q + 18 → ⊥) → at w₂ x ≡ at w₁ x
  but₂ x g = get_or-set_other w₁ (q + 18) x v₂ nan g

  but₃ : (x : ℕ) → (x ≡ q + 36 → ⊥) → at w₃ x ≡ at w₂ x
  but₃ x g = get_or-set_other w₂ (q + 36) x v₃ nan g

  but₄ : (x : ℕ) → (x ≡ q + 54 → ⊥) → at w₄ x ≡ at w₃ x
  but₄ x g = get_or-set_other w₃ (q + 54) x v₄ nan g

  length₁ : length w₁ ≡ length w
  length₁ = length-set w q v₁

  length₂ : length w₂ ≡ length w
  length₂ = length-set w₁ (q + 18) v₂ ∙ length₁

  length₃ : length w₃ ≡ length w
  length₃ = length-set w₂ (q + 36) v₃ ∙ length₂

  pub lifted-one : Lifted p q 1 s w w₄
  lifted-one = record {
    first = column-one w w₄ p q s.a
        (but₄ q (λ e. omega arith) ∙ but₃ q (λ e. omega arith) ∙ but₂ q (λ e. omega arith) ∙ get_or-set_same w q v₁ nan (omega arith));
    second = column-one w w₄ p (q + 18) s.b
        (but₄ (q + 18) (λ e. omega arith)
        ∙ but₃ (q + 18) (λ e. omega arith)
        ∙ get_or-set_same w₁ (q + 18) v₂ nan (omega (arith, length₁))
        ∙ ap (λ (y : Float). y ⊕ s.b ⊗ at w p) (but₁ (q + 18) (λ e. omega arith)));
    third = column-one w w₄ p (q + 36) s.c
        (but₄ (q + 36) (λ e. omega arith)
        ∙ get_or-set_same w₂ (q + 36) v₃ nan (omega (arith, length₂))
        ∙ ap (λ (y : Float). y ⊕ s.c ⊗ at w p) (but₂ (q + 36) (λ e. omega arith) ∙ but₁ (q + 36) (λ e. omega arith)));
    fourth = column-one w w₄ p (q + 54) s.d
        (get_or-set_same w₃ (q + 54) v₄ nan (omega (arith, length₃))
        ∙ ap (λ (y : Float). y ⊕ s.d ⊗ at w p) (but₃ (q + 54) (λ e. omega arith) ∙ but₂ (q + 54) (λ e. omega arith) ∙ but₁ (q + 54) (λ e. omega arith)));
    others = λ x g.
        but₄ x (λ e. g 3 0 (omega arith) (omega arith) (omega arith))
        ∙ but₃ x (λ e. g 2 0 (omega arith) (omega arith) (omega arith))
        ∙ but₂ x (λ e. g 1 0 (omega arith) (omega arith) (omega arith))
        ∙ but₁ x (λ e. g 0 0 (omega arith) (omega arith) (omega arith));
  }

-- ---- `lift_four`: t entries of each are done, and e more

pub lifted-none : (p q n : ℕ) (s : Four) (w : List Float) → n ≡ 0 → Lifted p q n s w w
lifted-none p q n s w e =
    record { first = λ t h. absurd (omega arith); second = λ t h. absurd (omega arith); third = λ t h. absurd (omega arith); fourth = λ t h. absurd (omega arith); others = λ x g. refl }

pub lifted-at : (p q n n' : ℕ) (s : Four) (w w' : List Float) → n ≡ n' → Lifted p q n s w w' → Lifted p q n' s w w'
lifted-at p q n n' s w w' e = subst (λ (x : ℕ). Lifted p q x s w w') e

grown : (p o t e : ℕ) (v : Float) (w₀ w w' : List Float) → ((i : ℕ) → i < t → at w (o + i) ≡ at w₀ (o + i) ⊕ v ⊗ at w₀ (p + i))
    → ((i : ℕ) → i < e → at w' (o + t + i) ≡ at w (o + t + i) ⊕ v ⊗ at w (p + t + i)) → ((i : ℕ) → i < t → at w' (o + i) ≡ at w (o + i))
    → ((i : ℕ) → t ≤ i → i < t + e → at w (o + i) ≡ at w₀ (o + i)) → ((i : ℕ) → i < t + e → at w (p + i) ≡ at w₀ (p + i))
    → (i : ℕ) → i < t + e → at w' (o + i) ≡ at w₀ (o + i) ⊕ v ⊗ at w₀ (p + i)
grown p o t e v w₀ w w' a b keep free u i h =
    ⊎_elim
    (λ (y : i < t). keep i y ∙ a i y)
    (λ (y : t ≤ i).
    let x : o + t + (i - t) ≡ o + i = omega arith in
    let z : p + t + (i - t) ≡ p + i = omega arith in
    (rw (x, z) at (b (i - t) (omega arith))) ∙ ap₂ (λ (l r : Float). l ⊕ v ⊗ r) (free i y h) (u i h))
    (lt-or-ge i t)

pub lifted-more : (p q t e : ℕ) (s : Four) (w₀ w w' : List Float) → p + (t + e) ≤ q → t + e ≤ 18 → Lifted p q t s w₀ w → Lifted (p + t) (q + t) e s w w'
    → Lifted p q (t + e) s w₀ w'
lifted-more p q t e s w₀ w w' pq te A B =
    let u : (i : ℕ) → i < t + e → at w (p + i) ≡ at w₀ (p + i) = λ i h. A.others (p + i) (λ j r hj hr x. omega arith) in
    record {
      first = grown p q t e s.a w₀ w w' A.first B.first (λ i h. B.others (q + i) (λ j r hj hr x. omega arith))
          (λ i y h. A.others (q + i) (λ j r hj hr x. omega arith)) u;
      second = grown p (q + 18) t e s.b w₀ w w' A.second (λ i h. let z : q + 18 + t + i ≡ q + t + 18 + i = omega arith in rw z (B.second i h))
          (λ i h. B.others (q + 18 + i) (λ j r hj hr x. omega arith)) (λ i y h. A.others (q + 18 + i) (λ j r hj hr x. omega arith)) u;
      third = grown p (q + 36) t e s.c w₀ w w' A.third (λ i h. let z : q + 36 + t + i ≡ q + t + 36 + i = omega arith in rw z (B.third i h))
          (λ i h. B.others (q + 36 + i) (λ j r hj hr x. omega arith)) (λ i y h. A.others (q + 36 + i) (λ j r hj hr x. omega arith)) u;
      fourth = grown p (q + 54) t e s.d w₀ w w' A.fourth (λ i h. let z : q + 54 + t + i ≡ q + t + 54 + i = omega arith in rw z (B.fourth i h))
          (λ i h. B.others (q + 54 + i) (λ j r hj hr x. omega arith)) (λ i y h. A.others (q + 54 + i) (λ j r hj hr x. omega arith)) u;
      others = λ x g. B.others x (λ j r hj hr z. g j (t + r) hj (omega arith) (omega arith)) ∙ A.others x (λ j r hj hr z. g j r hj (omega arith) z);
    }

-- ---- the four images

four-places : (P : ℕ → Type 0) (o : ℕ) → P o → P (o + 18) → P (o + 36) → P (o + 54) → (j : ℕ) → j < 4 → P (o + j * 18)
four-places P o a b c d j h =
    ⊎_elim
    (λ (x : j < 1). subst P (let e : o ≡ o + j * 18 = omega arith in e) a)
    (λ (x : 1 ≤ j).
    ⊎_elim
    (λ (y : j < 2). subst P (let e : o + 18 ≡ o + j * 18 = omega arith in e) b)
    (λ (y : 2 ≤ j).
    ⊎_elim
    (λ (z : j < 3). subst P (let e : o + 36 ≡ o + j * 18 = omega arith in e) c)
    (λ (z : 3 ≤ j). subst P (let e : o + 54 ≡ o + j * 18 = omega arith in e) d)
    (lt-or-ge j 3))
    (lt-or-ge j 2))
    (lt-or-ge j 1)

module _ (m k o : ℕ) (w : List Float) (m18 : m ≤ 18) (km : k < m) (low : 342 ≤ o) where
  -- one after the other
  pub each-reflected : (w₁ w₂ w₃ w₄ : List Float) → Reflected m k o w w₁ → Reflected m k (o + 18) w₁ w₂ → Reflected m k (o + 36) w₂ w₃ → Reflected m k (o + 54) w₃ w₄
      → ReflectedFour m k o w w₄
  each-reflected w₁ w₂ w₃ w₄ r₁ r₂ r₃ r₄ =
      let low₁ : (x : ℕ) → x < o → at w₁ x ≡ at w x = λ x h. r₁.before x h in
      let low₂ : (x : ℕ) → x < o → at w₂ x ≡ at w x = λ x h. r₂.before x (omega arith) ∙ low₁ x h in
      let low₃ : (x : ℕ) → x < o → at w₃ x ≡ at w x = λ x h. r₃.before x (omega arith) ∙ low₂ x h in
      let moved : (v : List Float) → ((x : ℕ) → x < o → at v x ≡ at w x) → (y : List Float) → image m k (vec (k * 18) m v) (at v (324 + k)) y ≡ image m k (vec (k * 18) m w) (at w (324 + k)) y =
      λ v l y. ap₂ (λ (u : List Float) (b : Float). image m k u b y) (vec-same (k * 18) m w v (λ i h. l (k * 18 + i) (omega arith))) (l (324 + k) (omega arith)) in
      let here : (v : List Float) (p : ℕ) → ((x : ℕ) → p ≤ x → at v x ≡ at w x) → image m k (vec (k * 18) m w) (at w (324 + k)) (vec p m v) ≡ image m k (vec (k * 18) m w) (at w (324 + k)) (vec p m w) =
      λ v p l. ap (image m k (vec (k * 18) m w) (at w (324 + k))) (vec-same p m w v (λ i h. l (p + i) (omega arith))) in
      record {
        values =
            four-places (λ (p : ℕ). vec p m w₄ ≡ image m k (vec (k * 18) m w) (at w (324 + k)) (vec p m w)) o
            (vec-same o m w₁ w₄ (λ i h. r₄.before (o + i) (omega arith) ∙ r₃.before (o + i) (omega arith) ∙ r₂.before (o + i) (omega arith)) ∙ r₁.value)
            (vec-same (o + 18) m w₂ w₄ (λ i h. r₄.before (o + 18 + i) (omega arith) ∙ r₃.before (o + 18 + i) (omega arith))
            ∙ r₂.value
            ∙ moved w₁ low₁ (vec (o + 18) m w₁)
            ∙ here w₁ (o + 18) (λ x h. r₁.after x (omega arith)))
            (vec-same (o + 36) m w₃ w₄ (λ i h. r₄.before (o + 36 + i) (omega arith))
            ∙ r₃.value
            ∙ moved w₂ low₂ (vec (o + 36) m w₂)
            ∙ here w₂ (o + 36) (λ x h. r₂.after x (omega arith) ∙ r₁.after x (omega arith)))
            (r₄.value
            ∙ moved w₃ low₃ (vec (o + 54) m w₃)
            ∙ here w₃ (o + 54) (λ x h. r₃.after x (omega arith) ∙ r₂.after x (omega arith) ∙ r₁.after x (omega arith)));
        before = λ x h. r₄.before x (omega arith) ∙ low₃ x h;
        after = λ x h. r₄.after x (omega arith) ∙ r₃.after x (omega arith) ∙ r₂.after x (omega arith) ∙ r₁.after x (omega arith);
      }

  -- together
  module _ (s : Four) (es : s ≡ four (m - k) (k * 18 + k) 0 (o + k) w) where
    product_at : (p q p' q' : ℕ) → p ≡ p' → q ≡ q' → product (m - k) p q w ≡ product (m - k) p' q' w
    product_at p q p' q' a b = product-kept (m - k) p q p' q' w w a b (λ t h. refl) (λ t h. refl)

    pub together-reflected : (w' : List Float) → NonzeroFour s
        → Lifted (k * 18 + k) (o + k) (m - k) (record { a = s.a ⊘ at w (324 + k); b = s.b ⊘ at w (324 + k); c = s.c ⊘ at w (324 + k); d = s.d ⊘ at w (324 + k) }) w w'
        → ReflectedFour m k o w w'
    together-reflected w' z L = record {
      values =
          four-places (λ (p : ℕ). vec p m w' ≡ image m k (vec (k * 18) m w) (at w (324 + k)) (vec p m w)) o
          (moved_value m k o w km s.a (ap (λ (f : Four). f.a) es) w' z.a (λ i h. L.others (o + i) (λ j t hj ht e. omega arith)) L.first)
          (moved_value m k (o + 18) w km s.b (ap (λ (f : Four). f.b) es ∙ product_at _ _ (k * 18 + k) (o + 18 + k) (omega arith) (omega arith)) w' z.b
          (λ i h. L.others (o + 18 + i) (λ j t hj ht e. omega arith))
          (λ t h. let e : o + 18 + k + t ≡ o + k + 18 + t = omega arith in rw e (L.second t h)))
          (moved_value m k (o + 36) w km s.c (ap (λ (f : Four). f.c) es ∙ product_at _ _ (k * 18 + k) (o + 36 + k) (omega arith) (omega arith)) w' z.c
          (λ i h. L.others (o + 36 + i) (λ j t hj ht e. omega arith))
          (λ t h. let e : o + 36 + k + t ≡ o + k + 36 + t = omega arith in rw e (L.third t h)))
          (moved_value m k (o + 54) w km s.d (ap (λ (f : Four). f.d) es ∙ product_at _ _ (k * 18 + k) (o + 54 + k) (omega arith) (omega arith)) w' z.d
          (λ i h. L.others (o + 54 + i) (λ j t hj ht e. omega arith))
          (λ t h. let e : o + 54 + k + t ≡ o + k + 54 + t = omega arith in rw e (L.fourth t h)));
      before = λ x h. L.others x (λ j t hj ht e. omega arith);
      after = λ x h. L.others x (λ j t hj ht e. omega arith);
    }
