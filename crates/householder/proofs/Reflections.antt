-- What `reflect` and `turn` rest on: a dot product and stores in place give the vector's image.
use mathlib.Core.Path.{◌≡◌, refl, sym, ap, ap₂, subst, ◌∙◌}
use mathlib.Core.Bool.{true, false, cond}
use mathlib.Core.List.{List}
use mathlib.Core.Logic.{⊎_elim}
use Prim.Native.Nat.{ℕ, ◌+◌, ◌-◌, ◌*◌, ◌≤◌, ◌<◌}
use native.Mathlib.Omega.{arith}
use lib.Dec.{ltb}
use lib.Ieee.{Float, binary64, eq, of_bits}
use borrow.Author.Tests.{lt-ltb, le-ltb}
use Rattle.numbers.specs.Numbers.{+0, ◌⊕◌, ◌⊗◌, ◌⊘◌, Σ, at, tab}
use Rattle.numbers.proofs.Cases.{lt-or-ge}
use Rattle.numbers.proofs.Sums.{Σ-same}
use Rattle.workspace.specs.Readings.{vec, Block}
use Rattle.workspace.proofs.Readings.{lit-+0, at-vec, vec-is, vec-same}
use Rattle.householder.specs.Qr.{along, image}
use Rattle.householder.specs.inner.Search.{product}
use Rattle.householder.specs.inner.Work.{Reflected, ReflectedFour, Turned}

pub image-stays : (m k : ℕ) (u : List Float) (b : Float) (v : List Float) → eq (along m k u v) +0 ≡ true → image m k u b v ≡ v
unfolding image
image-stays m k u b v h = rw h

pub image-moves : (m k : ℕ) (u : List Float) (b : Float) (v : List Float) → eq (along m k u v) +0 ≡ false
    → image m k u b v ≡ tab m (λ i. cond (ltb i k) (at v i) (at v i ⊕ (along m k u v ⊘ b) ⊗ at u i))
unfolding image
image-moves m k u b v h = rw h

-- ---- `reflect_by`

module _ (m k o : ℕ) (w : List Float) (km : k < m) where
  along-is : product (m - k) (k * 18 + k) (o + k) w ≡ along m k (vec (k * 18) m w) (vec o m w)
  unfolding along product
  along-is =
      Σ-same (m - k) _ _
      (λ t h.
      ap₂ ◌⊗◌
      (ap (λ (x : ℕ). at w x) (omega arith) ∙ sym (at-vec (k * 18) m w (k + t) (omega arith)))
      (ap (λ (x : ℕ). at w x) (omega arith) ∙ sym (at-vec o m w (k + t) (omega arith))))

  module _ (d : Float) (hd : d ≡ product (m - k) (k * 18 + k) (o + k) w) where
    d-is : d ≡ along m k (vec (k * 18) m w) (vec o m w)
    d-is = hd ∙ along-is

    pub reflect-stays : eq d (of_bits binary64 0) ≡ true → Reflected m k o w w
    reflect-stays z = record {
      value = sym (image-stays m k (vec (k * 18) m w) (at w (324 + k)) (vec o m w) (rw (← d-is, ← lit-+0) z));
      before = λ x h. refl;
      after = λ x h. refl;
    }

    -- the entries from k on lifted, and those before as they were
    pub moved_value : (w' : List Float) → eq d (of_bits binary64 0) ≡ false → ((i : ℕ) → i < k → at w' (o + i) ≡ at w (o + i))
        → ((t : ℕ) → t < m - k → at w' (o + k + t) ≡ at w (o + k + t) ⊕ (d ⊘ at w (324 + k)) ⊗ at w (k * 18 + k + t))
        → vec o m w' ≡ image m k (vec (k * 18) m w) (at w (324 + k)) (vec o m w)
    moved_value w' z front inside =
        vec-is o m w' (λ i. cond (ltb i k) (at (vec o m w) i) (at (vec o m w) i ⊕ (d ⊘ at w (324 + k)) ⊗ at (vec (k * 18) m w) i))
        (λ i hi.
        ⊎_elim
        (λ (a : i < k). rw (lt-ltb i k a) (front i a ∙ sym (at-vec o m w i hi)))
        (λ (a : k ≤ i).
        rw (le-ltb i k a)
        (ap (λ (x : ℕ). at w' x) (omega arith)
        ∙ inside (i - k) (omega arith)
        ∙ ap₂ ◌⊕◌
        (ap (λ (x : ℕ). at w x) (omega arith) ∙ sym (at-vec o m w i hi))
        (ap (λ (x : Float). (d ⊘ at w (324 + k)) ⊗ x) (ap (λ (x : ℕ). at w x) (omega arith) ∙ sym (at-vec (k * 18) m w i hi)))))
        (lt-or-ge i k))
        ∙ ap (λ (q : Float). tab m (λ i. cond (ltb i k) (at (vec o m w) i) (at (vec o m w) i ⊕ (q ⊘ at w (324 + k)) ⊗ at (vec (k * 18) m w) i))) d-is
        ∙ sym (image-moves m k (vec (k * 18) m w) (at w (324 + k)) (vec o m w) (rw (← d-is, ← lit-+0) z))

    pub reflect-moves : (w' : List Float) → eq d (of_bits binary64 0) ≡ false
        → Block (o + k) (m - k) (λ t. at w (o + k + t) ⊕ (d ⊘ at w (324 + k)) ⊗ at w (k * 18 + k + t)) w w' → Reflected m k o w w'
    reflect-moves w' z r = record {
      value = moved_value w' z (λ i a. r.before (o + i) (omega arith)) r.inside;
      before = λ x h. r.before x (omega arith);
      after = λ x h. r.after x (omega arith);
    }

-- ---- `turn`: the columns past k, one after the other

pub turned_none : (m k : ℕ) (w : List Float) → Turned m k (k + 1) w w
turned_none m k w = record { columns = λ q a b. absurd (omega arith); before = λ x a. refl; after = λ x a. refl }

module _ (m k j : ℕ) (w₀ w w' : List Float) (m18 : m ≤ 18) (km : k < m) (kj : k < j) (r : Reflected m k (426 + j * 18) w w') where
  pub turned_more : Turned m k j w₀ w → Turned m k (j + 1) w₀ w'
  turned_more h =
      let u : vec (k * 18) m w ≡ vec (k * 18) m w₀ = vec-same (k * 18) m w₀ w (λ i hi. h.before (k * 18 + i) (omega arith)) in
      let b : at w (324 + k) ≡ at w₀ (324 + k) = h.before (324 + k) (omega arith) in
      let v : vec (426 + j * 18) m w ≡ vec (426 + j * 18) m w₀ = vec-same (426 + j * 18) m w₀ w (λ i hi. h.after (426 + j * 18 + i) (omega arith)) in
      record {
        columns = λ q kq qj.
            ⊎_elim
            (λ (y : q < j). vec-same (426 + q * 18) m w w' (λ i hi. r.before (426 + q * 18 + i) (omega arith)) ∙ h.columns q kq y)
            (λ (y : j ≤ q). let z : q ≡ j = omega arith in rw z (r.value ∙ cc))
            (lt-or-ge q j);
        before = λ x a. r.before x (omega arith) ∙ h.before x a;
        after = λ x a. r.after x (omega arith) ∙ h.after x (omega arith);
      }

pub turned-at : (m k j j' : ℕ) (w₀ w : List Float) → j ≡ j' → Turned m k j w₀ w → Turned m k j' w₀ w
turned-at m k j j' w₀ w e = subst (λ (x : ℕ). Turned m k x w₀ w) e

-- ---- `reflect_each`, `turn_four`

-- a product of numbers that stand as they were
pub product-kept : (n p q p' q' : ℕ) (w w' : List Float) → p ≡ p' → q ≡ q' → ((t : ℕ) → t < n → at w' (p' + t) ≡ at w (p' + t))
    → ((t : ℕ) → t < n → at w' (q' + t) ≡ at w (q' + t)) → product n p q w ≡ product n p' q' w'
unfolding product
product-kept n p q p' q' w w' ep eq a b =
    ap₂ (λ (x y : ℕ). Σ n (λ t. at w (x + t) ⊗ at w (y + t))) ep eq ∙ Σ-same n _ _ (λ t h. ap₂ ◌⊗◌ (sym (a t h)) (sym (b t h)))

-- the products of u with the three columns behind o, when those before each have been reflected
module _ (m k o : ℕ) (w w₁ : List Float) (m18 : m ≤ 18) (km : k < m) (low : 342 ≤ o) (r₁ : Reflected m k o w w₁) where
  pub second-kept : product (m - k) (k * 18 + k + 0) (o + k + 18) w ≡ product (m - k) (k * 18 + k) (o + 18 + k) w₁
  second-kept =
      product-kept (m - k) _ _ (k * 18 + k) (o + 18 + k) w w₁ (omega arith) (omega arith) (λ t h. r₁.before (k * 18 + k + t) (omega arith))
      (λ t h. r₁.after (o + 18 + k + t) (omega arith))

  module _ (w₂ : List Float) (r₂ : Reflected m k (o + 18) w₁ w₂) where
    pub third-kept : product (m - k) (k * 18 + k + 0) (o + k + 36) w ≡ product (m - k) (k * 18 + k) (o + 36 + k) w₂
    third-kept =
        product-kept (m - k) _ _ (k * 18 + k) (o + 36 + k) w w₂ (omega arith) (omega arith)
        (λ t h. r₂.before (k * 18 + k + t) (omega arith) ∙ r₁.before (k * 18 + k + t) (omega arith))
        (λ t h. r₂.after (o + 36 + k + t) (omega arith) ∙ r₁.after (o + 36 + k + t) (omega arith))

    module _ (w₃ : List Float) (r₃ : Reflected m k (o + 36) w₂ w₃) where
      pub fourth-kept : product (m - k) (k * 18 + k + 0) (o + k + 54) w ≡ product (m - k) (k * 18 + k) (o + 54 + k) w₃
      fourth-kept =
          product-kept (m - k) _ _ (k * 18 + k) (o + 54 + k) w w₃ (omega arith) (omega arith)
          (λ t h. r₃.before (k * 18 + k + t) (omega arith) ∙ r₂.before (k * 18 + k + t) (omega arith) ∙ r₁.before (k * 18 + k + t) (omega arith))
          (λ t h. r₃.after (o + 54 + k + t) (omega arith) ∙ r₂.after (o + 54 + k + t) (omega arith) ∙ r₁.after (o + 54 + k + t) (omega arith))

pub turned-four : (m k j : ℕ) (w₀ w w' : List Float) → m ≤ 18 → k < m → k < j → ReflectedFour m k (426 + j * 18) w w' → Turned m k j w₀ w → Turned m k (j + 4) w₀ w'
turned-four m k j w₀ w w' m18 km kj r h =
    let u : vec (k * 18) m w ≡ vec (k * 18) m w₀ = vec-same (k * 18) m w₀ w (λ i hi. h.before (k * 18 + i) (omega arith)) in
    let b : at w (324 + k) ≡ at w₀ (324 + k) = h.before (324 + k) (omega arith) in
    record {
      columns = λ q kq qj.
          ⊎_elim
          (λ (y : q < j). vec-same (426 + q * 18) m w w' (λ i hi. r.before (426 + q * 18 + i) (omega arith)) ∙ h.columns q kq y)
          (λ (y : j ≤ q).
          let e : 426 + j * 18 + (q - j) * 18 ≡ 426 + q * 18 = omega arith in
          let v : vec (426 + q * 18) m w ≡ vec (426 + q * 18) m w₀ = vec-same (426 + q * 18) m w₀ w (λ i hi. h.after (426 + q * 18 + i) (omega arith)) in
          (rw e at (r.values (q - j) (omega arith))) ∙ rw (u, b, v))
          (lt-or-ge q j);
      before = λ x a. r.before x (omega arith) ∙ h.before x a;
      after = λ x a. r.after x (omega arith) ∙ h.after x (omega arith);
    }
