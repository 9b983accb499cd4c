-- A passive set as binary digits: marks of at most 1 are told by the number that they make.
use mathlib.Core.Path.{◌≡◌, refl, sym, ap, ◌∙◌, subst}
use mathlib.Core.Logic.{inl, inr}
use mathlib.Core.List.{List}
use Prim.Native.Nat.{ℕ, zero, suc, ◌+◌, ◌-◌, ◌*◌, ◌^◌, ◌≤◌, ◌<◌}
use native.Mathlib.Nat.{not-suc-le-zero, eq-or-lt_of_le, le_of_suc-le-suc, zero-add, lt_of_lt_of_le}
use native.Mathlib.Omega.{arith}
use lib.ListN.{length}
use lib.Pow.{pow_mono}
use lib.Seq.{ext_get_or}
use Rattle.numbers.specs.Numbers.{nth}
use Rattle.numbers.proofs.Cases.{lt-or-ge}
use Rattle.workspace.specs.Readings.{nums}
use Rattle.workspace.proofs.Readings.{nth-front}
use Rattle.nnls.specs.inner.Memory.{bits, front, Digits}

pub bits_none : (p : List ℕ) (o c : ℕ) → ((i : ℕ) → i < c → nth p (o + i) ≡ 0) → bits p o c ≡ 0
unfolding bits
bits_none p o zero h = refl
bits_none p o (suc c) h = let a = bits_none p o c (λ i l. h i (omega arith)) in omega (arith, a, h c (omega arith))

pub bits-same : (p q : List ℕ) (o c : ℕ) → ((i : ℕ) → i < c → nth p (o + i) ≡ nth q (o + i)) → bits p o c ≡ bits q o c
unfolding bits
bits-same p q o zero h = refl
bits-same p q o (suc c) h = let a = bits-same p q o c (λ i l. h i (omega arith)) in omega (arith, a, h c (omega arith))

-- one more digit
pub bits-more : (p : List ℕ) (o c : ℕ) → bits p o (c + 1) ≡ 2 * bits p o c + nth p (o + c)
unfolding bits
bits-more p o c = ap (bits p o) (let e : c + 1 ≡ suc c = omega arith in e)

pub bits-lt : (p : List ℕ) (o c : ℕ) → ((i : ℕ) → i < c → nth p (o + i) ≤ 1) → bits p o c < 2 ^ c
unfolding bits
bits-lt p o zero h = omega arith
bits-lt p o (suc c) h = let a = bits-lt p o c (λ i l. h i (omega arith)) in omega (arith, a, h c (omega arith))

-- the same number, the same digits
pub bits-told : (p q : List ℕ) (o c : ℕ) → ((i : ℕ) → i < c → nth p (o + i) ≤ 1) → ((i : ℕ) → i < c → nth q (o + i) ≤ 1) → bits p o c ≡ bits q o c
    → (i : ℕ) → i < c → nth p (o + i) ≡ nth q (o + i)
unfolding bits
bits-told p q o zero a b e i h = absurd (not-suc-le-zero h)
bits-told p q o (suc c) a b e i h =
    let u = a c (omega arith) in
    let v = b c (omega arith) in
    let t : bits p o c ≡ bits q o c = omega (arith, e, u, v) in
    elim (eq-or-lt_of_le (le_of_suc-le-suc h)) [
      | inl r ↦ subst (λ (j : ℕ). nth p (o + j) ≡ nth q (o + j)) (sym r) (let l : nth p (o + c) ≡ nth q (o + c) = omega (arith, e, u, v) in l)
      | inr r ↦ bits-told p q o c (λ i l. a i (omega arith)) (λ i l. b i (omega arith)) t i r
    ]

-- the same two numbers, the same set
pub digits-told : (n low high : ℕ) (p q : List ℕ) → length p ≡ n → length q ≡ n → ((j : ℕ) → j < n → nth p j ≤ 1) → ((j : ℕ) → j < n → nth q j ≤ 1)
    → Digits n p low high → Digits n q low high → p ≡ q
digits-told n low high p q lp lq a b dp dq =
    ext_get_or 0 p q (lp ∙ sym lq) (λ j l. let h : j < n = omega (arith, l, lp) in told j h)
  where
    low_told : (i : ℕ) → i < front n → nth p (0 + i) ≡ nth q (0 + i)
    low_told = bits-told p q 0 (front n) (λ i l. a (0 + i) (omega arith)) (λ i l. b (0 + i) (omega arith)) (sym dp.first ∙ dq.first)

    high-told : (i : ℕ) → i < n - front n → nth p (front n + i) ≡ nth q (front n + i)
    high-told = bits-told p q (front n) (n - front n) (λ i l. a (front n + i) (omega arith)) (λ i l. b (front n + i) (omega arith)) (sym dp.second ∙ dq.second)

    told : (j : ℕ) → j < n → nth p j ≡ nth q j
    told j h = elim (lt-or-ge j (front n)) [
      | inl g ↦ subst (λ (x : ℕ). nth p x ≡ nth q x) (zero-add j) (low_told j g)
      | inr g ↦ let e : front n + (j - front n) ≡ j = omega arith in subst (λ (x : ℕ). nth p x ≡ nth q x) e (high-told (j - front n) (omega arith))
    ]

-- ---- the loop that makes the number

pub bits-start : (p : List ℕ) (o : ℕ) → 0 ≡ bits p o 0
unfolding bits
bits-start p o = refl

-- at most 33 digits
pub bits_below : (p : List ℕ) (o c : ℕ) → c ≤ 33 → ((i : ℕ) → i < c → nth p (o + i) ≤ 1) → bits p o c < 8589934592
bits_below p o c l h = lt_of_lt_of_le (bits-lt p o c h) (pow_mono l)

-- the two numbers read from the words
pub read-digits : (n h low high : ℕ) (l : List ℕ) → h ≡ front n → low ≡ bits l 0 h → high ≡ bits l h (n - h) → Digits n (nums 0 n l) low high
read-digits n h low high l e a b =
    let c : low ≡ bits l 0 (front n) = a ∙ ap (bits l 0) e in
    let d : high ≡ bits l (front n) (n - front n) = b ∙ ap (λ (x : ℕ). bits l x (n - x)) e in
    record {
      first = c ∙ bits-same l (nums 0 n l) 0 (front n) (λ i h. sym (nth-front n (0 + i) l (omega arith)));
      second = d ∙ bits-same l (nums 0 n l) (front n) (n - front n) (λ i h. sym (nth-front n (front n + i) l (omega arith)));
    }
