-- The pivot is the first of the columns with the largest norm.
use mathlib.Core.Path.{◌≡◌, refl, sym, subst}
use mathlib.Core.Logic.{◌⊎◌, inl, inr}
use mathlib.Core.Bool.{Bool, true, false, cond}
use mathlib.Core.List.{List}
use Prim.Native.Nat.{ℕ, zero, suc, ◌+◌, ◌<◌}
use native.Mathlib.Nat.{not-suc-le-zero}
use native.Mathlib.Omega.{arith}
use lib.Dec.{T}
use lib.Ieee.{Float, nan, inf, fin, lt}
use Rattle.numbers.specs.Numbers.{ -1}
use Rattle.numbers.proofs.Cases.{last-or-before}
use Rattle.numbers.proofs.Order.{lt-asym, lt_irrefl, lt-between, above_no_nan}
use Rattle.householder.specs.Qr.{column_norm, pivot, better}
use Rattle.householder.specs.declared.Candidate.{Candidate}
use Rattle.householder.specs.Claims.{PivotFirst, FirstLargest}

to-true : (b : Bool) → T b → b ≡ true
to-true true t = refl
to-true false t = absurd t

-- a float is a NaN or not
nan-or-not : (v : Float) → (v ≡ nan) ⊎ (v ≡ nan → ⊥)
nan-or-not nan = inl refl
nan-or-not (inf s) = inr (λ e. let z : ◌≡◌ {A = ℕ} 0 1 = cc in omega arith)
nan-or-not (fin s m e) = inr (λ p. let z : ◌≡◌ {A = ℕ} 0 1 = cc in omega arith)

minus-one-number : -1 ≡ nan → ⊥
minus-one-number e = let z : ◌≡◌ {A = ℕ} 0 1 = cc in omega arith

-- v is not above what is not above x, if x < v
not-above : (x v u : Float) → (x ≡ nan → ⊥) → T (lt x v) → lt x u ≡ false → lt v u ≡ false
not-above x v u n h p = go (lt v u) refl
  where
    go : (b : Bool) → lt v u ≡ b → lt v u ≡ false
    go true e = absurd (elim (lt-between v x u n (subst T (sym e) tt)) [ inl t ↦ subst T (lt-asym x v h) t | inr t ↦ subst T p t ])
    go false e = e

-- u is a NaN or below v, if x < v and u is not above x
before : (x v u : Float) → T (lt x v) → lt x u ≡ false → (lt u v ≡ true) ⊎ (u ≡ nan)
before x v u h p = elim (nan-or-not u) [
  | inl e ↦ inr e
  | inr n ↦ elim (lt-between x u v n h) [ inl t ↦ absurd (subst T p t) | inr t ↦ inl (to-true (lt u v) t) ]
]

module _ (m n k : ℕ) (r : List Float) where
  pub pivot-first : (c : ℕ) → FirstLargest m n k r c (pivot m n k r c)
  unfolding pivot
  pivot-first zero = record { number = minus-one-number; one_of = inr (refl, refl); largest = λ j h. absurd (not-suc-le-zero h); first = λ j h. absurd (not-suc-le-zero h) }
  pivot-first (suc c) = go (pivot m n k r c) (pivot-first c)
    where
      v : Float
      v = column_norm m n k r (k + c)

      go : (best : Candidate) → FirstLargest m n k r c best → FirstLargest m n k r (suc c) (better best (record { index = k + c; norm = v }))
      go best f = pick (lt best.norm v) refl
        where
          pick : (b : Bool) → lt best.norm v ≡ b → FirstLargest m n k r (suc c) (cond b (record { index = k + c; norm = v }) best)
          pick true e =
              let h : T (lt best.norm v) = subst T (sym e) tt in
              record {
                number = above_no_nan best.norm v h;
                one_of = inl (c, omega arith, refl, refl);
                largest = λ j l. elim (last-or-before c j l) [
                  | inl q ↦ subst (λ (i : ℕ). lt v (column_norm m n k r (k + i)) ≡ false) (sym q) (lt_irrefl v)
                  | inr i ↦ not-above best.norm v (column_norm m n k r (k + j)) f.number h (f.largest j i)
                ];
                first = λ j l a. before best.norm v (column_norm m n k r (k + j)) h (f.largest j (let z : j < c = omega (arith, a) in z));
              }
          pick false e = record {
            number = f.number;
            one_of = elim f.one_of [ inl o ↦ inl (o.0, (let z = o.1 in omega (arith, z)), o.2, o.3) | inr o ↦ inr o ];
            largest = λ j l. elim (last-or-before c j l) [
              | inl q ↦ subst (λ (i : ℕ). lt best.norm (column_norm m n k r (k + i)) ≡ false) (sym q) e
              | inr i ↦ f.largest j i
            ];
            first = λ j l a. elim (last-or-before c j l) [
              | inl q ↦ absurd (elim f.one_of [ inl o ↦ (let y = o.1 in let z = o.2 in let b : ⊥ = omega (arith, a, y, z, q) in b) | inr o ↦ (let z = o.0 in let b : ⊥ = omega (arith, a, z) in b) ])
              | inr i ↦ f.first j i a
            ];
          }

pub pivot-is-first : PivotFirst
pivot-is-first m n k r c = pivot-first m n k r c
