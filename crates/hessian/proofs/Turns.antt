-- Cholesky's definitions, a turn at a time.
use mathlib.Core.Path.{◌≡◌, refl, sym, ap, ◌∙◌}
use mathlib.Core.Bool.{Bool, true, false}
use mathlib.Core.List.{List, append-nil}
use Prim.Native.Nat.{ℕ, zero, suc, ◌+◌, ◌*◌, ◌-◌, ◌<◌}
use native.Mathlib.Nat.{add-zero, add-suc}
use native.Mathlib.Numerals.{add-one}
use native.Mathlib.Omega.{arith}
use lib.ListN.{length, set, drop_of_length-le}
use lib.Ieee.{Float, binary64, of_bits, div, lt}
use Rattle.numbers.specs.Numbers.{+0, Σ, at, entry, ◌⊖◌, ◌⊗◌, ◌⊘◌}
use Rattle.numbers.specs.Root.{sqrt_of}
use Rattle.workspace.specs.Tables.{Answer, done, refused, bad_pivot, cleared}
use Rattle.workspace.specs.declared.Refusal.{Refusal}
use Rattle.workspace.specs.declared.Refusal.TheVariants.{Pivot}
use Rattle.std.specs.Prelude.{Ok, Err}
use Rattle.hessian.specs.Hessian.{remainder, with_row, is_pivot, next_row, first_rows, cholesky}
use Rattle.hessian.specs.inner.Work.{made_of, FactorMade}

pub remainder_is : (n : ℕ) (b l : List Float) (i j : ℕ) (x : Float) → x ≡ Σ j (λ k. at l (i * n + k) ⊗ at l (j * n + k)) → at b (i * n + j) ⊖ x ≡ remainder n b l i j
unfolding remainder
remainder_is n b l i j x e = ap (λ (t : Float). at b (i * n + j) ⊖ t) e

with-suc : (n : ℕ) (b : List Float) (i : ℕ) (l : List Float) (j : ℕ)
    → with_row n b i l (suc j) ≡ set (with_row n b i l j) (i * n + j) (remainder n b (with_row n b i l j) i j ⊘ entry n (with_row n b i l j) j j)
unfolding with_row
with-suc n b i l j = refl

pub with_none : (n : ℕ) (b : List Float) (i : ℕ) (l : List Float) → l ≡ with_row n b i l 0
unfolding with_row
with_none n b i l = refl

pub with-more : (n : ℕ) (b : List Float) (i : ℕ) (l₀ : List Float) (j : ℕ) (l : List Float) (x : Float)
    → l ≡ with_row n b i l₀ j → x ≡ remainder n b l i j → set l (i * n + j) (x ⊘ at l (j * n + j)) ≡ with_row n b i l₀ (j + 1)
with-more n b i l₀ j l x e r = rw (add-one, with-suc, ← e, r)

pub pivot-some : (p : Float) → lt (of_bits binary64 0) p ≡ true → lt p (div binary64 (of_bits binary64 0x3ff0_0000_0000_0000) (of_bits binary64 0)) ≡ is_pivot p
unfolding of_bits div
pivot-some p h = rw h

pub pivot-none : (p : Float) → lt (of_bits binary64 0) p ≡ false → false ≡ is_pivot p
unfolding of_bits
pivot-none p h = rw h

-- ---- a row

pub row-bad : (n : ℕ) (b : List Float) (i : ℕ) (l₀ l l' : List Float) (p : Float)
    → l ≡ with_row n b i l₀ i → p ≡ remainder n b l i i → is_pivot p ≡ false → made_of false l' ≡ next_row n b i (made_of true l₀)
unfolding next_row
row-bad n b i l₀ l l' p e r h = let q : is_pivot (remainder n b (with_row n b i l₀ i) i i) ≡ false = rw (← e, ← r) h in rw q

pub row-good : (n : ℕ) (b : List Float) (i : ℕ) (l₀ l : List Float) (p x : Float)
    → l ≡ with_row n b i l₀ i → p ≡ remainder n b l i i → is_pivot p ≡ true → x ≡ sqrt_of p → made_of true (set l (i * n + i) x) ≡ next_row n b i (made_of true l₀)
unfolding next_row
row-good n b i l₀ l p x e r h s =
    let q : is_pivot (remainder n b (with_row n b i l₀ i) i i) ≡ true = rw (← e, ← r) h in
    rw (q, ← e, ← r, s)

-- ---- all rows

first-suc : (n : ℕ) (b : List Float) (i : ℕ) → first_rows n b (suc i) ≡ next_row n b i (first_rows n b i)
unfolding first_rows
first-suc n b i = refl

next-refused : (n : ℕ) (b : List Float) (i : ℕ) (k : Refusal) → next_row n b i (refused k) ≡ refused k
unfolding next_row
next-refused n b i k = refl

stays-refused : (n : ℕ) (b : List Float) (i : ℕ) (k : Refusal) (d : ℕ) → first_rows n b i ≡ refused k → first_rows n b (i + d) ≡ refused k
stays-refused n b i k zero h = rw add-zero h
stays-refused n b i k (suc d) h = rw (add-suc, first-suc, stays-refused n b i k d h) (next-refused n b (i + d) k)

pub rows_start : (n : ℕ) (b l l' : List Float) → length l ≡ n * n → l' ≡ cleared +0 (n * n) l → made_of true l' ≡ first_rows n b 0
unfolding first_rows cleared
rows_start n b l l' h e =
    ap (λ (t : List Float). done t) (e ∙ rw (drop_of_length-le l {i = n * n} (omega (arith, h)), append-nil))

rows-turn : (n : ℕ) (b : List Float) (i : ℕ) (l l' : List Float) (r : Bool)
    → made_of true l ≡ first_rows n b i → made_of r l' ≡ next_row n b i (made_of true l) → made_of r l' ≡ first_rows n b (i + 1)
rows-turn n b i l l' r e h = rw (add-one, first-suc, ← e) h

pub rows_more : (n : ℕ) (b : List Float) (i : ℕ) (l l' : List Float) (r : Bool)
    → made_of true l ≡ first_rows n b i → made_of r l' ≡ next_row n b i (made_of true l) → r ≡ true → made_of true l' ≡ first_rows n b (i + 1)
rows_more n b i l l' r e h f = sym (ap (λ (t : Bool). made_of t l') f) ∙ rows-turn n b i l l' r e h

pub rows-bad : (n : ℕ) (b : List Float) (i : ℕ) (l l' : List Float) (r : Bool)
    → i < n → made_of true l ≡ first_rows n b i → made_of r l' ≡ next_row n b i (made_of true l) → r ≡ false → made_of false l' ≡ cholesky n b
unfolding cholesky
rows-bad n b i l l' r lt e h f =
    let g : first_rows n b (i + 1) ≡ bad_pivot = sym (rows-turn n b i l l' r e h) ∙ ap (λ (t : Bool). made_of t l') f in
    let k : i + 1 + (n - (i + 1)) ≡ n = omega arith in
    sym (ap (λ (t : ℕ). first_rows n b t) (sym k) ∙ stays-refused n b (i + 1) Pivot (n - (i + 1)) g)

pub rows-good : (n : ℕ) (b : List Float) (i : ℕ) (l : List Float) → i ≡ n → made_of true l ≡ first_rows n b i → made_of true l ≡ cholesky n b
unfolding cholesky
rows-good n b i l e h = h ∙ ap (λ (t : ℕ). first_rows n b t) e

-- ---- the answer

pub made-bad : (a : Answer (List Float)) (out : List Float) (r : Refusal) → bad_pivot ≡ a → r ≡ Pivot → FactorMade a (Err r) out out
made-bad a out r h p = rw (← h, p) (record { the_outcome = refl; the_clearing = refl; the_output = refl })

pub made-good : (a : Answer (List Float)) (l out out' : List Float) → done l ≡ a → out' ≡ l → FactorMade a (Ok tt) out out'
made-good a l out out' h e = rw (← h) (record { the_outcome = refl; the_clearing = refl; the_output = e })
