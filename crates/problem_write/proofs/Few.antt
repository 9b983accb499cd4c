-- A file has at most 473 records, of 16 bytes each.
use mathlib.Core.Path.{◌≡◌, refl, subst}
use mathlib.Core.Bool.{Bool, true, false, cond}
use mathlib.Core.List.{List, [], ◌∷◌, ◌++◌}
use Prim.Native.Nat.{ℕ, zero, suc, ◌+◌, ◌*◌, ◌≤◌}
use Prim.Native.Char.{code}
use native.Mathlib.Nat.{mul-le-mul}
use native.Mathlib.Omega.{arith}
use lib.Dec.{eqb}
use lib.ListN.{length, length-append}
use Rattle.numbers.specs.Numbers.{nth}
use Rattle.problem_read.specs.Bits.{ConstraintBits, equality, floor, band, Bits}
use Rattle.problem_write.specs.File.{record_of, missing, entry_of, each, row_length, entries_of, constraint_records, constraint_at, records_of, file}
use Rattle.problem_write.specs.Claims.{FewRecords}
use Rattle.problem_write.proofs.Records.{size_is}
use Rattle.problem_write.proofs.Rows.{each-few, entry-few, table-few}
use Rattle.problem_write.proofs.Walks.{Whole, joined_length}

-- ---- each has 16 bytes

whole_join : (xs ys : List (List ℕ)) → Whole xs → Whole ys → Whole (xs ++ ys)
whole_join [] ys h k = k
whole_join (r ∷ xs) ys h k = (h.0, whole_join xs ys h.1 k)

whole_each : (n : ℕ) (f : ℕ → List (List ℕ)) → ((i : ℕ) → Whole (f i)) → Whole (each n f)
unfolding each
whole_each zero f h = tt
whole_each (suc n) f h = whole_join (each n f) (f n) (whole_each n f h) (h n)

whole-entry : (t i j b : ℕ) → Whole (entry_of t i j b)
unfolding entry_of
whole-entry t i j b = go (eqb b (missing t i j))
  where
    go : (c : Bool) → Whole (cond c [] (record_of t i j b ∷ []))
    go true = tt
    go false = (size_is t i j b, tt)

whole-table : (t rows columns : ℕ) (xs : List ℕ) → Whole (entries_of t rows columns xs)
unfolding entries_of
whole-table t rows columns xs =
    whole_each rows (λ i. each (row_length t i columns) (λ j. entry_of t i j (nth xs (i * columns + j))))
    (λ i. whole_each (row_length t i columns) (λ j. entry_of t i j (nth xs (i * columns + j))) (λ j. whole-entry t i j (nth xs (i * columns + j))))

whole-constraint : (i : ℕ) (c : ConstraintBits) → Whole (constraint_records i c)
unfolding constraint_records
whole-constraint i (equality v) = (size_is (code "E") i 0 v, tt)
whole-constraint i (floor v) = (size_is (code "I") i 0 v, tt)
whole-constraint i (band v w) = (size_is (code "I") i 0 v, (size_is (code "W") i 0 w, tt))

whole-file : (p : Bits) → Whole (records_of p)
unfolding records_of
whole-file p = (
  size_is (code "D") p.m p.n 0,
  whole_join (entries_of (code "L") p.n p.n p.factor) _ (whole-table (code "L") p.n p.n p.factor)
      (whole_join (entries_of (code "G") 1 p.n p.gradient) _ (whole-table (code "G") 1 p.n p.gradient)
      (whole_join (each p.m (λ i. constraint_records i (constraint_at p i))) _ (whole_each p.m (λ i. constraint_records i (constraint_at p i)) (λ i. whole-constraint i (constraint_at p i)))
      (whole_join (entries_of (code "A") p.m p.n p.jacobian) _ (whole-table (code "A") p.m p.n p.jacobian)
      (whole_join (entries_of (code "B") 1 p.n p.lower) (entries_of (code "T") 1 p.n p.upper) (whole-table (code "B") 1 p.n p.lower) (whole-table (code "T") 1 p.n p.upper))))),
)

pub file-length : (p : Bits) → length (file p) ≡ 16 * length (records_of p)
unfolding file
file-length p = joined_length (records_of p) (whole-file p)

-- ---- how many there are

constraint-few : (i : ℕ) (c : ConstraintBits) → length (constraint_records i c) ≤ 2
unfolding constraint_records
constraint-few i (equality v) = omega arith
constraint-few i (floor v) = omega arith
constraint-few i (band v w) = omega arith

-- 1, 2, .., n of them
each-rising : (n : ℕ) (f : ℕ → List (List ℕ)) → ((i : ℕ) → length (f i) ≤ i + 1) → 2 * length (each n f) ≤ n * n + n
unfolding each
each-rising zero f h = omega arith
each-rising (suc n) f h = let b = h n in let c = each-rising n f h in rw length-append (omega (arith, b, c))

module _ (p : Bits) (hn : p.n ≤ 16) (hm : p.m ≤ 16) where
  few-L : length (entries_of (code "L") p.n p.n p.factor) ≤ 136
  unfolding entries_of row_length
  few-L =
      let q : p.n * p.n ≤ 16 * 16 = mul-le-mul hn hn in
      let a = each-rising p.n (λ i. each (i + 1) (λ j. entry_of (code "L") i j (nth p.factor (i * p.n + j))))
      (λ i. let b = each-few (i + 1) 1 (λ j. entry_of (code "L") i j (nth p.factor (i * p.n + j))) (λ j l. entry-few (code "L") i j (nth p.factor (i * p.n + j))) in omega (arith, b)) in
      omega (arith, a, q)

  few-row : (t : ℕ) (xs : List ℕ) → row_length t 0 p.n ≡ p.n → length (entries_of t 1 p.n xs) ≤ 16
  few-row t xs e =
      let a = table-few t 1 p.n xs (λ i l. let z : 0 ≡ i = omega arith in subst (λ (x : ℕ). row_length t x p.n ≤ 16) z (omega (arith, e))) in
      omega (arith, a)

  few-C : length (each p.m (λ i. constraint_records i (constraint_at p i))) ≤ 32
  few-C = let a = each-few p.m 2 (λ i. constraint_records i (constraint_at p i)) (λ i l. constraint-few i (constraint_at p i)) in omega (arith, a)

  few-A : length (entries_of (code "A") p.m p.n p.jacobian) ≤ 256
  unfolding row_length
  few-A = let a = table-few (code "A") p.m p.n p.jacobian (λ i l. hn) in omega (arith, a)

  few-all : length (records_of p) ≤ 473
  unfolding records_of row_length
  few-all =
      let a = few-L in
      let b = few-row (code "G") p.gradient refl in
      let c = few-C in
      let d = few-A in
      let e = few-row (code "B") p.lower refl in
      let f = few-row (code "T") p.upper refl in
      simp length-append (omega (arith, a, b, c, d, e, f))

pub few-records : FewRecords
few-records p hn hm = let a = file-length p in let b = few-all p hn hm in omega (arith, a, b)
