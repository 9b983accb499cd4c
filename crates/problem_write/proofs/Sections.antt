-- The sections of a written file: their records come in order, and each entry is found again.
use mathlib.Core.Path.{◌≡◌, refl, sym, ap, ◌∙◌, subst}
use mathlib.Core.Bool.{Bool, true, false, cond}
use mathlib.Core.List.{List, [], ◌∷◌}
use mathlib.Core.Option.{Option, none, some}
use Prim.Native.Nat.{ℕ, ◌+◌, ◌*◌, ◌^◌, ◌<◌, ◌≤◌}
use Prim.Native.Char.{code}
use native.Mathlib.Omega.{arith}
use lib.Dec.{eqb}
use borrow.Author.Tests.{eqb-true, lt-ltb, eq-eqb}
use Rattle.numbers.specs.Numbers.{nth}
use Rattle.problem_read.specs.Bits.{ConstraintBits, equality, floor, band}
use Rattle.problem_read.specs.Input.{field, gives, given, is_inside, or_else, constraint_of, is_whole}
use Rattle.problem_write.specs.File.{record_of, missing, entry_of, each, row_length, entries_of, constraint_records}
use Rattle.problem_write.specs.Claims.{Patterns, Pattern}
use Rattle.problem_write.proofs.Records.{size_is, tag_is, row_is, column-is, bits_is, spare-is, gives-is}
use Rattle.problem_write.proofs.Walks.{rank_of, rank, Entry, Good, good-higher, good-join, good-each, push, in-each, push-none}

-- ---- one record

module _ (m n t i j b : ℕ) (hi : i < 65536) (hj : j < 65536) (hb : b < 2 ^ 64) where
  rank_is : rank (record_of t i j b) ≡ rank_of t i j
  unfolding rank
  rank_is = rw (tag_is t i j b, row_is t i j b hi, column-is t i j b hj) refl

  entry-is : is_inside m n t i j ≡ true → Entry m n (record_of t i j b)
  entry-is h = record { size = size_is t i j b; inside = rw (tag_is t i j b, row_is t i j b hi, column-is t i j b hj) h; spare = spare-is t i j b }

  one-good : (lo : ℕ) → lo ≡ rank_of t i j → is_inside m n t i j ≡ true → Good m n lo (lo + 1) (record_of t i j b ∷ [])
  one-good lo e h = let k = rank_is in (entry-is h, omega (arith, k), omega (arith, k))

  entry-good : (lo : ℕ) → lo ≡ rank_of t i j → is_inside m n t i j ≡ true → Good m n lo (lo + 1) (entry_of t i j b)
  unfolding entry_of
  entry-good lo e h = go (eqb b (missing t i j))
    where
      go : (c : Bool) → Good m n lo (lo + 1) (cond c [] (record_of t i j b ∷ []))
      go true = omega arith
      go false = one-good lo e h

  own-entry : gives (record_of t i j b) t i j ≡ true
  own-entry = gives-is t i j b hi hj t i j ∙ rw (eq-eqb (field t) (field t) refl, eq-eqb i i refl, eq-eqb j j refl) refl

  -- the entry, as it is found again
  read-entry : or_else (given (push (entry_of t i j b) []) t i j) (missing t i j) ≡ b
  unfolding push given entry_of
  read-entry = go (eqb b (missing t i j)) refl
    where
      go : (c : Bool) → eqb b (missing t i j) ≡ c → or_else (given (push (cond c [] (record_of t i j b ∷ [])) []) t i j) (missing t i j) ≡ b
      go true e = sym (eqb-true b (missing t i j) e)
      go false e = rw own-entry (bits_is t i j b hb)

-- ---- a table: row i has its places from base + 32 i on

module _ (m n tag rows columns base : ℕ) (xs : List ℕ) (hr : rows ≤ 16) (hc : (i : ℕ) → i < rows → row_length tag i columns ≤ 16) (bits : Patterns xs)
    (place : (i j : ℕ) → i < rows → rank_of tag i j ≡ base + (i * 32 + j)) (inside : (i j : ℕ) → i < rows → j < row_length tag i columns → is_inside m n tag i j ≡ true) where
  abbrev entry_at : ℕ → ℕ → List (List ℕ)
  entry_at i j = entry_of tag i j (nth xs (i * columns + j))

  abbrev row_at : ℕ → List (List ℕ)
  row_at i = each (row_length tag i columns) (entry_at i)

  good-at : (i : ℕ) → i < rows → (j : ℕ) → j < row_length tag i columns → Good m n (base + i * 32 + j * 1) (base + i * 32 + j * 1 + 1) (entry_at i j)
  good-at i hi j hj =
      let k = hc i hi in
      let r = place i j hi in
      entry-good m n tag i j (nth xs (i * columns + j)) (omega arith) (omega (arith, k)) (bits (i * columns + j)) (base + i * 32 + j * 1) (omega (arith, r)) (inside i j hi hj)

  good-part : (i : ℕ) → i < rows → Good m n (base + i * 32) (base + i * 32 + row_length tag i columns * 1) (row_at i)
  good-part i hi = good-each m n (base + i * 32) 1 (row_length tag i columns) (entry_at i) (good-at i hi)

  good-row : (i : ℕ) → i < rows → Good m n (base + i * 32) (base + i * 32 + 32) (row_at i)
  good-row i hi = let k = hc i hi in good-higher m n (base + i * 32) (base + i * 32 + row_length tag i columns * 1) (base + i * 32 + 32) (row_at i) (omega (arith, k)) (good-part i hi)

  pub good-table : (hi : ℕ) → base + rows * 32 ≤ hi → Good m n base hi (entries_of tag rows columns xs)
  unfolding entries_of
  good-table hi l = good-higher m n base (base + rows * 32) hi (each rows row_at) l (good-each m n base 32 rows row_at good-row)

  found-row : (i j : ℕ) → i < rows → j < 32 → given (push (entries_of tag rows columns xs) []) tag i j ≡ given (push (row_at i) []) tag i j
  unfolding entries_of
  found-row i j hi hj = let r = place i j hi in in-each tag i j m n base 32 rows row_at [] good-row i hi (omega (arith, r)) (omega (arith, r))

  pub read_at : (i j : ℕ) → i < rows → j < row_length tag i columns → or_else (given (push (entries_of tag rows columns xs) []) tag i j) (missing tag i j) ≡ nth xs (i * columns + j)
  read_at i j hi hj =
      let r = place i j hi in
      let k = hc i hi in
      ap (λ (o : Option (List ℕ)). or_else o (missing tag i j))
      (found-row i j hi (omega (arith, k)) ∙ in-each tag i j m n (base + i * 32) 1 (row_length tag i columns) (entry_at i) [] (good-at i hi) j hj (omega (arith, r)) (omega (arith, r)))
      ∙ read-entry m n tag i j (nth xs (i * columns + j)) (omega arith) (omega (arith, k)) (bits (i * columns + j))

  -- past the end of a row there is none
  pub none-past : (i j : ℕ) → i < rows → row_length tag i columns ≤ j → j < 32 → given (push (entries_of tag rows columns xs) []) tag i j ≡ none
  unfolding given
  none-past i j hi hj l =
      let r = place i j hi in
      found-row i j hi l ∙ push-none tag i j m n (base + i * 32) (base + i * 32 + row_length tag i columns * 1) (row_at i) [] (good-part i hi) (omega (arith, r))

-- ---- a constraint's records

module _ (m n i : ℕ) (hi : i < m) (hm : m ≤ 16) where
  inside-E : is_inside m n (code "E") i 0 ≡ true
  unfolding is_inside
  inside-E = rw (lt-ltb i m hi) refl

  inside-I : is_inside m n (code "I") i 0 ≡ true
  unfolding is_inside
  inside-I = rw (lt-ltb i m hi) refl

  inside-W : is_inside m n (code "W") i 0 ≡ true
  unfolding is_inside
  inside-W = rw (lt-ltb i m hi) refl

  pub constraint-good : (c : ConstraintBits) → Pattern c → Good m n (544 + i * 2) (544 + i * 2 + 2) (constraint_records i c)
  unfolding rank_of constraint_records
  constraint-good (equality v) h =
      good-higher m n (544 + i * 2) (544 + i * 2 + 1) (544 + i * 2 + 2) (record_of (code "E") i 0 v ∷ []) (omega arith) (one-good m n (code "E") i 0 v (omega arith) (omega arith) h (544 + i * 2) refl inside-E)
  constraint-good (floor v) h =
      good-higher m n (544 + i * 2) (544 + i * 2 + 1) (544 + i * 2 + 2) (record_of (code "I") i 0 v ∷ []) (omega arith) (one-good m n (code "I") i 0 v (omega arith) (omega arith) h (544 + i * 2) refl inside-I)
  constraint-good (band v w) h =
      let a = one-good m n (code "I") i 0 v (omega arith) (omega arith) h.0 (544 + i * 2) refl inside-I in
      let b = one-good m n (code "W") i 0 w (omega arith) (omega arith) h.1 (544 + i * 2 + 1) refl inside-W in
      let e : 544 + i * 2 + 1 + 1 ≡ 544 + i * 2 + 2 = omega arith in
      subst (λ (x : ℕ). Good m n (544 + i * 2) x (record_of (code "I") i 0 v ∷ record_of (code "W") i 0 w ∷ [])) e
      (good-join m n (544 + i * 2) (544 + i * 2 + 1) (544 + i * 2 + 1 + 1) (record_of (code "I") i 0 v ∷ []) (record_of (code "W") i 0 w ∷ []) a b)

  -- what is found of it
  pub found-value : ConstraintBits → Option (List ℕ)
  found-value (equality v) = some (record_of (code "E") i 0 v)
  found-value (floor v) = some (record_of (code "I") i 0 v)
  found-value (band v w) = some (record_of (code "I") i 0 v)

  pub found-width : ConstraintBits → Option (List ℕ)
  found-width (equality v) = none
  found-width (floor v) = none
  found-width (band v w) = some (record_of (code "W") i 0 w)

  yes-entry : (t u v : ℕ) → eqb (field t) (field u) ≡ true → gives (record_of t i 0 v) u i 0 ≡ true
  yes-entry t u v e = gives-is t i 0 v (omega arith) (omega arith) u i 0 ∙ rw (e, eq-eqb i i refl) refl

  no-entry : (t u v : ℕ) → eqb (field t) (field u) ≡ false → gives (record_of t i 0 v) u i 0 ≡ false
  no-entry t u v e = gives-is t i 0 v (omega arith) (omega arith) u i 0 ∙ rw e refl

  pub value_found : (c : ConstraintBits) → Pattern c → given (push (constraint_records i c) []) (code "E") i 0 ≡ found-value c
  unfolding push given found-value constraint_records
  value_found (equality v) h = rw (yes-entry (code "E") (code "E") v refl)
  value_found (floor v) h = rw (yes-entry (code "I") (code "E") v refl)
  value_found (band v w) h = rw (no-entry (code "W") (code "E") w refl, yes-entry (code "I") (code "E") v refl)

  pub width-found : (c : ConstraintBits) → Pattern c → given (push (constraint_records i c) []) (code "W") i 0 ≡ found-width c
  unfolding push given found-width constraint_records
  width-found (equality v) h = rw (no-entry (code "E") (code "W") v refl)
  width-found (floor v) h = rw (no-entry (code "I") (code "W") v refl)
  width-found (band v w) h = rw (yes-entry (code "W") (code "W") w refl)

  pub read-constraint : (c : ConstraintBits) → Pattern c → constraint_of (found-value c) (found-width c) ≡ c
  unfolding found-value found-width
  read-constraint (equality v) h = rw (tag_is (code "E") i 0 v) (ap equality (bits_is (code "E") i 0 v h))
  read-constraint (floor v) h = rw (tag_is (code "I") i 0 v) (ap floor (bits_is (code "I") i 0 v h))
  read-constraint (band v w) h = λ k. band (bits_is (code "I") i 0 v h.0 k) (bits_is (code "W") i 0 w h.1 k)

  pub whole-constraint : (c : ConstraintBits) → Pattern c → is_whole (found-value c) (found-width c) ≡ true
  unfolding found-value found-width
  whole-constraint (equality v) h = refl
  whole-constraint (floor v) h = refl
  whole-constraint (band v w) h = rw (tag_is (code "I") i 0 v) refl
