-- Reading a written file gives the problem again.
use mathlib.Core.Path.{◌≡◌, refl, sym, ap, ◌∙◌}
use mathlib.Core.Bool.{Bool, true, cond}
use mathlib.Core.List.{List, [], ◌∷◌, ◌++◌}
use mathlib.Core.Logic.{⊎_elim}
use mathlib.Core.Option.{Option}
use Prim.Native.Nat.{ℕ, zero, suc, ◌+◌, ◌-◌, ◌*◌, ◌/◌, ◌%◌, ◌<◌, ◌≤◌}
use Prim.Native.Char.{code}
use native.Mathlib.Nat.{suc-mul, zero-mul}
use native.Mathlib.Omega.{arith}
use lib.Dec.{leb, eqb}
use lib.ListN.{length, take, drop, get_or, length-drop, take-append-drop}
use lib.Seq.{get_or-take, get_or-drop, length-take-le}
use borrow.Author.Tests.{le-leb, lt-ltb, eq-eqb, ne_eqb}
use Rattle.numbers.specs.Numbers.{nth, tab}
use Rattle.numbers.proofs.Lists.{tab-of, tab-same}
use Rattle.numbers.proofs.Cases.{lt-or-ge}
use Rattle.workspace.specs.Tables.{is_dimension, is_constraints}
use Rattle.problem_read.specs.Bits.{ConstraintBits, equality, Bits, one_bits, low_bits, high_bits}
use Rattle.problem_read.specs.Input.{record_row, record_column, record_at, given, is_inside, or_else, constraint_of, table, given_bits, is_whole, all_below, is_complete, is_head, Decoded, fault, too_large, problem, walk, decode}
use Rattle.problem_write.specs.File.{record_of, missing, each, row_length, entries_of, constraint_records, constraint_at, records_of, joined, file}
use Rattle.problem_write.specs.Claims.{Writable, RoundTrip, SameFiles}
use Rattle.problem_write.proofs.Records.{size_is, tag_is, row_is, column-is, bits_is, spare-is}
use Rattle.problem_write.proofs.Walks.{rank_of, Good, good-higher, good-join, good-each, push, in-first, in-second, in-each, walk-good, Whole, good-whole, joined_length, joined_at}
use Rattle.problem_write.proofs.Sections.{good-table, read_at, none-past, constraint-good, found-value, found-width, value_found, width-found, read-constraint, whole-constraint}

-- ---- lists by their entries

table_same : (m n : ℕ) (f g : ℕ → ℕ → ℕ) → ((i j : ℕ) → i < m → j < n → f i j ≡ g i j) → table m n f ≡ table m n g
unfolding table
table_same zero n f g h = refl
table_same (suc m) n f g h =
    rw (tab-same n (f zero) (g zero) (λ j l. h zero j (omega arith) l), table_same m n (λ i. f (suc i)) (λ i. g (suc i)) (λ i j l k. h (suc i) j (omega arith) k))

table_of : (m n : ℕ) (a : List ℕ) → length a ≡ m * n → table m n (λ i j. nth a (i * n + j)) ≡ a
unfolding table
table_of zero n [] e = refl
table_of zero n (x ∷ a) e = absurd (omega (arith, e, zero-mul n))
table_of (suc m) n a e =
    let s : suc m * n ≡ m * n + n = suc-mul m n in
    let l : length (take n a) ≡ n = length-take-le n a (omega (arith, e)) in
    let first : tab n (λ j. nth a (zero * n + j)) ≡ take n a =
    sym (tab-of n (take n a) (λ j. nth a (zero * n + j)) 0 l
    (λ j h. get_or-take n a j 0 h ∙ ap (λ (x : ℕ). nth a x) (let z : j ≡ 0 * n + j = omega (arith, zero-mul n) in z))) in
    let others : table m n (λ i j. nth a (suc i * n + j)) ≡ drop n a =
    table_same m n (λ i j. nth a (suc i * n + j)) (λ i j. nth (drop n a) (i * n + j))
    (λ i j hi hj. let q : suc i * n + j ≡ n + (i * n + j) = omega (arith, suc-mul i n) in ap (λ (x : ℕ). nth a x) q ∙ sym (get_or-drop n a (i * n + j) 0))
    ∙ table_of m n (drop n a) (length-drop n a ∙ omega (arith, e)) in
    rw (first, others) (take-append-drop n a)

constraints-of : (m : ℕ) (cs : List ConstraintBits) → length cs ≡ m → tab m (λ i. get_or cs i (equality 0)) ≡ cs
constraints-of m cs e = sym (tab-of m cs (λ i. get_or cs i (equality 0)) (equality 0) e (λ i l. refl))

all-below : (m : ℕ) (f : ℕ → Bool) → ((i : ℕ) → i < m → f i ≡ true) → all_below m f ≡ true
unfolding all_below
all-below zero f h = refl
all-below (suc m) f h = rw (all-below m f (λ i l. h i (omega arith)), h m (omega arith))

-- ---- the file

module _ (p : Bits) (h : Writable p) where
  abbrev n : ℕ
  n = p.n

  abbrev m : ℕ
  m = p.m

  n16 : p.n ≤ 16
  n16 = h.variables

  m16 : p.m ≤ 16
  m16 = h.some_constraints

  -- the six sections, and what comes behind each

  abbrev in_l : List (List ℕ)
  in_l = entries_of (code "L") n n p.factor

  abbrev in_g : List (List ℕ)
  in_g = entries_of (code "G") 1 n p.gradient

  abbrev constraint : ℕ → List (List ℕ)
  constraint i = constraint_records i (constraint_at p i)

  abbrev in_c : List (List ℕ)
  in_c = each m constraint

  abbrev in_a : List (List ℕ)
  in_a = entries_of (code "A") m n p.jacobian

  abbrev in_b : List (List ℕ)
  in_b = entries_of (code "B") 1 n p.lower

  abbrev in_t : List (List ℕ)
  in_t = entries_of (code "T") 1 n p.upper

  -- places and indices of the tables

  place-L : (i j : ℕ) → i < p.n → rank_of (code "L") i j ≡ 0 + (i * 32 + j)
  unfolding rank_of
  place-L i j l = omega arith

  place-G : (i j : ℕ) → i < 1 → rank_of (code "G") i j ≡ 512 + (i * 32 + j)
  unfolding rank_of
  place-G i j l = omega arith

  place-A : (i j : ℕ) → i < p.m → rank_of (code "A") i j ≡ 576 + (i * 32 + j)
  unfolding rank_of
  place-A i j l = omega arith

  place-B : (i j : ℕ) → i < 1 → rank_of (code "B") i j ≡ 1088 + (i * 32 + j)
  unfolding rank_of
  place-B i j l = omega arith

  place-T : (i j : ℕ) → i < 1 → rank_of (code "T") i j ≡ 1120 + (i * 32 + j)
  unfolding rank_of
  place-T i j l = omega arith

  inside-L : (i j : ℕ) → i < p.n → j < row_length (code "L") i p.n → is_inside m n (code "L") i j ≡ true
  unfolding is_inside row_length
  inside-L i j hi hj = rw (lt-ltb i p.n hi, le-leb j i (omega arith)) refl

  first-row : (i : ℕ) → i < 1 → eqb i 0 ≡ true
  first-row i l = let e : i ≡ 0 = omega arith in eq-eqb i 0 e

  inside-G : (i j : ℕ) → i < 1 → j < row_length (code "G") i p.n → is_inside m n (code "G") i j ≡ true
  unfolding is_inside row_length
  inside-G i j hi hj = rw (first-row i hi, lt-ltb j p.n hj) refl

  inside-A : (i j : ℕ) → i < p.m → j < row_length (code "A") i p.n → is_inside m n (code "A") i j ≡ true
  unfolding is_inside row_length
  inside-A i j hi hj = rw (lt-ltb i p.m hi, lt-ltb j p.n hj) refl

  inside-B : (i j : ℕ) → i < 1 → j < row_length (code "B") i p.n → is_inside m n (code "B") i j ≡ true
  unfolding is_inside row_length
  inside-B i j hi hj = rw (first-row i hi, lt-ltb j p.n hj) refl

  inside-T : (i j : ℕ) → i < 1 → j < row_length (code "T") i p.n → is_inside m n (code "T") i j ≡ true
  unfolding is_inside row_length
  inside-T i j hi hj = rw (first-row i hi, lt-ltb j p.n hj) refl

  short-L : (i : ℕ) → i < p.n → row_length (code "L") i p.n ≤ 16
  unfolding row_length
  short-L i l = let k = n16 in omega arith

  short-G : (i : ℕ) → i < 1 → row_length (code "G") i p.n ≤ 16
  unfolding row_length
  short-G i l = n16

  short-A : (i : ℕ) → i < p.m → row_length (code "A") i p.n ≤ 16
  unfolding row_length
  short-A i l = n16

  short-B : (i : ℕ) → i < 1 → row_length (code "B") i p.n ≤ 16
  unfolding row_length
  short-B i l = n16

  short-T : (i : ℕ) → i < 1 → row_length (code "T") i p.n ≤ 16
  unfolding row_length
  short-T i l = n16

  -- each section in its places

  good_l : Good m n 0 512 in_l
  good_l = let k = n16 in good-table m n (code "L") n n 0 p.factor n16 short-L h.factor_bits place-L inside-L 512 (omega arith)

  good_g : Good m n 512 544 in_g
  good_g = good-table m n (code "G") 1 n 512 p.gradient (omega arith) short-G h.gradient_bits place-G inside-G 544 (omega arith)

  good_c₁ : (i : ℕ) → i < p.m → Good m n (544 + i * 2) (544 + i * 2 + 2) (constraint i)
  good_c₁ i hi = constraint-good m n i hi m16 (constraint_at p i) (h.constraint_bits i)

  good_c : Good m n 544 576 in_c
  good_c = let k = m16 in good-higher m n 544 (544 + p.m * 2) 576 in_c (omega arith) (good-each m n 544 2 p.m constraint good_c₁)

  good_a : Good m n 576 1088 in_a
  good_a = let k = m16 in good-table m n (code "A") m n 576 p.jacobian m16 short-A h.jacobian_bits place-A inside-A 1088 (omega arith)

  good_b : Good m n 1088 1120 in_b
  good_b = good-table m n (code "B") 1 n 1088 p.lower (omega arith) short-B h.lower_bits place-B inside-B 1120 (omega arith)

  good_t : Good m n 1120 1152 in_t
  good_t = good-table m n (code "T") 1 n 1120 p.upper (omega arith) short-T h.upper_bits place-T inside-T 1152 (omega arith)

  good_bt : Good m n 1088 1152 (in_b ++ in_t)
  good_bt = good-join m n 1088 1120 1152 in_b in_t good_b good_t

  good_at : Good m n 576 1152 (in_a ++ (in_b ++ in_t))
  good_at = good-join m n 576 1088 1152 in_a (in_b ++ in_t) good_a good_bt

  good_ct : Good m n 544 1152 (in_c ++ (in_a ++ (in_b ++ in_t)))
  good_ct = good-join m n 544 576 1152 in_c (in_a ++ (in_b ++ in_t)) good_c good_at

  good_gt : Good m n 512 1152 (in_g ++ (in_c ++ (in_a ++ (in_b ++ in_t))))
  good_gt = good-join m n 512 544 1152 in_g (in_c ++ (in_a ++ (in_b ++ in_t))) good_g good_ct

  abbrev pub body : List (List ℕ)
  body = in_l ++ (in_g ++ (in_c ++ (in_a ++ (in_b ++ in_t))))

  good_all : Good m n 0 1152 body
  good_all = good-join m n 0 512 1152 in_l (in_g ++ (in_c ++ (in_a ++ (in_b ++ in_t)))) good_l good_gt

  -- ---- each entry is found again, behind the first section, the second, ..

  abbrev found : (t i j : ℕ) → Option (List ℕ)
  found t i j = given (push body []) t i j

  past-L : (u k l : ℕ) → 512 ≤ rank_of u k l → found u k l ≡ given (push (in_g ++ (in_c ++ (in_a ++ (in_b ++ in_t)))) []) u k l
  past-L u k l r = in-second u k l m n 0 512 in_l (in_g ++ (in_c ++ (in_a ++ (in_b ++ in_t)))) [] good_l r

  past-G : (u k l : ℕ) → 544 ≤ rank_of u k l → found u k l ≡ given (push (in_c ++ (in_a ++ (in_b ++ in_t))) []) u k l
  past-G u k l r = past-L u k l (omega arith) ∙ in-second u k l m n 512 544 in_g (in_c ++ (in_a ++ (in_b ++ in_t))) [] good_g r

  past-C : (u k l : ℕ) → 576 ≤ rank_of u k l → found u k l ≡ given (push (in_a ++ (in_b ++ in_t)) []) u k l
  past-C u k l r = past-G u k l (omega arith) ∙ in-second u k l m n 544 576 in_c (in_a ++ (in_b ++ in_t)) [] good_c r

  past-A : (u k l : ℕ) → 1088 ≤ rank_of u k l → found u k l ≡ given (push (in_b ++ in_t) []) u k l
  past-A u k l r = past-C u k l (omega arith) ∙ in-second u k l m n 576 1088 in_a (in_b ++ in_t) [] good_a r

  past-B : (u k l : ℕ) → 1120 ≤ rank_of u k l → found u k l ≡ given (push in_t []) u k l
  past-B u k l r = past-A u k l (omega arith) ∙ in-second u k l m n 1088 1120 in_b in_t [] good_b r

  found-L : (i j : ℕ) → i < p.n → j < p.n → found (code "L") i j ≡ given (push in_l []) (code "L") i j
  found-L i j hi hj = let r = place-L i j hi in let k = n16 in in-first (code "L") i j m n 512 1152 in_l (in_g ++ (in_c ++ (in_a ++ (in_b ++ in_t)))) [] good_gt (omega (arith, r))

  missing-above : (i j : ℕ) → i < j → missing (code "L") i j ≡ 0
  unfolding missing
  missing-above i j l = rw (ne_eqb i j (λ e. omega arith)) refl

  row-L : (i : ℕ) → row_length (code "L") i p.n ≡ i + 1
  unfolding row_length
  row-L i = refl

  read_below : (i j : ℕ) → i < p.n → j ≤ i → or_else (found (code "L") i j) (missing (code "L") i j) ≡ nth p.factor (i * p.n + j)
  read_below i j hi hj =
      let q = row-L i in
      ap (λ (o : Option (List ℕ)). or_else o (missing (code "L") i j)) (found-L i j hi (omega arith))
      ∙ read_at m n (code "L") n n 0 p.factor n16 short-L h.factor_bits place-L inside-L i j hi (omega (arith, q))

  read_above : (i j : ℕ) → i < j → j < p.n → or_else (found (code "L") i j) (missing (code "L") i j) ≡ nth p.factor (i * p.n + j)
  read_above i j l hj =
      let q = row-L i in
      let k = n16 in
      let hi : i < p.n = omega arith in
      ap (λ (o : Option (List ℕ)). or_else o (missing (code "L") i j))
      (found-L i j hi hj ∙ none-past m n (code "L") n n 0 p.factor n16 short-L h.factor_bits place-L inside-L i j hi (omega (arith, q)) (omega arith))
      ∙ missing-above i j l ∙ sym (h.above i j l hj)

  read-L : (i j : ℕ) → i < p.n → j < p.n → or_else (found (code "L") i j) (cond (eqb i j) one_bits 0) ≡ nth p.factor (i * p.n + j)
  unfolding missing
  read-L i j hi hj = ⊎_elim (λ (l : i < j). read_above i j l hj) (λ (l : j ≤ i). read_below i j hi l) (lt-or-ge i j)

  -- a table of one row
  first-at : (xs : List ℕ) (j : ℕ) → nth xs (0 * p.n + j) ≡ nth xs j
  first-at xs j = ap (λ (x : ℕ). nth xs x) (let z : 0 * p.n + j ≡ j = omega (arith, zero-mul p.n) in z)

  read-G : (j : ℕ) → j < p.n → or_else (found (code "G") 0 j) 0 ≡ nth p.gradient j
  unfolding missing row_length
  read-G j hj =
      let r = place-G 0 j (omega arith) in
      let k = n16 in
      ap (λ (o : Option (List ℕ)). or_else o 0)
      (past-L (code "G") 0 j (omega (arith, r)) ∙ in-first (code "G") 0 j m n 544 1152 in_g (in_c ++ (in_a ++ (in_b ++ in_t))) [] good_ct (omega (arith, r)))
      ∙ read_at m n (code "G") 1 n 512 p.gradient (omega arith) short-G h.gradient_bits place-G inside-G 0 j (omega arith) hj ∙ first-at p.gradient j

  read-A : (i j : ℕ) → i < p.m → j < p.n → or_else (found (code "A") i j) 0 ≡ nth p.jacobian (i * p.n + j)
  unfolding missing row_length
  read-A i j hi hj =
      let r = place-A i j hi in
      let k = n16 in
      let l = m16 in
      ap (λ (o : Option (List ℕ)). or_else o 0)
      (past-C (code "A") i j (omega (arith, r)) ∙ in-first (code "A") i j m n 1088 1152 in_a (in_b ++ in_t) [] good_bt (omega (arith, r)))
      ∙ read_at m n (code "A") m n 576 p.jacobian m16 short-A h.jacobian_bits place-A inside-A i j hi hj

  read-B : (j : ℕ) → j < p.n → or_else (found (code "B") 0 j) low_bits ≡ nth p.lower j
  unfolding missing row_length
  read-B j hj =
      let r = place-B 0 j (omega arith) in
      let k = n16 in
      ap (λ (o : Option (List ℕ)). or_else o low_bits)
      (past-A (code "B") 0 j (omega (arith, r)) ∙ in-first (code "B") 0 j m n 1120 1152 in_b in_t [] good_t (omega (arith, r)))
      ∙ read_at m n (code "B") 1 n 1088 p.lower (omega arith) short-B h.lower_bits place-B inside-B 0 j (omega arith) hj ∙ first-at p.lower j

  read-T : (j : ℕ) → j < p.n → or_else (found (code "T") 0 j) high_bits ≡ nth p.upper j
  unfolding missing row_length
  read-T j hj =
      let r = place-T 0 j (omega arith) in
      let k = n16 in
      ap (λ (o : Option (List ℕ)). or_else o high_bits) (past-B (code "T") 0 j (omega (arith, r)))
      ∙ read_at m n (code "T") 1 n 1120 p.upper (omega arith) short-T h.upper_bits place-T inside-T 0 j (omega arith) hj ∙ first-at p.upper j

  place-E : (i : ℕ) → rank_of (code "E") i 0 ≡ 544 + i * 2
  unfolding rank_of
  place-E i = refl

  place-W : (i : ℕ) → rank_of (code "W") i 0 ≡ 544 + i * 2 + 1
  unfolding rank_of
  place-W i = refl

  value-at : (i : ℕ) (hi : i < p.m) → found (code "E") i 0 ≡ found-value m n i hi m16 (constraint_at p i)
  value-at i hi =
      let r = place-E i in
      let l = m16 in
      past-G (code "E") i 0 (omega (arith, r)) ∙ in-first (code "E") i 0 m n 576 1152 in_c (in_a ++ (in_b ++ in_t)) [] good_at (omega (arith, r))
      ∙ in-each (code "E") i 0 m n 544 2 p.m constraint [] good_c₁ i hi (omega (arith, r)) (omega (arith, r))
      ∙ value_found m n i hi m16 (constraint_at p i) (h.constraint_bits i)

  width-at : (i : ℕ) (hi : i < p.m) → found (code "W") i 0 ≡ found-width m n i hi m16 (constraint_at p i)
  width-at i hi =
      let r = place-W i in
      let l = m16 in
      past-G (code "W") i 0 (omega (arith, r)) ∙ in-first (code "W") i 0 m n 576 1152 in_c (in_a ++ (in_b ++ in_t)) [] good_at (omega (arith, r))
      ∙ in-each (code "W") i 0 m n 544 2 p.m constraint [] good_c₁ i hi (omega (arith, r)) (omega (arith, r))
      ∙ width-found m n i hi m16 (constraint_at p i) (h.constraint_bits i)

  -- ---- the problem

  read-C : (i : ℕ) → i < p.m → constraint_of (found (code "E") i 0) (found (code "W") i 0) ≡ constraint_at p i
  read-C i hi = rw (value-at i hi, width-at i hi) (read-constraint m n i hi m16 (constraint_at p i) (h.constraint_bits i))

  complete : is_complete m (push body []) ≡ true
  unfolding is_complete
  complete =
      all-below p.m (λ i. is_whole (found (code "E") i 0) (found (code "W") i 0))
      (λ i hi. rw (value-at i hi, width-at i hi) (whole-constraint m n i hi m16 (constraint_at p i) (h.constraint_bits i)))

  list_of : (k : ℕ) (a : List ℕ) (f : ℕ → ℕ) → length a ≡ k → ((j : ℕ) → j < k → f j ≡ nth a j) → tab k f ≡ a
  list_of k a f e g = sym (tab-of k a f 0 e (λ j l. sym (g j l)))

  the-problem : given_bits m n (push body []) ≡ p
  unfolding given_bits
  the-problem = λ k. record {
    n = p.n;
    m = p.m;
    factor = (table_same p.n p.n (λ i j. or_else (found (code "L") i j) (cond (eqb i j) one_bits 0)) (λ i j. nth p.factor (i * p.n + j)) read-L ∙ table_of p.n p.n p.factor h.the_factor) k;
    gradient = list_of p.n p.gradient (λ j. or_else (found (code "G") 0 j) 0) h.the_gradient read-G k;
    constraints = (tab-same p.m (λ i. constraint_of (found (code "E") i 0) (found (code "W") i 0)) (constraint_at p) read-C ∙ constraints-of p.m p.constraints h.the_constraints) k;
    jacobian = (table_same p.m p.n (λ i j. or_else (found (code "A") i j) 0) (λ i j. nth p.jacobian (i * p.n + j)) read-A ∙ table_of p.m p.n p.jacobian h.the_jacobian) k;
    lower = list_of p.n p.lower (λ j. or_else (found (code "B") 0 j) low_bits) h.the_lower read-B k;
    upper = list_of p.n p.upper (λ j. or_else (found (code "T") 0 j) high_bits) h.the_upper read-T k;
  }

-- ---- the whole file

decode_is : (bs : List ℕ) (m n : ℕ) → leb 16 (length bs) ≡ true → is_head (record_at bs 0) ≡ true → record_row (record_at bs 0) ≡ m → record_column (record_at bs 0) ≡ n
    → is_dimension n ≡ true → is_constraints m ≡ true → decode bs ≡ walk m n bs (length bs / 16 - 1) 1 []
unfolding decode
decode_is bs m n a b em en c d = rw (a, b, em, en, c, d) refl

last-is : (m n : ℕ) (bs : List ℕ) (k : ℕ) (rs : List (List ℕ)) → eqb (length bs % 16) 0 ≡ true → is_complete m rs ≡ true → walk m n bs 0 k rs ≡ problem (given_bits m n rs)
unfolding walk
last-is m n bs k rs a b = rw (a, b)

head-is : (m n : ℕ) → is_head (record_of (code "D") m n 0) ≡ true
unfolding is_head
head-is m n = rw (tag_is (code "D") m n 0, spare-is (code "D") m n 0, bits_is (code "D") m n 0 (omega arith)) refl

module _ (p : Bits) (h : Writable p) where
  abbrev pub all : List (List ℕ)
  all = record_of (code "D") p.m p.n 0 ∷ body p h

  file-is : file p ≡ joined all
  unfolding file records_of
  file-is = refl

  sixteen : Whole all
  sixteen = (size_is (code "D") p.m p.n 0, good-whole p.m p.n 0 1152 (body p h) (good_all p h))

  read_all : decode (joined all) ≡ problem p
  read_all =
      let k = h.variables in
      let l = h.some_constraints in
      let len = joined_length all sixteen in
      let first : record_at (joined all) 0 ≡ record_of (code "D") p.m p.n 0 = joined_at all sixteen 0 (omega arith) in
      let dim : is_dimension p.n ≡ true = rw (le-leb 1 p.n h.some_variables, le-leb p.n 16 k) refl in
      let e : length (joined all) / 16 - 1 ≡ length (body p h) = omega (arith, len) in
      decode_is (joined all) p.m p.n (le-leb 16 (length (joined all)) (omega (arith, len))) (ap is_head first ∙ head-is p.m p.n)
      (ap record_row first ∙ row_is (code "D") p.m p.n 0 (omega arith)) (ap record_column first ∙ column-is (code "D") p.m p.n 0 (omega arith)) dim (le-leb p.m 16 l)
      ∙ ap (λ (x : ℕ). walk p.m p.n (joined all) x 1 []) e
      ∙ walk-good p.m p.n 0 1152 (joined all) (body p h) 1 [] (good_all p h) tt (λ t u. let q : 1 + t ≡ suc t = omega arith in ap (record_at (joined all)) q ∙ joined_at all sixteen (suc t) (omega arith))
      ∙ last-is p.m p.n (joined all) (1 + length (body p h)) (push (body p h) []) (let z : length (joined all) % 16 ≡ 0 = omega (arith, len) in eq-eqb (length (joined all) % 16) 0 z) (complete p h)
      ∙ ap problem (the-problem p h)

pub round_trip : RoundTrip
round_trip p h = ap decode (file-is p h) ∙ read_all p h

-- ---- equal problems and equal files

problem-in : Bits → Decoded Bits → Bits
problem-in d (fault k) = d
problem-in d too_large = d
problem-in d (problem p) = p

pub same-files : SameFiles
unfolding problem-in
same-files p q h k = (ap file, λ e. ap (problem-in p) (sym (round_trip p h) ∙ ap decode e ∙ round_trip q k))
