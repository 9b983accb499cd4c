-- The tables tell what specs/Input.antt says.
use mathlib.Core.Path.{◌≡◌, refl, sym, ap, ◌∙◌}
use mathlib.Core.Logic.{⊎_elim}
use mathlib.Core.Bool.{Bool, true, false, not, cond, ◌&&◌}
use mathlib.Core.List.{List, [], ◌∷◌, map}
use mathlib.Core.Option.{Option, none, some}
use Prim.Native.Nat.{ℕ, zero, suc, ◌+◌, ◌-◌, ◌*◌, ◌/◌, ◌%◌, ◌≤◌, ◌<◌}
use native.Mathlib.Nat.{zero-add}
use native.Mathlib.Omega.{arith}
use borrow.Author.Tests.{lt-ltb, le-ltb, le-leb, lt-leb, eq-eqb, ne_eqb, eqb-true}
use lib.Arith.{digits_div, digits_mod}
use lib.Dec.{eqb}
use lib.ListN.{length, get_or, take, drop, set, replicate, length-set, length-drop, length-replicate}
use lib.Seq.{get_or-set_same, get_or-set_other, get_or-take, get_or-drop, length-take-le}
use lib.Ieee.{Float, nan, inf}
use Rattle.numbers.specs.Numbers.{+0, one, tab, grid, entry}
use Rattle.numbers.proofs.Cases.{lt-or-ge, eq-or-ne}
use Rattle.numbers.proofs.Lists.{length-tab, get_d-tab, tab-same, tab-of, grid-of, grid-same, index-lt}
use Rattle.workspace.specs.Tables.{is_dimension, is_constraints}
use Rattle.workspace.proofs.Tests.{and-true}
use Rattle.problem_read.specs.declared.Area.{Area}
use Rattle.problem_read.specs.Input.{record_tag, record_row, record_column, record_bits, spare_zero, record_at, field, gives, given, is_some, is_sound, or_else, constraint_of, table, given_bits, is_whole, all_below, is_complete, Decoded, fault, too_large, problem, walk, is_head, decode, in_numbers, read_numbers}
use Rattle.problem_read.specs.Bits.{ConstraintBits, Bits, number, kind_of, value_of, width_of, numbers_of, one_bits, low_bits, high_bits}
use Rattle.problem_read.specs.Tables.{kind_at, problem_in}
use Rattle.problem_read.specs.inner.Spots.{area, area_of, if_spot, spot_in, spot_of, tag_mark, default_at, no_marks, default_values, whole_at}
use Rattle.problem_read.specs.inner.Filling.{entry_of, kept, added, if_entered, put_at, entered, if_head, sizes_of, head_of, Filling, filling, if_filling, on_entered, on_head, closing, walk_tables, decode_tables, stated, sized}
use Rattle.step_rows.specs.Problem.{Problem, problem_of}
use Rattle.problem_read.proofs.Entries.{mark-some}
use Rattle.problem_read.proofs.Marks.{all_same, all-at}
use Rattle.problem_read.proofs.Patterns.{map-tab, map-table, number_or, factor-number, plain-number, lower-number, upper-number, mark_in, whole-marks, kind-marks, value-given, width-given}
use Rattle.problem_read.proofs.Areas.{spot-within, room, within_in, square}
use Rattle.problem_read.proofs.Heads.{sizes-in, InTable}
use Rattle.problem_read.proofs.Places.{one_entry, one_field, area-field}
use Rattle.problem_read.proofs.Inside.{is_at, inside-at}
use Rattle.std.specs.Prelude.{Some, None, Ok, Err, Option as Place}
use Rattle.problem_read.specs.declared.Unread.TheVariants.{Fault, Large}

-- ---- what the tables hold after some records

-- each entry of an area stands in its place
record Holds (m n : ℕ) (rs : List (List ℕ)) (marks : List ℕ) (vals : List Float) : Type 0 where
  marks_size : length marks ≡ 592
  vals_size : length vals ≡ 592
  mark : (t i j p : ℕ) → spot_in (area_of m n t) i j ≡ Some p → get_or marks p 0 ≡ mark_in (given rs t i j)
  val : (t i j p : ℕ) → spot_in (area_of m n t) i j ≡ Some p → get_or vals p nan ≡ number_or (given rs t i j) (default_at n p)

zeros-at : (k p : ℕ) → ◌≡◌ {A = ℕ} (get_or (replicate k 0) p 0) 0
zeros-at zero p = refl
zeros-at (suc k) zero = refl
zeros-at (suc k) (suc p) = zeros-at k p

holds-none : (m n : ℕ) → m ≤ 16 → n ≤ 16 → Holds m n [] no_marks (default_values n)
unfolding no_marks default_values given
holds-none m n hm hn = record {
  marks_size = length-replicate {A = ℕ} 592 0;
  vals_size = length-tab 592 (default_at n);
  mark = λ t i j p h. zeros-at 592 p;
  val = λ t i j p h. get_d-tab 592 (default_at n) nan p (within_in (area_of m n t) i j p (room m n t hm hn) h);
}

given-here : (r : List ℕ) (rs : List (List ℕ)) (t i j : ℕ) → gives r t i j ≡ true → given (r ∷ rs) t i j ≡ some r
unfolding given
given-here r rs t i j e = rw e

given-skip : (r : List ℕ) (rs : List (List ℕ)) (t i j : ℕ) → gives r t i j ≡ false → given (r ∷ rs) t i j ≡ given rs t i j
unfolding given
given-skip r rs t i j e = rw e

module _ (m n : ℕ) (hm : m ≤ 16) (hn : n ≤ 16) (r : List ℕ) (q : ℕ) (e : spot_in (area_of m n (record_tag r)) (record_row r) (record_column r) ≡ Some q) where
  -- an entry with the record's place is the one that it gives
  gives-here : (t i j : ℕ) → spot_in (area_of m n t) i j ≡ Some q → gives r t i j ≡ true
  gives-here t i j h =
      let o = one_entry m n (record_tag r) (record_row r) (record_column r) t i j q hm hn e h in
      let f = one_field m n (record_tag r) (record_row r) (record_column r) t i j q hm hn e h in
      simp (eq-eqb _ _ f, eq-eqb _ _ o.rows, eq-eqb _ _ o.cols)

  -- and no other is
  gives-not : (t i j p : ℕ) → spot_in (area_of m n t) i j ≡ Some p → (p ≡ q → ⊥) → gives r t i j ≡ false
  gives-not t i j p h x = go (gives r t i j) refl
    where
      go : (b : Bool) → gives r t i j ≡ b → b ≡ false
      go true g =
          let u = and-true (eqb (field (record_tag r)) (field t)) (eqb (record_row r) i && eqb (record_column r) j) g in
          let v = and-true (eqb (record_row r) i) (eqb (record_column r) j) u.1 in
          let f : field (record_tag r) ≡ field t = eqb-true _ _ u.0 in
          let b : area_of m n (record_tag r) ≡ area_of m n t = sym (area-field m n (record_tag r)) ∙ ap (area_of m n) f ∙ area-field m n t in
          let s : spot_in (area_of m n t) i j ≡ Some q = rw (← b, ← eqb-true (record_row r) i v.0, ← eqb-true (record_column r) j v.1) e in
          let z : Some p ≡ Some q = sym h ∙ s in
          let w : p ≡ q = cc in
          absurd (x w)
      go false g = refl

  holds_more : (rs : List (List ℕ)) (marks : List ℕ) (vals : List Float) → Holds m n rs marks vals → Holds m n (r ∷ rs) (set marks q (tag_mark (record_tag r))) (set vals q (number (record_bits r)))
  holds_more rs marks vals a =
      let l : q < 592 = within_in (area_of m n (record_tag r)) (record_row r) (record_column r) q (room m n (record_tag r) hm hn) e in
      record {
        marks_size = simp length-set a.marks_size;
        vals_size = simp length-set a.vals_size;
        mark = λ t i j p h.
            ⊎_elim
            (λ (s : p ≡ q).
            let k : spot_in (area_of m n t) i j ≡ Some q = rw (← s) h in
            rw (s, given-here r rs t i j (gives-here t i j k)) (get_or-set_same marks q (tag_mark (record_tag r)) 0 (omega (arith, a.marks_size))))
            (λ (s : p ≡ q → ⊥).
            rw (given-skip r rs t i j (gives-not t i j p h s)) (get_or-set_other marks q p (tag_mark (record_tag r)) 0 s ∙ a.mark t i j p h))
            (eq-or-ne p q);
        val = λ t i j p h.
            ⊎_elim
            (λ (s : p ≡ q).
            let k : spot_in (area_of m n t) i j ≡ Some q = rw (← s) h in
            rw (s, given-here r rs t i j (gives-here t i j k)) (get_or-set_same vals q (number (record_bits r)) nan (omega (arith, a.vals_size))))
            (λ (s : p ≡ q → ⊥).
            rw (given-skip r rs t i j (gives-not t i j p h s)) (get_or-set_other vals q p (number (record_bits r)) nan s ∙ a.val t i j p h))
            (eq-or-ne p q);
      }

-- ---- parts of the tables

part-is : {A : Type 0} (d : A) (l : List A) (o k : ℕ) (f : ℕ → A) → o + k ≤ length l → ((i : ℕ) → i < k → get_or l (o + i) d ≡ f i) → take k (drop o l) ≡ tab k f
part-is d l o k f h g =
    tab-of k (take k (drop o l)) f d (length-take-le k (drop o l) (simp length-drop (omega arith))) (λ i e. rw (get_or-take, get_or-drop) (g i e))

part-grid : (l : List Float) (o m n : ℕ) (f : ℕ → ℕ → Float) → o + m * n ≤ length l → ((i j : ℕ) → i < m → j < n → get_or l (o + (i * n + j)) nan ≡ f i j)
    → take (m * n) (drop o l) ≡ grid m n f
part-grid l o m n f h g =
    sym (grid-of m n (take (m * n) (drop o l)) (length-take-le (m * n) (drop o l) (simp length-drop (omega arith))))
    ∙ grid-same m n (λ i j. entry n (take (m * n) (drop o l)) i j) f
    (λ i j a b. let k = index-lt m n i j a b in get_or-take (m * n) (drop o l) (i * n + j) nan k ∙ get_or-drop o l (i * n + j) nan ∙ g i j a b)

cell_at : (b : Area) (i j : ℕ) → i < b.rows → j < b.cols → spot_in b i j ≡ Some (b.base + (i * b.cols + j))
unfolding spot_in
cell_at b i j h k = simp (lt-ltb _ _ h, lt-ltb _ _ k)

default-factor : (n i j : ℕ) → n ≤ 16 → i < n → j < n → default_at n (i * n + j) ≡ cond (eqb i j) one +0
unfolding default_at
default-factor n i j hn hi hj =
    let q : i * n + j < 256 = omega (arith, index-lt n n i j hi hj, square n n hn hn) in
    simp (lt-ltb _ _ q, digits_div i hj, digits_mod i hj)

default-zero : (n p : ℕ) → 256 ≤ p → p < 544 → default_at n p ≡ +0
unfolding default_at
default-zero n p h k = simp (le-ltb _ _ h, lt-ltb _ _ k)

default-lower : (n p : ℕ) → 544 ≤ p → p < 560 → default_at n p ≡ inf true
unfolding default_at
default-lower n p h k = let g : 256 ≤ p = omega arith in simp (le-ltb _ _ g, le-ltb _ _ h, lt-ltb _ _ k)

default-upper : (n p : ℕ) → 560 ≤ p → p < 576 → default_at n p ≡ inf false
unfolding default_at
default-upper n p h l = let g : 256 ≤ p = omega arith in let k : 544 ≤ p = omega arith in simp (le-ltb _ _ g, le-ltb _ _ k, le-ltb _ _ h, lt-ltb _ _ l)

default-width : (n p : ℕ) → 576 ≤ p → default_at n p ≡ +0
unfolding default_at
default-width n p h =
    let g : 256 ≤ p = omega arith in
    let k : 544 ≤ p = omega arith in
    let l : 560 ≤ p = omega arith in
    simp (le-ltb _ _ g, le-ltb _ _ k, le-ltb _ _ l, le-ltb _ _ h)

-- the problem that is given, in numbers
numbers-given : (m n : ℕ) (rs : List (List ℕ))
    → numbers_of (given_bits m n rs)
    ≡ problem_of n m (grid n n (λ i j. number_or (given rs 76 i j) (cond (eqb i j) one +0))) (tab n (λ j. number_or (given rs 71 0 j) +0))
    (tab m (λ i. kind_of (constraint_of (given rs 69 i 0) (given rs 87 i 0)))) (tab m (λ i. value_of (constraint_of (given rs 69 i 0) (given rs 87 i 0))))
    (tab m (λ i. width_of (constraint_of (given rs 69 i 0) (given rs 87 i 0)))) (grid m n (λ i j. number_or (given rs 65 i j) +0))
    (tab n (λ j. number_or (given rs 66 0 j) (inf true))) (tab n (λ j. number_or (given rs 84 0 j) (inf false)))
unfolding numbers_of given_bits
numbers-given m n rs =
    let f : map number (table n n (λ i j. or_else (given rs 76 i j) (cond (eqb i j) one_bits 0))) ≡ grid n n (λ i j. number_or (given rs 76 i j) (cond (eqb i j) one +0)) =
    map-table number n n (λ i j. or_else (given rs 76 i j) (cond (eqb i j) one_bits 0)) ∙ grid-same n n _ _ (λ i j h k. factor-number (given rs 76 i j) (eqb i j)) in
    let g : map number (tab n (λ j. or_else (given rs 71 0 j) 0)) ≡ tab n (λ j. number_or (given rs 71 0 j) +0) =
    map-tab number n (λ j. or_else (given rs 71 0 j) 0) ∙ tab-same n _ _ (λ j h. plain-number (given rs 71 0 j)) in
    let c : ℕ → ConstraintBits = λ i. constraint_of (given rs 69 i 0) (given rs 87 i 0) in
    let a : map number (table m n (λ i j. or_else (given rs 65 i j) 0)) ≡ grid m n (λ i j. number_or (given rs 65 i j) +0) =
    map-table number m n (λ i j. or_else (given rs 65 i j) 0) ∙ grid-same m n _ _ (λ i j h k. plain-number (given rs 65 i j)) in
    let b : map number (tab n (λ j. or_else (given rs 66 0 j) low_bits)) ≡ tab n (λ j. number_or (given rs 66 0 j) (inf true)) =
    map-tab number n (λ j. or_else (given rs 66 0 j) low_bits) ∙ tab-same n _ _ (λ j h. lower-number (given rs 66 0 j)) in
    let t : map number (tab n (λ j. or_else (given rs 84 0 j) high_bits)) ≡ tab n (λ j. number_or (given rs 84 0 j) (inf false)) =
    map-tab number n (λ j. or_else (given rs 84 0 j) high_bits) ∙ tab-same n _ _ (λ j h. upper-number (given rs 84 0 j)) in
    rw (f, g, map-tab kind_of m c, map-tab value_of m c, map-tab width_of m c, a, b, t)

module _ (m n : ℕ) (w : InTable m n) (rs : List (List ℕ)) (marks : List ℕ) (vals : List Float) (a : Holds m n rs marks vals) where
  -- entry j of a row, at o
  row-val : (t o : ℕ) → area_of m n t ≡ area o 1 n → (j : ℕ) → j < n → get_or vals (o + j) nan ≡ number_or (given rs t 0 j) (default_at n (o + j))
  row-val t o e j h =
      let z : o + j ≡ o + (0 * n + j) = omega arith in
      rw z (a.val t 0 j (o + (0 * n + j)) (rw e (cell_at (area o 1 n) 0 j (omega arith) h)))

  -- entry (i, j) of a matrix of k rows, at o
  cell-val : (t o k : ℕ) → area_of m n t ≡ area o k n → (i j : ℕ) → i < k → j < n
      → get_or vals (o + (i * n + j)) nan ≡ number_or (given rs t i j) (default_at n (o + (i * n + j)))
  cell-val t o k e i j h g = a.val t i j (o + (i * n + j)) (rw e (cell_at (area o k n) i j h g))

  -- constraint i
  constraint-at : (i : ℕ) → i < m → spot_in (area_of m n 69) i 0 ≡ Some (272 + i)
  unfolding area_of
  constraint-at i h = let z : 272 + i ≡ 272 + (i * 1 + 0) = omega arith in rw z (cell_at (area 272 m 1) i 0 h (omega arith))

  width-at : (i : ℕ) → i < m → spot_in (area_of m n 87) i 0 ≡ Some (576 + i)
  unfolding area_of
  width-at i h = let z : 576 + i ≡ 576 + (i * 1 + 0) = omega arith in rw z (cell_at (area 576 m 1) i 0 h (omega arith))

  whole-agrees : (i : ℕ) → i < m → whole_at marks i ≡ is_whole (given rs 69 i 0) (given rs 87 i 0)
  unfolding whole_at
  whole-agrees i h = rw (a.mark 69 i 0 (272 + i) (constraint-at i h), a.mark 87 i 0 (576 + i) (width-at i h)) (whole-marks (given rs 69 i 0) (given rs 87 i 0))

  complete-agrees : all_below m (whole_at marks) ≡ is_complete m rs
  unfolding is_complete
  complete-agrees = all_same m (whole_at marks) (λ i. is_whole (given rs 69 i 0) (given rs 87 i 0)) whole-agrees

  factor-agrees : take (n * n) vals ≡ grid n n (λ i j. number_or (given rs 76 i j) (cond (eqb i j) one +0))
  unfolding area_of
  factor-agrees =
      part-grid vals 0 n n _ (omega (arith, a.vals_size, square n n w.most w.most))
      (λ i j h k.
      cell-val 76 0 n refl i j h k
      ∙ ap (λ (v : Float). number_or (given rs 76 i j) v) (ap (default_at n) (zero-add (i * n + j)) ∙ default-factor n i j w.most h k))

  gradient-agrees : take n (drop 256 vals) ≡ tab n (λ j. number_or (given rs 71 0 j) +0)
  unfolding area_of
  gradient-agrees =
      part-is nan vals 256 n _ (omega (arith, a.vals_size, w.most))
      (λ j h. row-val 71 256 refl j h ∙ ap (λ (v : Float). number_or (given rs 71 0 j) v) (default-zero n (256 + j) (omega arith) (omega (arith, w.most))))

  jacobian-agrees : take (m * n) (drop 288 vals) ≡ grid m n (λ i j. number_or (given rs 65 i j) +0)
  unfolding area_of
  jacobian-agrees =
      let s = square m n w.few w.most in
      part-grid vals 288 m n _ (omega (arith, a.vals_size, s))
      (λ i j h k.
      cell-val 65 288 m refl i j h k
      ∙ ap (λ (v : Float). number_or (given rs 65 i j) v) (default-zero n (288 + (i * n + j)) (omega arith) (omega (arith, s, index-lt m n i j h k))))

  lower-agrees : take n (drop 544 vals) ≡ tab n (λ j. number_or (given rs 66 0 j) (inf true))
  unfolding area_of
  lower-agrees =
      part-is nan vals 544 n _ (omega (arith, a.vals_size, w.most))
      (λ j h. row-val 66 544 refl j h ∙ ap (λ (v : Float). number_or (given rs 66 0 j) v) (default-lower n (544 + j) (omega arith) (omega (arith, w.most))))

  upper-agrees : take n (drop 560 vals) ≡ tab n (λ j. number_or (given rs 84 0 j) (inf false))
  unfolding area_of
  upper-agrees =
      part-is nan vals 560 n _ (omega (arith, a.vals_size, w.most))
      (λ j h. row-val 84 560 refl j h ∙ ap (λ (v : Float). number_or (given rs 84 0 j) v) (default-upper n (560 + j) (omega arith) (omega (arith, w.most))))

  -- where no constraint is missing and each width has its `I`
  module _ (h : is_complete m rs ≡ true) where
    whole : (i : ℕ) → i < m → is_whole (given rs 69 i 0) (given rs 87 i 0) ≡ true
    unfolding is_complete
    whole i k = all-at m (λ j. is_whole (given rs 69 j 0) (given rs 87 j 0)) h i k

    kinds-agree : tab m (kind_at marks) ≡ tab m (λ i. kind_of (constraint_of (given rs 69 i 0) (given rs 87 i 0)))
    unfolding kind_at
    kinds-agree =
        tab-same m _ _
        (λ i k.
        rw (a.mark 69 i 0 (272 + i) (constraint-at i k), a.mark 87 i 0 (576 + i) (width-at i k)) (kind-marks (given rs 69 i 0) (given rs 87 i 0) (whole i k)))

    values_agree : take m (drop 272 vals) ≡ tab m (λ i. value_of (constraint_of (given rs 69 i 0) (given rs 87 i 0)))
    values_agree =
        part-is nan vals 272 m _ (omega (arith, a.vals_size, w.few))
        (λ i k.
        a.val 69 i 0 (272 + i) (constraint-at i k)
        ∙ ap (λ (v : Float). number_or (given rs 69 i 0) v) (default-zero n (272 + i) (omega arith) (omega (arith, w.few)))
        ∙ value-given (given rs 69 i 0) (given rs 87 i 0))

    widths-agree : take m (drop 576 vals) ≡ tab m (λ i. width_of (constraint_of (given rs 69 i 0) (given rs 87 i 0)))
    widths-agree =
        part-is nan vals 576 m _ (omega (arith, a.vals_size, w.few))
        (λ i k.
        a.val 87 i 0 (576 + i) (width-at i k)
        ∙ ap (λ (v : Float). number_or (given rs 87 i 0) v) (default-width n (576 + i) (omega arith))
        ∙ width-given (given rs 69 i 0) (given rs 87 i 0) (whole i k))

    problem-agrees : problem_in m n marks vals ≡ numbers_of (given_bits m n rs)
    unfolding problem_in
    problem-agrees =
        rw (factor-agrees, gradient-agrees, kinds-agree, values_agree, widths-agree, jacobian-agrees, lower-agrees, upper-agrees) (sym (numbers-given m n rs))

-- ---- the walk

-- a record at fault is at fault in numbers
through : (b : Bool) (d : Decoded Bits) (k : ℕ) → cond b (in_numbers d) (fault k) ≡ in_numbers (cond b d (fault k))
through true d k = refl
through false d k = refl

module _ (m n : ℕ) (w : InTable m n) (bs : List ℕ) where
  end-agrees : (k : ℕ) (rs : List (List ℕ)) (marks : List ℕ) (vals : List Float) → Holds m n rs marks vals
      → stated (closing m n bs k marks vals) ≡ in_numbers (cond (eqb (length bs % 16) 0 && is_complete m rs) (problem (given_bits m n rs)) (fault k))
  unfolding closing
  end-agrees k rs marks vals a = rw (complete-agrees m n w rs marks vals a) (go (eqb (length bs % 16) 0) (is_complete m rs) refl)
    where
      go : (s t : Bool) → is_complete m rs ≡ t
          → stated (if_filling (s && t) (filling (Ok (sized m n)) marks vals) (filling (Err (Fault k)) marks vals)) ≡ in_numbers (cond (s && t) (problem (given_bits m n rs)) (fault k))
      go true true h = ap problem (problem-agrees m n w rs marks vals a h)
      go true false h = refl
      go false t h = refl

  -- one record: f goes on with the tables, and d is what comes where the record is sound
  turn : (r : List ℕ) (k : ℕ) (rs : List (List ℕ)) (marks : List ℕ) (vals : List Float) (f : List ℕ → List Float → Filling) (d : Decoded Problem) → Holds m n rs marks vals
      → ((marks' : List ℕ) (vals' : List Float) → Holds m n (r ∷ rs) marks' vals' → stated (f marks' vals') ≡ d)
      → stated (on_entered (entered m n r marks vals) k f) ≡ cond (is_sound m n rs r) d (fault k)
  unfolding entered entry_of put_at is_sound
  turn r k rs marks vals f d a ih = rw (← inside-at m n (record_tag r) (record_row r) (record_column r)) (go (spare_zero r) (spot_of m n (record_tag r) (record_row r) (record_column r)) refl)
    where
      at : (p : ℕ) → spot_in (area_of m n (record_tag r)) (record_row r) (record_column r) ≡ Some p → (o : Option (List ℕ)) → given rs (record_tag r) (record_row r) (record_column r) ≡ o
          → stated (on_entered (if_entered (eqb (get_or marks p 0) 0) (added (set marks p (tag_mark (record_tag r))) (set vals p (number (record_bits r)))) (kept marks vals)) k f)
          ≡ cond (not (is_some o)) d (fault k)
      at p e none g =
          let z : get_or marks p 0 ≡ 0 = a.mark (record_tag r) (record_row r) (record_column r) p e ∙ ap mark_in g in
          rw (eq-eqb _ _ z) (ih (set marks p (tag_mark (record_tag r))) (set vals p (number (record_bits r))) (holds_more m n w.few w.most r p e rs marks vals a))
      at p e (some s) g =
          let z : get_or marks p 0 ≡ tag_mark (record_tag s) = a.mark (record_tag r) (record_row r) (record_column r) p e ∙ ap mark_in g in
          rw (ne_eqb (get_or marks p 0) 0 (λ y. mark-some (record_tag s) (sym z ∙ y)))

      go : (z : Bool) (s : Place ℕ) → spot_of m n (record_tag r) (record_row r) (record_column r) ≡ s
          → stated (on_entered (put_at (if_spot z s) (tag_mark (record_tag r)) (number (record_bits r)) marks vals) k f)
          ≡ cond (is_at s && (z && not (is_some (given rs (record_tag r) (record_row r) (record_column r))))) d (fault k)
      go false None e = refl
      go false (Some p) e = refl
      go true None e = refl
      go true (Some p) e = at p (spot-within m n (record_tag r) (record_row r) (record_column r) p e) (given rs (record_tag r) (record_row r) (record_column r)) refl

  walk-agrees : (left k : ℕ) (rs : List (List ℕ)) (marks : List ℕ) (vals : List Float) → Holds m n rs marks vals
      → stated (walk_tables m n bs left k marks vals) ≡ in_numbers (walk m n bs left k rs)
  unfolding walk walk_tables
  walk-agrees zero k rs marks vals a = end-agrees k rs marks vals a
  walk-agrees (suc left) k rs marks vals a =
      turn (record_at bs k) k rs marks vals (λ marks' vals'. walk_tables m n bs left (k + 1) marks' vals') (in_numbers (walk m n bs left (k + 1) (record_at bs k ∷ rs))) a
      (λ marks' vals' a'. walk-agrees left (k + 1) (record_at bs k ∷ rs) marks' vals' a')
      ∙ through (is_sound m n rs (record_at bs k)) (walk m n bs left (k + 1) (record_at bs k ∷ rs)) k

-- ---- the whole input

pub agreement : (bs marks : List ℕ) (vals : List Float) → stated (decode_tables bs marks vals) ≡ read_numbers bs
unfolding read_numbers decode decode_tables head_of sizes_of
agreement bs marks vals =
    ⊎_elim
    (λ (h : length bs < 16). simp (lt-ltb _ _ h, lt-leb _ _ h))
    (λ (h : 16 ≤ length bs). simp (le-ltb _ _ h, le-leb _ _ h) (head (is_head (take 16 bs)) (is_dimension (record_column (take 16 bs)) && is_constraints (record_row (take 16 bs))) refl))
    (lt-or-ge (length bs) 16)
  where
    head : (s t : Bool) → (is_dimension (record_column (take 16 bs)) && is_constraints (record_row (take 16 bs))) ≡ t
        → stated
        (on_head (if_head s (if_head t (Ok (sized (record_row (take 16 bs)) (record_column (take 16 bs)))) (Err Large)) (Err (Fault 0))) marks vals
        (λ m n. walk_tables m n bs (length bs / 16 - 1) 1 no_marks (default_values n)))
        ≡ in_numbers (cond s (cond t (walk (record_row (take 16 bs)) (record_column (take 16 bs)) bs (length bs / 16 - 1) 1 []) too_large) (fault 0))
    head true true e =
        let w = sizes-in (record_row (take 16 bs)) (record_column (take 16 bs)) e in
        walk-agrees (record_row (take 16 bs)) (record_column (take 16 bs)) w bs (length bs / 16 - 1) 1 [] no_marks (default_values (record_column (take 16 bs)))
        (holds-none (record_row (take 16 bs)) (record_column (take 16 bs)) w.few w.most)
    head true false e = refl
    head false t e = refl
