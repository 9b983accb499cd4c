-- A record's 16 bytes, both ways.
use mathlib.Core.Path.{◌≡◌, refl, sym, ap, ◌∙◌}
use mathlib.Core.Bool.{true, ◌&&◌}
use mathlib.Core.List.{List, ◌∷◌, ◌++◌}
use Prim.Native.Nat.{ℕ, ◌+◌, ◌^◌, ◌<◌, ◌≤◌}
use native.Mathlib.Omega.{arith}
use lib.Dec.{eqb}
use lib.ListN.{length, take, drop, get_or, length-drop, take-append-drop}
use lib.Seq.{drop-cons, drop-drop, take_all}
use borrow.Author.Tests.{eqb-true}
use Rattle.workspace.proofs.Tests.{and-true}
use Rattle.endian.specs.Little.{bytes, number_at}
use Rattle.endian.specs.Claims.{AreBytes}
use Rattle.endian.proofs.Little.{little-bytes, bytes-little}
use Rattle.endian.proofs.Laws.{part_bytes, part-size}
use Rattle.problem_read.specs.Input.{record_tag, record_row, record_column, record_bits, spare_zero, field, gives}
use Rattle.problem_write.specs.File.{record_of}
use Rattle.problem_write.specs.Claims.{ReadsBack, RecordBothWays}

-- ---- what was written

module _ (t i j b : ℕ) where
  pub size_is : length (record_of t i j b) ≡ 16
  unfolding record_of bytes
  size_is = refl

  pub tag_is : record_tag (record_of t i j b) ≡ t
  unfolding record_of
  tag_is = refl

  pub row_is : i < 65536 → record_row (record_of t i j b) ≡ i
  unfolding record_of bytes
  row_is h = little-bytes 2 i h

  pub column-is : j < 65536 → record_column (record_of t i j b) ≡ j
  unfolding record_of bytes
  column-is h = little-bytes 2 j h

  pub bits_is : b < 2 ^ 64 → record_bits (record_of t i j b) ≡ b
  unfolding record_of bytes
  bits_is h = little-bytes 8 b h

  pub spare-is : spare_zero (record_of t i j b) ≡ true
  unfolding record_of bytes spare_zero
  spare-is = refl

  reads-back : ReadsBack t i j b
  reads-back = record { the_size = size_is; the_tag = tag_is; the_row = row_is; the_column = column-is; the_bits = bits_is; the_spare = spare-is }

  pub gives-is : i < 65536 → j < 65536 → (u k l : ℕ) → gives (record_of t i j b) u k l ≡ (eqb (field t) (field u) && (eqb i k && eqb j l))
  gives-is hi hj u k l = rw (tag_is, row_is hi, column-is hj) refl

-- ---- what was read

-- two numbers of two bytes, the spare places, and a number of eight
module _ (r : List ℕ) (len : length r ≡ 16) (b : AreBytes r) (spare : spare_zero r ≡ true) where
  part : (k at : ℕ) → at + k ≤ 16 → bytes k (number_at k at r) ≡ take k (drop at r)
  part k at h =
      let l : at + k ≤ length r = omega (arith, len) in
      let e = part-size k at r l in
      ap (λ (x : ℕ). bytes x (number_at k at r)) (sym e) ∙ bytes-little (take k (drop at r)) (part_bytes k at r b)

  split : (k at next : ℕ) → next ≡ at + k → drop at r ≡ take k (drop at r) ++ drop next r
  split k at next e = sym (ap (λ (t : List ℕ). take k (drop at r) ++ t) (ap (λ (x : ℕ). drop x r) e ∙ sym (drop-drop k at r)) ∙ take-append-drop k (drop at r))

  -- the places 1, 6 and 7 hold 0
  clear : (get_or r 1 0 ≡ 0) × (get_or r 6 0 ≡ 0) × (get_or r 7 0 ≡ 0)
  unfolding spare_zero
  clear =
      let a = and-true (eqb (get_or r 1 0) 0) (eqb (get_or r 6 0) 0 && eqb (get_or r 7 0) 0) spare in
      let c = and-true (eqb (get_or r 6 0) 0) (eqb (get_or r 7 0) 0) a.1 in
      (eqb-true (get_or r 1 0) 0 a.0, eqb-true (get_or r 6 0) 0 c.0, eqb-true (get_or r 7 0) 0 c.1)

  six-seven : drop 6 r ≡ bytes 2 0 ++ drop 8 r
  unfolding bytes
  six-seven = drop-cons r 6 0 (omega (arith, len)) ∙ rw (clear.1, drop-cons r 7 0 (omega (arith, len)), clear.2) refl

  front : r ≡ record_tag r ∷ 0 ∷ drop 2 r
  front = drop-cons r 0 0 (omega (arith, len)) ∙ ap (λ (t : List ℕ). record_tag r ∷ t) (drop-cons r 1 0 (omega (arith, len)) ∙ rw clear.0 refl)

  last : drop 8 r ≡ bytes 8 (record_bits r)
  last = sym (part 8 8 (omega arith) ∙ take_all 8 (drop 8 r) (simp length-drop (omega (arith, len))))

  again : record_of (record_tag r) (record_row r) (record_column r) (record_bits r) ≡ r
  unfolding record_of
  again =
      let e₆ : drop 6 r ≡ bytes 2 0 ++ bytes 8 (record_bits r) = six-seven ∙ ap (λ (t : List ℕ). bytes 2 0 ++ t) last in
      let e₄ : drop 4 r ≡ bytes 2 (record_column r) ++ (bytes 2 0 ++ bytes 8 (record_bits r)) =
      split 2 4 6 refl ∙ ap (λ (t : List ℕ). take 2 (drop 4 r) ++ t) e₆ ∙ ap (λ (t : List ℕ). t ++ (bytes 2 0 ++ bytes 8 (record_bits r))) (sym (part 2 4 (omega arith))) in
      let e : drop 2 r ≡ bytes 2 (record_row r) ++ (bytes 2 (record_column r) ++ (bytes 2 0 ++ bytes 8 (record_bits r))) =
      split 2 2 4 refl ∙ ap (λ (t : List ℕ). take 2 (drop 2 r) ++ t) e₄
      ∙ ap (λ (t : List ℕ). t ++ (bytes 2 (record_column r) ++ (bytes 2 0 ++ bytes 8 (record_bits r)))) (sym (part 2 2 (omega arith))) in
      sym (front ∙ ap (λ (t : List ℕ). record_tag r ∷ 0 ∷ t) e)

pub record-both-ways : RecordBothWays
record-both-ways = (reads-back, again)
