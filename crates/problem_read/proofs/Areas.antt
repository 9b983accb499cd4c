-- Every area lies in the tables, and so does every place in it.
use mathlib.Core.Path.{◌≡◌, refl}
use mathlib.Core.Bool.{Bool, true, false, ◌&&◌, not}
use mathlib.Core.List.{List}
use Prim.Native.Nat.{ℕ, ◌+◌, ◌*◌, ◌≤◌, ◌<◌}
use native.Mathlib.Nat.{mul-le-mul}
use native.Mathlib.Omega.{arith}
use borrow.Author.Tests.{ltb-true}
use lib.Dec.{eqb, ltb}
use Rattle.numbers.proofs.Lists.{index-lt}
use Rattle.problem_read.specs.declared.Area.{Area}
use Rattle.problem_read.specs.inner.Spots.{area, either, area_of, spot_in, spot_of, if_spot}
use Rattle.problem_read.specs.inner.Filling.{entry_of}
use Rattle.problem_read.specs.Input.{is, spare_zero, record_tag, record_row, record_column}
use Rattle.std.specs.Prelude.{Some, None, Option}

-- where an `L` is not above the diagonal, the area decides
pub spot-rest : (m n tag row col : ℕ) → (eqb tag 76 && ltb row col) ≡ false → spot_of m n tag row col ≡ spot_in (area_of m n tag) row col
unfolding spot_of
spot-rest m n tag row col e = simp e

-- an area that lies in the tables
pub record Room (b : Area) : Type 0 where
  pub base : b.base ≤ 592
  pub rows : b.rows ≤ 16
  pub cols : b.cols ≤ 16
  pub all : b.base + b.rows * b.cols ≤ 592

fits : (base rows cols : ℕ) → base ≤ 592 → rows ≤ 16 → cols ≤ 16 → base + rows * cols ≤ 592 → Room (area base rows cols)
fits base rows cols a b c d = record { base = a; rows = b; cols = c; all = d }

room-either : (b : Bool) {x y : Area} → Room x → Room y → Room (either b x y)
room-either true p q = p
room-either false p q = q

-- every area lies in the tables
pub room : (m n tag : ℕ) → m ≤ 16 → n ≤ 16 → Room (area_of m n tag)
unfolding area_of
room m n tag hm hn =
    let mn : m * n ≤ 16 * 16 = mul-le-mul hm hn in
    let nn : n * n ≤ 16 * 16 = mul-le-mul hn hn in
    room-either (eqb tag 76) (fits 0 n n (omega arith) hn hn (omega arith))
    (room-either (eqb tag 71) (fits 256 1 n (omega arith) (omega arith) hn (omega arith))
    (room-either (eqb tag 69) (fits 272 m 1 (omega arith) hm (omega arith) (omega arith))
    (room-either (eqb tag 73) (fits 272 m 1 (omega arith) hm (omega arith) (omega arith))
    (room-either (eqb tag 87) (fits 576 m 1 (omega arith) hm (omega arith) (omega arith))
    (room-either (eqb tag 65) (fits 288 m n (omega arith) hm hn (omega arith))
    (room-either (eqb tag 66) (fits 544 1 n (omega arith) (omega arith) hn (omega arith))
    (room-either (eqb tag 84) (fits 560 1 n (omega arith) (omega arith) hn (omega arith))
    (fits 0 0 0 (omega arith) (omega arith) (omega arith) (omega arith)))))))))

never : {A : Type 0} (p : ℕ) → None ≡ Some p → A
never p e = let z : ◌≡◌ {A = ℕ} 0 1 = cc in absurd (omega arith)

pub if-spot : (b : Bool) (s : Option ℕ) (p : ℕ) → if_spot b s ≡ Some p → (b ≡ true) × (s ≡ Some p)
if-spot true s p e = (refl, e)
if-spot false s p e = never p e

pub within_in : (b : Area) (row col p : ℕ) → Room b → spot_in b row col ≡ Some p → p < 592
unfolding spot_in
within_in b row col p h e =
    let x = if-spot (ltb row b.rows) _ p e in
    let y = if-spot (ltb col b.cols) _ p x.1 in
    let z : b.base + (row * b.cols + col) ≡ p = cc y.1 in
    let q : row * b.cols + col < b.rows * b.cols = index-lt b.rows b.cols row col (ltb-true _ _ x.0) (ltb-true _ _ y.0) in
    omega (arith, h.all)

-- the place that a record names lies in the tables
pub entry_in : (m n : ℕ) (r : List ℕ) (p : ℕ) → m ≤ 16 → n ≤ 16 → entry_of m n r ≡ Some p → p < 592
unfolding entry_of spot_of
entry_in m n r p hm hn e =
    let x = if-spot (spare_zero r) _ p e in
    let y = if-spot (not (eqb (record_tag r) 76 && ltb (record_row r) (record_column r))) _ p x.1 in
    within_in (area_of m n (record_tag r)) (record_row r) (record_column r) p (room m n (record_tag r) hm hn) y.1

pub spot-within : (m n t i j p : ℕ) → spot_of m n t i j ≡ Some p → spot_in (area_of m n t) i j ≡ Some p
unfolding spot_of
spot-within m n t i j p e = (if-spot (not (is "L" t && ltb i j)) (spot_in (area_of m n t) i j) p e).1

pub square : (m n : ℕ) → m ≤ 16 → n ≤ 16 → m * n ≤ 256
square m n h l = mul-le-mul h l
