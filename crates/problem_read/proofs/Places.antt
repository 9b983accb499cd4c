-- Two entries share a place only if they are one entry: the same area, row and column.
use mathlib.Core.Path.{◌≡◌, refl, sym, ap, ◌∙◌}
use mathlib.Core.Bool.{Bool, true, false, cond}
use Prim.Native.Nat.{ℕ, ◌+◌, ◌*◌, ◌/◌, ◌%◌, ◌≤◌, ◌<◌}
use Prim.Native.Char.{code}
use native.Mathlib.Omega.{arith}
use borrow.Author.Tests.{lt-ltb, le-ltb, ltb-true, eqb-true}
use lib.Arith.{digits_div, digits_mod}
use lib.Dec.{eqb, ltb}
use Rattle.numbers.proofs.Lists.{index-lt}
use Rattle.problem_read.specs.declared.Area.{Area}
use Rattle.problem_read.specs.Input.{is, field}
use Rattle.problem_read.specs.inner.Spots.{area, either, area_of, spot_in}
use Rattle.problem_read.proofs.Areas.{if-spot, square}
use Rattle.std.specs.Prelude.{Some}

-- a place in an area
record Held (b : Area) (row col p : ℕ) : Type 0 where
  low : row < b.rows
  left : col < b.cols
  place : b.base + (row * b.cols + col) ≡ p
  end : p < b.base + b.rows * b.cols

held : (b : Area) (row col p : ℕ) → spot_in b row col ≡ Some p → Held b row col p
unfolding spot_in
held b row col p e =
    let x = if-spot (ltb row b.rows) _ p e in
    let y = if-spot (ltb col b.cols) _ p x.1 in
    let z : b.base + (row * b.cols + col) ≡ p = cc y.1 in
    let h = ltb-true row b.rows x.0 in
    let k = ltb-true col b.cols y.0 in
    record { low = h; left = k; place = z; end = omega (arith, index-lt b.rows b.cols row col h k) }

-- the area of a place
area_at : ℕ → ℕ → ℕ → Area
area_at m n p =
    either (ltb p 256) (area 0 n n)
    (either (ltb p 272) (area 256 1 n)
    (either (ltb p 288) (area 272 m 1)
    (either (ltb p 544) (area 288 m n)
    (either (ltb p 560) (area 544 1 n)
    (either (ltb p 576) (area 560 1 n) (area 576 m 1))))))

module _ (m n row col p : ℕ) (hm : m ≤ 16) (hn : n ≤ 16) where
  abbrev Fixed : Area → Type 0
  Fixed b = Held b row col p → b ≡ area_at m n p

  fixed-either : (b : Bool) {x y : Area} → Fixed x → Fixed y → Fixed (either b x y)
  fixed-either true f g = f
  fixed-either false f g = g

  fixed : (tag : ℕ) → Fixed (area_of m n tag)
  unfolding area_of area_at
  fixed tag =
      let mn : m * n ≤ 256 = square m n hm hn in
      let nn : n * n ≤ 256 = square n n hn hn in
      fixed-either (eqb tag 76) {x = area 0 n n} (λ h. let a : p < 256 = omega (arith, h.end) in simp (lt-ltb _ _ a))
      (fixed-either (eqb tag 71) {x = area 256 1 n} (λ h. let a : 256 ≤ p = omega (arith, h.place) in let b : p < 272 = omega (arith, h.end) in simp (le-ltb _ _ a, lt-ltb _ _ b))
      (fixed-either (eqb tag 69) {x = area 272 m 1} (λ h. let a : 256 ≤ p = omega (arith, h.place) in let b : 272 ≤ p = omega (arith, h.place) in let d : p < 288 = omega (arith, h.end) in simp (le-ltb _ _ a, le-ltb _ _ b, lt-ltb _ _ d))
      (fixed-either (eqb tag 73) {x = area 272 m 1} (λ h. let a : 256 ≤ p = omega (arith, h.place) in let b : 272 ≤ p = omega (arith, h.place) in let d : p < 288 = omega (arith, h.end) in simp (le-ltb _ _ a, le-ltb _ _ b, lt-ltb _ _ d))
      (fixed-either (eqb tag 87) {x = area 576 m 1} (λ h. let a : 256 ≤ p = omega (arith, h.place) in let b : 272 ≤ p = omega (arith, h.place) in let d : 288 ≤ p = omega (arith, h.place) in let e : 544 ≤ p = omega (arith, h.place) in let f : 560 ≤ p = omega (arith, h.place) in let g : 576 ≤ p = omega (arith, h.place) in simp (le-ltb _ _ a, le-ltb _ _ b, le-ltb _ _ d, le-ltb _ _ e, le-ltb _ _ f, le-ltb _ _ g))
      (fixed-either (eqb tag 65) {x = area 288 m n} (λ h. let a : 256 ≤ p = omega (arith, h.place) in let b : 272 ≤ p = omega (arith, h.place) in let d : 288 ≤ p = omega (arith, h.place) in let e : p < 544 = omega (arith, h.end) in simp (le-ltb _ _ a, le-ltb _ _ b, le-ltb _ _ d, lt-ltb _ _ e))
      (fixed-either (eqb tag 66) {x = area 544 1 n} (λ h. let a : 256 ≤ p = omega (arith, h.place) in let b : 272 ≤ p = omega (arith, h.place) in let d : 288 ≤ p = omega (arith, h.place) in let e : 544 ≤ p = omega (arith, h.place) in let f : p < 560 = omega (arith, h.end) in simp (le-ltb _ _ a, le-ltb _ _ b, le-ltb _ _ d, le-ltb _ _ e, lt-ltb _ _ f))
      (fixed-either (eqb tag 84) {x = area 560 1 n} {y = area 0 0 0} (λ h. let a : 256 ≤ p = omega (arith, h.place) in let b : 272 ≤ p = omega (arith, h.place) in let d : 288 ≤ p = omega (arith, h.place) in let e : 544 ≤ p = omega (arith, h.place) in let f : 560 ≤ p = omega (arith, h.place) in let g : p < 576 = omega (arith, h.end) in simp (le-ltb _ _ a, le-ltb _ _ b, le-ltb _ _ d, le-ltb _ _ e, le-ltb _ _ f, lt-ltb _ _ g))
      (λ h. absurd (omega (arith, h.low))))))))))

same-cell : (b : Area) (row col row' col' p : ℕ) → Held b row col p → Held b row' col' p → (row ≡ row') × (col ≡ col')
same-cell b row col row' col' p h k =
    let e : row * b.cols + col ≡ row' * b.cols + col' = omega (arith, h.place, k.place) in (
      sym (digits_div row h.left) ∙ ap (λ (x : ℕ). x / b.cols) e ∙ digits_div row' k.left,
      sym (digits_mod row h.left) ∙ ap (λ (x : ℕ). x % b.cols) e ∙ digits_mod row' k.left,
    )

-- two entries with one place are of one area, at one row and column
pub record OneEntry (m n tag row col tag' row' col' : ℕ) : Type 0 where
  pub areas : area_of m n tag ≡ area_of m n tag'
  pub rows : row ≡ row'
  pub cols : col ≡ col'

pub one_entry : (m n tag row col tag' row' col' p : ℕ) → m ≤ 16 → n ≤ 16 → spot_in (area_of m n tag) row col ≡ Some p → spot_in (area_of m n tag') row' col' ≡ Some p
    → OneEntry m n tag row col tag' row' col'
one_entry m n tag row col tag' row' col' p hm hn e f =
    let h = held (area_of m n tag) row col p e in
    let k = held (area_of m n tag') row' col' p f in
    let s : area_of m n tag ≡ area_of m n tag' = fixed m n row col p hm hn tag h ∙ sym (fixed m n row' col' p hm hn tag' k) in
    let j : Held (area_of m n tag) row' col' p = rw s k in
    let c = same-cell (area_of m n tag) row col row' col' p h j in
    record { areas = s; rows = c.0; cols = c.1 }

-- ---- the field of a tag: what its area holds

-- a tag and its field name one area
pub area-field : (m n t : ℕ) → area_of m n (field t) ≡ area_of m n t
unfolding area_of
area-field m n t = go (is "I" t) refl
  where
    go : (b : Bool) → is "I" t ≡ b → area_of m n (cond b (code "E") t) ≡ area_of m n t
    go true e = let q : t ≡ 73 = eqb-true t 73 e in rw q
    go false e = refl

field_at : ℕ → ℕ
field_at base = cond (eqb base 0) 76 (cond (eqb base 256) 71 (cond (eqb base 272) 69 (cond (eqb base 288) 65 (cond (eqb base 544) 66 (cond (eqb base 560) 84 87)))))

module _ (t row col p : ℕ) where
  abbrev Named : Area → Type 0
  Named b = spot_in b row col ≡ Some p → field t ≡ field_at b.base

  named-either : (k : ℕ) (x y : Area) → (t ≡ k → Named x) → Named y → Named (either (eqb t k) x y)
  named-either k x y f g = go (eqb t k) refl
    where
      go : (b : Bool) → eqb t k ≡ b → Named (either b x y)
      go true e = f (eqb-true t k e)
      go false e = g

  named : (m n : ℕ) → Named (area_of m n t)
  unfolding area_of field_at
  named m n =
      named-either 76 (area 0 n n) _ (λ e h. rw e)
      (named-either 71 (area 256 1 n) _ (λ e h. rw e)
      (named-either 69 (area 272 m 1) _ (λ e h. rw e)
      (named-either 73 (area 272 m 1) _ (λ e h. rw e)
      (named-either 87 (area 576 m 1) _ (λ e h. rw e)
      (named-either 65 (area 288 m n) _ (λ e h. rw e)
      (named-either 66 (area 544 1 n) _ (λ e h. rw e)
      (named-either 84 (area 560 1 n) (area 0 0 0) (λ e h. rw e)
      (λ h. absurd (omega (arith, (held (area 0 0 0) row col p h).low))))))))))

-- so entries with one place are of one field
pub one_field : (m n tag row col tag' row' col' p : ℕ) → m ≤ 16 → n ≤ 16 → spot_in (area_of m n tag) row col ≡ Some p → spot_in (area_of m n tag') row' col' ≡ Some p
    → field tag ≡ field tag'
one_field m n tag row col tag' row' col' p hm hn e f =
    let o = one_entry m n tag row col tag' row' col' p hm hn e f in
    named tag row col p m n e ∙ ap (λ (b : Area). field_at b.base) o.areas ∙ sym (named tag' row' col' p m n f)
