-- `spot_of`: above the diagonal, and in the area.
use mathlib.Core.Path.{◌≡◌, sym, ◌∙◌}
use mathlib.Core.Bool.{false, ◌&&◌}
use native.Mathlib.Omega.{arith}
use borrow.Author.Tests.{eq-eqb, ne_eqb, lt-ltb, le-ltb}
use lib.Dec.{eqb, ltb}
use Rattle.problem_read.specs.inner.Spots.{spot_of}
use Rattle.problem_read.proofs.Areas.{Room, room, spot-rest}
use Rattle.problem_read.proofs.Bytes.{and-false}
use Rattle.problem_read.proofs.spot_of.Goals as goal
use Rattle.problem_read.proofs.spot_of.Goals.{then-tag-eq76+else-row-col, else-tag-eq76}

pub returns-then-row-col : goal.returns-then-row-col
unfolding spot_of
returns-then-row-col c = simp (eq-eqb _ _ c.if-tag-eq76.true, lt-ltb _ _ c.if-row-col.true)

pub area_of-requires : goal.area_of-requires
area_of-requires c = omega arith

pub within-requires : goal.within-requires
within-requires c = let a = c.args in
    let h : Room c.area_of.result = rw c.area_of.ensures (room a.sizes.constraints a.sizes.variables a.tag c.requires.0 c.requires.1) in
    (h.base, h.rows, h.cols)

pub returns : goal.returns
returns c = let a = c.args in
    let k : (eqb a.tag 76 && ltb a.row a.col) ≡ false =
    elim c.if-tag-eq76.branch [
      | then-tag-eq76+else-row-col w ↦ simp (le-ltb _ _ w.if-row-col.false) (and-false (eqb a.tag 76))
      | else-tag-eq76 w ↦ simp (ne_eqb _ _ w.if-tag-eq76.false)
    ] in
    c.within.ensures ∙ rw c.area_of.ensures (sym (spot-rest a.sizes.constraints a.sizes.variables a.tag a.row a.col k))
