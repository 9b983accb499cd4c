-- `turn_row`: a copy, and the reflectors.
use mathlib.Core.Path.{◌∙◌}
use native.Mathlib.Omega.{arith}
use Rattle.lsei_nullspace.proofs.Turning.{turned-row}
use Rattle.lsei_nullspace.proofs.turn_row.Goals as goal

pub copy_down-requires : goal.copy_down-requires
copy_down-requires c = omega arith

pub apply_qt-requires : goal.apply_qt-requires
apply_qt-requires c = omega (arith, c.copy_down.auto.w, c.requires)

pub shape_of-w : goal.shape_of-w
shape_of-w c = c.apply_qt.auto.w ∙ c.copy_down.auto.w

pub returns : goal.returns
returns c = let a = c.args in
    let C = c.copy_down in
    let Q = c.apply_qt in
    turned-row a.n a.mc a.o a.w.now C.new.w Q.new.w c.requires.0 c.requires.1 C.ensures Q.ensures
