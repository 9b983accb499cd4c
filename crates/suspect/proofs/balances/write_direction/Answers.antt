-- `write_direction`: e_i, and the reflectors.
use mathlib.Core.Path.{◌∙◌}
use native.Mathlib.Omega.{arith}
use Rattle.workspace.proofs.Readings.{lit-one}
use Rattle.suspect.proofs.Preparing.{direction-is}
use Rattle.suspect.proofs.balances.write_direction.Goals as goal

pub apply_qt-requires : goal.apply_qt-requires
apply_qt-requires c = omega (arith, c.write_unit.auto.w, c.requires)

pub shape_of-w : goal.shape_of-w
shape_of-w c = c.apply_qt.auto.w ∙ c.write_unit.auto.w

pub returns : goal.returns
returns c = let a = c.args in let U = c.write_unit in let H = c.apply_qt in
    direction-is a.n a.r a.i _ a.w.now U.new.w H.new.w c.requires.0 c.requires.1 c.requires.2 lit-one U.ensures H.ensures
