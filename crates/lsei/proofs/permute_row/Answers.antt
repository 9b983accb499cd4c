-- `permute_row`: picked into the solution's place, and back.
use mathlib.Core.Path.{◌∙◌}
use native.Mathlib.Omega.{arith}
use Rattle.lsei.proofs.Rows.{permuted-row}
use Rattle.lsei.proofs.permute_row.Goals as goal

pub overflow_mul-o : goal.overflow_mul-o
overflow_mul-o c = omega arith

pub overflow_add-o : goal.overflow_add-o
overflow_add-o c = omega arith

pub pick-requires : goal.pick-requires
pick-requires c = (omega arith, omega arith, c.requires.3, λ t h. omega (arith, c.requires.4 t h))

pub copy_up-requires : goal.copy_up-requires
copy_up-requires c = omega (arith, c.pick.auto.w, c.requires)

pub shape_of-w : goal.shape_of-w
shape_of-w c = c.copy_up.auto.w ∙ c.pick.auto.w

pub returns : goal.returns
returns c = permuted-row c.args.n c.args.i c.args.iw.now c.args.w.now c.pick.new.w _ c.requires.0 c.pick.ensures c.copy_up.ensures
