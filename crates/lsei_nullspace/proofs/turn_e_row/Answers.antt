-- `turn_e_row`: the row under Q', laid.
use mathlib.Core.Path.{◌∙◌}
use native.Mathlib.Omega.{arith}
use Rattle.lsei_nullspace.proofs.Turning.{e-row}
use Rattle.lsei_nullspace.proofs.turn_e_row.Goals as goal

pub overflow_mul-i : goal.overflow_mul-i
overflow_mul-i c = omega arith

pub overflow_add-i : goal.overflow_add-i
overflow_add-i c = omega arith

pub turn_row-requires : goal.turn_row-requires
turn_row-requires c = omega arith

pub lay_e-requires : goal.lay_e-requires
lay_e-requires c = omega (arith, c.turn_row.auto.w, c.requires)

pub shape_of-w : goal.shape_of-w
shape_of-w c = c.lay_e.auto.w ∙ c.turn_row.auto.w

pub returns : goal.returns
returns c = let a = c.args in
    let T = c.turn_row in
    let L = c.lay_e in
    λ w₀ h. e-row a.n a.mc a.i w₀ a.w.now T.new.w L.new.w c.requires.0 c.requires.1 c.requires.2 T.ensures L.ensures h
