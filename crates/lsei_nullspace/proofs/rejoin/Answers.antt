-- `rejoin`: a copy behind y, and the reflectors from the last to the first.
use mathlib.Core.Path.{◌∙◌}
use native.Mathlib.Omega.{arith}
use Rattle.lsei_nullspace.proofs.Joining.{rejoined-is}
use Rattle.lsei_nullspace.proofs.rejoin.Goals as goal

pub overflow_add-mc : goal.overflow_add-mc
overflow_add-mc c = omega arith

pub overflow_sub-n : goal.overflow_sub-n
overflow_sub-n c = omega arith

pub copy_down-requires : goal.copy_down-requires
copy_down-requires c = omega arith

pub apply_q-requires : goal.apply_q-requires
apply_q-requires c = omega (arith, c.copy_down.auto.w, c.requires)

pub shape_of-w : goal.shape_of-w
shape_of-w c = c.apply_q.auto.w ∙ c.copy_down.auto.w

pub returns : goal.returns
returns c = let a = c.args in
    let C = c.copy_down in
    let Q = c.apply_q in
    rejoined-is a.n a.mc a.w.now C.new.w Q.new.w c.requires.0 c.requires.1 c.requires.2 C.ensures Q.ensures
