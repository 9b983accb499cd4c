-- `load_rows`: the rows, and then the sides.
use mathlib.Core.Path.{◌∙◌}
use native.Mathlib.Omega.{arith}
use Rattle.lsei_call.proofs.Loading.{rows-loaded}
use Rattle.lsei_call.proofs.inputs.load_rows.Goals as goal

pub load_stack-requires : goal.load_stack-requires
load_stack-requires c = let p = c.requires in (p.0.m66, omega (arith, p.0.n17), p.0.lg, omega arith)

pub overflow_add-o : goal.overflow_add-o
overflow_add-o c = let p = c.requires in omega (arith, p.1, c.load_stack.auto.w)

pub load_sides-requires : goal.load_sides-requires
load_sides-requires c = let p = c.requires in omega (arith, p.0.lh, p.1, c.load_stack.auto.w)

pub shape_of-w : goal.shape_of-w
shape_of-w c = c.load_sides.auto.w ∙ c.load_stack.auto.w

pub returns : goal.returns
returns c = let a = c.args in
    let S = c.load_stack in
    let P = c.load_sides in
    rows-loaded a.o a.m a.n a.g.now a.h.now a.w.now S.new.w P.new.w c.requires.0.n17 c.requires.0.lh S.ensures P.ensures
