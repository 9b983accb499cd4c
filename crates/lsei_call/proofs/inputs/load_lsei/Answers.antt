-- `load_lsei`: C, d, E, f, and the inequalities.
use mathlib.Core.Path.{◌∙◌}
use native.Mathlib.Omega.{arith}
use Rattle.lsei_call.proofs.Loading.{lsei-loaded}
use Rattle.lsei_call.proofs.inputs.load_lsei.Goals as goal

pub load_stack-requires : goal.load_stack-requires
load_stack-requires c = let p = c.requires in (omega (arith, p.0.c16), omega (arith, p.0.others.rows.n17), p.0.lc, omega (arith, p.0.c16, p.1))

pub load-requires : goal.load-requires
load-requires c = let p = c.requires in (omega (arith, p.0.ld), omega (arith, p.0.c16, p.1, c.load_stack.auto.w))

pub load_stack-requires-2 : goal.load_stack-requires-2
load_stack-requires-2 c = let p = c.requires in (
  omega (arith, p.0.others.e17),
  omega (arith, p.0.others.rows.n17),
  p.0.others.le,
  omega (arith, p.0.others.e17, p.1, c.load.auto.w, c.load_stack.auto.w),
)

pub load-requires-2 : goal.load-requires-2
load-requires-2 c = let p = c.requires in
    (omega (arith, p.0.others.lf), omega (arith, p.0.others.e17, p.1, c.load_stack-2.auto.w, c.load.auto.w, c.load_stack.auto.w))

pub load_rows-requires : goal.load_rows-requires
load_rows-requires c = let p = c.requires in (
  p.0.others.rows,
  omega (arith, p.0.others.rows.m66, p.0.others.rows.n17, p.1, c.load-2.auto.w, c.load_stack-2.auto.w, c.load.auto.w, c.load_stack.auto.w),
)

pub shape_of-w : goal.shape_of-w
shape_of-w c = c.load_rows.auto.w ∙ c.load-2.auto.w ∙ c.load_stack-2.auto.w ∙ c.load.auto.w ∙ c.load_stack.auto.w

pub returns : goal.returns
returns c = let a = c.args in
    let p = c.requires.0 in
    let C = c.load_stack in
    let D = c.load in
    let E = c.load_stack-2 in
    let F = c.load-2 in
    let R = c.load_rows in
    lsei-loaded a.n a.mc a.me a.mg a.c.now a.d.now a.e.now a.f.now a.g.now a.h.now a.w.now C.new.w D.new.w E.new.w F.new.w
    R.new.w p.others.rows.n17 p.c16 p.others.e17 p.ld p.others.lf C.ensures D.ensures E.ensures F.ensures R.ensures
