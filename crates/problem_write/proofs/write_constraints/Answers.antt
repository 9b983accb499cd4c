-- `write_constraints`: before turn i the first i constraints are written.
use native.Mathlib.Omega.{arith}
use Rattle.problem_write.proofs.Rows.{constraints-none, constraints-next, constraints-more, constraints-end, constraints-length}
use Rattle.problem_write.proofs.write_constraints.Goals as goal

pub loop-i-init : goal.loop-i-init
loop-i-init c = let a = c.args in let p = a.p.now in (omega arith, constraints-none p.kinds.now p.values.now p.widths.now a.at a.out.now)

pub write_constraint-to-requires : goal.write_constraint-to-requires
write_constraint-to-requires c = let a = c.args in let p = a.p.now in let l = c.loop-i in (constraints-next p.kinds.now p.values.now p.widths.now a.at a.out.now p.m c.requires l.i l.to l.out l.invariant.1 (omega arith), (let h = p.sized.constraints in omega (arith, h)))

pub loop-i-preserved : goal.loop-i-preserved
loop-i-preserved c = let a = c.args in let p = a.p.now in let l = c.loop-i in (omega arith, constraints-more p.kinds.now p.values.now p.widths.now a.at a.out.now p.m c.requires l.i l.to l.out l.invariant.1 (omega arith) _ _ c.write_constraint-to.ensures)

pub shape_of-out : goal.shape_of-out
shape_of-out c = let a = c.args in let p = a.p.now in let l = c.loop-i in constraints-length p.kinds.now p.values.now p.widths.now a.at a.out.now p.m c.requires l.i l.to l.out l.invariant.1 l.invariant.0

pub returns : goal.returns
returns c = let a = c.args in let p = a.p.now in let l = c.loop-i in constraints-end p.kinds.now p.values.now p.widths.now a.at a.out.now p.m c.requires l.i l.to l.out l.invariant.1 l.invariant.0 (omega arith)
