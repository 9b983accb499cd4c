-- `solve_rows`: the fours, and then row by row: the rows before i are solved.
use mathlib.Core.Path.{refl, ◌∙◌}
use native.Mathlib.Omega.{arith}
use Rattle.lsei.proofs.Rows.{solved-at, solved-one}
use Rattle.lsei.proofs.solve_rows.Goals as goal

pub solve_fours-requires : goal.solve_fours-requires
solve_fours-requires c = c.requires

pub overflow_step-i : goal.overflow_step-i
overflow_step-i c = omega arith

pub loop-i-init : goal.loop-i-init
loop-i-init c = (omega arith, refl, λ v h. h)

pub overflow_mul-i : goal.overflow_mul-i
overflow_mul-i c = omega arith

pub overflow_add-i : goal.overflow_add-i
overflow_add-i c = omega arith

pub solve_rt-requires : goal.solve_rt-requires
solve_rt-requires c = omega (arith, c.loop-i.invariant.1, c.solve_fours.auto.w, c.requires)

pub overflow_step-i-in-loop-i : goal.overflow_step-i-in-loop-i
overflow_step-i-in-loop-i c = omega arith

pub loop-i-smaller : goal.loop-i-smaller
loop-i-smaller c = omega arith

pub loop-i-preserved : goal.loop-i-preserved
loop-i-preserved c = let l = c.loop-i in
    let k = c.solve_rt in
    (omega arith, k.auto.w ∙ l.invariant.1, λ v h. solved-one c.args.n l.i v l.w k.new.w c.requires.0 (l.invariant.2 v h) k.ensures)

pub shape_of-w : goal.shape_of-w
shape_of-w c = c.loop-i.invariant.1 ∙ c.solve_fours.auto.w

pub returns : goal.returns
returns c = let l = c.loop-i in
    solved-at c.args.n _ _ c.args.w.now _ (omega arith) (l.invariant.2 c.args.w.now c.solve_fours.ensures)
