-- `solve_step`: the exact problem, or the relaxed one after it.
use Rattle.step_rows.specs.Lent.{problem_in}
use Rattle.step.proofs.Both.{step-first, step-second}
use Rattle.step.proofs.solve_step.Goals as goal

pub returns-in_default : goal.returns-in_default
returns-in_default c = let x = c.try_exact-first in
    rw c.alone.ensures (step-first (problem_in c.args.p.now) x.result.relaxation x.result.rounds x.result.factorings _ _ _ c.in_default.is c.write_target.ensures x.ensures)

pub returns : goal.returns
returns c = let x = c.try_exact-first in
    let y = c.try_relaxed-second in
    rw c.after.ensures
    (step-second (problem_in c.args.p.now) x.result.relaxation x.result.rounds x.result.factorings _ y.result _ _ _ c.in-Err.is c.write_target.ensures x.ensures y.ensures)
