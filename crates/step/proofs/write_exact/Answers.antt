-- `write_exact`: C, d, E, f and G with h, one behind the other.
use Rattle.step_rows.specs.Problem.{equality_rows, bound_rows, inequality_rows}
use Rattle.step_rows.specs.Lent.{problem_in}
use Rattle.step.proofs.Exact.{exact-in}
use Rattle.step.proofs.write_exact.Goals as goal

pub returns : goal.returns
unfolding equality_rows inequality_rows bound_rows
returns c = let p = c.args.p.now in
    exact-in (problem_in p) _ _ _ _ _ _ _ _ p.few_variables p.few_constraints c.push_equalities-equalities.ensures.0 c.push_inequalities-inequalities.ensures.0
    c.push_equalities-equalities.ensures.1 c.gather_sides.ensures c.load_matrix.ensures c.copy_up.ensures c.push_inequalities-inequalities.ensures.1
