-- `write_relaxed`: E, f and G with h, one behind the other.
use mathlib.Core.Path.{ap, ◌∙◌}
use Rattle.numbers.specs.Root.{sqrt_of}
use Rattle.step_rows.specs.Problem.{bound_rows, relaxed_rows}
use Rattle.step_rows.specs.Lent.{problem_in}
use Rattle.step.proofs.Weight.{lit-weight, root-weight}
use Rattle.step.proofs.Relaxed.{relaxed-in}
use Rattle.step.proofs.write_relaxed.Goals as goal

pub returns : goal.returns
unfolding relaxed_rows bound_rows
returns c = let p = c.args.p.now in
    relaxed-in (problem_in p) _ _ _ _ _ _ p.few_variables c.push_relaxed_rows.ensures.0 (c.sqrt-root.ensures ∙ ap sqrt_of lit-weight ∙ root-weight)
    c.write_matrix.ensures c.write_side.ensures c.push_relaxed_rows.ensures.1
