-- `read_exact`: the multipliers, and the step.
use mathlib.Core.Path.{◌∙◌}
use native.Mathlib.Omega.{arith}
use Rattle.step.proofs.Reading.{length-in_order, left_is}
use Rattle.step.proofs.read_exact.Goals as goal

pub order_multipliers-requires : goal.order_multipliers-requires
order_multipliers-requires c = (omega arith, c.requires.1, c.requires.2, c.requires.3, omega arith)

pub returns : goal.returns
returns c = let p = c.args.p.now in
    left_is 732 _ _ _ _ _ _ p.few_variables p.few_constraints (omega arith) (length-in_order _ _ _ _ ∙ p.kind) (rw p.kind at c.order_multipliers.ensures) c.copy_down.ensures
