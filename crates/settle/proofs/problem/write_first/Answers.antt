-- `write_first`: the six parts, one behind the other.
use Rattle.settle.proofs.Problems.{first-in}
use Rattle.settle.proofs.problem.write_first.Goals as goal

pub returns : goal.returns
returns c = let d = c.args.day.now in first-in d.n d.m d.p d.values.now d.spreads.now d.balances.now d.limits.now d.least.now _ _ _ _ _ _ _ d.few_values d.few_balances d.least_of_limit c.load_stack.ensures c.blank.ensures c.write_scales.ensures c.write_targets.ensures c.load_stack-2.ensures c.load_sides.ensures
