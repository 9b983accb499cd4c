-- `write_pinned`: the five parts, one behind the other.
use Rattle.settle.proofs.Problems.{pinned-in}
use Rattle.settle.proofs.problem.write_pinned.Goals as goal

pub returns : goal.returns
returns c = let d = c.args.day.now in pinned-in d.n d.m d.p c.args.c d.values.now d.spreads.now d.balances.now d.limits.now d.least.now _ _ _ _ _ _ _ d.few_values c.requires.0 c.load_stack.ensures c.blank.ensures c.write_held.ensures c.write_scales.ensures c.write_targets.ensures
