-- `are_bounds`, each way out by its tests.
use Rattle.step_call.proofs.Bounds.{lower-is, lower-not}
use Rattle.step_call.proofs.strict.are_bounds.Goals as goal

pub returns-then-lower : goal.returns-then-lower
returns-then-lower c = lower-is _ _ c.if-lower.true

pub returns : goal.returns
returns c = let a = c.args in lower-not a.lower a.upper c.if-lower.false
