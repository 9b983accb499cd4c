-- `is_spread`, each way out by its tests.
use Rattle.reconcile_call.proofs.Testing.{spread-above, spread-not}
use Rattle.reconcile_call.proofs.arguments.is_spread.Goals as goal

pub returns-then-s : goal.returns-then-s
returns-then-s c = spread-above _ c.if-s.true

pub returns-else-s : goal.returns-else-s
returns-else-s c = spread-not _ c.if-s.false
