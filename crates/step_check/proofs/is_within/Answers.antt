-- `is_within`: by its first test.
use Rattle.step_check.proofs.is_within.Goals as goal

pub returns-then-v-tolerance : goal.returns-then-v-tolerance
returns-then-v-tolerance c = rw c.if-v-tolerance.true

pub returns-else-v-tolerance : goal.returns-else-v-tolerance
returns-else-v-tolerance c = rw c.if-v-tolerance.false
