-- `clamp`: each way out rewrites with its tests.
use Rattle.step.specs.Step.{clamped}
use Rattle.workspace.proofs.Readings.{lit-+0}
use Rattle.workspace.proofs.Readings.{lit-one}
use Rattle.step.proofs.assembly.clamp.Goals as goal

pub returns-then-v : goal.returns-then-v
unfolding clamped
returns-then-v c = rw (← lit-+0, c.if-v.true)

pub returns-then-v-2 : goal.returns-then-v-2
unfolding clamped
returns-then-v-2 c = rw (← lit-+0, c.if-v.false, ← lit-one, c.if-v-2.true)

pub returns : goal.returns
unfolding clamped
returns c = rw (← lit-+0, c.if-v.false, ← lit-one, c.if-v-2.false)
