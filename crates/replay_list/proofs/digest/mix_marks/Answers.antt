-- `mix_marks` meets its contract.
use native.Mathlib.Omega.{arith}
use Rattle.replay_list.proofs.Digests.{over_none, over-more, over_done}
use Rattle.replay_list.proofs.digest.mix_marks.Goals as goal

pub loop-x-init : goal.loop-x-init
loop-x-init c = over_none _ _

pub loop-x-preserved : goal.loop-x-preserved
loop-x-preserved c = over-more _ _ _ _ _ c.loop-x.invariant c.mix_mark-d.ensures

pub returns : goal.returns
returns c = over_done _ _ _ _ _ (omega arith) c.loop-x-test.false c.loop-x.invariant
