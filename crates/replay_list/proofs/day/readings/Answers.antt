-- `readings` stays within the memory.
use native.Mathlib.Omega.{arith}
use lib.ListN.{length-set}
use Rattle.replay_list.proofs.day.readings.Goals as goal

pub loop-k-preserved : goal.loop-k-preserved
loop-k-preserved c = let l = c.loop-k in (omega arith, l.invariant.1, simp length-set l.invariant.2, l.invariant.3)
