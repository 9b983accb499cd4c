use Rattle.day_volumes.proofs.Posing.{volume-up, volume-none, volume-turned}
use native.Mathlib.Omega.{arith}
use Rattle.day_volumes.proofs.pose.volume_of.Goals as goal

pub returns-then-old-new : goal.returns-then-old-new
returns-then-old-new c = volume-up _ _ c.if-old-new.true

pub overflow_sub-back : goal.overflow_sub-back
overflow_sub-back c = omega arith

pub returns-then-back-gt1000000 : goal.returns-then-back-gt1000000
returns-then-back-gt1000000 c = volume-none _ _ (omega arith) (omega arith)

pub returns : goal.returns
returns c = volume-turned _ _ (omega arith) (omega arith)
