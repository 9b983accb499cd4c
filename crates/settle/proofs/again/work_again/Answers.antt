-- `work_again`: too many are held, or the tries.
use native.Mathlib.Omega.{arith}
use Rattle.settle.proofs.Tries.{worked-none, worked}
use Rattle.settle.proofs.again.work_again.Goals as goal

pub returns-then-day-c-gt16 : goal.returns-then-day-c-gt16
returns-then-day-c-gt16 c = worked-none _ c.find_held-c.result _ _ _ (omega arith) c.find_held-c.ensures

pub returns : goal.returns
returns c = worked _ c.find_held-c.result _ _ _ _ _ (omega arith) c.find_held-c.ensures c.try_all.ensures
