-- `negate`: after i turns i entries are negated, and the next is as it was.
use mathlib.Core.Path.{◌≡◌, refl, ap}
use native.Mathlib.Omega.{arith}
use lib.ListN.{length-set}
use lib.Ieee.{nan, neg}
use Rattle.workspace.proofs.Writes.{written_none, written-front}
use Rattle.step.proofs.Target.{negated-front}
use Rattle.step.proofs.assembly.negate.Goals as goal

pub loop-i-init : goal.loop-i-init
loop-i-init c = (omega arith, refl, written_none nan _ _ _)

pub loop-i-preserved : goal.loop-i-preserved
loop-i-preserved c = let l = c.loop-i in
    (omega arith, simp length-set l.invariant.1, written-front nan _ _ _ _ _ (omega arith) (ap neg (l.invariant.2.after l.i (omega arith))) l.invariant.2)

pub returns : goal.returns
returns c = let e : c.loop-i.i ≡ c.args.n = omega arith in negated-front _ _ _ (rw e at c.loop-i.invariant.2)
