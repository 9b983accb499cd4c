-- `copy_negated`: after t turns t entries are written.
use mathlib.Core.Path.{◌≡◌, refl}
use native.Mathlib.Omega.{arith}
use lib.ListN.{length-set}
use lib.Ieee.{nan}
use Rattle.workspace.proofs.Writes.{written_none, written-more}
use Rattle.step_rows.proofs.copy_negated.Goals as goal

pub loop-t-init : goal.loop-t-init
loop-t-init c = (omega arith, refl, written_none nan _ _ _)

pub loop-t-preserved : goal.loop-t-preserved
loop-t-preserved c = let l = c.loop-t in
    (omega arith, simp length-set l.invariant.1, written-more nan _ _ _ _ _ _ (omega arith) refl l.invariant.2)

pub returns : goal.returns
returns c = let e : c.loop-t.t ≡ c.args.n = omega arith in rw (← e) c.loop-t.invariant.2
