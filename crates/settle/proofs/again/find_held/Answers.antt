-- `find_held`: after k turns those of the first k limits stand there.
use mathlib.Core.Path.{refl, sym, ◌∙◌}
use native.Mathlib.Omega.{arith}
use lib.ListN.{length-set}
use Rattle.settle.proofs.Working.{finding-none, finding-held, finding-passed, witness-at}
use Rattle.settle.proofs.again.find_held.Goals.{then-w-k, else-w-k}
use Rattle.settle.proofs.again.find_held.Goals as goal

pub loop-k-init : goal.loop-k-init
loop-k-init c = (omega arith, refl, finding-none _ _)

pub loop-k-preserved : goal.loop-k-preserved
loop-k-preserved c = let l = c.loop-k in
    elim c.if-w-k.branch [
      | then-w-k w ↦ rw (w.iw-is, w.c-is) (omega arith, simp length-set l.invariant.1, finding-held _ _ _ _ (omega (arith, l.invariant.2.few, l.invariant.1)) (sym (witness-at _ _ _ c.loop-k-test.true) ∙ w.if-w-k.true) l.invariant.2)
      | else-w-k w ↦ rw (w.iw-is, w.c-is) (omega arith, l.invariant.1, finding-passed _ _ _ _ (sym (witness-at _ _ _ c.loop-k-test.true) ∙ w.if-w-k.false) l.invariant.2)
    ]
