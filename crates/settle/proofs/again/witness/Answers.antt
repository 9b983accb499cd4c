-- `witness`: by the first t of those held.
use native.Mathlib.Omega.{arith}
use Rattle.settle.proofs.Working.{witness-none, witness-here, witness-on}
use Rattle.settle.proofs.again.witness.Goals.{then-iw-t, else-iw-t}
use Rattle.settle.proofs.again.witness.Goals as goal

pub loop-t-init : goal.loop-t-init
loop-t-init c = (omega arith, witness-none _ _ _ _)

pub loop-t-preserved : goal.loop-t-preserved
loop-t-preserved c = let i = c.loop-t.invariant.1 in let h = c.loop-t-test.true in (
  omega arith,
  elim c.if-iw-t.branch [
    | then-iw-t w ↦ witness-here _ _ _ _ _ _ _ _ h w.if-iw-t.true w.not_below-z.ensures w.z-is
    | else-iw-t w ↦ witness-on _ _ _ _ _ _ _ _ h w.if-iw-t.false i w.z-is
  ],
)
