-- `own`: by the first t of those held.
use mathlib.Core.Path.{refl, sym, ◌∙◌}
use mathlib.Core.Bool.{true, false}
use native.Mathlib.Omega.{arith}
use Rattle.settle.proofs.Working.{own-none, own-more}
use Rattle.settle.proofs.again.own.Goals.{then-is_own, else-is_own}
use Rattle.settle.proofs.again.own.Goals as goal

pub loop-t-init : goal.loop-t-init
loop-t-init c = (omega arith, own-none _ _ _ _ _ _)

pub loop-t-preserved : goal.loop-t-preserved
loop-t-preserved c = let i = c.loop-t.invariant.1 in let h = c.loop-t-test.true in (
  omega arith,
  elim c.if-is_own.branch [
    | then-is_own w ↦ own-more _ _ _ _ _ _ _ _ _ _ _ true h refl (sym w.if-is_own.true ∙ c.is_own.ensures) i w.settled-is
    | else-is_own w ↦ own-more _ _ _ _ _ _ _ _ _ _ _ false h refl (sym w.if-is_own.false ∙ c.is_own.ensures) i w.settled-is
  ],
)
