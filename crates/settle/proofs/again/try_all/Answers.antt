-- `try_all`: an answer, none, or one limit less.
use mathlib.Core.Path.{refl, ◌∙◌}
use native.Mathlib.Omega.{arith}
use Rattle.settle.proofs.Tries.{tries-found, tries-stop, trying-none, trying-less, trying-out}
use Rattle.settle.proofs.again.try_all.Goals.{then-c-gt0, else-c-gt0}
use Rattle.settle.proofs.again.try_all.Goals as goal

pub loop-gone-init : goal.loop-gone-init
loop-gone-init c = (omega arith, refl, refl, trying-none _ _ _ _ c.requires.1)

pub returns-in-Found : goal.returns-in-Found
returns-in-Found c = let T = c.try_once in let i = c.loop-gone.invariant.3 in record { told = tries-found _ _ _ _ _ _ (rw c.in-Found.is at T.ensures) ∙ i.on (omega arith); first = λ x h k. T.ensures.first x h k ∙ i.first x h k }

pub returns-in-Stop : goal.returns-in-Stop
returns-in-Stop c = let T = c.try_once in let i = c.loop-gone.invariant.3 in record { told = tries-stop _ _ _ _ _ _ (rw c.in-Stop.is at T.ensures) ∙ i.on (omega arith); first = λ x h k. T.ensures.first x h k ∙ i.first x h k }

pub loop-gone-preserved : goal.loop-gone-preserved
loop-gone-preserved c = let l = c.loop-gone in let T = c.try_once in let i = l.invariant in
    elim c.if-c-gt0.branch [
      | then-c-gt0 w ↦ rw w.iw-is (omega arith, T.auto.w ∙ i.1, w.let_go.auto.iw ∙ T.auto.iw ∙ i.2, trying-less _ _ l.gone c.in-Let.t T.result _ l.iw T.new.iw _ l.w T.new.w i.3 c.in-Let.is T.ensures _ (omega (arith, w.if-c-gt0.true)) w.let_go.ensures (w.let_go.auto.iw ∙ T.auto.iw))
      | else-c-gt0 w ↦ rw w.iw-is (omega arith, T.auto.w ∙ i.1, T.auto.iw ∙ i.2, trying-out _ _ l.gone c.in-Let.t T.result _ l.iw T.new.iw _ l.w T.new.w i.3 c.in-Let.is T.ensures (omega (arith, w.if-c-gt0.false)))
    ]

pub returns : goal.returns
returns c = let i = c.loop-gone.invariant.3 in record { told = i.out (omega arith); first = i.first }
