-- `is_own`: the first j coefficients are as they are wanted.
use mathlib.Core.Path.{◌≡◌, ◌∙◌}
use mathlib.Core.Bool.{cond}
use native.Mathlib.Omega.{arith}
use lib.Dec.{eqb}
use Rattle.numbers.specs.Numbers.{+0, one}
use Rattle.certain.proofs.Laws.{all_none, all_more, all_done, all-broken}
use Rattle.settle.proofs.Working.{unit-is, unit-not, tested-as}
use Rattle.settle.specs.Settle.{is_own}
use Rattle.settle.proofs.again.is_own.Goals.{then-j-i, else-j-i}
use Rattle.settle.proofs.again.is_own.Goals as goal

pub loop-j-init : goal.loop-j-init
loop-j-init c = (omega arith, all_none _)

pub returns-then-not-limits-k : goal.returns-then-not-limits-k
unfolding is_own
returns-then-not-limits-k c =
    let u : c.if-j-i.wanted ≡ cond (eqb c.loop-j.j c.args.i) one +0 = elim c.if-j-i.branch [ then-j-i w ↦ w.wanted-is ∙ unit-is _ _ w.if-j-i.true | else-j-i w ↦ w.wanted-is ∙ unit-not _ _ w.if-j-i.false ] in
    all-broken _ c.loop-j.j _ c.loop-j-test.true (tested-as _ _ _ _ u c.if-not-limits-k.true)

pub loop-j-preserved : goal.loop-j-preserved
loop-j-preserved c =
    let u : c.if-j-i.wanted ≡ cond (eqb c.loop-j.j c.args.i) one +0 = elim c.if-j-i.branch [ then-j-i w ↦ w.wanted-is ∙ unit-is _ _ w.if-j-i.true | else-j-i w ↦ w.wanted-is ∙ unit-not _ _ w.if-j-i.false ] in
    (omega arith, all_more _ _ c.loop-j.invariant.1 (tested-as _ _ _ _ u c.if-not-limits-k.false))

pub returns : goal.returns
unfolding is_own
returns c = let e : c.loop-j.j ≡ c.args.n = omega arith in all_done _ _ _ e c.loop-j.invariant.1
