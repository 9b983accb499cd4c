-- `are_kinds`: the kinds that are left decide.
use mathlib.Core.Path.{refl}
use native.Mathlib.Omega.{arith}
use Rattle.search_call.proofs.Orders.{kinds-more, kinds-bad, kinds-all}
use Rattle.search_call.proofs.arguments.are_kinds.Goals as goal

pub loop-kind-init : goal.loop-kind-init
loop-kind-init c = refl

pub returns-then-kind-gt1 : goal.returns-then-kind-gt1
returns-then-kind-gt1 c = kinds-bad _ _ c.loop-kind-test.true (omega arith) c.loop-kind.invariant

pub loop-kind-preserved : goal.loop-kind-preserved
loop-kind-preserved c = kinds-more _ _ c.loop-kind-test.true (omega arith) c.loop-kind.invariant

pub returns : goal.returns
returns c = kinds-all _ _ c.loop-kind-test.false c.loop-kind.invariant
