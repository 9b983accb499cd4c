use mathlib.Core.Path.{◌≡◌}
use native.Mathlib.Omega.{arith}
use Rattle.householder.specs.inner.Search.{taken}
use Rattle.householder.proofs.Leading.{lit-gap, weighed-clear, weighed-tie}
use Rattle.householder.proofs.search.weigh.Goals as goal

pub returns-then-s-sum-2 : goal.returns-then-s-sum-2
returns-then-s-sum-2 c = let l = c.in-Some-Squares in
    let e : c.args.old ≡ taken l.field-0-0 l.sum = grind arith in
    weighed-clear _ _ _ _ _ e c.if-s-sum.true (rw lit-gap at c.if-s-sum-2.true)

pub returns-else-y-x : goal.returns-else-y-x
returns-else-y-x c = let l = c.in-Some-Squares in
    let e : c.args.old ≡ taken l.field-0-0 l.sum = grind arith in
    weighed-tie _ _ _ _ _ e _ _ c.if-s-sum.true (rw lit-gap at c.if-s-sum-2.false) c.sqrt-x.ensures c.sqrt-y.ensures c.if-y-x.false
