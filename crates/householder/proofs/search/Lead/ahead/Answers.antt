-- `ahead` meets its contract.
use mathlib.Core.Path.{◌≡◌}
use native.Mathlib.Omega.{arith}
use Rattle.householder.specs.inner.Search.{taken}
use Rattle.householder.proofs.Leading.{lit-clear, is-ahead}
use Rattle.householder.proofs.search.Lead.ahead.Goals as goal

pub returns-in-Some-Squares : goal.returns-in-Some-Squares
returns-in-Some-Squares c = let l = c.in-Some-Squares in
    let e : c.args.old ≡ taken l.field-0-0 l.sum = grind arith in
    λ h. is-ahead _ _ _ e (rw lit-clear at h)
