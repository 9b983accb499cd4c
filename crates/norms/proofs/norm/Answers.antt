-- `norm` meets its contract: what `scaled_norm` ensures, or that the sum decides.
use mathlib.Core.Path.{◌≡◌, subst, ◌∙◌, ap}
use mathlib.Core.Bool.{true}
use native.Mathlib.Omega.{arith}
use lib.Ieee.{Float, le}
use Rattle.numbers.specs.Root.{sqrt_of}
use Rattle.norms.specs.inner.Sums.{most_sum}
use Rattle.norms.proofs.Decides.{decided-from}
use Rattle.norms.proofs.norm.Goals as goal

pub returns-then-sure : goal.returns-then-sure
returns-then-sure c = let xs = c.args.xs.now in
    let e = c.dot-s.ensures in
    let k = c.holds-sure.ensures c.if-sure.true in
    c.sqrt.ensures ∙ ap sqrt_of e
    ∙ decided-from xs c.least-least.result (omega arith) (omega arith) c.known_within.ensures c.least-least.ensures
    (subst (λ (x : Float). le c.least-least.result x ≡ true) e k.0) (subst (λ (x : Float). le x most_sum ≡ true) e k.1)

pub returns : goal.returns
returns c = c.scaled_norm.ensures
