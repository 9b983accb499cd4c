use mathlib.Core.Bool.{true}
use mathlib.Core.Path.{◌≡◌}
use Rattle.certain.specs.Bound.{all_below, keeps}
use Rattle.certain.proofs.all_keep.Given as goal

abbrev pub invariant-loop-k : goal.invariant-loop-k
invariant-loop-k l = all_below l.k (λ i. keeps l.n i l.limits l.least l.x l.t) ≡ true
