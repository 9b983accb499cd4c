use mathlib.Core.Bool.{true}
use mathlib.Core.Path.{◌≡◌}
use Rattle.certain.specs.Bound.{all_below, closes}
use Rattle.certain.proofs.all_close.Given as goal

abbrev pub invariant-loop-j : goal.invariant-loop-j
invariant-loop-j l = all_below l.j (λ i. closes l.n i l.balances l.x l.t) ≡ true
