-- `scaled_squares` meets its contract.
use mathlib.Core.Path.{◌∙◌, ap}
use Prim.Native.Nat.{◌≤◌}
use native.Mathlib.Omega.{arith}
use lib.ListN.{length}
use lib.Ieee.{Float, binary64, add}
use Rattle.numbers.specs.Numbers.{◌⊗◌}
use Rattle.numbers.proofs.Sums.{Σ-none, Σ-more, Σ-done}
use Rattle.norms.proofs.Patterns.{reduced-squares}
use Rattle.norms.proofs.scaled_squares.Goals as goal

pub loop-x-init : goal.loop-x-init
loop-x-init c = Σ-none _

pub scale-y-requires : goal.scale-y-requires
scale-y-requires c = (omega arith, c.requires.by_index _ (omega arith))

pub loop-x-preserved : goal.loop-x-preserved
loop-x-preserved c = ap (λ (y : Float). add binary64 c.loop-x.t (y ⊗ y)) c.scale-y.ensures ∙ Σ-more _ _ _ c.loop-x.invariant

pub returns : goal.returns
returns c = let xs = c.args.xs.now in
    let l = c.loop-x in
    let up : l.x-index ≤ length xs = omega arith in
    let down : length xs ≤ l.x-index = omega arith in
    Σ-done l.x-index (length xs) _ _ up down l.invariant ∙ reduced-squares _ xs
