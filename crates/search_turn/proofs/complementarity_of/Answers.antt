-- `complementarity_of`: after j turns the first j terms are summed.
use mathlib.Core.Path.{ap, ◌∙◌}
use Prim.Native.Nat.{◌+◌}
use native.Mathlib.Omega.{arith}
use lib.Ieee.{Float}
use Rattle.numbers.specs.Numbers.{at, ◌⊕◌, ◌⊗◌}
use Rattle.numbers.proofs.Sums.{Σ-none, Σ-more, Σ-done}
use Rattle.search.specs.Turn.{magnitude}
use Rattle.search_turn.proofs.Parts.{complementarity-in}
use Rattle.search_turn.proofs.complementarity_of.Goals as goal

pub loop-j-init : goal.loop-j-init
loop-j-init c = (omega arith, Σ-none _)

pub offset_bounds-multipliers-j : goal.offset_bounds-multipliers-j
offset_bounds-multipliers-j c = omega arith

pub bounds-multipliers-j : goal.bounds-multipliers-j
bounds-multipliers-j c = omega arith

pub overflow_add-j : goal.overflow_add-j
overflow_add-j c = omega arith

pub offset_bounds-v-j : goal.offset_bounds-v-j
offset_bounds-v-j c = omega arith

pub bounds-v-j : goal.bounds-v-j
bounds-v-j c = omega arith

pub magnitude_of-total-requires : goal.magnitude_of-total-requires
magnitude_of-total-requires c = tt

pub overflow_step-j : goal.overflow_step-j
overflow_step-j c = omega arith

pub loop-j-smaller : goal.loop-j-smaller
loop-j-smaller c = omega arith

pub loop-j-preserved : goal.loop-j-preserved
loop-j-preserved c = let s = c.loop-j in
    let a = c.args in (
      omega arith,
      ap (λ (t : Float). s.total ⊕ t) c.magnitude_of-total.ensures ∙ Σ-more s.j (λ k. magnitude (at a.multipliers.now k ⊗ at a.v.now (1 + k))) s.total s.invariant.1,
    )

pub returns : goal.returns
returns c = let s = c.loop-j in
    let a = c.args in
    Σ-done s.j a.m _ s.total s.invariant.0 (omega arith) s.invariant.1 ∙ complementarity-in a.m a.multipliers.now a.v.now
