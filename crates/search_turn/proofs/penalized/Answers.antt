-- `penalized`: after j turns the first j terms are summed.
use mathlib.Core.Path.{ap, ◌∙◌}
use Prim.Native.Nat.{◌+◌}
use native.Mathlib.Omega.{arith}
use lib.Dec.{eqb}
use lib.Ieee.{Float}
use Rattle.numbers.specs.Numbers.{at, nth, ◌⊕◌, ◌⊗◌}
use Rattle.numbers.proofs.Sums.{Σ-none, Σ-more, Σ-done}
use Rattle.search.specs.Turn.{violation}
use Rattle.search_turn.proofs.Parts.{penalized-in}
use Rattle.search_turn.proofs.penalized.Goals as goal

pub loop-j-init : goal.loop-j-init
loop-j-init c = (omega arith, Σ-none _)

pub overflow_add-total : goal.overflow_add-total
overflow_add-total c = omega arith

pub offset_bounds-f-j : goal.offset_bounds-f-j
offset_bounds-f-j c = omega arith

pub bounds-f-j : goal.bounds-f-j
bounds-f-j c = omega arith

pub overflow_add-j : goal.overflow_add-j
overflow_add-j c = omega arith

pub offset_bounds-u-j : goal.offset_bounds-u-j
offset_bounds-u-j c = omega arith

pub bounds-u-j : goal.bounds-u-j
bounds-u-j c = omega arith

pub overflow_add-j-in-loop-j : goal.overflow_add-j-in-loop-j
overflow_add-j-in-loop-j c = omega arith

pub offset_bounds-v-j : goal.offset_bounds-v-j
offset_bounds-v-j c = omega arith

pub bounds-v-j : goal.bounds-v-j
bounds-v-j c = omega arith

pub violation_of-requires : goal.violation_of-requires
violation_of-requires c = tt

pub overflow_step-j : goal.overflow_step-j
overflow_step-j c = omega arith

pub loop-j-smaller : goal.loop-j-smaller
loop-j-smaller c = omega arith

pub loop-j-preserved : goal.loop-j-preserved
loop-j-preserved c = let l = c.loop-j in
    let a = c.args in (
      omega arith,
      ap (λ (t : Float). l.total ⊕ at a.f.now (80 + l.j) ⊗ t) c.violation_of.ensures
          ∙ Σ-more l.j (λ k. at a.f.now (80 + k) ⊗ violation (eqb (nth a.u.now (16 + k)) 0) (at a.v.now (1 + k))) l.total l.invariant.1,
    )

pub returns : goal.returns
returns c = let l = c.loop-j in
    let a = c.args in
    Σ-done l.j a.m _ l.total l.invariant.0 (omega arith) l.invariant.1 ∙ penalized-in a.m a.f.now a.u.now a.v.now c.requires.4
