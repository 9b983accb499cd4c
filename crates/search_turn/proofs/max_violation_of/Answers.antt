-- `max_violation_of`: after j turns the largest of the first j is known.
use mathlib.Core.Path.{◌∙◌}
use native.Mathlib.Omega.{arith}
use Rattle.search_turn.proofs.Parts.{violation-in, largest-none, largest-more, largest-in}
use Rattle.search_turn.proofs.max_violation_of.Goals as goal

pub loop-j-init : goal.loop-j-init
loop-j-init c = (omega arith, λ f. largest-none _)

pub overflow_add-j : goal.overflow_add-j
overflow_add-j c = omega arith

pub offset_bounds-u-j : goal.offset_bounds-u-j
offset_bounds-u-j c = omega arith

pub bounds-u-j : goal.bounds-u-j
bounds-u-j c = omega arith

pub overflow_add-j-in-loop-j : goal.overflow_add-j-in-loop-j
overflow_add-j-in-loop-j c = omega arith

pub offset_bounds-v-j : goal.offset_bounds-v-j
offset_bounds-v-j c = omega arith

pub bounds-v-j : goal.bounds-v-j
bounds-v-j c = omega arith

pub violation_of-requires : goal.violation_of-requires
violation_of-requires c = tt

pub larger_of-most-requires : goal.larger_of-most-requires
larger_of-most-requires c = tt

pub overflow_step-j : goal.overflow_step-j
overflow_step-j c = omega arith

pub loop-j-smaller : goal.loop-j-smaller
loop-j-smaller c = omega arith

pub loop-j-preserved : goal.loop-j-preserved
loop-j-preserved c = let l = c.loop-j in
    let a = c.args in (
      omega arith,
      λ f. c.larger_of-most.ensures ∙ largest-more l.j _ l.most _ (l.invariant.1 f)
          (c.violation_of.ensures ∙ violation-in a.m f a.u.now a.v.now c.requires.3 l.j (omega arith)),
    )

pub returns : goal.returns
returns c = let l = c.loop-j in
    let a = c.args in
    λ f. largest-in l.j a.m f a.u.now a.v.now l.most c.requires.3 l.invariant.0 (omega arith) (l.invariant.1 f)
