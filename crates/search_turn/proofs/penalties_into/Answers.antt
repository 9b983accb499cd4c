-- `penalties_into`: after j turns j penalties are written, and what is read is as it was.
use mathlib.Core.Path.{◌≡◌, refl, ap, ◌∙◌}
use Prim.Native.Nat.{◌+◌}
use mathlib.Core.List.{List}
use native.Mathlib.Omega.{arith}
use lib.ListN.{length-set}
use lib.Ieee.{Float, nan}
use Rattle.numbers.specs.Numbers.{at, ◌⊕◌, ◌⊘◌}
use Rattle.workspace.proofs.Writes.{written_none, written-more}
use Rattle.search.specs.Turn.{magnitude, larger, two}
use Rattle.search.specs.Layout.{laid}
use Rattle.search.proofs.Laying.{written-laid}
use Rattle.search_turn.proofs.Parts.{penalties-in}
use Rattle.search_turn.proofs.penalties_into.Goals as goal

pub loop-j-init : goal.loop-j-init
loop-j-init c = (omega arith, refl, written_none nan _ _ _)

pub overflow_add-j : goal.overflow_add-j
overflow_add-j c = omega arith

pub offset_bounds-f-j : goal.offset_bounds-f-j
offset_bounds-f-j c = omega arith

pub bounds-f-j : goal.bounds-f-j
bounds-f-j c = omega arith

pub overflow_add-j-in-loop-j : goal.overflow_add-j-in-loop-j
overflow_add-j-in-loop-j c = omega arith

pub offset_bounds-f-j-in-loop-j : goal.offset_bounds-f-j-in-loop-j
offset_bounds-f-j-in-loop-j c = omega arith

pub bounds-f-j-in-loop-j : goal.bounds-f-j-in-loop-j
bounds-f-j-in-loop-j c = omega arith

pub penalty_of-r-requires : goal.penalty_of-r-requires
penalty_of-r-requires c = tt

pub overflow_add-f : goal.overflow_add-f
overflow_add-f c = omega arith

pub offset_bounds-f-j-in-loop-j-2 : goal.offset_bounds-f-j-in-loop-j-2
offset_bounds-f-j-in-loop-j-2 c = omega arith

pub bounds-f-j-in-loop-j-2 : goal.bounds-f-j-in-loop-j-2
bounds-f-j-in-loop-j-2 c = omega arith

pub overflow_step-j : goal.overflow_step-j
overflow_step-j c = omega arith

pub loop-j-smaller : goal.loop-j-smaller
loop-j-smaller c = omega arith

pub loop-j-preserved : goal.loop-j-preserved
loop-j-preserved c = let l = c.loop-j in
    let w = c.args.f.now in
    let e : at l.f (80 + l.j) ≡ at w (80 + l.j) = l.invariant.2.after (80 + l.j) (omega arith) in
    let g : at l.f (96 + l.j) ≡ at w (96 + l.j) = l.invariant.2.after (96 + l.j) (omega arith) in
    (omega arith, simp length-set l.invariant.1, written-more nan _ _ _ _ _ _ (omega arith) (c.penalty_of-r.ensures ∙ (λ t. larger (magnitude (g t)) ((e t ⊕ magnitude (g t)) ⊘ two))) l.invariant.2)

pub shape_of-f : goal.shape_of-f
shape_of-f c = c.loop-j.invariant.1

pub returns : goal.returns
returns c = let l = c.loop-j in
    let w = c.args.f.now in
    let e : l.j ≡ c.args.m = omega arith in
    rw (← e) (written-laid nan 80 l.j _ _ _ l.invariant.1 (omega arith) l.invariant.2 ∙ ap (λ (v : List Float). laid 80 v w) (penalties-in l.j w))
