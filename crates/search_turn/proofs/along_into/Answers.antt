-- `along_into`: after i turns i coordinates are written, and what is read is as it was.
use mathlib.Core.Path.{◌≡◌, refl, ◌∙◌}
use Prim.Native.Nat.{◌+◌}
use native.Mathlib.Omega.{arith}
use lib.ListN.{length-set}
use lib.Ieee.{nan}
use Rattle.numbers.specs.Numbers.{at, ◌⊕◌, ◌⊗◌}
use Rattle.workspace.proofs.Writes.{written_none, written-more}
use Rattle.search.specs.Turn.{clip}
use Rattle.search.proofs.Laying.{written-laid}
use Rattle.search_turn.proofs.along_into.Goals as goal

pub loop-i-init : goal.loop-i-init
loop-i-init c = (omega arith, refl, written_none nan _ _ _)

pub overflow_add-i : goal.overflow_add-i
overflow_add-i c = omega arith

pub offset_bounds-f-i : goal.offset_bounds-f-i
offset_bounds-f-i c = omega arith

pub bounds-f-i : goal.bounds-f-i
bounds-f-i c = omega arith

pub overflow_add-i-in-loop-i : goal.overflow_add-i-in-loop-i
overflow_add-i-in-loop-i c = omega arith

pub offset_bounds-f-i-in-loop-i : goal.offset_bounds-f-i-in-loop-i
offset_bounds-f-i-in-loop-i c = omega arith

pub bounds-f-i-in-loop-i : goal.bounds-f-i-in-loop-i
bounds-f-i-in-loop-i c = omega arith

pub overflow_add-i-in-loop-i-2 : goal.overflow_add-i-in-loop-i-2
overflow_add-i-in-loop-i-2 c = omega arith

pub offset_bounds-f-i-in-loop-i-2 : goal.offset_bounds-f-i-in-loop-i-2
offset_bounds-f-i-in-loop-i-2 c = omega arith

pub bounds-f-i-in-loop-i-2 : goal.bounds-f-i-in-loop-i-2
bounds-f-i-in-loop-i-2 c = omega arith

pub overflow_add-i-in-loop-i-3 : goal.overflow_add-i-in-loop-i-3
overflow_add-i-in-loop-i-3 c = omega arith

pub offset_bounds-f-i-in-loop-i-3 : goal.offset_bounds-f-i-in-loop-i-3
offset_bounds-f-i-in-loop-i-3 c = omega arith

pub bounds-f-i-in-loop-i-3 : goal.bounds-f-i-in-loop-i-3
bounds-f-i-in-loop-i-3 c = omega arith

pub clip_to-y-requires : goal.clip_to-y-requires
clip_to-y-requires c = tt

pub overflow_add-f : goal.overflow_add-f
overflow_add-f c = omega arith

pub offset_bounds-f-o : goal.offset_bounds-f-o
offset_bounds-f-o c = omega arith

pub bounds-f-o : goal.bounds-f-o
bounds-f-o c = omega arith

pub overflow_step-i : goal.overflow_step-i
overflow_step-i c = omega arith

pub loop-i-smaller : goal.loop-i-smaller
loop-i-smaller c = omega arith

pub loop-i-preserved : goal.loop-i-preserved
loop-i-preserved c = let a = c.args in
    let l = c.loop-i in
    let b = l.invariant.2.before in
    let w = a.f.now in
    let e : at l.f (16 + l.i) ≡ at w (16 + l.i) = b (16 + l.i) (omega arith) in
    let g : at l.f (32 + l.i) ≡ at w (32 + l.i) = b (32 + l.i) (omega arith) in
    let h : at l.f (48 + l.i) ≡ at w (48 + l.i) = b (48 + l.i) (omega arith) in
    let k : at l.f (64 + l.i) ≡ at w (64 + l.i) = b (64 + l.i) (omega arith) in
    (omega arith, simp length-set l.invariant.1, written-more nan _ _ _ _ _ _ (omega arith) (c.clip_to-y.ensures ∙ (λ t. clip (e t) (g t) (h t ⊕ a.alpha ⊗ k t))) l.invariant.2)

pub shape_of-f : goal.shape_of-f
shape_of-f c = c.loop-i.invariant.1

pub returns : goal.returns
returns c = let l = c.loop-i in
    let e : l.i ≡ c.args.n = omega arith in
    rw (← e) (written-laid nan c.args.o l.i _ _ _ l.invariant.1 (omega arith) l.invariant.2)
