-- `shift_sides`: the fours, and then side by side: the sides before i are shifted.
use mathlib.Core.Path.{refl, ◌∙◌}
use native.Mathlib.Omega.{arith}
use lib.ListN.{length-set}
use Rattle.lsei.proofs.Rows.{shifted_at, shifted-more}
use Rattle.lsei.proofs.shift_sides.Goals as goal

pub shift_fours-requires : goal.shift_fours-requires
shift_fours-requires c = c.requires

pub overflow_step-i : goal.overflow_step-i
overflow_step-i c = omega arith

pub loop-i-init : goal.loop-i-init
loop-i-init c = (omega arith, refl, λ v h. h)

pub overflow_mul-o : goal.overflow_mul-o
overflow_mul-o c = omega arith

pub overflow_add-o : goal.overflow_add-o
overflow_add-o c = omega arith

pub dot_within-t-requires : goal.dot_within-t-requires
dot_within-t-requires c = omega (arith, c.loop-i.invariant.1, c.shift_fours.auto.w, c.requires)

pub overflow_add-w : goal.overflow_add-w
overflow_add-w c = omega arith

pub offset_bounds-w-o : goal.offset_bounds-w-o
offset_bounds-w-o c = omega arith

pub bounds-w-o : goal.bounds-w-o
bounds-w-o c = omega (arith, c.loop-i.invariant.1, c.shift_fours.auto.w, c.requires)

pub overflow_add-w-in-loop-i : goal.overflow_add-w-in-loop-i
overflow_add-w-in-loop-i c = omega arith

pub offset_bounds-w-o-in-loop-i : goal.offset_bounds-w-o-in-loop-i
offset_bounds-w-o-in-loop-i c = omega arith

pub bounds-w-o-in-loop-i : goal.bounds-w-o-in-loop-i
bounds-w-o-in-loop-i c = omega (arith, c.loop-i.invariant.1, c.shift_fours.auto.w, c.requires)

pub overflow_step-i-in-loop-i : goal.overflow_step-i-in-loop-i
overflow_step-i-in-loop-i c = omega arith

pub loop-i-smaller : goal.loop-i-smaller
loop-i-smaller c = omega arith

pub loop-i-preserved : goal.loop-i-preserved
loop-i-preserved c = let l = c.loop-i in
    let y = c.shift_fours.auto.w in
    let d = c.dot_within-t in
    (omega arith, simp length-set l.invariant.1, λ v h. shifted-more c.args.n l.i v l.w d.result c.requires.0 (omega (arith, l.invariant.1, y, c.requires)) d.ensures (l.invariant.2 v h))

pub shape_of-w : goal.shape_of-w
shape_of-w c = c.loop-i.invariant.1 ∙ c.shift_fours.auto.w

pub returns : goal.returns
returns c = let l = c.loop-i in
    shifted_at c.args.n _ _ c.args.w.now _ (omega arith) (l.invariant.2 c.args.w.now c.shift_fours.ensures)
