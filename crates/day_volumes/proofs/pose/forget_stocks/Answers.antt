use mathlib.Core.Path.{◌≡◌, refl, ap, ◌∙◌}
use mathlib.Core.Bool.{cond}
use lib.Dec.{eqb}
use Prim.Native.Nat.{ℕ, ◌+◌}
use lib.ListN.{length-set}
use Rattle.workspace.proofs.Writes.{written_none, written-front, written_all}
use Rattle.numbers.specs.Numbers.{nth}
use native.Mathlib.Omega.{arith}
use Rattle.day_volumes.proofs.pose.forget_stocks.Goals as goal

pub loop-i-init : goal.loop-i-init
loop-i-init c = (omega arith, refl, written_none _ _ _ _)

pub overflow_add-i : goal.overflow_add-i
overflow_add-i c = omega arith

pub offset_bounds-z-i : goal.offset_bounds-z-i
offset_bounds-z-i c = omega arith

pub bounds-z-i : goal.bounds-z-i
bounds-z-i c = omega arith

pub bounds-still-i : goal.bounds-still-i
bounds-still-i c = omega (arith, c.loop-i.invariant.1, c.requires.2)

pub unless_stock-requires : goal.unless_stock-requires
unless_stock-requires c = tt

pub bounds-still-i-in-loop-i : goal.bounds-still-i-in-loop-i
bounds-still-i-in-loop-i c = omega (arith, c.loop-i.invariant.1, c.requires.2)

pub overflow_step-i : goal.overflow_step-i
overflow_step-i c = omega arith

pub loop-i-smaller : goal.loop-i-smaller
loop-i-smaller c = omega arith

pub loop-i-preserved : goal.loop-i-preserved
loop-i-preserved c = let l = c.loop-i in (omega arith, simp length-set l.invariant.1, written-front _ _ _ _ _ _ (omega (arith, l.invariant.1, c.requires.2)) (c.unless_stock.ensures ∙ ap (λ (v : ℕ). cond (eqb (nth c.args.z.now (32 + l.i)) 2) 0 v) (l.invariant.2.after l.i (omega arith))) l.invariant.2)

pub shape_of-still : goal.shape_of-still
shape_of-still c = c.loop-i.invariant.1

pub returns : goal.returns
returns c = let l = c.loop-i in let e : l.i ≡ c.args.n = omega arith in written_all _ _ _ _ _ (l.invariant.1 ∙ c.requires.2) (rw e at l.invariant.2)
