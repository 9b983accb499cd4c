-- `change_into`: after i turns the first i entries are written.
use native.Mathlib.Omega.{arith}
use Rattle.numbers.specs.Numbers.{◌⊖◌}
use Rattle.numbers.proofs.Fills.{fill_none, fill_more, fill-all}
use Rattle.search.proofs.Parts.{slopes-few}
use Rattle.search_move.specs.inner.Work.{change_in}
use Rattle.search_move.proofs.change_into.Goals as goal

pub loop-i-init : goal.loop-i-init
loop-i-init c = (omega arith, fill_none _ _)

pub lagrangian_at-requires : goal.lagrangian_at-requires
lagrangian_at-requires c = (omega arith, omega arith, omega arith, omega arith, omega arith, omega arith)

pub lagrangian_at-requires-in-loop-i : goal.lagrangian_at-requires-in-loop-i
lagrangian_at-requires-in-loop-i c = let a = c.args in (omega (arith, slopes-few a.n a.m (omega arith) (omega arith)), omega arith, omega arith, omega arith, omega arith, omega arith)

pub offset_bounds-y-i : goal.offset_bounds-y-i
offset_bounds-y-i c = omega arith

pub bounds-y-i : goal.bounds-y-i
bounds-y-i c = omega arith

pub overflow_step-i : goal.overflow_step-i
overflow_step-i c = omega arith

pub loop-i-smaller : goal.loop-i-smaller
loop-i-smaller c = omega arith

pub loop-i-preserved : goal.loop-i-preserved
loop-i-preserved c = let l = c.loop-i in
    let a = c.lagrangian_at.ensures in
    let b = c.lagrangian_at-in-loop-i.ensures in
    (omega arith, fill_more l.invariant.1 (omega arith) (λ t. a t ⊖ b t))

pub shape_of-y : goal.shape_of-y
shape_of-y c = omega arith

pub returns : goal.returns
unfolding change_in
returns c = fill-all c.loop-i.invariant.1 (omega arith) (omega arith)
