-- `is_taken`: the names not compared yet give the answer.
use native.Mathlib.Omega.{arith}
use mathlib.Core.Path.{sym, ◌∙◌}
use Prim.Native.Nat.{◌+◌, ◌-◌, ◌*◌}
use Rattle.sheet_words.proofs.Laws.{taken-begin, taken_here, taken-later, taken_none}
use Rattle.sheet_words.proofs.is_taken.Goals as goal

pub loop-k-init : goal.loop-k-init
loop-k-init c = (omega arith, taken-begin c.args.n _ _)

pub overflow_mul-start : goal.overflow_mul-start
overflow_mul-start c = omega arith

pub overflow_mul-end : goal.overflow_mul-end
overflow_mul-end c = omega arith

pub overflow_add-end : goal.overflow_add-end
overflow_add-end c = omega arith

pub slice_bounds-is_alike-count : goal.slice_bounds-is_alike-count
slice_bounds-is_alike-count c = omega arith

pub slice_bounds-is_alike-start : goal.slice_bounds-is_alike-start
slice_bounds-is_alike-start c = omega arith

pub slice_bounds-is_alike-end : goal.slice_bounds-is_alike-end
slice_bounds-is_alike-end c = omega arith

pub is_alike-requires : goal.is_alike-requires
is_alike-requires c = tt

pub returns-then-is_alike : goal.returns-then-is_alike
returns-then-is_alike c = let l = c.loop-k in taken_here c.args.n _ _ l.k (16 * l.k + 16 - 16 * l.k) (omega arith) (omega arith) (sym c.is_alike.ensures ∙ c.if-is_alike.true) ∙ sym l.invariant.1

pub overflow_step-k : goal.overflow_step-k
overflow_step-k c = omega arith

pub loop-k-smaller : goal.loop-k-smaller
loop-k-smaller c = omega arith

pub loop-k-preserved : goal.loop-k-preserved
loop-k-preserved c = let l = c.loop-k in (omega arith, l.invariant.1 ∙ taken-later c.args.n _ _ l.k (16 * l.k + 16 - 16 * l.k) (omega arith) (omega arith) (sym c.is_alike.ensures ∙ c.if-is_alike.false))

pub returns : goal.returns
returns c = let l = c.loop-k in taken_none c.args.n _ _ l.k (omega arith) ∙ sym l.invariant.1
