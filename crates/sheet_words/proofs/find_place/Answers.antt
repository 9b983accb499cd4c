-- `find_place`: the names not compared yet give the answer.
use native.Mathlib.Omega.{arith}
use mathlib.Core.Path.{refl, sym, ◌∙◌}
use Prim.Native.Nat.{◌+◌, ◌-◌, ◌*◌}
use Rattle.sheet_words.proofs.Laws.{place_here, place-later, place_none}
use Rattle.sheet_words.proofs.find_place.Goals as goal

pub loop-k-init : goal.loop-k-init
loop-k-init c = (omega arith, refl)

pub overflow_mul-start : goal.overflow_mul-start
overflow_mul-start c = omega arith

pub overflow_mul-end : goal.overflow_mul-end
overflow_mul-end c = omega arith

pub overflow_add-end : goal.overflow_add-end
overflow_add-end c = omega arith

pub slice_bounds-is_same-count : goal.slice_bounds-is_same-count
slice_bounds-is_same-count c = omega arith

pub slice_bounds-is_same-start : goal.slice_bounds-is_same-start
slice_bounds-is_same-start c = omega arith

pub slice_bounds-is_same-end : goal.slice_bounds-is_same-end
slice_bounds-is_same-end c = omega arith

pub is_same-requires : goal.is_same-requires
is_same-requires c = tt

pub returns-then-is_same : goal.returns-then-is_same
returns-then-is_same c = let l = c.loop-k in record { value = place_here _ _ l.k (16 * l.k + 16 - 16 * l.k) (omega arith) (omega arith) (sym c.is_same.ensures ∙ c.if-is_same.true) ∙ sym l.invariant.1; inside = omega arith }

pub overflow_step-k : goal.overflow_step-k
overflow_step-k c = omega arith

pub loop-k-smaller : goal.loop-k-smaller
loop-k-smaller c = omega arith

pub loop-k-preserved : goal.loop-k-preserved
loop-k-preserved c = let l = c.loop-k in (omega arith, l.invariant.1 ∙ place-later _ _ l.k (16 * l.k + 16 - 16 * l.k) (omega arith) (omega arith) (sym c.is_same.ensures ∙ c.if-is_same.false))

pub returns : goal.returns
returns c = let l = c.loop-k in record { value = place_none _ _ l.k (omega arith) ∙ sym l.invariant.1; inside = tt }
