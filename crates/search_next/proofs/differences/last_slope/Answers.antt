use Rattle.search_next.proofs.Sloped.{last-few, front-finite, last-ends, last-arrives}
use lib.Seq.{length-take-le}
use mathlib.Core.Path.{sym, refl, ◌∙◌}
use Prim.Native.Nat.{◌+◌, ◌-◌, ◌*◌}
use native.Mathlib.Omega.{arith}
use Rattle.search_next.proofs.differences.last_slope.Goals as goal

pub overflow_mul-k : goal.overflow_mul-k
overflow_mul-k c = let q = last-few _ _ _ _ c.requires.0 in omega arith

pub overflow_add-k : goal.overflow_add-k
overflow_add-k c = let q = last-few _ _ _ _ c.requires.0 in omega arith

pub slopes_into-requires : goal.slopes_into-requires
slopes_into-requires c = (c.requires.0.floats, c.requires.1, last-few _ _ _ _ c.requires.0)

pub overflow_add-e : goal.overflow_add-e
overflow_add-e c = let q = last-few _ _ _ _ c.requires.0 in omega arith

pub slice_bounds-are_finite-end : goal.slice_bounds-are_finite-end
slice_bounds-are_finite-end c = let q = last-few _ _ _ _ c.requires.0 in let l = c.slopes_into.ensures.1 in omega arith

pub slice_bounds-are_finite-end-2 : goal.slice_bounds-are_finite-end-2
slice_bounds-are_finite-end-2 c = let a = c.args in let q = last-few _ _ _ _ c.requires.0 in let l = c.slopes_into.ensures.1 in sym (length-take-le (a.m * a.n + (a.n - 1) + 1) c.slopes_into.new.w (omega arith))

pub returns-then-not-are_finite : goal.returns-then-not-are_finite
returns-then-not-are_finite c = let a = c.args in let r = c.requires.0 in let q = last-few _ _ _ _ r in let l = c.slopes_into.ensures.1 in let k = a.m * a.n + (a.n - 1) in last-ends a.n a.m k a.slope c.slopes_into.new.w a.f.now _ a.u.now _ r refl c.slopes_into.ensures.0 (sym (front-finite k c.slopes_into.new.w _ (omega arith) c.are_finite.ensures) ∙ c.if-not-are_finite.true) c.end_goal.ensures

pub returns : goal.returns
returns c = let a = c.args in let r = c.requires.0 in let q = last-few _ _ _ _ r in let l = c.slopes_into.ensures.1 in let k = a.m * a.n + (a.n - 1) in last-arrives a.n a.m k a.slope c.slopes_into.new.w a.f.now _ a.u.now _ r refl c.slopes_into.ensures.0 (sym (front-finite k c.slopes_into.new.w _ (omega arith) c.are_finite.ensures) ∙ c.if-not-are_finite.false) c.arrive_next.ensures
