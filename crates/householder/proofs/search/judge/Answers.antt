-- `judge`: the sum decides, or the norm is worked out.
use mathlib.Core.Path.{◌∙◌}
use native.Mathlib.Omega.{arith}
use Rattle.householder.proofs.Leading.{judged-sum, judged-dim, judged-norm, column-slice}
use Rattle.householder.proofs.search.judge.Goals as goal

pub overflow_mul-p : goal.overflow_mul-p
overflow_mul-p c = omega arith

pub overflow_add-p : goal.overflow_add-p
overflow_add-p c = omega arith

pub overflow_add-p-2 : goal.overflow_add-p-2
overflow_add-p-2 c = omega arith

pub overflow_sub-m : goal.overflow_sub-m
overflow_sub-m c = omega arith

pub known_within-requires : goal.known_within-requires
known_within-requires c = omega arith

pub returns-then-sure : goal.returns-then-sure
returns-then-sure c = let a = c.args in
    let k = c.holds-sure.ensures c.if-sure.true in
    judged-sum a.m a.n a.k a.j a.w.now a.old c.weigh.result a.f a.s (omega arith) (omega arith) (omega arith) c.requires.4 c.known_within.ensures c.requires.5 k.0 k.1 c.weigh.ensures

pub overflow_sub-m-then-ahead : goal.overflow_sub-m-then-ahead
overflow_sub-m-then-ahead c = omega arith

pub known_within-requires-then-ahead : goal.known_within-requires-then-ahead
known_within-requires-then-ahead c = omega arith

pub returns-then-ahead : goal.returns-then-ahead
returns-then-ahead c = let a = c.args in
    let k = c.bounds-dim.ensures c.if-dim.true in
    judged-dim a.m a.n a.k a.j a.w.now a.old a.s (omega arith) (omega arith) (omega arith) c.requires.4 c.known_within-then-ahead.ensures k.0 k.1 (c.ahead-ahead.ensures c.if-ahead.true)

pub overflow_sub-e : goal.overflow_sub-e
overflow_sub-e c = omega arith

pub overflow_add-e : goal.overflow_add-e
overflow_add-e c = omega arith

pub offset_bounds-w-p : goal.offset_bounds-w-p
offset_bounds-w-p c = omega arith

pub slice_bounds-part-count : goal.slice_bounds-part-count
slice_bounds-part-count c = omega arith

pub slice_bounds-part-start : goal.slice_bounds-part-start
slice_bounds-part-start c = omega arith

pub slice_bounds-part-end : goal.slice_bounds-part-end
slice_bounds-part-end c = omega arith

pub returns : goal.returns
returns c = let a = c.args in
    judged-norm a.m a.n a.k a.j a.w.now a.old c.compare.result c.scaled_norm-y.result
    (c.scaled_norm-y.ensures ∙ column-slice a.m a.n a.k a.j a.w.now (omega arith) (omega arith) (omega arith, omega arith)) c.compare.ensures
