-- `judge_four`: the four sums decide, or each column is judged.
use native.Mathlib.Omega.{arith}
use Rattle.householder.proofs.Leading.{judged-four, leads-four, four-a, four-b, four-c, four-d}
use Rattle.householder.proofs.search.judge_four.Goals as goal

pub overflow_mul-j : goal.overflow_mul-j
overflow_mul-j c = omega arith

pub overflow_add-j : goal.overflow_add-j
overflow_add-j c = omega arith

pub overflow_add-j-then-sure : goal.overflow_add-j-then-sure
overflow_add-j-then-sure c = omega arith

pub overflow_sub-m : goal.overflow_sub-m
overflow_sub-m c = omega arith

pub overflow_add-m : goal.overflow_add-m
overflow_add-m c = omega arith

pub known_within-requires : goal.known_within-requires
known_within-requires c = omega arith

pub overflow_add-j-then-sure-2 : goal.overflow_add-j-then-sure-2
overflow_add-j-then-sure-2 c = omega arith

pub overflow_add-j-then-sure-3 : goal.overflow_add-j-then-sure-3
overflow_add-j-then-sure-3 c = omega arith

pub overflow_add-j-then-sure-4 : goal.overflow_add-j-then-sure-4
overflow_add-j-then-sure-4 c = omega arith

pub returns-then-sure : goal.returns-then-sure
returns-then-sure c = let a = c.args in
    judged-four a.m a.n a.k a.j a.w.now a.old c.weigh-x.result c.weigh-y.result c.weigh-z.result c.weigh.result a.f a.s (omega arith) (omega arith) (omega arith) c.requires.4
    c.known_within.ensures c.requires.5 (c.sure_four-sure.ensures c.if-sure.true) c.weigh-x.ensures c.weigh-y.ensures c.weigh-z.ensures c.weigh.ensures

pub judge-x-requires : goal.judge-x-requires
judge-x-requires c = (omega arith, omega arith, omega arith, omega arith, four-a _ _ _ _ _ c.requires.4, c.requires.5)

pub overflow_add-j-2 : goal.overflow_add-j-2
overflow_add-j-2 c = omega arith

pub judge-y-requires : goal.judge-y-requires
judge-y-requires c = (omega arith, omega arith, omega arith, omega arith, four-b _ _ _ _ _ c.requires.4, c.requires.5)

pub overflow_add-j-3 : goal.overflow_add-j-3
overflow_add-j-3 c = omega arith

pub judge-z-requires : goal.judge-z-requires
judge-z-requires c = (omega arith, omega arith, omega arith, omega arith, four-c _ _ _ _ _ c.requires.4, c.requires.5)

pub overflow_add-j-4 : goal.overflow_add-j-4
overflow_add-j-4 c = omega arith

pub judge-requires : goal.judge-requires
judge-requires c = (omega arith, omega arith, omega arith, omega arith, four-d _ _ _ _ _ c.requires.4, c.requires.5)

pub returns : goal.returns
returns c = let a = c.args in
    λ q e b. leads-four a.m a.n a.k q a.j a.w.now a.old _ _ _ _ e b c.judge-x.ensures c.judge-y.ensures c.judge-z.ensures c.judge.ensures
