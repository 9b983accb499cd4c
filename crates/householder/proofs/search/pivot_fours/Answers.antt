-- `pivot_fours`: after q turns the lead is that of 4 q columns.
use mathlib.Core.Path.{◌≡◌, refl, subst}
use Prim.Native.Nat.{ℕ, ◌*◌, ◌-◌, ◌/◌}
use native.Mathlib.Omega.{arith}
use Rattle.householder.specs.inner.Search.{Leads}
use Rattle.householder.proofs.Leading.{leads-none}
use Rattle.householder.proofs.search.pivot_fours.Goals as goal

pub overflow_sub-c : goal.overflow_sub-c
overflow_sub-c c = omega arith

pub loop-q-init : goal.loop-q-init
loop-q-init c = let a = c.args in (refl, omega arith, leads-none a.m a.n a.k a.w.now)

pub overflow_mul-j : goal.overflow_mul-j
overflow_mul-j c = omega arith

pub overflow_add-j : goal.overflow_add-j
overflow_add-j c = omega arith

pub overflow_mul-o : goal.overflow_mul-o
overflow_mul-o c = omega arith

pub overflow_add-o : goal.overflow_add-o
overflow_add-o c = omega arith

pub overflow_add-o-in-loop-q : goal.overflow_add-o-in-loop-q
overflow_add-o-in-loop-q c = omega arith

pub overflow_sub-m : goal.overflow_sub-m
overflow_sub-m c = omega arith

pub products_four-s-requires : goal.products_four-s-requires
products_four-s-requires c = omega arith

pub judge_four-top-requires : goal.judge_four-top-requires
judge_four-top-requires c = (omega arith, omega arith, omega arith, omega arith, c.products_four-s.ensures, c.requires.5)

pub overflow_step-q : goal.overflow_step-q
overflow_step-q c = omega arith

pub loop-q-smaller : goal.loop-q-smaller
loop-q-smaller c = omega arith

pub loop-q-preserved : goal.loop-q-preserved
loop-q-preserved c = let l = c.loop-q in (refl, omega arith, c.judge_four-top.ensures l.q refl l.invariant.2)

pub returns : goal.returns
returns c = let a = c.args in
    let l = c.loop-q in
    let e : l.q ≡ (a.n - a.k) / 4 = omega arith in
    subst (λ (z : ℕ). Leads a.m a.n a.k (z * 4) a.w.now l.top) e l.invariant.2
