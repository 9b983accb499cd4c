-- `lead_from`: the lead of the fours, and then column by column.
use mathlib.Core.Path.{◌≡◌, refl}
use Prim.Native.Nat.{◌+◌, ◌-◌}
use native.Mathlib.Omega.{arith}
use Rattle.householder.specs.inner.Search.{product}
use Rattle.householder.proofs.Leading.{leads-more}
use Rattle.householder.proofs.search.lead_from.Goals as goal

pub overflow_sub-m : goal.overflow_sub-m
overflow_sub-m c = omega arith

pub least-f-requires : goal.least-f-requires
least-f-requires c = (omega arith, omega arith)

pub pivot_fours-top-requires : goal.pivot_fours-top-requires
pivot_fours-top-requires c = (omega arith, omega arith, omega arith, omega arith, omega arith, c.least-f.ensures)

pub overflow_sub-c : goal.overflow_sub-c
overflow_sub-c c = omega arith

pub overflow_step-t : goal.overflow_step-t
overflow_step-t c = omega arith

pub loop-t-init : goal.loop-t-init
loop-t-init c = (refl, omega arith, c.pivot_fours-top.ensures)

pub overflow_add-p : goal.overflow_add-p
overflow_add-p c = omega arith

pub overflow_mul-p : goal.overflow_mul-p
overflow_mul-p c = omega arith

pub overflow_add-p-in-loop-t : goal.overflow_add-p-in-loop-t
overflow_add-p-in-loop-t c = omega arith

pub overflow_add-p-in-loop-t-2 : goal.overflow_add-p-in-loop-t-2
overflow_add-p-in-loop-t-2 c = omega arith

pub overflow_sub-m-in-loop-t : goal.overflow_sub-m-in-loop-t
overflow_sub-m-in-loop-t c = omega arith

pub dot_within-s-requires : goal.dot_within-s-requires
dot_within-s-requires c = omega arith

pub overflow_add-k : goal.overflow_add-k
overflow_add-k c = omega arith

pub judge-top-requires : goal.judge-top-requires
unfolding product
judge-top-requires c = (omega arith, omega arith, omega arith, omega arith, c.dot_within-s.ensures, c.least-f.ensures)

pub overflow_step-t-in-loop-t : goal.overflow_step-t-in-loop-t
overflow_step-t-in-loop-t c = omega arith

pub loop-t-smaller : goal.loop-t-smaller
loop-t-smaller c = omega arith

pub loop-t-preserved : goal.loop-t-preserved
loop-t-preserved c = let a = c.args in
    let l = c.loop-t in (
      refl,
      omega arith,
      leads-more a.m a.n a.k l.t (a.k + l.t) a.w.now l.top _ refl l.invariant.2 c.judge-top.ensures,
    )

pub returns : goal.returns
returns c = let a = c.args in
    let l = c.loop-t in
    let e : l.t ≡ a.n - a.k = omega arith in
    rw (← e) l.invariant.2.best
