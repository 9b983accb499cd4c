-- `has_room`: after j turns the marked of the first j columns are counted.
use mathlib.Core.Path.{◌≡◌}
use mathlib.Core.Bool.{false}
use Prim.Native.Nat.{◌+◌}
use native.Mathlib.Omega.{arith}
use lib.Dec.{leb}
use borrow.Author.Tests.{leb-false}
use Rattle.nnls_passive.proofs.Many.{counted-more, crowded, none_yet}
use Rattle.nnls_passive.proofs.has_room.Goals as goal

pub loop-j-init : goal.loop-j-init
loop-j-init c = (omega arith, omega arith, none_yet _)

pub overflow_add-c : goal.overflow_add-c
overflow_add-c c = omega arith

pub overflow_step-j : goal.overflow_step-j
overflow_step-j c = omega arith

pub loop-j-smaller : goal.loop-j-smaller
loop-j-smaller c = omega arith

pub loop-j-preserved : goal.loop-j-preserved
loop-j-preserved c = let l = c.loop-j in
    (omega arith, omega arith, counted-more c.args.iw.now l.j l.c _ c.flag-c.ensures.0 l.invariant.2)

pub overflow_add-result : goal.overflow_add-result
overflow_add-result c = omega arith

pub returns : goal.returns
returns c = let l = c.loop-j in
    let a = c.args in
    let e : l.j ≡ a.n = omega arith in
    λ (h : leb (l.c + 1) a.m ≡ false). crowded a.m a.n a.iw.now (omega arith) (rw (← e) (omega (arith, l.invariant.2, leb-false (l.c + 1) a.m h)))
