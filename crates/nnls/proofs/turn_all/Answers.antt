-- `turn_all`: after `count` turns what is left of the turns gives the answer.
use mathlib.Core.Path.{refl, sym, ap, ◌∙◌}
use native.Mathlib.Omega.{arith}
use Rattle.nnls.specs.inner.State.{read}
use Rattle.nnls.specs.inner.Work.{obstacle_of}
use Rattle.nnls.proofs.States.{read-solve}
use Rattle.nnls.proofs.Moves.{read-moved}
use Rattle.nnls.proofs.Turning.{turning-none, turn-free, turn-out, turn-again}
use Rattle.nnls.proofs.turn_all.Goals as goal

pub loop-count-init : goal.loop-count-init
loop-count-init c = (refl, refl, turning-none _ _ _ _)

pub blocking-blocker-requires : goal.blocking-blocker-requires
blocking-blocker-requires c = omega arith

pub overflow_add-result : goal.overflow_add-result
overflow_add-result c = omega arith

pub shape_of-w-in_default : goal.shape_of-w-in_default
shape_of-w-in_default c = c.loop-count.invariant.0

pub shape_of-iw-in_default : goal.shape_of-iw-in_default
shape_of-iw-in_default c = c.loop-count.invariant.1

pub returns-in_default : goal.returns-in_default
returns-in_default c = let a = c.args in
    let l = c.loop-count in
    turn-free a.m a.n a.f (read a.m a.n a.w.now a.iw.now) (read a.m a.n l.w l.iw)
    l.count l.invariant.2 (sym c.blocking-blocker.ensures ∙ ap obstacle_of c.in_default.is)

pub move_all-requires : goal.move_all-requires
move_all-requires c = omega arith

pub solve_passive-full-requires : goal.solve_passive-full-requires
solve_passive-full-requires c = omega arith

pub loop-count-preserved : goal.loop-count-preserved
loop-count-preserved c = let a = c.args in
    let l = c.loop-count in
    let v = c.move_all in
    let t = c.solve_passive-full in (
      t.auto.w ∙ v.auto.w ∙ l.invariant.0,
      t.auto.iw ∙ v.auto.iw ∙ l.invariant.1,
      turn-again a.m a.n a.f (read a.m a.n a.w.now a.iw.now) (read a.m a.n l.w l.iw) l.count l.invariant.2 _ _
          (sym c.blocking-blocker.ensures ∙ ap obstacle_of c.in-Some.is)
          c.loop-count-test.true
          (read a.m a.n v.new.w v.new.iw) (read a.m a.n t.new.w t.new.iw)
          (read-moved a.m a.n _ _ l.w v.new.w l.iw v.new.iw c.requires.0 c.requires.1 v.ensures)
          (read-solve a.m a.n t.result v.new.w t.new.w v.new.iw t.new.iw c.requires.0 c.requires.1 t.ensures),
    )

pub overflow_add-result-2 : goal.overflow_add-result-2
overflow_add-result-2 c = omega arith

pub shape_of-w : goal.shape_of-w
shape_of-w c = c.loop-count.invariant.0

pub shape_of-iw : goal.shape_of-iw
shape_of-iw c = c.loop-count.invariant.1

pub returns : goal.returns
returns c = let a = c.args in
    let l = c.loop-count in
    turn-out a.m a.n a.f (read a.m a.n a.w.now a.iw.now) (read a.m a.n l.w l.iw)
    l.count l.invariant.2 c.loop-count-test.false
