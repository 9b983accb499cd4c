-- `try_all`: after `count` tries what is left of the pass gives the answer.
use mathlib.Core.Path.{refl, sym, ◌∙◌}
use native.Mathlib.Omega.{arith}
use Rattle.workspace.specs.Readings.{vec, nums}
use Rattle.nnls.specs.inner.State.{read}
use Rattle.workspace.proofs.Readings.{nth-front}
use Rattle.nnls.proofs.Passing.{can-try, trying-none, pass-nothing, pass-out, pass-keep, pass-again}
use Rattle.nnls.proofs.try_all.Goals as goal

pub loop-count-init : goal.loop-count-init
loop-count-init c = (refl, refl, trying-none _ _ _ _)

pub choose-trial-requires : goal.choose-trial-requires
choose-trial-requires c = omega arith

pub overflow_add-result : goal.overflow_add-result
overflow_add-result c = omega arith

pub shape_of-w-in_default : goal.shape_of-w-in_default
shape_of-w-in_default c = c.loop-count.invariant.0

pub shape_of-iw-in_default : goal.shape_of-iw-in_default
shape_of-iw-in_default c = c.loop-count.invariant.1

pub returns-in_default : goal.returns-in_default
returns-in_default c = let a = c.args in
    let l = c.loop-count in
    pass-nothing a.m a.n a.f (read a.m a.n a.w.now a.iw.now) (read a.m a.n l.w l.iw)
    l.count l.invariant.2 (sym c.choose-trial.ensures ∙ c.in_default.is)

pub try_column-kept-requires : goal.try_column-kept-requires
try_column-kept-requires c = let a = c.args in
    let l = c.loop-count in
    let k = can-try (vec 1338 a.n l.w) (nums 0 a.n l.iw) (nums 66 a.n l.iw) a.n _ (sym c.choose-trial.ensures ∙ c.in-Some.is) in
    (c.requires.0, c.requires.1, k.0, omega (arith, l.invariant.0, c.requires.2), omega (arith, l.invariant.1, c.requires.3), sym (nth-front a.n _ l.iw k.0) ∙ k.1)

pub overflow_add-result-then-kept : goal.overflow_add-result-then-kept
overflow_add-result-then-kept c = omega arith

pub shape_of-w-then-kept : goal.shape_of-w-then-kept
shape_of-w-then-kept c = c.try_column-kept.auto.w ∙ c.loop-count.invariant.0

pub shape_of-iw-then-kept : goal.shape_of-iw-then-kept
shape_of-iw-then-kept c = c.try_column-kept.auto.iw ∙ c.loop-count.invariant.1

pub returns-then-kept : goal.returns-then-kept
returns-then-kept c = let a = c.args in
    let l = c.loop-count in
    let t = c.try_column-kept in
    pass-keep a.m a.n a.f (read a.m a.n a.w.now a.iw.now) (read a.m a.n l.w l.iw)
    l.count l.invariant.2 _ (sym c.choose-trial.ensures ∙ c.in-Some.is)
    c.loop-count-test.true
    t.result (read a.m a.n t.new.w t.new.iw) t.ensures c.if-kept.true

pub loop-count-preserved : goal.loop-count-preserved
loop-count-preserved c = let a = c.args in
    let l = c.loop-count in
    let t = c.try_column-kept in (
      t.auto.w ∙ l.invariant.0,
      t.auto.iw ∙ l.invariant.1,
      pass-again a.m a.n a.f (read a.m a.n a.w.now a.iw.now) (read a.m a.n l.w l.iw)
          l.count l.invariant.2 _ (sym c.choose-trial.ensures ∙ c.in-Some.is)
          c.loop-count-test.true
          t.result (read a.m a.n t.new.w t.new.iw) t.ensures c.if-kept.false,
    )

pub overflow_add-result-2 : goal.overflow_add-result-2
overflow_add-result-2 c = omega arith

pub shape_of-w : goal.shape_of-w
shape_of-w c = c.loop-count.invariant.0

pub shape_of-iw : goal.shape_of-iw
shape_of-iw c = c.loop-count.invariant.1

pub returns : goal.returns
returns c = let a = c.args in
    let l = c.loop-count in
    pass-out a.m a.n a.f (read a.m a.n a.w.now a.iw.now) (read a.m a.n l.w l.iw)
    l.count l.invariant.2 c.loop-count-test.false
