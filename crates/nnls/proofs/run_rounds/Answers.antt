-- `run_rounds`: after each look back what is left of the rounds gives the answer.
use mathlib.Core.Path.{refl, sym, ◌∙◌}
use native.Mathlib.Omega.{arith}
use Rattle.nnls.specs.inner.State.{read}
use Rattle.nnls.proofs.States.{read-copied}
use Rattle.nnls.proofs.Rounding.{running_none, round-accept, round-capped, look-asked, look-ended, look-again, look-further}
use borrow.Author.Tests.{not-true, not-false}
use Rattle.std.proofs.lemmas.Result.{err_from_is_err_and}
use Rattle.nnls.proofs.run_rounds.Goals as goal

pub loop-c-init : goal.loop-c-init
loop-c-init c = (refl, refl, running_none _ _ _ _ _ c.requires.5 c.requires.6, refl)

pub one_pass-pass-requires : goal.one_pass-pass-requires
one_pass-pass-requires c = let g = c.loop-c.invariant in
    let w = g.2.going.few in
    let v = g.2.going.within in
    (c.requires.0, c.requires.1, omega (arith, g.0, c.requires.2), omega (arith, g.1, c.requires.3), omega (arith, w, v, c.requires.4))

pub shape_of-w-then-not-pass : goal.shape_of-w-then-not-pass
shape_of-w-then-not-pass c = c.one_pass-pass.auto.w ∙ c.loop-c.invariant.0

pub shape_of-iw-then-not-pass : goal.shape_of-iw-then-not-pass
shape_of-iw-then-not-pass c = c.one_pass-pass.auto.iw ∙ c.loop-c.invariant.1

pub returns-then-not-pass : goal.returns-then-not-pass
returns-then-not-pass c = let a = c.args in
    let l = c.loop-c in
    let p = c.one_pass-pass in
    round-accept a.m a.n a.k (read a.m a.n a.w.now a.iw.now) (read a.m a.n l.w l.iw)
    l.c.past l.c.factorings c.requires.1 l.invariant.2.going p.result (read a.m a.n p.new.w p.new.iw) p.ensures (not-true _ c.if-not-pass.true)

pub turn_all-f-requires : goal.turn_all-f-requires
turn_all-f-requires c = let g = c.loop-c.invariant in
    let w = g.2.going.few in
    let v = g.2.going.within in
    let p = c.one_pass-pass in
    let u = p.ensures.few in
    (c.requires.0, c.requires.1, omega (arith, g.0, c.requires.2, p.auto.w), omega (arith, g.1, c.requires.3, p.auto.iw), omega (arith, w, v, u, c.requires.4, c.requires.1))

pub copy_down-requires : goal.copy_down-requires
copy_down-requires c = let g = c.loop-c.invariant in
    let p = c.one_pass-pass.auto.w in
    let t = c.turn_all-f.auto.w in
    (omega arith, omega (arith, c.requires.1, g.0, c.requires.2, p, t))

pub slice_bounds-look_back-end : goal.slice_bounds-look_back-end
slice_bounds-look_back-end c = sym c.loop-c.invariant.3

pub look_back-requires : goal.look_back-requires
look_back-requires c = let a = c.args in
    let l = c.loop-c in
    let p = c.one_pass-pass in
    let t = c.turn_all-f in
    let z = c.copy_down in
    look-asked a.m a.n a.k (read a.m a.n a.w.now a.iw.now) (read a.m a.n l.w l.iw)
    l.memory l.c c.requires.1 l.invariant.2 p.result (read a.m a.n p.new.w p.new.iw) p.ensures
    (not-false _ c.if-not-pass.false) c.loop-c-test.true
    t.result (read a.m a.n t.new.w t.new.iw) (read a.m a.n z.new.w t.new.iw) t.ensures
    (read-copied a.m a.n t.new.w z.new.w c.requires.0 c.requires.1 t.new.iw z.ensures) t.new.iw (omega (arith, t.auto.iw, p.auto.iw, l.invariant.1, c.requires.3)) c.requires.4 refl (omega (arith, l.invariant.3))

pub shape_of-w-in_err-c : goal.shape_of-w-in_err-c
shape_of-w-in_err-c c = let a = c.args in
    let l = c.loop-c in
    let p = c.one_pass-pass in
    let t = c.turn_all-f in
    let z = c.copy_down in
    z.auto.w ∙ t.auto.w ∙ p.auto.w ∙ l.invariant.0

pub shape_of-iw-in_err-c : goal.shape_of-iw-in_err-c
shape_of-iw-in_err-c c = let a = c.args in
    let l = c.loop-c in
    let p = c.one_pass-pass in
    let t = c.turn_all-f in
    let z = c.copy_down in
    t.auto.iw ∙ p.auto.iw ∙ l.invariant.1

pub returns-in_err-c : goal.returns-in_err-c
returns-in_err-c c = let a = c.args in
    let l = c.loop-c in
    let p = c.one_pass-pass in
    let t = c.turn_all-f in
    let z = c.copy_down in
    let p₁ = err_from_is_err_and c.from_residual.result c.from_residual.ensures.1 in
    rw (p₁.1, p₁.2)
    (look-ended a.m a.n a.k (read a.m a.n a.w.now a.iw.now) (read a.m a.n l.w l.iw)
    l.memory l.c c.requires.1 l.invariant.2 p.result (read a.m a.n p.new.w p.new.iw) p.ensures
    (not-false _ c.if-not-pass.false) c.loop-c-test.true
    t.result (read a.m a.n t.new.w t.new.iw) (read a.m a.n z.new.w t.new.iw) t.ensures
    (read-copied a.m a.n t.new.w z.new.w c.requires.0 c.requires.1 t.new.iw z.ensures) c.look_back.new.memory _ c.in_err-c.ensures)

pub loop-c-smaller : goal.loop-c-smaller
loop-c-smaller c = let v = look-further _ _ _ _ _ _ _ _ _ c.in_ok-c.ensures in
    let l = c.loop-c-test.true in
    omega (arith, v, l)

pub loop-c-preserved : goal.loop-c-preserved
loop-c-preserved c = let a = c.args in
    let l = c.loop-c in
    let p = c.one_pass-pass in
    let t = c.turn_all-f in
    let z = c.copy_down in (
      z.auto.w ∙ t.auto.w ∙ p.auto.w ∙ l.invariant.0,
      t.auto.iw ∙ p.auto.iw ∙ l.invariant.1,
      look-again a.m a.n a.k (read a.m a.n a.w.now a.iw.now) (read a.m a.n l.w l.iw)
          l.memory l.c c.requires.1 l.invariant.2 p.result (read a.m a.n p.new.w p.new.iw) p.ensures
          (not-false _ c.if-not-pass.false) c.loop-c-test.true
          t.result (read a.m a.n t.new.w t.new.iw) (read a.m a.n z.new.w t.new.iw) t.ensures
          (read-copied a.m a.n t.new.w z.new.w c.requires.0 c.requires.1 t.new.iw z.ensures) c.look_back.new.memory _ c.in_ok-c.ensures,
      c.look_back.auto.memory ∙ l.invariant.3,
    )

pub one_pass-pass-requires-2 : goal.one_pass-pass-requires-2
one_pass-pass-requires-2 c = let g = c.loop-c.invariant in
    let w = g.2.going.few in
    let v = g.2.going.within in
    (c.requires.0, c.requires.1, omega (arith, g.0, c.requires.2), omega (arith, g.1, c.requires.3), omega (arith, w, v, c.requires.4))

pub shape_of-w-then-pass : goal.shape_of-w-then-pass
shape_of-w-then-pass c = c.one_pass-pass-2.auto.w ∙ c.loop-c.invariant.0

pub shape_of-iw-then-pass : goal.shape_of-iw-then-pass
shape_of-iw-then-pass c = c.one_pass-pass-2.auto.iw ∙ c.loop-c.invariant.1

pub returns-then-pass : goal.returns-then-pass
returns-then-pass c = let a = c.args in
    let l = c.loop-c in
    let p = c.one_pass-pass-2 in
    round-capped a.m a.n a.k (read a.m a.n a.w.now a.iw.now) (read a.m a.n l.w l.iw)
    l.c.past l.c.factorings c.requires.1 l.invariant.2.going p.result (read a.m a.n p.new.w p.new.iw) p.ensures c.loop-c-test.false c.if-pass.true

pub shape_of-w : goal.shape_of-w
shape_of-w c = c.one_pass-pass-2.auto.w ∙ c.loop-c.invariant.0

pub shape_of-iw : goal.shape_of-iw
shape_of-iw c = c.one_pass-pass-2.auto.iw ∙ c.loop-c.invariant.1

pub returns : goal.returns
returns c = let a = c.args in
    let l = c.loop-c in
    let p = c.one_pass-pass-2 in
    round-accept a.m a.n a.k (read a.m a.n a.w.now a.iw.now) (read a.m a.n l.w l.iw)
    l.c.past l.c.factorings c.requires.1 l.invariant.2.going p.result (read a.m a.n p.new.w p.new.iw) p.ensures c.if-pass.false
