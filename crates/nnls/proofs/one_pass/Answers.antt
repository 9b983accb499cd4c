-- `one_pass`, of its steps: where no column has room, of the marks alone.
use native.Mathlib.Omega.{arith}
use Rattle.nnls.specs.inner.State.{read}
use Rattle.nnls.proofs.Crowded.{pass-crowded}
use Rattle.nnls.proofs.Duals.{read-passing}
use Rattle.nnls.proofs.Rounding.{pass-whole}
use Rattle.nnls.proofs.one_pass.Goals as goal

pub overflow_add-result : goal.overflow_add-result
overflow_add-result c = let t = c.turn_back-c in
    let w = c.write_dual in
    let b = c.blank_words in
    omega (arith, (pass-crowded c.args.m c.args.n w.new.w b.new.iw t.new.iw t.result 0 c.requires.1 t.ensures (c.has_room-room.ensures c.if-not-room.true)).few)

pub returns-then-not-room : goal.returns-then-not-room
returns-then-not-room c = let a = c.args in
    let v₁ = c.write_residual in
    let v₂ = c.write_dual in
    let v₃ = c.blank_words in
    let v₄ = c.turn_back-c in
    pass-whole a.m a.n a.f (read a.m a.n a.w.now a.iw.now) (read a.m a.n v₂.new.w v₃.new.iw)
    (read a.m a.n v₂.new.w v₄.new.iw) _
    (read-passing a.m a.n a.w.now v₁.new.w v₂.new.w a.iw.now c.requires.0 c.requires.1 v₁.ensures v₂.ensures
    v₃.new.iw v₃.ensures)
    (pass-crowded a.m a.n v₂.new.w v₃.new.iw v₄.new.iw v₄.result a.f c.requires.1 v₄.ensures (c.has_room-room.ensures c.if-not-room.true))

pub returns : goal.returns
returns c = let a = c.args in
    let v₁ = c.write_residual in
    let v₂ = c.write_dual in
    let v₃ = c.blank_words in
    let v₄ = c.try_all in
    pass-whole a.m a.n a.f (read a.m a.n a.w.now a.iw.now) (read a.m a.n v₂.new.w v₃.new.iw)
    (read a.m a.n v₄.new.w v₄.new.iw) v₄.result
    (read-passing a.m a.n a.w.now v₁.new.w v₂.new.w a.iw.now c.requires.0 c.requires.1 v₁.ensures v₂.ensures
    v₃.new.iw v₃.ensures)
    v₄.ensures
