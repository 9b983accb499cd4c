-- `step`: an exchange, a reflector, and the columns behind it under the reflector.
use native.Mathlib.Omega.{arith}
use Rattle.householder.proofs.Steps.{unmade-exchanged, step_is}
use Rattle.householder.proofs.step.Goals as goal

pub swap-requires : goal.swap-requires
swap-requires c = omega arith

pub swap_at-requires : goal.swap_at-requires
swap_at-requires c = omega arith

pub prepare-requires : goal.prepare-requires
prepare-requires c = let a = c.args in
    (c.requires.0, c.requires.1, omega arith, unmade-exchanged a.m a.n a.k a.top.index a.w.now c.swap.new.w c.requires.0 c.requires.2 c.requires.3 c.swap.ensures c.requires.1 c.requires.6)

pub turn-requires : goal.turn-requires
turn-requires c = omega arith

pub shape_of-w : goal.shape_of-w
shape_of-w c = omega arith

pub shape_of-iw : goal.shape_of-iw
shape_of-iw c = omega arith

pub returns : goal.returns
returns c = let a = c.args in
    step_is a.m a.n a.k a.top a.w.now c.swap.new.w c.prepare.new.w c.turn.new.w a.iw.now c.swap_at.new.iw
    c.requires.0 c.requires.1 c.requires.2 c.requires.3 (omega arith) c.requires.5 c.swap.ensures c.prepare.ensures c.turn.ensures c.swap_at.ensures c.requires.6
