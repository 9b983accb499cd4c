-- `turn_e_fours`: after q turns 4 q rows are laid.
use mathlib.Core.Path.{◌≡◌, refl, ◌∙◌}
use Prim.Native.Nat.{◌+◌, ◌*◌}
use native.Mathlib.Omega.{arith}
use Rattle.lsei_nullspace.proofs.Turning.{e-none, e-at}
use Rattle.lsei_nullspace.proofs.turn_e_fours.Goals as goal

pub loop-q-init : goal.loop-q-init
loop-q-init c = let a = c.args in
    let z : 0 ≡ 0 * 4 = omega arith in
    (refl, omega arith, refl, e-at a.n a.mc _ _ a.w.now _ z (e-none a.n a.mc a.w.now))

pub overflow_mul-q : goal.overflow_mul-q
overflow_mul-q c = omega arith

pub turn_e_four-requires : goal.turn_e_four-requires
turn_e_four-requires c = omega (arith, c.loop-q.invariant, c.requires)

pub overflow_step-q : goal.overflow_step-q
overflow_step-q c = omega arith

pub loop-q-smaller : goal.loop-q-smaller
loop-q-smaller c = omega arith

pub loop-q-preserved : goal.loop-q-preserved
loop-q-preserved c = let a = c.args in
    let l = c.loop-q in
    let k = c.turn_e_four in
    let z : l.q * 4 + 4 ≡ (l.q + 1) * 4 = omega arith in
    (l.invariant.0, omega arith, k.auto.w ∙ l.invariant.2, e-at a.n a.mc _ _ a.w.now _ z (k.ensures a.w.now l.invariant.3))

pub shape_of-w : goal.shape_of-w
shape_of-w c = c.loop-q.invariant.2

pub returns : goal.returns
returns c = let a = c.args in
    let l = c.loop-q in
    e-at a.n a.mc _ _ a.w.now _ (omega arith) l.invariant.3
