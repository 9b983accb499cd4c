-- `turn_fours`: after q turns 4 q columns are under the reflector.
use mathlib.Core.Path.{◌≡◌, refl, ◌∙◌}
use Prim.Native.Nat.{◌+◌, ◌*◌}
use native.Mathlib.Omega.{arith}
use Rattle.householder.proofs.Reflections.{turned_none, turned-at}
use Rattle.householder.proofs.turn_fours.Goals as goal

pub overflow_add-c : goal.overflow_add-c
overflow_add-c c = omega arith

pub overflow_sub-c : goal.overflow_sub-c
overflow_sub-c c = omega arith

pub loop-q-init : goal.loop-q-init
loop-q-init c = let a = c.args in
    let z : a.k + 1 ≡ a.k + 1 + 0 * 4 = omega arith in
    (refl, omega arith, refl, turned-at a.m a.k _ _ a.w.now _ z (turned_none a.m a.k a.w.now))

pub overflow_add-k : goal.overflow_add-k
overflow_add-k c = omega arith

pub overflow_mul-q : goal.overflow_mul-q
overflow_mul-q c = omega arith

pub overflow_add-k-in-loop-q : goal.overflow_add-k-in-loop-q
overflow_add-k-in-loop-q c = omega arith

pub turn_four-requires : goal.turn_four-requires
turn_four-requires c = omega arith

pub overflow_step-q : goal.overflow_step-q
overflow_step-q c = omega arith

pub loop-q-smaller : goal.loop-q-smaller
loop-q-smaller c = omega arith

pub loop-q-preserved : goal.loop-q-preserved
loop-q-preserved c = let a = c.args in
    let l = c.loop-q in
    let t = c.turn_four in
    let z : a.k + 1 + l.q * 4 + 4 ≡ a.k + 1 + (l.q + 1) * 4 = omega arith in
    (l.invariant.0, omega arith, t.auto.w ∙ l.invariant.2, turned-at a.m a.k _ _ a.w.now _ z (t.ensures a.w.now l.invariant.3))

pub shape_of-w : goal.shape_of-w
shape_of-w c = c.loop-q.invariant.2

pub returns : goal.returns
returns c = let a = c.args in
    let l = c.loop-q in
    turned-at a.m a.k _ _ a.w.now _ (omega arith) l.invariant.3
