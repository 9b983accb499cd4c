-- `shift_fours`: after q turns 4 q sides are shifted.
use mathlib.Core.Path.{◌≡◌, refl, ◌∙◌}
use Prim.Native.Nat.{◌+◌, ◌*◌}
use native.Mathlib.Omega.{arith}
use Rattle.lsei.proofs.Rows.{shifted_none, shifted_at}
use Rattle.lsei.proofs.shift_fours.Goals as goal

pub loop-q-init : goal.loop-q-init
loop-q-init c = let a = c.args in
    let z : 0 ≡ 0 * 4 = omega arith in
    (refl, omega arith, refl, shifted_at a.n _ _ a.w.now _ z (shifted_none a.n a.w.now))

pub overflow_mul-q : goal.overflow_mul-q
overflow_mul-q c = omega arith

pub shift_four-requires : goal.shift_four-requires
shift_four-requires c = omega (arith, c.loop-q.invariant, c.requires)

pub overflow_step-q : goal.overflow_step-q
overflow_step-q c = omega arith

pub loop-q-smaller : goal.loop-q-smaller
loop-q-smaller c = omega arith

pub loop-q-preserved : goal.loop-q-preserved
loop-q-preserved c = let l = c.loop-q in
    let k = c.shift_four in
    let z : l.q * 4 + 4 ≡ (l.q + 1) * 4 = omega arith in
    (l.invariant.0, omega arith, k.auto.w ∙ l.invariant.2, shifted_at c.args.n _ _ c.args.w.now _ z (k.ensures c.args.w.now l.invariant.3))

pub shape_of-w : goal.shape_of-w
shape_of-w c = c.loop-q.invariant.2

pub returns : goal.returns
returns c = let l = c.loop-q in
    shifted_at c.args.n _ _ c.args.w.now _ (omega arith) l.invariant.3
