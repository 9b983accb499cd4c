-- `solve_fours`: after q turns 4 q rows are solved.
use mathlib.Core.Path.{◌≡◌, refl, ◌∙◌}
use Prim.Native.Nat.{◌+◌, ◌*◌}
use native.Mathlib.Omega.{arith}
use Rattle.lsei.proofs.Rows.{solved-none, solved-at, solved-four}
use Rattle.lsei.proofs.solve_fours.Goals as goal

pub loop-q-init : goal.loop-q-init
loop-q-init c = let a = c.args in
    let z : 0 ≡ 0 * 4 = omega arith in
    (refl, omega arith, refl, solved-at a.n _ _ a.w.now _ z (solved-none a.n a.w.now))

pub overflow_mul-q : goal.overflow_mul-q
overflow_mul-q c = omega arith

pub overflow_mul-q-in-loop-q : goal.overflow_mul-q-in-loop-q
overflow_mul-q-in-loop-q c = omega arith

pub overflow_add-q : goal.overflow_add-q
overflow_add-q c = omega arith

pub solve_rt_four-requires : goal.solve_rt_four-requires
solve_rt_four-requires c = omega (arith, c.loop-q.invariant, c.requires)

pub overflow_step-q : goal.overflow_step-q
overflow_step-q c = omega arith

pub loop-q-smaller : goal.loop-q-smaller
loop-q-smaller c = omega arith

pub loop-q-preserved : goal.loop-q-preserved
loop-q-preserved c = let l = c.loop-q in
    let k = c.solve_rt_four in
    let z : l.q * 4 + 4 ≡ (l.q + 1) * 4 = omega arith in
    (l.invariant.0, omega arith, k.auto.w ∙ l.invariant.2, solved-at c.args.n _ _ c.args.w.now _ z (solved-four c.args.n (l.q * 4) c.args.w.now l.w k.new.w c.requires.0 l.invariant.3 k.ensures))

pub shape_of-w : goal.shape_of-w
shape_of-w c = c.loop-q.invariant.2

pub returns : goal.returns
returns c = let l = c.loop-q in
    solved-at c.args.n _ _ c.args.w.now _ (omega arith) l.invariant.3
