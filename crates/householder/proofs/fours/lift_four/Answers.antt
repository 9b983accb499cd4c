-- `lift_four`: after i turns 2 i entries of each vector are done, and one may be left.
use mathlib.Core.Path.{◌≡◌, refl, ◌∙◌}
use Prim.Native.Nat.{◌+◌, ◌*◌, ◌/◌}
use native.Mathlib.Omega.{arith}
use Rattle.householder.proofs.SideBySide.{lifted-none, lifted-at, lifted-more}
use Rattle.householder.proofs.fours.lift_four.Goals as goal

pub loop-i-init : goal.loop-i-init
loop-i-init c = let a = c.args in (refl, omega arith, refl, lifted-none a.p a.q (0 * 2) a.s a.w.now (omega arith))

pub overflow_mul-i : goal.overflow_mul-i
overflow_mul-i c = omega arith

pub overflow_add-p : goal.overflow_add-p
overflow_add-p c = omega arith

pub overflow_mul-i-in-loop-i : goal.overflow_mul-i-in-loop-i
overflow_mul-i-in-loop-i c = omega arith

pub overflow_add-q : goal.overflow_add-q
overflow_add-q c = omega arith

pub lift_two-requires : goal.lift_two-requires
lift_two-requires c = omega (arith, c.loop-i.invariant, c.requires)

pub overflow_step-i : goal.overflow_step-i
overflow_step-i c = omega arith

pub loop-i-smaller : goal.loop-i-smaller
loop-i-smaller c = omega arith

pub loop-i-preserved : goal.loop-i-preserved
loop-i-preserved c = let a = c.args in
    let l = c.loop-i in
    let k = c.lift_two in
    let z : l.i * 2 + 2 ≡ (l.i + 1) * 2 = omega arith in
    (l.invariant.0, omega arith, k.auto.w ∙ l.invariant.2, lifted-at a.p a.q _ _ a.s a.w.now k.new.w z (lifted-more a.p a.q (l.i * 2) 2 a.s a.w.now l.w k.new.w (omega (arith, l.invariant.0, c.requires)) (omega (arith, l.invariant.0, c.requires)) l.invariant.3 k.ensures))

pub overflow_mul-h : goal.overflow_mul-h
overflow_mul-h c = omega arith

pub shape_of-w-then-n-h : goal.shape_of-w-then-n-h
shape_of-w-then-n-h c = c.loop-i.invariant.2

pub returns-then-n-h : goal.returns-then-n-h
returns-then-n-h c = let a = c.args in
    let l = c.loop-i in
    let z : l.i * 2 ≡ a.n = omega (arith, l.invariant.0) in
    lifted-at a.p a.q _ _ a.s a.w.now l.w z l.invariant.3

pub overflow_mul-h-2 : goal.overflow_mul-h-2
overflow_mul-h-2 c = omega arith

pub overflow_add-p-2 : goal.overflow_add-p-2
overflow_add-p-2 c = omega arith

pub overflow_mul-h-3 : goal.overflow_mul-h-3
overflow_mul-h-3 c = omega arith

pub overflow_add-q-2 : goal.overflow_add-q-2
overflow_add-q-2 c = omega arith

pub lift_one-requires : goal.lift_one-requires
lift_one-requires c = omega (arith, c.loop-i.invariant, c.requires)

pub shape_of-w : goal.shape_of-w
shape_of-w c = c.lift_one.auto.w ∙ c.loop-i.invariant.2

pub returns : goal.returns
returns c = let a = c.args in
    let l = c.loop-i in
    let k = c.lift_one in
    let h = a.n / 2 in
    let y : l.i * 2 ≡ h * 2 = omega (arith, l.invariant.0) in
    let z : h * 2 + 1 ≡ a.n = omega (arith, l.invariant.0) in
    lifted-at a.p a.q _ _ a.s a.w.now k.new.w z (lifted-more a.p a.q (h * 2) 1 a.s a.w.now l.w k.new.w (omega (arith, c.requires)) (omega (arith, c.requires)) (lifted-at a.p a.q _ _ a.s a.w.now l.w y l.invariant.3) k.ensures)
