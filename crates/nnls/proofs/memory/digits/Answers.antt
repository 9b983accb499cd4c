-- `digits`: after i turns the number has the first i digits.
use mathlib.Core.Path.{◌≡◌, sym, ap, ◌∙◌}
use native.Mathlib.Omega.{arith}
use Rattle.nnls.specs.inner.Memory.{bits}
use Rattle.nnls.proofs.Digits.{bits-start, bits-more, bits_below}
use Rattle.nnls.proofs.memory.digits.Goals as goal

pub loop-i-init : goal.loop-i-init
loop-i-init c = (omega arith, bits-start _ _)

pub overflow_mul-total : goal.overflow_mul-total
overflow_mul-total c = let l = c.loop-i in
    let b = bits_below c.args.iw.now c.args.o l.i (omega arith) (λ j h. c.requires.3 j (omega arith)) in
    let e = l.invariant.1 in
    omega (arith, b, e)

pub overflow_add-total : goal.overflow_add-total
overflow_add-total c = omega arith

pub offset_bounds-iw-o : goal.offset_bounds-iw-o
offset_bounds-iw-o c = omega arith

pub bounds-iw-o : goal.bounds-iw-o
bounds-iw-o c = omega arith

pub overflow_cast-total : goal.overflow_cast-total
overflow_cast-total c = let v = c.requires.3 c.loop-i.i (omega arith) in
    omega (arith, v)

pub overflow_add-total-in-loop-i : goal.overflow_add-total-in-loop-i
overflow_add-total-in-loop-i c = let l = c.loop-i in
    let b = bits_below c.args.iw.now c.args.o l.i (omega arith) (λ j h. c.requires.3 j (omega arith)) in
    let e = l.invariant.1 in
    let v = c.requires.3 l.i (omega arith) in
    omega (arith, b, e, v)

pub overflow_step-i : goal.overflow_step-i
overflow_step-i c = omega arith

pub loop-i-smaller : goal.loop-i-smaller
loop-i-smaller c = omega arith

pub loop-i-preserved : goal.loop-i-preserved
loop-i-preserved c = let a = c.args in
    let l = c.loop-i in
    (omega arith, rw l.invariant.1 (sym (bits-more a.iw.now a.o l.i)))

pub returns : goal.returns
returns c = let a = c.args in
    let e : c.loop-i.i ≡ a.c = omega arith in
    c.loop-i.invariant.1 ∙ ap (bits a.iw.now a.o) e
