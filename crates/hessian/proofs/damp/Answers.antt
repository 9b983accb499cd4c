-- `damp`: after i turns the first i entries of r stand behind Bs.
use mathlib.Core.Path.{◌∙◌}
use lib.ListN.{take}
use lib.Seq.{get_or-take}
use lib.Ieee.{of_bits, round}
use Rattle.hessian.specs.Hessian.{damped}
use Rattle.numbers.proofs.Lists.{tab-same}
use Rattle.numbers.proofs.Fills.{put-none, put-more, put-before, put_front, put_back}
use native.Mathlib.Omega.{arith}
use Rattle.hessian.proofs.damp.Invariants.{new}
use Rattle.hessian.proofs.damp.Goals as goal

pub loop-i-init : goal.loop-i-init
loop-i-init c = (omega arith, put-none _ _ _)

pub offset_bounds-y-i : goal.offset_bounds-y-i
offset_bounds-y-i c = omega arith

pub bounds-y-i : goal.bounds-y-i
bounds-y-i c = omega arith

pub offset_bounds-w-i : goal.offset_bounds-w-i
offset_bounds-w-i c = omega arith

pub bounds-w-i : goal.bounds-w-i
bounds-w-i c = omega arith

pub overflow_add-w : goal.overflow_add-w
overflow_add-w c = omega arith

pub offset_bounds-w-n : goal.offset_bounds-w-n
offset_bounds-w-n c = omega arith

pub bounds-w-n : goal.bounds-w-n
bounds-w-n c = omega arith

pub overflow_step-i : goal.overflow_step-i
overflow_step-i c = omega arith

pub loop-i-smaller : goal.loop-i-smaller
loop-i-smaller c = omega arith

pub loop-i-preserved : goal.loop-i-preserved
unfolding of_bits round
loop-i-preserved c = let k = c.loop-i in
    (omega arith, put-more k.invariant.1 (omega arith) (cc (put-before k.invariant.1 k.i (omega arith) (omega arith))))

pub shape_of-w : goal.shape_of-w
shape_of-w c = omega arith

pub returns : goal.returns
unfolding damped
returns c = let a = c.args in
    let r = c.loop-i.invariant.1 in (
      put_front {n = a.n} r (omega arith) (omega arith),
      put_back {n = a.n} r (omega arith) (omega arith)
          ∙ tab-same a.n (new a.theta a.y.now a.w.now) (new a.theta a.y.now (take a.n a.w.now)) (λ i h. rw get_or-take),
    )
