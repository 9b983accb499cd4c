-- `complete`: after i turns the first i constraints are whole.
use mathlib.Core.Path.{◌∙◌, sym}
use native.Mathlib.Omega.{arith}
use Rattle.problem_read.specs.inner.Spots.{whole_at}
use Rattle.problem_read.proofs.Marks.{all_none, all_end, all-stop, all_more}
use Rattle.problem_read.proofs.complete.Goals as goal

pub loop-i-init : goal.loop-i-init
loop-i-init c = (omega arith, all_none (whole_at c.args.marks.now))

pub overflow_add-i : goal.overflow_add-i
overflow_add-i c = omega arith

pub bounds-marks-i : goal.bounds-marks-i
bounds-marks-i c = omega arith

pub overflow_add-i-in-loop-i : goal.overflow_add-i-in-loop-i
overflow_add-i-in-loop-i c = omega arith

pub bounds-marks-i-in-loop-i : goal.bounds-marks-i-in-loop-i
bounds-marks-i-in-loop-i c = omega arith

pub is_whole-requires : goal.is_whole-requires
is_whole-requires c = tt

pub returns-then-not-is_whole : goal.returns-then-not-is_whole
unfolding whole_at
returns-then-not-is_whole c = all-stop c.args.m c.loop-i.i (whole_at c.args.marks.now) (omega arith) (sym c.is_whole.ensures ∙ c.if-not-is_whole.true)

pub overflow_step-i : goal.overflow_step-i
overflow_step-i c = omega arith

pub loop-i-smaller : goal.loop-i-smaller
loop-i-smaller c = omega arith

pub loop-i-preserved : goal.loop-i-preserved
unfolding whole_at
loop-i-preserved c = let l = c.loop-i in
    (omega arith, all_more l.i (whole_at c.args.marks.now) l.invariant.1 (sym c.is_whole.ensures ∙ c.if-not-is_whole.false))

pub returns : goal.returns
returns c = let l = c.loop-i in
    all_end c.args.m l.i (whole_at c.args.marks.now) (omega arith) l.invariant.1
