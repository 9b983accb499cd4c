-- `put_certain`: the first power of ten above the bound.
use native.Mathlib.Omega.{arith}
use Rattle.ascii.specs.Text.{ascii}
use Rattle.day_text.proofs.Constants.{lit-tenth-5, lit-tenth-6, lit-tenth-7, lit-tenth-8, lit-tenth-9}
use Rattle.day_text.specs.Report.{certain_text}
use Rattle.numbers.specs.Numbers.{tab}
use Rattle.day_text.proofs.head.put_certain.Goals as goal

pub put_text-requires : goal.put_text-requires
put_text-requires c = omega (arith, c.requires)

pub shape_of-out-then-bound : goal.shape_of-out-then-bound
shape_of-out-then-bound c = omega arith

pub returns-then-bound : goal.returns-then-bound
unfolding ascii tab certain_text
returns-then-bound c = record { wrote = rw (rw lit-tenth-9 at c.if-bound.true) c.put_text.ensures; upper_bound = omega (arith, c.put_text.ensures.until) }

pub put_text-requires-then-bound-2 : goal.put_text-requires-then-bound-2
put_text-requires-then-bound-2 c = omega (arith, c.requires)

pub shape_of-out-then-bound-2 : goal.shape_of-out-then-bound-2
shape_of-out-then-bound-2 c = omega arith

pub returns-then-bound-2 : goal.returns-then-bound-2
unfolding ascii tab certain_text
returns-then-bound-2 c = record { wrote = rw (rw lit-tenth-9 at c.if-bound.false, rw lit-tenth-8 at c.if-bound-2.true) c.put_text-then-bound-2.ensures; upper_bound = omega (arith, c.put_text-then-bound-2.ensures.until) }

pub put_text-requires-then-bound-3 : goal.put_text-requires-then-bound-3
put_text-requires-then-bound-3 c = omega (arith, c.requires)

pub shape_of-out-then-bound-3 : goal.shape_of-out-then-bound-3
shape_of-out-then-bound-3 c = omega arith

pub returns-then-bound-3 : goal.returns-then-bound-3
unfolding ascii tab certain_text
returns-then-bound-3 c = record { wrote = rw (rw lit-tenth-9 at c.if-bound.false, rw lit-tenth-8 at c.if-bound-2.false, rw lit-tenth-7 at c.if-bound-3.true) c.put_text-then-bound-3.ensures; upper_bound = omega (arith, c.put_text-then-bound-3.ensures.until) }

pub put_text-requires-then-bound-4 : goal.put_text-requires-then-bound-4
put_text-requires-then-bound-4 c = omega (arith, c.requires)

pub shape_of-out-then-bound-4 : goal.shape_of-out-then-bound-4
shape_of-out-then-bound-4 c = omega arith

pub returns-then-bound-4 : goal.returns-then-bound-4
unfolding ascii tab certain_text
returns-then-bound-4 c = record { wrote = rw (rw lit-tenth-9 at c.if-bound.false, rw lit-tenth-8 at c.if-bound-2.false, rw lit-tenth-7 at c.if-bound-3.false, rw lit-tenth-6 at c.if-bound-4.true) c.put_text-then-bound-4.ensures; upper_bound = omega (arith, c.put_text-then-bound-4.ensures.until) }

pub put_text-requires-then-bound-5 : goal.put_text-requires-then-bound-5
put_text-requires-then-bound-5 c = omega (arith, c.requires)

pub shape_of-out-then-bound-5 : goal.shape_of-out-then-bound-5
shape_of-out-then-bound-5 c = omega arith

pub returns-then-bound-5 : goal.returns-then-bound-5
unfolding ascii tab certain_text
returns-then-bound-5 c = record { wrote = rw (rw lit-tenth-9 at c.if-bound.false, rw lit-tenth-8 at c.if-bound-2.false, rw lit-tenth-7 at c.if-bound-3.false, rw lit-tenth-6 at c.if-bound-4.false, rw lit-tenth-5 at c.if-bound-5.true) c.put_text-then-bound-5.ensures; upper_bound = omega (arith, c.put_text-then-bound-5.ensures.until) }

pub put_middle_power-requires : goal.put_middle_power-requires
put_middle_power-requires c = omega (arith, c.requires)

pub shape_of-out : goal.shape_of-out
shape_of-out c = omega arith

pub returns : goal.returns
unfolding ascii tab certain_text
returns c = record { wrote = rw (rw lit-tenth-9 at c.if-bound.false, rw lit-tenth-8 at c.if-bound-2.false, rw lit-tenth-7 at c.if-bound-3.false, rw lit-tenth-6 at c.if-bound-4.false, rw lit-tenth-5 at c.if-bound-5.false) c.put_middle_power.ensures.wrote; upper_bound = omega (arith, c.put_middle_power.ensures.upper_bound) }
