-- `put_misfit`: no meter is checked, or its parts one after the other.
use mathlib.Core.Path.{ap}
use native.Mathlib.Omega.{arith}
use borrow.Author.Tests.{eq-eqb, ne_eqb}
use Rattle.ascii.proofs.Writing.{wrote_then, as-text}
use Rattle.ascii.specs.Text.{ascii}
use Rattle.day_text.specs.Report.{misfit_text}
use Rattle.decimals.specs.Fixed.{fixed_text}
use Rattle.numbers.specs.Numbers.{tab}
use Rattle.day_text.proofs.head.put_misfit.Goals as goal

pub put_text-requires : goal.put_text-requires
put_text-requires c = omega (arith, c.requires)

pub shape_of-out-then-freedom-eq0 : goal.shape_of-out-then-freedom-eq0
shape_of-out-then-freedom-eq0 c = omega arith

pub returns-then-freedom-eq0 : goal.returns-then-freedom-eq0
unfolding ascii tab misfit_text
returns-then-freedom-eq0 c = record { wrote = rw (eq-eqb _ _ c.if-freedom-eq0.true) c.put_text.ensures; upper_bound = omega (arith, c.put_text.ensures.until) }

pub limit-usual-requires : goal.limit-usual-requires
limit-usual-requires c = tt

pub put_text-a-requires : goal.put_text-a-requires
put_text-a-requires c = omega (arith, c.requires)

pub put_inline-b-requires : goal.put_inline-b-requires
put_inline-b-requires c = omega (arith, c.put_text-a.ensures.until, c.requires)

pub put_text-c-requires : goal.put_text-c-requires
put_text-c-requires c = omega (arith, c.put_inline-b.ensures.upper_bound, c.put_text-a.ensures.until, c.requires)

pub put_inline-d-requires : goal.put_inline-d-requires
put_inline-d-requires c = omega (arith, c.put_text-c.ensures.until, c.put_inline-b.ensures.upper_bound, c.put_text-a.ensures.until, c.requires)

pub put_byte-requires : goal.put_byte-requires
put_byte-requires c = omega (arith, c.put_inline-d.ensures.upper_bound, c.put_text-c.ensures.until, c.put_inline-b.ensures.upper_bound, c.put_text-a.ensures.until, c.requires)

pub shape_of-out : goal.shape_of-out
shape_of-out c = omega arith

pub returns : goal.returns
unfolding ascii tab misfit_text
returns c = record { wrote = rw (ne_eqb _ _ c.if-freedom-eq0.false) (wrote_then c.put_text-a.ensures (wrote_then c.put_inline-b.ensures.wrote (wrote_then c.put_text-c.ensures (wrote_then (as-text (ap fixed_text c.limit-usual.ensures) c.put_inline-d.ensures.wrote) c.put_byte.ensures)))); upper_bound = omega (arith, c.put_byte.ensures.until, c.put_inline-d.ensures.upper_bound, c.put_text-c.ensures.until, c.put_inline-b.ensures.upper_bound, c.put_text-a.ensures.until) }
