-- `put_limit_kind`: one word or the other.
use native.Mathlib.Omega.{arith}
use borrow.Author.Tests.{eq-eqb, ne_eqb}
use Rattle.ascii.specs.Text.{ascii}
use Rattle.day_text.specs.Tables.{limit_kind_text}
use Rattle.numbers.specs.Numbers.{tab}
use Rattle.day_text.proofs.tables.put_limit_kind.Goals as goal

pub put_text-requires : goal.put_text-requires
put_text-requires c = omega (arith, c.requires)

pub shape_of-out-then-kind-eq0 : goal.shape_of-out-then-kind-eq0
shape_of-out-then-kind-eq0 c = omega arith

pub returns-then-kind-eq0 : goal.returns-then-kind-eq0
unfolding ascii tab limit_kind_text
returns-then-kind-eq0 c = record { wrote = rw (eq-eqb _ _ c.if-kind-eq0.true) c.put_text.ensures; upper_bound = omega (arith, c.put_text.ensures.until) }

pub put_text-requires-2 : goal.put_text-requires-2
put_text-requires-2 c = omega (arith, c.requires)

pub shape_of-out : goal.shape_of-out
shape_of-out c = omega arith

pub returns : goal.returns
unfolding ascii tab limit_kind_text
returns c = record { wrote = rw (ne_eqb _ _ c.if-kind-eq0.false) c.put_text-2.ensures; upper_bound = omega (arith, c.put_text-2.ensures.until) }
