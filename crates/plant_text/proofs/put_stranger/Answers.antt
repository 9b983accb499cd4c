-- `put_stranger`: nothing, or that it has records.
use native.Mathlib.Omega.{arith}
use mathlib.Core.Path.{sym}
use Rattle.numbers.specs.Numbers.{tab}
use Rattle.ascii.specs.Text.{ascii}
use Rattle.ascii.proofs.Writing.{wrote_none, wrote_then, as-text}
use Rattle.plant_text.proofs.Texts.{stranger-none, stranger-some}
use Rattle.plant_text.proofs.put_stranger.Goals as goal

pub put_text-a-requires : goal.put_text-a-requires
put_text-a-requires c = omega (arith, c.requires)

pub put_decimal-b-requires : goal.put_decimal-b-requires
put_decimal-b-requires c = omega (arith, c.put_text-a.ensures.until, c.requires)

pub put_text-requires : goal.put_text-requires
put_text-requires c = omega (arith, c.put_decimal-b.ensures.upper_bound, c.put_text-a.ensures.until, c.requires)

pub shape_of-out-then-there : goal.shape_of-out-then-there
shape_of-out-then-there c = omega arith

pub returns-then-there : goal.returns-then-there
unfolding ascii tab
returns-then-there c = let a = c.args in record { wrote = as-text (stranger-some a.there a.m c.if-there.true) (wrote_then c.put_text-a.ensures (wrote_then c.put_decimal-b.ensures.wrote c.put_text.ensures)); upper_bound = omega (arith, c.put_text.ensures.until, c.put_decimal-b.ensures.upper_bound, c.put_text-a.ensures.until) }

pub returns : goal.returns
returns c = let a = c.args in record { wrote = as-text (sym (stranger-none a.there a.m c.if-there.false)) (wrote_none a.out.now a.at (omega arith)); upper_bound = omega arith }
