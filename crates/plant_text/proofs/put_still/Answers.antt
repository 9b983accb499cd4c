-- `put_still`: nothing, or how many minutes.
use native.Mathlib.Omega.{arith}
use Rattle.numbers.specs.Numbers.{tab}
use Rattle.ascii.specs.Text.{ascii}
use Rattle.ascii.proofs.Writing.{wrote_none, wrote_then, as-text}
use Rattle.plant_text.proofs.Texts.{behind-none, still-ever, still-short, still-long}
use Rattle.plant_text.proofs.put_still.Goals as goal

pub returns-in_default : goal.returns-in_default
returns-in_default c = let a = c.args in record { wrote = as-text (behind-none a.at _ (still-ever a.allowed a.still c.in_default.is)) (wrote_none a.out.now a.at (omega arith)); upper_bound = omega arith }

pub returns-then-still-longest : goal.returns-then-still-longest
returns-then-still-longest c = let a = c.args in record { wrote = as-text (behind-none a.at _ (still-short a.allowed _ a.still c.in-Some.is c.if-still-longest.true)) (wrote_none a.out.now a.at (omega arith)); upper_bound = omega arith }

pub put_also-a-requires : goal.put_also-a-requires
put_also-a-requires c = (omega (arith, c.requires), omega arith)

pub put_decimal-b-requires : goal.put_decimal-b-requires
put_decimal-b-requires c = omega (arith, c.put_also-a.ensures.upper_bound, c.requires)

pub put_text-requires : goal.put_text-requires
put_text-requires c = omega (arith, c.put_decimal-b.ensures.upper_bound, c.put_also-a.ensures.upper_bound, c.requires)

pub shape_of-out : goal.shape_of-out
shape_of-out c = omega arith

pub returns : goal.returns
unfolding ascii tab
returns c = let a = c.args in record { wrote = as-text (still-long a.at a.allowed _ a.still c.in-Some.is (omega (arith, c.if-still-longest.false))) (wrote_then c.put_also-a.ensures.wrote (wrote_then c.put_decimal-b.ensures.wrote c.put_text.ensures)); upper_bound = omega (arith, c.put_text.ensures.until, c.put_decimal-b.ensures.upper_bound, c.put_also-a.ensures.upper_bound) }
