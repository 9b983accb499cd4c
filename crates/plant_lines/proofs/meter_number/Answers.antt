-- `meter_number`: two digits at most, which make no more than 15.
use native.Mathlib.Omega.{arith}
use Rattle.plant_lines.proofs.MeterLine.{number-long, number-not, number-over, number_is}
use Rattle.plant_lines.proofs.meter_number.Goals as goal

pub returns-then-word-gt2 : goal.returns-then-word-gt2
returns-then-word-gt2 c = number-long _ c.if-word-gt2.true

pub returns-in_default : goal.returns-in_default
returns-in_default c = number-not _ c.if-word-gt2.false c.reading_of.result c.reading_of.ensures c.in_default.is

pub returns-then-n-gt15 : goal.returns-then-n-gt15
returns-then-n-gt15 c = number-over _ c.if-word-gt2.false c.reading_of.result c.reading_of.ensures _ c.in-Some.is c.if-n-gt15.true

pub returns : goal.returns
returns c = number_is _ c.if-word-gt2.false c.reading_of.result c.reading_of.ensures _ c.in-Some.is c.if-n-gt15.false
