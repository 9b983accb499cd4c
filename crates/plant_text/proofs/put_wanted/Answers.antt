-- `put_wanted`: the words of each case.
use native.Mathlib.Omega.{arith}
use mathlib.Core.Path.{sym, ap}
use Rattle.numbers.specs.Numbers.{tab}
use Rattle.ascii.specs.Text.{ascii}
use Rattle.plant.specs.Texts.{wanted_text}
use Rattle.ascii.proofs.Writing.{as-text}
use Rattle.plant_text.proofs.put_wanted.Goals as goal

pub put_text-requires : goal.put_text-requires
put_text-requires c = omega (arith, c.requires)

pub put_text-requires-in-NewNumber : goal.put_text-requires-in-NewNumber
put_text-requires-in-NewNumber c = omega (arith, c.requires)

pub put_text-requires-in-Name : goal.put_text-requires-in-Name
put_text-requires-in-Name c = omega (arith, c.requires)

pub put_text-requires-in-Spread : goal.put_text-requires-in-Spread
put_text-requires-in-Spread c = omega (arith, c.requires)

pub put_text-requires-in-Minutes : goal.put_text-requires-in-Minutes
put_text-requires-in-Minutes c = omega (arith, c.requires)

pub put_text-requires-in-End : goal.put_text-requires-in-End
put_text-requires-in-End c = omega (arith, c.requires)

pub put_text-requires-in-Meter : goal.put_text-requires-in-Meter
put_text-requires-in-Meter c = omega (arith, c.requires)

pub shape_of-out-in-Number : goal.shape_of-out-in-Number
shape_of-out-in-Number c = omega arith

pub returns-in-Number : goal.returns-in-Number
unfolding ascii tab wanted_text
returns-in-Number c = record { wrote = as-text (ap wanted_text (sym c.in-Number.is)) c.put_text.ensures; upper_bound = omega (arith, c.put_text.ensures.until) }

pub shape_of-out-in-NewNumber : goal.shape_of-out-in-NewNumber
shape_of-out-in-NewNumber c = omega arith

pub returns-in-NewNumber : goal.returns-in-NewNumber
unfolding ascii tab wanted_text
returns-in-NewNumber c = record { wrote = as-text (ap wanted_text (sym c.in-NewNumber.is)) c.put_text-in-NewNumber.ensures; upper_bound = omega (arith, c.put_text-in-NewNumber.ensures.until) }

pub shape_of-out-in-Name : goal.shape_of-out-in-Name
shape_of-out-in-Name c = omega arith

pub returns-in-Name : goal.returns-in-Name
unfolding ascii tab wanted_text
returns-in-Name c = record { wrote = as-text (ap wanted_text (sym c.in-Name.is)) c.put_text-in-Name.ensures; upper_bound = omega (arith, c.put_text-in-Name.ensures.until) }

pub shape_of-out-in-Spread : goal.shape_of-out-in-Spread
shape_of-out-in-Spread c = omega arith

pub returns-in-Spread : goal.returns-in-Spread
unfolding ascii tab wanted_text
returns-in-Spread c = record { wrote = as-text (ap wanted_text (sym c.in-Spread.is)) c.put_text-in-Spread.ensures; upper_bound = omega (arith, c.put_text-in-Spread.ensures.until) }

pub shape_of-out-in-Minutes : goal.shape_of-out-in-Minutes
shape_of-out-in-Minutes c = omega arith

pub returns-in-Minutes : goal.returns-in-Minutes
unfolding ascii tab wanted_text
returns-in-Minutes c = record { wrote = as-text (ap wanted_text (sym c.in-Minutes.is)) c.put_text-in-Minutes.ensures; upper_bound = omega (arith, c.put_text-in-Minutes.ensures.until) }

pub shape_of-out-in-End : goal.shape_of-out-in-End
shape_of-out-in-End c = omega arith

pub returns-in-End : goal.returns-in-End
unfolding ascii tab wanted_text
returns-in-End c = record { wrote = as-text (ap wanted_text (sym c.in-End.is)) c.put_text-in-End.ensures; upper_bound = omega (arith, c.put_text-in-End.ensures.until) }

pub shape_of-out-in-Meter : goal.shape_of-out-in-Meter
shape_of-out-in-Meter c = omega arith

pub returns-in-Meter : goal.returns-in-Meter
unfolding ascii tab wanted_text
returns-in-Meter c = record { wrote = as-text (ap wanted_text (sym c.in-Meter.is)) c.put_text-in-Meter.ensures; upper_bound = omega (arith, c.put_text-in-Meter.ensures.until) }
