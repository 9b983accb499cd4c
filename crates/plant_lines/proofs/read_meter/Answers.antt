-- `read_meter`: a number that is new, and what follows.
use mathlib.Core.Path.{sym, ◌∙◌}
use native.Mathlib.Omega.{arith}
use Rattle.plant_lines.proofs.MeterLine.{number_low, meter-not, meter-given, meter-new}
use Rattle.plant_lines.proofs.read_meter.Goals as goal

pub find_word-w-requires : goal.find_word-w-requires
find_word-w-requires c = c.requires.0

pub slice_bounds-meter_number-count : goal.slice_bounds-meter_number-count
slice_bounds-meter_number-count c = c.find_word-w.ensures.low

pub slice_bounds-meter_number-start : goal.slice_bounds-meter_number-start
slice_bounds-meter_number-start c = omega (arith, c.find_word-w.ensures.low, c.find_word-w.ensures.high)

pub slice_bounds-meter_number-end : goal.slice_bounds-meter_number-end
slice_bounds-meter_number-end c = omega (arith, c.find_word-w.ensures.low, c.find_word-w.ensures.high)

pub returns-in_default : goal.returns-in_default
returns-in_default c = let f = c.find_word-w.ensures in record { meter_read = (λ ms known. meter-not _ _ _ f.text f.left c.meter_number.result c.meter_number.ensures ms c.in_default.is); fits = (f.low, f.high) }

pub overflow_cast-n : goal.overflow_cast-n
overflow_cast-n c = omega arith

pub offset_bounds-table-n : goal.offset_bounds-table-n
offset_bounds-table-n c = omega arith

pub bounds-table-n : goal.bounds-table-n
bounds-table-n c = omega (arith, number_low _ _ (sym c.in-Some.is ∙ c.meter_number.ensures), c.requires.1)

pub returns-then-table-n-ne0 : goal.returns-then-table-n-ne0
returns-then-table-n-ne0 c = let f = c.find_word-w.ensures in let l = number_low _ _ (sym c.in-Some.is ∙ c.meter_number.ensures) in record { meter_read = (λ ms known. meter-given _ _ _ f.text f.left c.meter_number.result c.meter_number.ensures ms _ c.in-Some.is l c.args.table.now known c.if-table-n-ne0.true); fits = (f.low, f.high) }

pub read_name-requires : goal.read_name-requires
read_name-requires c = (number_low _ _ (sym c.in-Some.is ∙ c.meter_number.ensures), c.find_word-w.ensures.high)

pub returns : goal.returns
returns c = let f = c.find_word-w.ensures in let l = number_low _ _ (sym c.in-Some.is ∙ c.meter_number.ensures) in record { meter_read = (λ ms known. meter-new _ _ _ f.text f.left c.meter_number.result c.meter_number.ensures ms _ c.in-Some.is l c.args.table.now known c.if-table-n-ne0.false _ c.read_name.ensures.name_read); fits = c.read_name.ensures.fits }
