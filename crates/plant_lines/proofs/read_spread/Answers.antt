-- `read_spread`: the number, and what follows.
use mathlib.Core.Path.{refl}
use native.Mathlib.Omega.{arith}
use Rattle.plant_lines.proofs.MeterLine.{spread-not, spread-is}
use Rattle.plant_lines.proofs.read_spread.Goals as goal

pub find_word-w-requires : goal.find_word-w-requires
find_word-w-requires c = c.requires.1.1

pub slice_bounds-above_zero-count : goal.slice_bounds-above_zero-count
slice_bounds-above_zero-count c = c.find_word-w.ensures.low

pub slice_bounds-above_zero-start : goal.slice_bounds-above_zero-start
slice_bounds-above_zero-start c = omega (arith, c.find_word-w.ensures.low, c.find_word-w.ensures.high)

pub slice_bounds-above_zero-end : goal.slice_bounds-above_zero-end
slice_bounds-above_zero-end c = omega (arith, c.find_word-w.ensures.low, c.find_word-w.ensures.high)

pub returns-in_default : goal.returns-in_default
returns-in_default c = let f = c.find_word-w.ensures in record { spread_read = spread-not _ _ _ f.text f.left _ _ c.above_zero.result c.above_zero.ensures c.in_default.is; fits = (f.low, f.high) }

pub read_allowed-requires : goal.read_allowed-requires
read_allowed-requires c = let f = c.find_word-w.ensures in
    (record { number_low = c.requires.0; name_lies = c.requires.1; name_short = c.requires.2; spread_lies = (f.low, f.high); minutes_low = tt }, refl)

pub returns : goal.returns
returns c = let f = c.find_word-w.ensures in record { spread_read = spread-is _ _ _ f.text f.left _ _ c.above_zero.result c.above_zero.ensures _ c.in-Some.is _ c.read_allowed.ensures.allowed_read; fits = c.read_allowed.ensures.fits }
