-- `judge`: a table of blanks has no name.
use native.Mathlib.Omega.{arith}
use Rattle.plant_lines.proofs.MeterLine.{judged-blank}
use Rattle.plant_lines.proofs.judge.Goals as goal

pub slice_bounds-judge_name-end : goal.slice_bounds-judge_name-end
slice_bounds-judge_name-end c = omega arith

pub judge_name-requires : goal.judge_name-requires
judge_name-requires c = omega arith

pub returns : goal.returns
returns c = record { value = judged-blank _ _ c.judge_name.ensures.value; short_if = c.judge_name.ensures.short_if }
