-- `put_volume_marks`: its parts one after the other.
use native.Mathlib.Omega.{arith}
use Rattle.ascii.proofs.Writing.{wrote_then}
use Rattle.ascii.specs.Text.{ascii}
use Rattle.day_text.proofs.Parts.{as-mark}
use Rattle.day_text.specs.Items.{volume_marks}
use Rattle.numbers.specs.Numbers.{tab}
use Rattle.day_text.proofs.items.put_volume_marks.Goals as goal

pub is_rolled-rolled-requires : goal.is_rolled-rolled-requires
is_rolled-rolled-requires c = tt

pub is_below_zero-below-requires : goal.is_below_zero-below-requires
is_below_zero-below-requires c = tt

pub is_at_floor-floor-requires : goal.is_at_floor-floor-requires
is_at_floor-floor-requires c = tt

pub is_at_capacity-full-requires : goal.is_at_capacity-full-requires
is_at_capacity-full-requires c = tt

pub put_mark-a-requires : goal.put_mark-a-requires
put_mark-a-requires c = (omega (arith, c.requires), omega arith)

pub put_mark-b-requires : goal.put_mark-b-requires
put_mark-b-requires c = (omega (arith, c.put_mark-a.ensures.upper_bound, c.requires), omega arith)

pub put_mark-c-requires : goal.put_mark-c-requires
put_mark-c-requires c = (omega (arith, c.put_mark-b.ensures.upper_bound, c.put_mark-a.ensures.upper_bound, c.requires), omega arith)

pub put_mark-requires : goal.put_mark-requires
put_mark-requires c = (omega (arith, c.put_mark-c.ensures.upper_bound, c.put_mark-b.ensures.upper_bound, c.put_mark-a.ensures.upper_bound, c.requires), omega arith)

pub shape_of-out : goal.shape_of-out
shape_of-out c = omega arith

pub returns : goal.returns
unfolding ascii tab volume_marks
returns c = record { wrote = wrote_then (as-mark _ c.is_rolled-rolled.ensures c.put_mark-a.ensures.wrote) (wrote_then (as-mark _ c.is_below_zero-below.ensures c.put_mark-b.ensures.wrote) (wrote_then (as-mark _ c.is_at_floor-floor.ensures c.put_mark-c.ensures.wrote) (as-mark _ c.is_at_capacity-full.ensures c.put_mark.ensures.wrote))); upper_bound = omega (arith, c.put_mark.ensures.upper_bound, c.put_mark-c.ensures.upper_bound, c.put_mark-b.ensures.upper_bound, c.put_mark-a.ensures.upper_bound) }
