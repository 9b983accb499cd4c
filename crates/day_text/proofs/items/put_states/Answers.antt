-- `put_states`: its parts one after the other.
use native.Mathlib.Omega.{arith}
use Rattle.ascii.proofs.Writing.{wrote_then}
use Rattle.day_text.specs.Items.{states_text}
use Rattle.day_text.proofs.items.put_states.Goals as goal

pub overflow_add-kind : goal.overflow_add-kind
overflow_add-kind c = omega (arith, c.requires.1)

pub offset_bounds-wholes-i : goal.offset_bounds-wholes-i
offset_bounds-wholes-i c = omega (arith, c.requires.1)

pub bounds-wholes-i : goal.bounds-wholes-i
bounds-wholes-i c = omega (arith, c.requires.1, c.requires.2, c.requires.3)

pub offset_bounds-wholes-i-2 : goal.offset_bounds-wholes-i-2
offset_bounds-wholes-i-2 c = omega (arith, c.requires.1)

pub bounds-wholes-i-2 : goal.bounds-wholes-i-2
bounds-wholes-i-2 c = omega (arith, c.requires.1, c.requires.2, c.requires.3)

pub overflow_add-i : goal.overflow_add-i
overflow_add-i c = omega (arith, c.requires.1)

pub offset_bounds-numbers-i : goal.offset_bounds-numbers-i
offset_bounds-numbers-i c = omega (arith, c.requires.1)

pub bounds-numbers-i : goal.bounds-numbers-i
bounds-numbers-i c = omega (arith, c.requires.1, c.requires.2, c.requires.3)

pub put_state-a-requires : goal.put_state-a-requires
put_state-a-requires c = omega (arith, c.requires.0)

pub overflow_add-i-2 : goal.overflow_add-i-2
overflow_add-i-2 c = omega (arith, c.requires.1)

pub offset_bounds-wholes-i-3 : goal.offset_bounds-wholes-i-3
offset_bounds-wholes-i-3 c = omega (arith, c.requires.1)

pub bounds-wholes-i-3 : goal.bounds-wholes-i-3
bounds-wholes-i-3 c = omega (arith, c.requires.1, c.requires.2, c.requires.3)

pub overflow_add-i-3 : goal.overflow_add-i-3
overflow_add-i-3 c = omega (arith, c.requires.1)

pub offset_bounds-numbers-i-2 : goal.offset_bounds-numbers-i-2
offset_bounds-numbers-i-2 c = omega (arith, c.requires.1)

pub bounds-numbers-i-2 : goal.bounds-numbers-i-2
bounds-numbers-i-2 c = omega (arith, c.requires.1, c.requires.2, c.requires.3)

pub put_state-requires : goal.put_state-requires
put_state-requires c = omega (arith, c.put_state-a.ensures.upper_bound, c.requires.0)

pub shape_of-out : goal.shape_of-out
shape_of-out c = omega arith

pub returns : goal.returns
unfolding states_text
returns c = record { wrote = wrote_then c.put_state-a.ensures.wrote c.put_state.ensures.wrote; upper_bound = omega (arith, c.put_state.ensures.upper_bound, c.put_state-a.ensures.upper_bound) }
