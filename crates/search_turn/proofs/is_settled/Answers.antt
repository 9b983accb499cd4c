use Prim.Native.Nat.{◌+◌, ◌-◌}
use native.Mathlib.Omega.{arith}
use Rattle.search.proofs.Lent.{part_length}
use Rattle.search_turn.proofs.Parts.{settled-in}
use Rattle.search_turn.proofs.is_settled.Goals as goal

pub overflow_add-e : goal.overflow_add-e
overflow_add-e c = omega arith

pub slice_bounds-v-count : goal.slice_bounds-v-count
slice_bounds-v-count c = omega arith

pub slice_bounds-v-start : goal.slice_bounds-v-start
slice_bounds-v-start c = omega arith

pub slice_bounds-v-end : goal.slice_bounds-v-end
slice_bounds-v-end c = omega arith

pub bounds-f-152 : goal.bounds-f-152
bounds-f-152 c = omega arith

pub bounds-f-128 : goal.bounds-f-128
bounds-f-128 c = omega arith

pub magnitude_of-requires : goal.magnitude_of-requires
magnitude_of-requires c = tt

pub is_within-requires : goal.is_within-requires
is_within-requires c = (c.requires.0, c.requires.1, part_length 152 (c.args.m + 1) (153 + c.args.m - 152) c.args.f.now (omega arith) (omega arith), c.requires.2, c.requires.3)

pub returns : goal.returns
returns c = λ n. settled-in n c.args.m c.args.f.now c.args.u.now (153 + c.args.m - 152) _ _ (omega arith) (omega arith) c.magnitude_of.ensures c.is_within.ensures
