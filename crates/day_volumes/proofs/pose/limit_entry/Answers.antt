use lib.Dec.{eqb}
use Prim.Native.Nat.{◌-◌}
use mathlib.Core.Path.{◌∙◌}
use Rattle.day_volumes.proofs.Posing.{entry_zero, entry-capacity, entry-given, own-one, own-minus}
use native.Mathlib.Omega.{arith}
use Rattle.day_volumes.proofs.pose.limit_entry.Goals as goal

pub own-requires : goal.own-requires
own-requires c = tt

pub returns-then-k-n : goal.returns-then-k-n
returns-then-k-n c = let a = c.args in entry_zero _ _ _ _ _ _ c.if-k-n.true (c.own.ensures ∙ own-one (eqb a.i a.k))

pub overflow_add-n : goal.overflow_add-n
overflow_add-n c = omega arith

pub own-requires-then-k-n-2 : goal.own-requires-then-k-n-2
own-requires-then-k-n-2 c = tt

pub returns-then-k-n-2 : goal.returns-then-k-n-2
returns-then-k-n-2 c = let a = c.args in entry-capacity _ _ _ _ _ _ (omega arith) c.if-k-n-2.true (c.own-then-k-n-2.ensures ∙ own-minus (eqb a.i (a.k - a.n)))

pub overflow_add-j : goal.overflow_add-j
overflow_add-j c = omega arith

pub overflow_sub-j : goal.overflow_sub-j
overflow_sub-j c = omega arith

pub overflow_add-j-2 : goal.overflow_add-j-2
overflow_add-j-2 c = omega arith

pub offset_bounds-z-j : goal.offset_bounds-z-j
offset_bounds-z-j c = omega arith

pub bounds-z-j : goal.bounds-z-j
bounds-z-j c = omega arith

pub overflow_mul-j : goal.overflow_mul-j
overflow_mul-j c = omega arith

pub overflow_add-j-3 : goal.overflow_add-j-3
overflow_add-j-3 c = omega arith

pub overflow_add-j-4 : goal.overflow_add-j-4
overflow_add-j-4 c = omega arith

pub offset_bounds-f-j : goal.offset_bounds-f-j
offset_bounds-f-j c = omega arith

pub bounds-f-j : goal.bounds-f-j
bounds-f-j c = omega arith

pub turn-requires : goal.turn-requires
turn-requires c = tt

pub returns : goal.returns
returns c = entry-given _ _ _ _ _ _ (omega arith) (omega arith) c.turn.ensures
