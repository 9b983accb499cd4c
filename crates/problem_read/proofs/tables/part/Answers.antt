-- `part`: from a place to its end.
use mathlib.Core.Path.{ap}
use Prim.Native.Nat.{ℕ}
use native.Mathlib.Nat.{add-sub_cancel_left}
use native.Mathlib.Omega.{arith}
use lib.ListN.{take, drop}
use Rattle.problem_read.proofs.tables.part.Goals as goal

pub overflow_add-result : goal.overflow_add-result
overflow_add-result c = omega arith

pub offset_bounds-vals-at : goal.offset_bounds-vals-at
offset_bounds-vals-at c = omega arith

pub slice_bounds-result-count : goal.slice_bounds-result-count
slice_bounds-result-count c = omega arith

pub slice_bounds-result-start : goal.slice_bounds-result-start
slice_bounds-result-start c = omega arith

pub slice_bounds-result-end : goal.slice_bounds-result-end
slice_bounds-result-end c = omega arith

pub returns : goal.returns
returns c = let a = c.args in ap (λ (j : ℕ). take j (drop a.at a.vals.now)) (add-sub_cancel_left a.at a.k)
