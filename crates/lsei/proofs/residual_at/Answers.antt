-- `residual_at` is one strided sum.
use mathlib.Core.Path.{ap}
use Prim.Native.Nat.{◌+◌}
use native.Mathlib.Omega.{arith}
use lib.Ieee.{Float}
use Rattle.numbers.specs.Numbers.{at, ◌⊖◌}
use Rattle.lsei.proofs.residual_at.Goals as goal

pub dot_strided-t-requires : goal.dot_strided-t-requires
dot_strided-t-requires c = record { by_index = λ i h. omega arith; by_index_2 = λ i h. omega arith }

pub overflow_add-result : goal.overflow_add-result
overflow_add-result c = omega arith

pub offset_bounds-w-j : goal.offset_bounds-w-j
offset_bounds-w-j c = omega arith

pub bounds-w-j : goal.bounds-w-j
bounds-w-j c = omega arith

pub returns : goal.returns
returns c = let a = c.args in ap (λ (x : Float). x ⊖ at a.w.now (1188 + a.j)) c.dot_strided-t.ensures
