-- `slope_at` is two strided sums.
use mathlib.Core.Path.{ap₂}
use native.Mathlib.Omega.{arith}
use Rattle.numbers.specs.Numbers.{◌⊖◌}
use Rattle.lsei_nullspace.proofs.slope_at.Goals as goal

pub overflow_add-j : goal.overflow_add-j
overflow_add-j c = omega arith

pub dot_strided-s-requires : goal.dot_strided-s-requires
dot_strided-s-requires c = record { by_index = λ i h. omega arith; by_index_2 = λ i h. omega arith }

pub overflow_add-j-2 : goal.overflow_add-j-2
overflow_add-j-2 c = omega arith

pub dot_strided-t-requires : goal.dot_strided-t-requires
dot_strided-t-requires c = record { by_index = λ i h. omega arith; by_index_2 = λ i h. omega arith }

pub returns : goal.returns
returns c = ap₂ ◌⊖◌ c.dot_strided-s.ensures c.dot_strided-t.ensures
