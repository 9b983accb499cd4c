-- `next_place`: behind the others, or one of their places.
use native.Mathlib.Omega.{arith}
use Rattle.nnls.proofs.memory.next_place.Goals as goal

pub overflow_mul-memory : goal.overflow_mul-memory
overflow_mul-memory c = let b = c.requires.3 (omega arith) in let l = c.requires.1 in omega (arith, b, l)
