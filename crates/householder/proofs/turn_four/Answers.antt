-- `turn_four`: four columns more.
use native.Mathlib.Omega.{arith}
use Rattle.householder.proofs.Reflections.{turned-four}
use Rattle.householder.proofs.turn_four.Goals as goal

pub overflow_mul-j : goal.overflow_mul-j
overflow_mul-j c = omega arith

pub overflow_add-j : goal.overflow_add-j
overflow_add-j c = omega arith

pub reflect_four-requires : goal.reflect_four-requires
reflect_four-requires c = omega arith

pub shape_of-w : goal.shape_of-w
shape_of-w c = c.reflect_four.auto.w

pub returns : goal.returns
returns c = let a = c.args in
    λ w₀ h. turned-four a.m a.k a.j w₀ a.w.now _ c.requires.0 c.requires.1 c.requires.2 c.reflect_four.ensures h
