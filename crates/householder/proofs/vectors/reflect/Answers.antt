-- `reflect`: by the dot product of the vector with u.
use native.Mathlib.Omega.{arith}
use Rattle.householder.specs.inner.Search.{product}
use Rattle.householder.proofs.vectors.reflect.Goals as goal

pub overflow_mul-k : goal.overflow_mul-k
overflow_mul-k c = omega arith

pub overflow_add-k : goal.overflow_add-k
overflow_add-k c = omega arith

pub overflow_add-o : goal.overflow_add-o
overflow_add-o c = omega arith

pub overflow_sub-m : goal.overflow_sub-m
overflow_sub-m c = omega arith

pub dot_within-d-requires : goal.dot_within-d-requires
dot_within-d-requires c = omega arith

pub reflect_by-requires : goal.reflect_by-requires
unfolding product
reflect_by-requires c = (c.requires.0, c.requires.1, c.requires.2, c.requires.3, c.dot_within-d.ensures)

pub shape_of-w : goal.shape_of-w
shape_of-w c = omega arith

pub returns : goal.returns
returns c = c.reflect_by.ensures
