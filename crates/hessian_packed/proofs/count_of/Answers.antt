-- `count_of`: the product fits.
use mathlib.Core.Path.{refl}
use native.Mathlib.Omega.{arith}
use Rattle.hessian_packed.proofs.Triangles.{product_small}
use Rattle.hessian_packed.proofs.count_of.Goals as goal

pub overflow_add-result : goal.overflow_add-result
overflow_add-result c = omega arith

pub overflow_mul-result : goal.overflow_mul-result
overflow_mul-result c = omega (arith, product_small c.args.n c.requires)

pub returns : goal.returns
returns c = refl
