-- `is_triangle`: the length is that of the definition.
use mathlib.Core.Path.{ap}
use Prim.Native.Nat.{ℕ}
use lib.Dec.{eqb}
use Rattle.hessian_packed_call.proofs.is_triangle.Goals as goal

pub count_of-requires : goal.count_of-requires
count_of-requires c = c.requires

pub returns : goal.returns
returns c = ap (λ (k : ℕ). eqb c.args.pn k) c.count_of.ensures
