-- `identity_into`: the triangle of the square identity.
use mathlib.Core.Path.{sym, ap, ◌∙◌}
use native.Mathlib.Omega.{arith}
use Rattle.hessian_packed.specs.Packed.{packed}
use Rattle.hessian_packed.proofs.Agreement.{identity-packed}
use Rattle.hessian_packed.proofs.identity_into.Goals as goal

pub identity_into-requires : goal.identity_into-requires
identity_into-requires c = omega arith

pub pack-requires : goal.pack-requires
pack-requires c = (omega arith, omega arith, omega arith)

pub shape_of-out : goal.shape_of-out
shape_of-out c = omega arith

pub shape_of-square : goal.shape_of-square
shape_of-square c = omega arith

pub returns : goal.returns
returns c = let n = c.args.n in
    c.pack.ensures ∙ ap (packed n) c.identity_into.ensures ∙ sym (identity-packed n)
