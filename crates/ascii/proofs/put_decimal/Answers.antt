-- `put_decimal`: the digits that `io` makes.
use mathlib.Core.Path.{◌∙◌}
use native.Mathlib.Omega.{arith}
use Rattle.ascii.proofs.Writing.{as-text}
use Rattle.ascii.proofs.Numerals.{decimal-is, decimal-places}
use Rattle.ascii.proofs.put_decimal.Goals as goal

pub decimal-n-requires : goal.decimal-n-requires
decimal-n-requires c = tt

pub slice_bounds-digits-end : goal.slice_bounds-digits-end
slice_bounds-digits-end c = omega arith

pub slice_bounds-put_text-end : goal.slice_bounds-put_text-end
slice_bounds-put_text-end c = omega arith

pub put_text-requires : goal.put_text-requires
put_text-requires c = let k = c.decimal-n in
    let p = decimal-places _ _ k.ensures.len (omega arith) in
    omega (arith, k.ensures.in_bounds.1)

pub shape_of-out : goal.shape_of-out
shape_of-out c = omega arith

pub returns : goal.returns
returns c = let k = c.decimal-n in let e = k.ensures.digits ∙ decimal-is _ _ k.ensures.len in let p = decimal-places _ _ k.ensures.len (omega arith) in record { wrote = as-text e c.put_text.ensures; upper_bound = omega (arith, c.put_text.ensures.until, k.ensures.in_bounds) }
