-- `put_float`: `nan`, or the digits that `io` makes.
use mathlib.Core.Path.{◌∙◌}
use native.Mathlib.Omega.{arith}
use Rattle.problem_read.proofs.Bytes.{some_bits}
use Rattle.ascii.proofs.Writing.{as-text}
use Rattle.problem_answer.proofs.Numerals.{float-nan, float-hex, hex-is, hex-places, bits-lt}
use Rattle.problem_answer.proofs.text.put_float.Goals as goal

pub slice_bounds-put_text-end-2 : goal.slice_bounds-put_text-end-2
slice_bounds-put_text-end-2 c = omega arith

pub put_text-requires : goal.put_text-requires
put_text-requires c = omega arith

pub shape_of-out-then-x : goal.shape_of-out-then-x
shape_of-out-then-x c = omega arith

pub returns-then-x : goal.returns-then-x
returns-then-x c = record { wrote = as-text (float-nan _ c.if-x.true) c.put_text.ensures; upper_bound = omega (arith, c.put_text.ensures.until) }

pub float_to_bits-x : goal.float_to_bits-x
float_to_bits-x c = some_bits _ c.if-x.false

pub hex-n-requires : goal.hex-n-requires
hex-n-requires c = omega arith

pub slice_bounds-digits-end : goal.slice_bounds-digits-end
slice_bounds-digits-end c = omega arith

pub put_text-requires-2 : goal.put_text-requires-2
put_text-requires-2 c = let k = c.hex-n in
    let p = hex-places _ _ k.ensures.len (bits-lt c.args.x c.well_formed.1.1.0.1) in
    omega (arith, k.ensures.in_bounds)

pub shape_of-out : goal.shape_of-out
shape_of-out c = omega arith

pub returns : goal.returns
returns c = let k = c.hex-n in let p = hex-places _ _ k.ensures.len (bits-lt c.args.x c.well_formed.1.1.0.1) in let e = k.ensures.digits ∙ hex-is _ _ p ∙ float-hex _ c.if-x.false in record { wrote = as-text e c.put_text-2.ensures; upper_bound = omega (arith, c.put_text-2.ensures.until, k.ensures.in_bounds) }
