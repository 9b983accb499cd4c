-- `put_fixed`: the number's text, with blanks before it.
use mathlib.Core.Path.{ap}
use Prim.Native.Nat.{◌≤◌}
use native.Mathlib.Omega.{arith}
use lib.ListN.{length}
use Rattle.ascii.specs.Text.{padded}
use Rattle.ascii.proofs.Writing.{as-text, length-padded}
use Rattle.decimals.specs.Fixed.{fixed_text}
use Rattle.decimals.proofs.print.put_fixed.Goals as goal

pub put_number-n-requires : goal.put_number-n-requires
put_number-n-requires c = tt

pub slice_bounds-text-end : goal.slice_bounds-text-end
slice_bounds-text-end c = omega (arith, c.put_number-n.ensures.upper_bound.1)

pub slice_bounds-put_padded-end : goal.slice_bounds-put_padded-end
slice_bounds-put_padded-end c = omega arith

pub put_padded-requires : goal.put_padded-requires
put_padded-requires c = let k = c.put_number-n.ensures.upper_bound in (omega arith, omega (arith, k.0, k.2))

pub shape_of-out : goal.shape_of-out
shape_of-out c = omega arith

pub returns : goal.returns
returns c = let a = c.args in let k = c.put_number-n.ensures in let w = as-text (ap (padded a.width) k.out_after) c.put_padded.ensures in let n : length (fixed_text a.x) ≤ 21 = omega (arith, k.upper_bound.0, k.upper_bound.2, ap length k.out_after) in let l = length-padded a.width (fixed_text a.x) 21 (omega arith) n in record { wrote = w; upper_bound = omega (arith, w.until, l) }
