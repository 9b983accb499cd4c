-- `put_whole`: the digits that `io` makes, with blanks before them.
use mathlib.Core.Path.{ap, ◌∙◌}
use native.Mathlib.Omega.{arith}
use Rattle.ascii.specs.Text.{decimal_text, padded}
use Rattle.ascii.proofs.Writing.{as-text, length-padded}
use Rattle.ascii.proofs.Numerals.{decimal-is, decimal-places, decimal-short}
use Rattle.ascii.proofs.put_whole.Goals as goal

pub decimal-n-requires : goal.decimal-n-requires
decimal-n-requires c = tt

pub slice_bounds-digits-end : goal.slice_bounds-digits-end
slice_bounds-digits-end c = omega arith

pub slice_bounds-put_padded-end : goal.slice_bounds-put_padded-end
slice_bounds-put_padded-end c = omega arith

pub put_padded-requires : goal.put_padded-requires
put_padded-requires c = let k = c.decimal-n in
    let p = decimal-places _ _ k.ensures.len (omega arith) in
    (omega arith, omega (arith, k.ensures.in_bounds.1))

pub shape_of-out : goal.shape_of-out
shape_of-out c = omega arith

pub returns : goal.returns
returns c = let k = c.decimal-n in let e = k.ensures.digits ∙ decimal-is _ _ k.ensures.len in let w = as-text (ap (padded c.args.width) e) c.put_padded.ensures in let n = decimal_text c.args.k in let l = length-padded c.args.width n 20 (omega arith) (decimal-short 19 c.args.k (omega arith)) in record { wrote = w; upper_bound = omega (arith, w.until, l) }
