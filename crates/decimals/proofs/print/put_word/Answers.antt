-- `put_word`: the sign and the word.
use native.Mathlib.Omega.{arith}
use Rattle.ascii.proofs.Writing.{wrote_then}
use Rattle.decimals.proofs.print.put_word.Goals as goal

pub returns : goal.returns
returns c = let minus = c.put_minus-a.ensures in record { wrote = wrote_then minus.wrote c.put_text.ensures; upper_bound = omega (arith, minus.upper_bound, c.put_text.ensures.until) }
