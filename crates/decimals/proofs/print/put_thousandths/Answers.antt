-- `put_thousandths`: its parts one after the other.
use mathlib.Core.Path.{ap}
use Prim.Native.Nat.{◌/◌}
use native.Mathlib.Omega.{arith}
use Rattle.decimals.specs.Decimal.{minus_text}
use Rattle.ascii.proofs.Numerals.{decimal-short}
use Rattle.ascii.proofs.Writing.{wrote_then, as-text}
use Rattle.decimals.proofs.Sizes.{text-thousandths}
use Rattle.decimals.proofs.print.put_thousandths.Goals as goal

pub returns : goal.returns
returns c = let a = c.args in let whole = decimal-short 15 (a.t / 1000) (omega arith) in let minus = c.put_minus-a.ensures in let point = c.put_byte-c.ensures in record {
  wrote = as-text (text-thousandths a.negative a.t)
      (wrote_then (as-text (ap minus_text c.has_minus.ensures) minus.wrote)
      (wrote_then c.put_decimal-b.ensures.wrote
      (wrote_then point c.put_three.ensures)));
  upper_bound = omega (arith, whole, minus.upper_bound, c.put_decimal-b.ensures.wrote.until, point.until, c.put_three.ensures.until);
}
