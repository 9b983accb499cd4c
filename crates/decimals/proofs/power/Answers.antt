-- `power`: the table is that of the powers of ten.
use native.Mathlib.Omega.{arith}
use lib.Ieee.{round, of_bits}
use Rattle.numbers.specs.Numbers.{tab}
use Rattle.decimals.proofs.Quotients.{powers, power_at}
use mathlib.Core.Path.{refl}
use Rattle.decimals.proofs.power.Goals as goal

pub returns : goal.returns
unfolding powers tab round of_bits
returns c = power_at _ c.args.k refl (omega arith)
