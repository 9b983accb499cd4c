-- `power` meets its contract: laws of `proofs/Powers.antt`.
use native.Mathlib.Omega.{arith}
use Rattle.numbers.proofs.Patterns.{no_nan}
use Rattle.norms.proofs.Powers.{low-power, high-power, low-pattern}
use Rattle.norms.proofs.power.Goals as goal

pub float_from_bits-result : goal.float_from_bits-result
float_from_bits-result c = no_nan _ (low-pattern c.args.j c.if-j-lt52.true)

pub returns-then-j-lt52 : goal.returns-then-j-lt52
returns-then-j-lt52 c = low-power c.args.j c.if-j-lt52.true

pub float_from_bits-result-2 : goal.float_from_bits-result-2
float_from_bits-result-2 c = no_nan _ (omega arith)

pub returns : goal.returns
returns c = high-power c.args.j (omega arith) (omega arith)
