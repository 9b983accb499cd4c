-- `thousandths_at`: fewer places give the same fraction.
use mathlib.Core.Path.{◌∙◌}
use Prim.Native.Nat.{◌-◌}
use native.Mathlib.Omega.{arith}
use Rattle.decimals.proofs.Nearby.{fewer-places, far-below}
use Rattle.decimals.proofs.print.thousandths_at.Goals as goal

pub returns-then-d-ge64 : goal.returns-then-d-ge64
returns-then-d-ge64 c = let a = c.args in record { value = far-below a.q a.k (1074 - a.k) 1074 (omega arith) (omega arith) (omega arith); upper_bound = omega arith }

pub returns : goal.returns
returns c = let a = c.args in record { value = c.nearest.ensures.value ∙ fewer-places a.q a.k (1074 - a.k) 1074 (omega arith); upper_bound = omega (arith, c.nearest.ensures.upper_bound) }
