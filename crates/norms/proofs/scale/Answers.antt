-- `scale` meets its contract: laws of `proofs/Powers.antt`.
use mathlib.Core.Path.{sym, subst}
use native.Mathlib.Omega.{arith}
use lib.Dec.{T}
use Rattle.norms.proofs.Powers.{scale_one, scale-two}
use Rattle.norms.proofs.scale.Goals as goal

pub returns-then-z-lt52 : goal.returns-then-z-lt52
returns-then-z-lt52 c = scale-two c.args.z c.args.x c.power-p.result (subst T (sym c.well_formed.0.1) tt) c.requires.1 c.if-z-lt52.true c.power-p.ensures

pub returns : goal.returns
returns c = scale_one c.args.z c.args.x c.power-p-2.result (omega arith) c.power-p-2.ensures
