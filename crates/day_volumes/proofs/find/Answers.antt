-- `find`: what is filled is what the sheet poses.
use mathlib.Core.Path.{refl}
use Rattle.day_volumes.proofs.Whole.{found-whole}
use Rattle.day_volumes.proofs.find.Goals as goal

pub returns : goal.returns
returns c = let a = c.args in
    found-whole a.n a.m a.q a.z.now a.f.now c.fill_values.new.v c.fill_balances.new.out c.fill_limits-p.result _ c.fill_limits-p.new.rows c.fill_limits-p.new.least _ _ _ c.fill_values.ensures c.fill_balances.ensures c.fill_limits-p.ensures refl c.find_posed.ensures
