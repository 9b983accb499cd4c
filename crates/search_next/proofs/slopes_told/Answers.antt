use Rattle.search_next.proofs.Taken.{told-arrives}
use Rattle.search.proofs.Parts.{slopes-few}
use lib.ListN.{length}
use mathlib.Core.Path.{◌≡◌}
use Prim.Native.Nat.{suc, ◌*◌}
use native.Mathlib.Omega.{arith}
use Rattle.search_next.proofs.slopes_told.Goals as goal

pub load-requires : goal.load-requires
load-requires c = let a = c.args in let r = c.requires.0 in let k = slopes-few a.n a.m r.few r.constraints in let t : length a.told.now ≡ suc a.m * a.n = c.requires.3 in (omega arith, omega arith)

pub returns : goal.returns
returns c = let a = c.args in told-arrives a.n a.m a.told.now a.w.now c.load.new.w a.f.now _ a.u.now _ c.requires.3 c.load.ensures c.arrive_next.ensures
