use Rattle.search_next.proofs.Sloped.{lent-more}
use lib.ListN.{length-set}
use native.Mathlib.Omega.{arith}
use Rattle.search_next.proofs.differences.slopes_into.Goals as goal

pub returns : goal.returns
returns c = let a = c.args in let z = length-set c.copy_strided.new.dst a.k a.slope in (lent-more a.k a.slope a.f.now a.w.now c.copy_strided.new.dst (omega arith) c.copy_strided.ensures, omega arith)
