-- `report_new`: the new point, and multipliers +0.
use native.Mathlib.Omega.{arith}
use Rattle.search_next.proofs.Ended.{new-reported}
use Rattle.search_next.proofs.ends.report_new.Goals as goal

pub returns : goal.returns
returns c = let a = c.args in
    new-reported a.n a.m a.f.now c.accept.new.f c.blank.new.w c.requires.0 c.requires.2 c.accept.ensures (omega arith) c.blank.ensures
