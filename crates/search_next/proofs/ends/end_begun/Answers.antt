-- `end_begun`: the new point is reported, and the run ends.
use Rattle.search_next.proofs.Ended.{begun-end}
use Rattle.search_next.proofs.ends.end_begun.Goals as goal

pub returns : goal.returns
returns c = let a = c.args in
    begun-end a.n a.m a.ending a.f.now c.report_new.new.f c.end_with.new.f a.u.now c.end_with.new.u c.requires c.report_new.ensures c.end_with.ensures
