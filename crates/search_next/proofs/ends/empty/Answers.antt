use Rattle.search_next.proofs.Ended.{emptied-by}
use native.Mathlib.Omega.{arith}
use Rattle.search_next.proofs.ends.empty.Goals as goal

pub returns : goal.returns
returns c = emptied-by c.args.f.now c.blank.new.w c.blank-2.new.w c.blank-3.new.w c.blank-4.new.w c.requires (omega arith) (omega arith) (omega arith) (omega arith) c.blank.ensures c.blank-2.ensures c.blank-3.ensures c.blank-4.ensures
