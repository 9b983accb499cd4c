use Rattle.search_next.proofs.Asked.{moved_down, moved_up}
use Rattle.search_next.proofs.differences.moved_to.Goals as goal

pub returns-then-down : goal.returns-then-down
returns-then-down c = moved_down _ _ _ c.if-down.true c.move_of.ensures

pub returns : goal.returns
returns c = moved_up _ _ _ c.if-down.false c.move_of-2.ensures
