use Rattle.search.specs.Turn.{clip}
use Rattle.search_turn.proofs.clip_to.Goals as goal

pub returns-then-x-low : goal.returns-then-x-low
unfolding clip
returns-then-x-low c = rw c.if-x-low.true

pub returns-then-high-x : goal.returns-then-high-x
unfolding clip
returns-then-high-x c = rw (c.if-x-low.false, c.if-high-x.true)

pub returns : goal.returns
unfolding clip
returns c = rw (c.if-x-low.false, c.if-high-x.false)
