-- `within`: the two limits, and the value.
use Rattle.decimals.proofs.Runs.{many-digits, many-places, in-limits}
use Rattle.decimals.proofs.within.Goals as goal

pub returns-then-a-ge1000000000000000 : goal.returns-then-a-ge1000000000000000
returns-then-a-ge1000000000000000 c = let a = c.args in many-digits a.negative a.a a.k a.at a.next c.if-a-ge1000000000000000.true

pub returns-then-k-gt22 : goal.returns-then-k-gt22
returns-then-k-gt22 c = let a = c.args in many-places a.negative a.a a.k a.at a.next c.if-a-ge1000000000000000.false c.if-k-gt22.true

pub returns : goal.returns
returns c = let a = c.args in in-limits a.negative a.a a.k a.at a.next c.quotient.result c.if-a-ge1000000000000000.false c.if-k-gt22.false c.quotient.ensures
