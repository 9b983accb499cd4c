-- `is_kind`: one word after another.
use Rattle.sheet.proofs.FirstWords.{alike-0, alike-1, alike-2, alike-3, alike-4, alike-5, alike-6, alike-7, alike-last}
use Rattle.sheet.proofs.is_kind.Goals as goal

pub is_alike-requires : goal.is_alike-requires
is_alike-requires c = tt

pub returns-then-is_alike : goal.returns-then-is_alike
returns-then-is_alike c = alike-0 _ c.is_alike.result c.is_alike.ensures c.if-is_alike.true

pub is_alike-requires-2 : goal.is_alike-requires-2
is_alike-requires-2 c = tt

pub returns-then-is_alike-2 : goal.returns-then-is_alike-2
returns-then-is_alike-2 c = alike-1 _ c.is_alike.result c.is_alike.ensures c.if-is_alike.false c.is_alike-2.result c.is_alike-2.ensures c.if-is_alike-2.true

pub is_alike-requires-3 : goal.is_alike-requires-3
is_alike-requires-3 c = tt

pub returns-then-is_alike-3 : goal.returns-then-is_alike-3
returns-then-is_alike-3 c = alike-2 _ c.is_alike.result c.is_alike.ensures c.if-is_alike.false c.is_alike-2.result c.is_alike-2.ensures c.if-is_alike-2.false c.is_alike-3.result c.is_alike-3.ensures c.if-is_alike-3.true

pub is_alike-requires-4 : goal.is_alike-requires-4
is_alike-requires-4 c = tt

pub returns-then-is_alike-4 : goal.returns-then-is_alike-4
returns-then-is_alike-4 c = alike-3 _ c.is_alike.result c.is_alike.ensures c.if-is_alike.false c.is_alike-2.result c.is_alike-2.ensures c.if-is_alike-2.false c.is_alike-3.result c.is_alike-3.ensures c.if-is_alike-3.false c.is_alike-4.result c.is_alike-4.ensures c.if-is_alike-4.true

pub is_alike-requires-5 : goal.is_alike-requires-5
is_alike-requires-5 c = tt

pub returns-then-is_alike-5 : goal.returns-then-is_alike-5
returns-then-is_alike-5 c = alike-4 _ c.is_alike.result c.is_alike.ensures c.if-is_alike.false c.is_alike-2.result c.is_alike-2.ensures c.if-is_alike-2.false c.is_alike-3.result c.is_alike-3.ensures c.if-is_alike-3.false c.is_alike-4.result c.is_alike-4.ensures c.if-is_alike-4.false c.is_alike-5.result c.is_alike-5.ensures c.if-is_alike-5.true

pub is_alike-requires-6 : goal.is_alike-requires-6
is_alike-requires-6 c = tt

pub returns-then-is_alike-6 : goal.returns-then-is_alike-6
returns-then-is_alike-6 c = alike-5 _ c.is_alike.result c.is_alike.ensures c.if-is_alike.false c.is_alike-2.result c.is_alike-2.ensures c.if-is_alike-2.false c.is_alike-3.result c.is_alike-3.ensures c.if-is_alike-3.false c.is_alike-4.result c.is_alike-4.ensures c.if-is_alike-4.false c.is_alike-5.result c.is_alike-5.ensures c.if-is_alike-5.false c.is_alike-6.result c.is_alike-6.ensures c.if-is_alike-6.true

pub is_alike-requires-7 : goal.is_alike-requires-7
is_alike-requires-7 c = tt

pub returns-then-is_alike-7 : goal.returns-then-is_alike-7
returns-then-is_alike-7 c = alike-6 _ c.is_alike.result c.is_alike.ensures c.if-is_alike.false c.is_alike-2.result c.is_alike-2.ensures c.if-is_alike-2.false c.is_alike-3.result c.is_alike-3.ensures c.if-is_alike-3.false c.is_alike-4.result c.is_alike-4.ensures c.if-is_alike-4.false c.is_alike-5.result c.is_alike-5.ensures c.if-is_alike-5.false c.is_alike-6.result c.is_alike-6.ensures c.if-is_alike-6.false c.is_alike-7.result c.is_alike-7.ensures c.if-is_alike-7.true

pub is_alike-requires-8 : goal.is_alike-requires-8
is_alike-requires-8 c = tt

pub returns-then-is_alike-8 : goal.returns-then-is_alike-8
returns-then-is_alike-8 c = alike-7 _ c.is_alike.result c.is_alike.ensures c.if-is_alike.false c.is_alike-2.result c.is_alike-2.ensures c.if-is_alike-2.false c.is_alike-3.result c.is_alike-3.ensures c.if-is_alike-3.false c.is_alike-4.result c.is_alike-4.ensures c.if-is_alike-4.false c.is_alike-5.result c.is_alike-5.ensures c.if-is_alike-5.false c.is_alike-6.result c.is_alike-6.ensures c.if-is_alike-6.false c.is_alike-7.result c.is_alike-7.ensures c.if-is_alike-7.false c.is_alike-8.result c.is_alike-8.ensures c.if-is_alike-8.true

pub is_alike-requires-9 : goal.is_alike-requires-9
is_alike-requires-9 c = tt

pub returns : goal.returns
returns c = alike-last _ c.is_alike.result c.is_alike.ensures c.if-is_alike.false c.is_alike-2.result c.is_alike-2.ensures c.if-is_alike-2.false c.is_alike-3.result c.is_alike-3.ensures c.if-is_alike-3.false c.is_alike-4.result c.is_alike-4.ensures c.if-is_alike-4.false c.is_alike-5.result c.is_alike-5.ensures c.if-is_alike-5.false c.is_alike-6.result c.is_alike-6.ensures c.if-is_alike-6.false c.is_alike-7.result c.is_alike-7.ensures c.if-is_alike-7.false c.is_alike-8.result c.is_alike-8.ensures c.if-is_alike-8.false c.is_alike-9.result c.is_alike-9.ensures
