-- `kind_of`: one word after another.
use Rattle.sheet.proofs.FirstWords.{kind_0, kind_1, kind_2, kind_3, kind-4, kind-5, kind-6, kind-7, kind-8, kind-none}
use Rattle.sheet.proofs.kind_of.Goals as goal

pub is_same-requires : goal.is_same-requires
is_same-requires c = tt

pub returns-then-is_same : goal.returns-then-is_same
returns-then-is_same c = kind_0 _ c.is_same.result c.is_same.ensures c.if-is_same.true

pub is_same-requires-2 : goal.is_same-requires-2
is_same-requires-2 c = tt

pub returns-then-is_same-2 : goal.returns-then-is_same-2
returns-then-is_same-2 c = kind_1 _ c.is_same.result c.is_same.ensures c.if-is_same.false c.is_same-2.result c.is_same-2.ensures c.if-is_same-2.true

pub is_same-requires-3 : goal.is_same-requires-3
is_same-requires-3 c = tt

pub returns-then-is_same-3 : goal.returns-then-is_same-3
returns-then-is_same-3 c = kind_2 _ c.is_same.result c.is_same.ensures c.if-is_same.false c.is_same-2.result c.is_same-2.ensures c.if-is_same-2.false c.is_same-3.result c.is_same-3.ensures c.if-is_same-3.true

pub is_same-requires-4 : goal.is_same-requires-4
is_same-requires-4 c = tt

pub returns-then-is_same-4 : goal.returns-then-is_same-4
returns-then-is_same-4 c = kind_3 _ c.is_same.result c.is_same.ensures c.if-is_same.false c.is_same-2.result c.is_same-2.ensures c.if-is_same-2.false c.is_same-3.result c.is_same-3.ensures c.if-is_same-3.false c.is_same-4.result c.is_same-4.ensures c.if-is_same-4.true

pub is_same-requires-5 : goal.is_same-requires-5
is_same-requires-5 c = tt

pub returns-then-is_same-5 : goal.returns-then-is_same-5
returns-then-is_same-5 c = kind-4 _ c.is_same.result c.is_same.ensures c.if-is_same.false c.is_same-2.result c.is_same-2.ensures c.if-is_same-2.false c.is_same-3.result c.is_same-3.ensures c.if-is_same-3.false c.is_same-4.result c.is_same-4.ensures c.if-is_same-4.false c.is_same-5.result c.is_same-5.ensures c.if-is_same-5.true

pub is_same-requires-6 : goal.is_same-requires-6
is_same-requires-6 c = tt

pub returns-then-is_same-6 : goal.returns-then-is_same-6
returns-then-is_same-6 c = kind-5 _ c.is_same.result c.is_same.ensures c.if-is_same.false c.is_same-2.result c.is_same-2.ensures c.if-is_same-2.false c.is_same-3.result c.is_same-3.ensures c.if-is_same-3.false c.is_same-4.result c.is_same-4.ensures c.if-is_same-4.false c.is_same-5.result c.is_same-5.ensures c.if-is_same-5.false c.is_same-6.result c.is_same-6.ensures c.if-is_same-6.true

pub is_same-requires-7 : goal.is_same-requires-7
is_same-requires-7 c = tt

pub returns-then-is_same-7 : goal.returns-then-is_same-7
returns-then-is_same-7 c = kind-6 _ c.is_same.result c.is_same.ensures c.if-is_same.false c.is_same-2.result c.is_same-2.ensures c.if-is_same-2.false c.is_same-3.result c.is_same-3.ensures c.if-is_same-3.false c.is_same-4.result c.is_same-4.ensures c.if-is_same-4.false c.is_same-5.result c.is_same-5.ensures c.if-is_same-5.false c.is_same-6.result c.is_same-6.ensures c.if-is_same-6.false c.is_same-7.result c.is_same-7.ensures c.if-is_same-7.true

pub is_same-requires-8 : goal.is_same-requires-8
is_same-requires-8 c = tt

pub returns-then-is_same-8 : goal.returns-then-is_same-8
returns-then-is_same-8 c = kind-7 _ c.is_same.result c.is_same.ensures c.if-is_same.false c.is_same-2.result c.is_same-2.ensures c.if-is_same-2.false c.is_same-3.result c.is_same-3.ensures c.if-is_same-3.false c.is_same-4.result c.is_same-4.ensures c.if-is_same-4.false c.is_same-5.result c.is_same-5.ensures c.if-is_same-5.false c.is_same-6.result c.is_same-6.ensures c.if-is_same-6.false c.is_same-7.result c.is_same-7.ensures c.if-is_same-7.false c.is_same-8.result c.is_same-8.ensures c.if-is_same-8.true

pub is_same-requires-9 : goal.is_same-requires-9
is_same-requires-9 c = tt

pub returns-then-is_same-9 : goal.returns-then-is_same-9
returns-then-is_same-9 c = kind-8 _ c.is_same.result c.is_same.ensures c.if-is_same.false c.is_same-2.result c.is_same-2.ensures c.if-is_same-2.false c.is_same-3.result c.is_same-3.ensures c.if-is_same-3.false c.is_same-4.result c.is_same-4.ensures c.if-is_same-4.false c.is_same-5.result c.is_same-5.ensures c.if-is_same-5.false c.is_same-6.result c.is_same-6.ensures c.if-is_same-6.false c.is_same-7.result c.is_same-7.ensures c.if-is_same-7.false c.is_same-8.result c.is_same-8.ensures c.if-is_same-8.false c.is_same-9.result c.is_same-9.ensures c.if-is_same-9.true

pub returns : goal.returns
returns c = kind-none _ c.is_same.result c.is_same.ensures c.if-is_same.false c.is_same-2.result c.is_same-2.ensures c.if-is_same-2.false c.is_same-3.result c.is_same-3.ensures c.if-is_same-3.false c.is_same-4.result c.is_same-4.ensures c.if-is_same-4.false c.is_same-5.result c.is_same-5.ensures c.if-is_same-5.false c.is_same-6.result c.is_same-6.ensures c.if-is_same-6.false c.is_same-7.result c.is_same-7.ensures c.if-is_same-7.false c.is_same-8.result c.is_same-8.ensures c.if-is_same-8.false c.is_same-9.result c.is_same-9.ensures c.if-is_same-9.false
