-- `is_sign`: a plus, or a minus.
use Rattle.sheet_terms.proofs.Laws.{sign-plus, sign-minus}
use Rattle.sheet_terms.proofs.is_sign.Goals as goal

pub is_same-requires : goal.is_same-requires
is_same-requires c = tt

pub returns-then-is_same : goal.returns-then-is_same
returns-then-is_same c = sign-plus c.args.word.now c.is_same.result c.is_same.ensures c.if-is_same.true

pub is_same-requires-2 : goal.is_same-requires-2
is_same-requires-2 c = tt

pub returns : goal.returns
returns c = sign-minus c.args.word.now c.is_same.result c.is_same.ensures c.if-is_same.false _ c.is_same-2.ensures
