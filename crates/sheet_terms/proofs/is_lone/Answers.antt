-- `is_lone`: `=`, and no number before it.
use Rattle.sheet_terms.proofs.Laws.{lone_is}
use Rattle.sheet_terms.proofs.is_lone.Goals as goal

pub returns-then-pending : goal.returns-then-pending
returns-then-pending c = rw c.if-pending.true

pub is_same-requires : goal.is_same-requires
is_same-requires c = tt

pub returns : goal.returns
returns c = lone_is c.args.pending c.args.word.now _ c.if-pending.false c.is_same.ensures
