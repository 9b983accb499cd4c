-- `is_joined`: more than one byte, and a `=`.
use native.Mathlib.Omega.{arith}
use Rattle.sheet_terms.proofs.Laws.{joined-one, joined-more}
use Rattle.sheet_terms.proofs.is_joined.Goals as goal

pub has_equals-requires : goal.has_equals-requires
has_equals-requires c = tt

pub returns-then-word-gt1 : goal.returns-then-word-gt1
returns-then-word-gt1 c = joined-more c.args.word.now _ c.has_equals.ensures c.if-word-gt1.true

pub returns : goal.returns
returns c = joined-one c.args.word.now (omega (arith, c.if-word-gt1.false))
