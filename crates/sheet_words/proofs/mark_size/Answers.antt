-- `mark_size`: three bytes compared.
use native.Mathlib.Omega.{arith}
use mathlib.Core.Path.{sym}
use lib.Seq.{length-take-le}
use Rattle.sheet_words.proofs.Laws.{mark-short, mark-is, mark-not}
use Rattle.sheet_words.proofs.mark_size.Goals as goal

pub returns-then-bytes-lt3 : goal.returns-then-bytes-lt3
returns-then-bytes-lt3 c = (mark-short c.args.bytes.now c.if-bytes-lt3.true, omega arith)

pub slice_bounds-is_same-end : goal.slice_bounds-is_same-end
slice_bounds-is_same-end c = sym (length-take-le 3 c.args.bytes.now (omega arith))

pub is_same-requires : goal.is_same-requires
is_same-requires c = tt

pub returns-then-is_same : goal.returns-then-is_same
returns-then-is_same c = (mark-is c.args.bytes.now c.is_same.result c.is_same.ensures c.if-is_same.true, omega arith)

pub returns : goal.returns
returns c = (mark-not c.args.bytes.now c.is_same.result c.is_same.ensures c.if-is_same.false, omega arith)
