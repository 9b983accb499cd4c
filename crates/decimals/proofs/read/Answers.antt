-- `read`: with its sign or without.
use mathlib.Core.Path.{sym, ◌∙◌}
use native.Mathlib.Omega.{arith}
use lib.Dec.{lit<}
use Rattle.decimals.proofs.Runs.{inside, signed, unsigned_is}
use Rattle.decimals.proofs.read.Goals as goal

pub overflow_add-at : goal.overflow_add-at
overflow_add-at c = let i = inside c.args.bytes.now c.args.at 45 (sym c.byte_at.ensures ∙ c.if-byte_at-eq45.true) (lit< tt) in omega arith

pub returns-then-byte_at-eq45 : goal.returns-then-byte_at-eq45
returns-then-byte_at-eq45 c = let a = c.args in c.unsigned.ensures ∙ signed a.bytes.now a.at c.byte_at.result c.byte_at.ensures c.if-byte_at-eq45.true

pub returns : goal.returns
returns c = let a = c.args in c.unsigned-2.ensures ∙ unsigned_is a.bytes.now a.at c.byte_at.result c.byte_at.ensures c.if-byte_at-eq45.false
