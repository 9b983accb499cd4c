-- `unsigned`: each way out is one law of `proofs/Runs.antt`.
use mathlib.Core.Path.{sym, ◌∙◌}
use native.Mathlib.Omega.{arith}
use lib.Dec.{lit<}
use Rattle.decimals.proofs.Runs.{inside, value-le, no_digit, no-point, next-ge, no_part, both-parts}
use Rattle.decimals.proofs.unsigned.Goals as goal

pub returns-then-end-start : goal.returns-then-end-start
returns-then-end-start c = let a = c.args in no_digit a.bytes.now a.negative a.at a.start c.digits-whole.result c.digits-whole.ensures c.if-end-start.true

pub returns-then-byte_at-ne46 : goal.returns-then-byte_at-ne46
returns-then-byte_at-ne46 c = let a = c.args in c.within.ensures ∙ no-point a.bytes.now a.negative a.at a.start c.digits-whole.result c.digits-whole.ensures c.if-end-start.false c.byte_at.result c.byte_at.ensures c.if-byte_at-ne46.true

pub overflow_add-first : goal.overflow_add-first
overflow_add-first c = let i = inside c.args.bytes.now c.digits-whole.result.end 46 (sym c.byte_at.ensures ∙ c.if-byte_at-ne46.false) (lit< tt) in omega arith

pub digits-all-requires : goal.digits-all-requires
digits-all-requires c = let a = c.args in value-le a.bytes.now a.negative a.at a.start c.digits-whole.result c.digits-whole.ensures

pub returns-then-next-first : goal.returns-then-next-first
returns-then-next-first c = let a = c.args in no_part a.bytes.now a.negative a.at a.start c.digits-whole.result c.digits-whole.ensures c.if-end-start.false c.byte_at.result c.byte_at.ensures c.if-byte_at-ne46.false c.digits-all.result c.digits-all.ensures c.if-next-first.true

pub overflow_sub-next : goal.overflow_sub-next
overflow_sub-next c = let a = c.args in next-ge a.bytes.now a.negative a.at a.start c.digits-whole.result c.digits-whole.ensures c.if-end-start.false c.byte_at.result c.byte_at.ensures c.if-byte_at-ne46.false c.digits-all.result c.digits-all.ensures

pub returns : goal.returns
returns c = let a = c.args in c.within-2.ensures ∙ both-parts a.bytes.now a.negative a.at a.start c.digits-whole.result c.digits-whole.ensures c.if-end-start.false c.byte_at.result c.byte_at.ensures c.if-byte_at-ne46.false c.digits-all.result c.digits-all.ensures c.if-next-first.false
