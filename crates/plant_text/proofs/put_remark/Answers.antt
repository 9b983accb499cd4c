-- `put_remark`: nothing, or a blank and the remark.
use native.Mathlib.Omega.{arith}
use mathlib.Core.Path.{sym}
use Rattle.ascii.proofs.Writing.{wrote_none, wrote_then, as-text}
use Rattle.plant_text.proofs.Texts.{remark-none, remark-some}
use Rattle.plant_text.proofs.put_remark.Goals as goal

pub returns-then-remark-eq0 : goal.returns-then-remark-eq0
returns-then-remark-eq0 c = let a = c.args in record { wrote = as-text (sym (remark-none a.remark.now c.if-remark-eq0.true)) (wrote_none a.out.now a.at (omega (arith, c.requires))); upper_bound = omega arith }

pub put_byte-a-requires : goal.put_byte-a-requires
put_byte-a-requires c = omega (arith, c.requires)

pub put_text-requires : goal.put_text-requires
put_text-requires c = omega (arith, c.put_byte-a.ensures.until, c.requires)

pub shape_of-out : goal.shape_of-out
shape_of-out c = omega arith

pub returns : goal.returns
returns c = record { wrote = as-text (remark-some c.args.remark.now c.if-remark-eq0.false) (wrote_then c.put_byte-a.ensures c.put_text.ensures); upper_bound = omega (arith, c.put_text.ensures.until, c.put_byte-a.ensures.until) }
