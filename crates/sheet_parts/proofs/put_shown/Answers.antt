-- `put_shown`: all of it, or 32 bytes and two dots.
use mathlib.Core.Path.{sym}
use native.Mathlib.Omega.{arith}
use lib.Seq.{length-take-le}
use Rattle.sheet_parts.proofs.Shown.{shown-short, shown-long}
use Rattle.sheet_parts.proofs.put_shown.Goals as goal

pub put_escaped-requires : goal.put_escaped-requires
put_escaped-requires c = (c.if-word-le32.true, omega (arith, c.if-word-le32.true))

pub shape_of-out-then-word-le32 : goal.shape_of-out-then-word-le32
shape_of-out-then-word-le32 c = omega arith

pub returns-then-word-le32 : goal.returns-then-word-le32
returns-then-word-le32 c = record { wrote = shown-short _ c.if-word-le32.true c.put_escaped.ensures.wrote; upper_bound = omega (arith, c.if-word-le32.true, c.put_escaped.ensures.upper_bound) }

pub slice_bounds-put_escaped-end : goal.slice_bounds-put_escaped-end
slice_bounds-put_escaped-end c = sym (length-take-le 32 c.args.word.now (omega (arith, c.if-word-le32.false)))

pub put_escaped-p-requires : goal.put_escaped-p-requires
put_escaped-p-requires c = let l = length-take-le 32 c.args.word.now (omega (arith, c.if-word-le32.false)) in (omega (arith, l), omega (arith, l))

pub put_text-requires : goal.put_text-requires
put_text-requires c = let l = length-take-le 32 c.args.word.now (omega (arith, c.if-word-le32.false)) in omega (arith, l, c.put_escaped-p.ensures.upper_bound)

pub shape_of-out : goal.shape_of-out
shape_of-out c = omega arith

pub returns : goal.returns
returns c = let l = length-take-le 32 c.args.word.now (omega (arith, c.if-word-le32.false)) in record { wrote = shown-long _ c.if-word-le32.false c.put_escaped-p.ensures.wrote c.put_text.ensures; upper_bound = omega (arith, l, c.put_escaped-p.ensures.upper_bound, c.put_text.ensures.until) }
