-- `put_escaped`: after each turn one byte more of the text is written.
use native.Mathlib.Omega.{arith}
use Rattle.ascii.proofs.Writing.{writing-none}
use Rattle.sheet_parts.proofs.Shown.{escaped-more, escaped-end}
use Rattle.sheet_parts.proofs.put_escaped.Goals as goal

pub loop-c-init : goal.loop-c-init
loop-c-init c = (omega arith, writing-none _ _ _)

pub put_escape-p-requires : goal.put_escape-p-requires
put_escape-p-requires c = omega (arith, c.loop-c.invariant.0, c.loop-c.auto.out)

pub loop-c-preserved : goal.loop-c-preserved
loop-c-preserved c = let l = c.loop-c in
    let k = c.put_escape-p.ensures in
    (omega (arith, l.invariant.0, k.upper_bound), escaped-more c.args.text.now l.c-index (omega arith) l.invariant.1 k.wrote)

pub returns : goal.returns
returns c = let l = c.loop-c in record { wrote = escaped-end c.args.text.now l.c-index (omega arith) (omega (arith, l.invariant.0)) l.invariant.1; upper_bound = omega (arith, l.invariant.0) }
