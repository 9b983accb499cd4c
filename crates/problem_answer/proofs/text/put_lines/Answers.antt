-- `put_lines`: after i turns i lines are written.
use native.Mathlib.Omega.{arith}
use Rattle.ascii.proofs.Writing.{writing-none, writing_more, writing-end}
use Rattle.problem_answer.proofs.Lines.{line-more, line-none}
use Rattle.problem_answer.proofs.text.put_lines.Goals as goal

pub loop-i-init : goal.loop-i-init
loop-i-init c = (writing-none _ _ _, omega arith)

pub put_line-to-requires : goal.put_line-to-requires
put_line-to-requires c = omega arith

pub loop-i-preserved : goal.loop-i-preserved
loop-i-preserved c = let l = c.loop-i in
    let k = c.put_line-to in (
      writing_more (rw (line-more c.args.tag l.i c.args.xs.now (omega arith)) at l.invariant.0) k.ensures.wrote,
      omega (arith, l.invariant.1, k.ensures.upper_bound),
    )

pub returns : goal.returns
returns c = let l = c.loop-i in let a = c.args in record { wrote = writing-end (omega (arith, l.invariant.1)) (rw (line-none a.tag l.i a.xs.now (omega arith)) at l.invariant.0); upper_bound = omega (arith, l.invariant.1) }
