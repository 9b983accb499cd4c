-- `put_step`: the step's answer, as text.
use mathlib.Core.Path.{sym, ap}
use native.Mathlib.Omega.{arith}
use lib.Seq.{length-take-le}
use Rattle.problem_answer.specs.Program.{step_text}
use Rattle.ascii.proofs.Writing.{as-text}
use Rattle.problem_answer.proofs.put_step.Goals as goal

pub sixteen-d-requires : goal.sixteen-d-requires
sixteen-d-requires c = omega arith

pub sixteen-l-requires : goal.sixteen-l-requires
sixteen-l-requires c = omega arith

pub slice_bounds-d-end : goal.slice_bounds-d-end
slice_bounds-d-end c = omega arith

pub slice_bounds-ds-end : goal.slice_bounds-ds-end
slice_bounds-ds-end c = sym (length-take-le c.args.n _ (omega (arith, c.requires.2, c.sixteen-d.ensures)))

pub slice_bounds-l-end : goal.slice_bounds-l-end
slice_bounds-l-end c = omega arith

pub slice_bounds-ls-end : goal.slice_bounds-ls-end
slice_bounds-ls-end c = sym (length-take-le c.args.m _ (omega (arith, c.requires.0, c.sixteen-l.ensures)))

pub solve-answer-requires : goal.solve-answer-requires
solve-answer-requires c = let d = length-take-le c.args.n c.sixteen-d.result (omega (arith, c.requires.2, c.sixteen-d.ensures)) in let l = length-take-le c.args.m c.sixteen-l.result (omega (arith, c.requires.0, c.sixteen-l.ensures)) in record { m_bound = (c.requires.0, c.requires.1, c.requires.2, c.requires.3, c.requires.4); d_len = (d, l) }

pub put_answer-requires : goal.put_answer-requires
put_answer-requires c = let k = c.solve-answer in
    let d = length-take-le c.args.n c.sixteen-d.result (omega (arith, c.requires.2, c.sixteen-d.ensures)) in
    let l = length-take-le c.args.m c.sixteen-l.result (omega (arith, c.requires.0, c.sixteen-l.ensures)) in
    (c.requires.5, omega (arith, c.requires.2, d, k.auto.d), omega (arith, c.requires.0, l, k.auto.multipliers))

pub shape_of-out : goal.shape_of-out
shape_of-out c = omega arith

pub returns : goal.returns
returns c = as-text (ap step_text c.solve-answer.ensures) c.put_answer.ensures
