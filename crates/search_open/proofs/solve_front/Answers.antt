-- `solve_front`: the step in the front of the workspaces.
use native.Mathlib.Omega.{arith}
use mathlib.Core.Path.{refl, sym, ◌∙◌}
use lib.Seq.{length-take-le}
use Rattle.step_rows.specs.Lent.{problem_in}
use Rattle.search_open.proofs.Steps.{ends-front}
use Rattle.search_open.proofs.solve_front.Goals as goal

pub slice_bounds-v-end-2 : goal.slice_bounds-v-end-2
slice_bounds-v-end-2 c = sym (length-take-le 8192 c.args.w.now c.requires.0)

pub slice_bounds-u-end-2 : goal.slice_bounds-u-end-2
slice_bounds-u-end-2 c = sym (length-take-le 512 c.args.iw.now c.requires.1)

pub solve_step-requires : goal.solve_step-requires
solve_step-requires c = let a = c.args in
    (omega (arith, length-take-le 8192 a.w.now c.requires.0), omega (arith, length-take-le 512 a.iw.now c.requires.1))

pub returns : goal.returns
returns c = let a = c.args in
    let p = a.p.now in
    let e = c.solve_step in
    ends-front p.n p.m e.result e.new.w a.w.now (problem_in p) (problem_in p) p.few_variables p.few_constraints (e.auto.w ∙ length-take-le 8192 a.w.now c.requires.0) refl e.ensures
