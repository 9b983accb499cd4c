-- `step_all`: the step in the front of the workspaces, and what is given of it.
use mathlib.Core.Path.{sym, ◌∙◌}
use native.Mathlib.Omega.{arith}
use lib.Seq.{length-take-le}
use Rattle.step_rows.specs.Lent.{problem_in}
use Rattle.step_call.proofs.Calls.{step_given, front_long}
use Rattle.step_call.proofs.step_all.Goals as goal

pub slice_bounds-v-end-2 : goal.slice_bounds-v-end-2
slice_bounds-v-end-2 c = sym (length-take-le 8192 c.args.w.now c.requires.2)

pub slice_bounds-u-end-2 : goal.slice_bounds-u-end-2
slice_bounds-u-end-2 c = sym (length-take-le 512 c.args.iw.now c.requires.3)

pub solve_step-t-requires : goal.solve_step-t-requires
solve_step-t-requires c = let p = c.requires in (omega (arith, length-take-le 8192 c.args.w.now p.2), omega (arith, length-take-le 512 c.args.iw.now p.3))

pub give-requires : goal.give-requires
give-requires c = let a = c.args in
    let e = c.solve_step-t in
    let lv = e.auto.w ∙ length-take-le 8192 a.w.now c.requires.2 in
    let lu = e.auto.iw ∙ length-take-le 512 a.iw.now c.requires.3 in
    (a.p.now.few_variables, a.p.now.few_constraints, c.requires.0, c.requires.1, front_long 8192 e.new.w a.w.now lv, front_long 512 e.new.iw a.iw.now lu)

pub returns : goal.returns
returns c = let a = c.args in
    let e = c.solve_step-t in
    let lv = e.auto.w ∙ length-take-le 8192 a.w.now c.requires.2 in
    let lu = e.auto.iw ∙ length-take-le 512 a.iw.now c.requires.3 in
    step_given a.p.now.n a.p.now.m (problem_in a.p.now) e.result.relaxation e.result.report a.d.now _ a.multipliers.now _ e.new.w a.w.now _ e.new.iw a.iw.now _ a.p.now.few_variables a.p.now.few_constraints lv lu e.ensures
    c.give.ensures
