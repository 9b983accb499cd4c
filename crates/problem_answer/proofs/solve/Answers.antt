-- `solve`: the step on the parts of the tables.
use mathlib.Core.Path.{sym, ap, ◌∙◌}
use native.Mathlib.Omega.{arith}
use lib.Seq.{length-take-le}
use Rattle.step_rows.specs.Problem.{Problem}
use Rattle.std.proofs.lemmas.Result.{err_from_is_err_and}
use Rattle.step_call.specs.Promise.{Outcome}
use Rattle.step_call.specs.Strict.{strict_call}
use Rattle.problem_answer.specs.inner.Work.{step_answer_of}
use Rattle.problem_answer.proofs.Passes.{passes}
use Rattle.problem_answer.proofs.Answers.{relaxation_of, answer-is, parts_are}
use Rattle.problem_answer.proofs.solve.Goals as goal

pub float_room-w-requires : goal.float_room-w-requires
float_room-w-requires c = tt

pub word_room-iw-requires : goal.word_room-iw-requires
word_room-iw-requires c = tt

pub slice_bounds-space-end : goal.slice_bounds-space-end
slice_bounds-space-end c = c.requires.m_bound.0

pub slice_bounds-ks-end : goal.slice_bounds-ks-end
slice_bounds-ks-end c = sym (length-take-le c.args.m _ c.requires.m_bound.0)

pub load_kinds-requires : goal.load_kinds-requires
load_kinds-requires c = (c.requires.m_bound.3, rw (length-take-le c.args.m _ c.requires.m_bound.0) c.requires.m_bound.0)

pub factor-requires : goal.factor-requires
factor-requires c = (c.requires.m_bound.2, c.requires.m_bound.4)

pub gradient-requires : goal.gradient-requires
gradient-requires c = (c.requires.m_bound.2, c.requires.m_bound.4)

pub values-requires : goal.values-requires
values-requires c = (c.requires.m_bound.0, c.requires.m_bound.4)

pub widths-requires : goal.widths-requires
widths-requires c = (c.requires.m_bound.0, c.requires.m_bound.4)

pub jacobian-requires : goal.jacobian-requires
jacobian-requires c = (c.requires.m_bound.0, c.requires.m_bound.2, c.requires.m_bound.4)

pub lower-requires : goal.lower-requires
lower-requires c = (c.requires.m_bound.2, c.requires.m_bound.4)

pub upper-requires : goal.upper-requires
upper-requires c = (c.requires.m_bound.2, c.requires.m_bound.4)

pub slice_bounds-solve_strictly-end : goal.slice_bounds-solve_strictly-end
slice_bounds-solve_strictly-end c = c.float_room-w.ensures

pub slice_bounds-solve_strictly-end-2 : goal.slice_bounds-solve_strictly-end-2
slice_bounds-solve_strictly-end-2 c = c.word_room-iw.ensures

pub returns-in_err-stepped : goal.returns-in_err-stepped
returns-in_err-stepped c = let a = c.args in
    let k = c.solve_strictly in
    let w = c.float_room-w in
    let iw = c.word_room-iw in
    let p = err_from_is_err_and c.from_residual.result c.from_residual.ensures.1 in
    rw (p.1, p.2) (ap (λ (o : Outcome). step_answer_of (relaxation_of o) k.new.d k.new.multipliers) (sym c.in_err-stepped.was) ∙ answer-is _ _ k.result a.d.now _ a.multipliers.now _ _ _ _ _ k.ensures
    ∙ ap (λ (p : Problem). strict_call p a.d.now a.multipliers.now w.result iw.result)
    (parts_are a.m a.n _ a.marks.now a.vals.now _ _ _ _ _ _ _ _ c.factor.ensures c.gradient.ensures c.load_kinds.ensures (length-take-le a.m _ c.requires.m_bound.0)
    c.values.ensures c.widths.ensures c.jacobian.ensures c.lower.ensures c.upper.ensures)
    ∙ passes a.m a.n a.marks.now a.vals.now a.d.now a.multipliers.now w.result iw.result (record { few = c.requires.m_bound.0; some = c.requires.m_bound.1; most = c.requires.m_bound.2 })
    c.requires.m_bound.4 c.requires.d_len.0 c.requires.d_len.1 (omega (arith, w.ensures)) (omega (arith, iw.ensures)))

pub returns : goal.returns
returns c = let a = c.args in
    let k = c.solve_strictly in
    let w = c.float_room-w in
    let iw = c.word_room-iw in
    ap (λ (o : Outcome). step_answer_of (relaxation_of o) k.new.d k.new.multipliers) (sym c.in_ok-stepped.was) ∙ answer-is _ _ k.result a.d.now _ a.multipliers.now _ _ _ _ _ k.ensures
    ∙ ap (λ (p : Problem). strict_call p a.d.now a.multipliers.now w.result iw.result)
    (parts_are a.m a.n _ a.marks.now a.vals.now _ _ _ _ _ _ _ _ c.factor.ensures c.gradient.ensures c.load_kinds.ensures (length-take-le a.m _ c.requires.m_bound.0)
    c.values.ensures c.widths.ensures c.jacobian.ensures c.lower.ensures c.upper.ensures)
    ∙ passes a.m a.n a.marks.now a.vals.now a.d.now a.multipliers.now w.result iw.result (record { few = c.requires.m_bound.0; some = c.requires.m_bound.1; most = c.requires.m_bound.2 })
    c.requires.m_bound.4 c.requires.d_len.0 c.requires.d_len.1 (omega (arith, w.ensures)) (omega (arith, iw.ensures))
