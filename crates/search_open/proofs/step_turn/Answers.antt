-- `step_turn`: the problem that is handed over is the model.
use native.Mathlib.Omega.{arith}
use mathlib.Core.Path.{sym, ◌∙◌}
use Rattle.search_open.proofs.Steps.{sixteen-front, rows_few, zeros-in, model_in, problem-lent, ends_as}
use Rattle.search_open.proofs.step_turn.Goals as goal

pub slice_bounds-kinds-end : goal.slice_bounds-kinds-end
slice_bounds-kinds-end c = sym (sixteen-front c.args.m _ c.requires.0.constraints c.kind_room-a.ensures)

pub slice_bounds-widths-end : goal.slice_bounds-widths-end
slice_bounds-widths-end c = sym (sixteen-front c.args.m _ c.requires.0.constraints c.vector_room-b.ensures)

pub slice_bounds-lower-end : goal.slice_bounds-lower-end
slice_bounds-lower-end c = sym (sixteen-front c.args.n _ c.requires.0.few c.vector_room-c.ensures)

pub slice_bounds-upper-end : goal.slice_bounds-upper-end
slice_bounds-upper-end c = sym (sixteen-front c.args.n _ c.requires.0.few c.vector_room-e.ensures)

pub kinds_of-requires : goal.kinds_of-requires
kinds_of-requires c = let r = c.requires.0 in (r.words, sixteen-front c.args.m _ r.constraints c.kind_room-a.ensures, r.constraints, r.kinds)

pub blank-requires : goal.blank-requires
blank-requires c = omega (arith, sixteen-front c.args.m c.vector_room-b.result c.requires.0.constraints c.vector_room-b.ensures)

pub gaps_into-requires : goal.gaps_into-requires
gaps_into-requires c = let r = c.requires.0 in (r.floats, omega arith, sixteen-front c.args.n _ r.few c.vector_room-c.ensures, r.few)

pub gaps_into-requires-2 : goal.gaps_into-requires-2
gaps_into-requires-2 c = let r = c.requires.0 in (r.floats, omega arith, sixteen-front c.args.n _ r.few c.vector_room-e.ensures, r.few)

pub overflow_mul-last : goal.overflow_mul-last
overflow_mul-last c = omega (arith, rows_few c.args.n c.args.m c.requires.0.few c.requires.0.constraints)

pub overflow_add-last : goal.overflow_add-last
overflow_add-last c = omega (arith, rows_few c.args.n c.args.m c.requires.0.few c.requires.0.constraints)

pub slice_bounds-jacobian-end : goal.slice_bounds-jacobian-end
slice_bounds-jacobian-end c = omega (arith, rows_few c.args.n c.args.m c.requires.0.few c.requires.0.constraints)

pub returns : goal.returns
returns c = let a = c.args in
    let r = c.requires.0 in
    let w = c.blank in
    let e = c.solve_front in
    ends_as a.n a.m e.result _ _ _
    (problem-lent a.n a.m a.f.now r.few r.constraints r.floats a.factor.now c.kinds_of.new.kinds w.new.w c.gaps_into.new.gaps c.gaps_into-2.new.gaps
    ∙ model_in a.n a.m a.f.now a.u.now r a.factor.now _ _ _ _ c.kinds_of.ensures
    (zeros-in a.m _ w.new.w (w.auto.w ∙ sixteen-front a.m _ r.constraints c.vector_room-b.ensures) w.ensures) c.gaps_into.ensures c.gaps_into-2.ensures)
    e.ensures
