-- `Nnls::solve`: the tests in their order, then `solve_all`.
use mathlib.Core.Path.{refl, sym, ◌∙◌}
use Rattle.workspace.proofs.Tests.{room-ge}
use Rattle.nnls_call.proofs.Answers.{problem-le, lengths-are}
use Rattle.nnls_call.proofs.Nnls.solve.Goals as goal

pub returns-then-not-is_problem : goal.returns-then-not-is_problem
returns-then-not-is_problem c = rw (sym c.is_problem.ensures ∙ c.if-not-is_problem.true) (record { the_outcome = refl; the_x = refl; the_floats = refl; the_words = refl })

pub are_lengths-requires : goal.are_lengths-requires
are_lengths-requires c = let p = problem-le _ _ _ (sym c.is_problem.ensures ∙ c.if-not-is_problem.false) in
    (p.0, p.1)

pub returns-then-not-are_lengths : goal.returns-then-not-are_lengths
returns-then-not-are_lengths c = rw (sym c.is_problem.ensures ∙ c.if-not-is_problem.false, sym c.are_lengths.ensures ∙ c.if-not-are_lengths.true)
    (record { the_outcome = refl; the_x = refl; the_floats = refl; the_words = refl })

pub returns-then-not-is_room : goal.returns-then-not-is_room
returns-then-not-is_room c = rw (sym c.is_problem.ensures ∙ c.if-not-is_problem.false, sym c.are_lengths.ensures ∙ c.if-not-are_lengths.false, sym c.is_room.ensures ∙ c.if-not-is_room.true)
    (record { the_outcome = refl; the_x = refl; the_floats = refl; the_words = refl })

pub solve_all-requires : goal.solve_all-requires
solve_all-requires c = let a = c.args in
    let p = problem-le _ _ _ (sym c.is_problem.ensures ∙ c.if-not-is_problem.false) in
    let l = lengths-are _ _ _ _ _ (sym c.are_lengths.ensures ∙ c.if-not-are_lengths.false) in
    let r = room-ge a.w.now a.iw.now (sym c.is_room.ensures ∙ c.if-not-is_room.false) in
    (p.0, p.1, p.2, l.0, l.1, l.2, r.0, r.1)

pub shape_of-x : goal.shape_of-x
shape_of-x c = c.solve_all.auto.x

pub shape_of-w : goal.shape_of-w
shape_of-w c = c.solve_all.auto.w

pub shape_of-iw : goal.shape_of-iw
shape_of-iw c = c.solve_all.auto.iw

pub returns : goal.returns
returns c = rw (sym c.is_problem.ensures ∙ c.if-not-is_problem.false, sym c.are_lengths.ensures ∙ c.if-not-are_lengths.false, sym c.is_room.ensures ∙ c.if-not-is_room.false)
    c.solve_all.ensures
