-- `begin`: each way out by its tests.
use mathlib.Core.Path.{sym, ◌∙◌}
use native.Mathlib.Omega.{arith}
use Rattle.std.proofs.lemmas.Result.{err_from_is_err_and}
use Rattle.workspace.proofs.Tests.{room-ge}
use Rattle.step_call.proofs.Bounds.{all_pass, all-stop}
use Rattle.search.specs.Promise.{setup_of}
use Rattle.search_call.proofs.Calls.{size-refused, length-refused, room-refused, kind-refused, tolerance-refused, bound-refused, call-answered, lengths-bad, lengths-rest, begins-of}
use Rattle.search_call.proofs.Search.begin.Goals as goal

pub are_sizes-requires : goal.are_sizes-requires
are_sizes-requires c = tt

pub returns-then-not-are_sizes : goal.returns-then-not-are_sizes
returns-then-not-are_sizes c = let a = c.args in
    let p = setup_of a.n a.m a.kinds.now a.lower.now a.upper.now a.ftol a.scheme in
    size-refused p a.machine.now a.w.now a.words.now a.iw.now _ _ _ _ _ (sym c.are_sizes.ensures ∙ c.if-not-are_sizes.true)

pub are_lengths-requires : goal.are_lengths-requires
are_lengths-requires c = tt

pub returns-then-not-are_lengths : goal.returns-then-not-are_lengths
returns-then-not-are_lengths c = let a = c.args in
    let p = setup_of a.n a.m a.kinds.now a.lower.now a.upper.now a.ftol a.scheme in
    length-refused p a.machine.now a.w.now a.words.now a.iw.now _ _ _ _ _ (sym c.are_sizes.ensures ∙ c.if-not-are_sizes.false) (lengths-bad _ _ _ (sym c.are_lengths.ensures ∙ c.if-not-are_lengths.true))

pub are_slices-requires : goal.are_slices-requires
are_slices-requires c = tt

pub returns-then-not-are_slices : goal.returns-then-not-are_slices
returns-then-not-are_slices c = let a = c.args in
    let p = setup_of a.n a.m a.kinds.now a.lower.now a.upper.now a.ftol a.scheme in
    length-refused p a.machine.now a.w.now a.words.now a.iw.now _ _ _ _ _ (sym c.are_sizes.ensures ∙ c.if-not-are_sizes.false) (lengths-rest _ _ _ _ (sym c.are_lengths.ensures ∙ c.if-not-are_lengths.false) (sym c.are_slices.ensures ∙ c.if-not-are_slices.true))

pub is_room-requires : goal.is_room-requires
is_room-requires c = tt

pub returns-then-not-is_room : goal.returns-then-not-is_room
returns-then-not-is_room c = let a = c.args in
    let p = setup_of a.n a.m a.kinds.now a.lower.now a.upper.now a.ftol a.scheme in
    room-refused p a.machine.now a.w.now a.words.now a.iw.now _ _ _ _ _ (sym c.are_sizes.ensures ∙ c.if-not-are_sizes.false) (lengths-rest _ _ _ _ (sym c.are_lengths.ensures ∙ c.if-not-are_lengths.false) (sym c.are_slices.ensures ∙ c.if-not-are_slices.false)) (sym c.is_room.ensures ∙ c.if-not-is_room.true)

pub are_kinds-requires : goal.are_kinds-requires
are_kinds-requires c = tt

pub returns-then-not-are_kinds : goal.returns-then-not-are_kinds
returns-then-not-are_kinds c = let a = c.args in
    let p = setup_of a.n a.m a.kinds.now a.lower.now a.upper.now a.ftol a.scheme in
    kind-refused p a.machine.now a.w.now a.words.now a.iw.now _ _ _ _ _ (sym c.are_sizes.ensures ∙ c.if-not-are_sizes.false) (lengths-rest _ _ _ _ (sym c.are_lengths.ensures ∙ c.if-not-are_lengths.false) (sym c.are_slices.ensures ∙ c.if-not-are_slices.false)) (sym c.is_room.ensures ∙ c.if-not-is_room.false) (sym c.are_kinds.ensures ∙ c.if-not-are_kinds.true)

pub is_tolerance-requires : goal.is_tolerance-requires
is_tolerance-requires c = tt

pub returns-then-not-is_tolerance : goal.returns-then-not-is_tolerance
returns-then-not-is_tolerance c = let a = c.args in
    let p = setup_of a.n a.m a.kinds.now a.lower.now a.upper.now a.ftol a.scheme in
    tolerance-refused p a.machine.now a.w.now a.words.now a.iw.now _ _ _ _ _ _ (sym c.are_sizes.ensures ∙ c.if-not-are_sizes.false) (lengths-rest _ _ _ _ (sym c.are_lengths.ensures ∙ c.if-not-are_lengths.false) (sym c.are_slices.ensures ∙ c.if-not-are_slices.false)) (sym c.is_room.ensures ∙ c.if-not-is_room.false) (sym c.are_kinds.ensures ∙ c.if-not-are_kinds.false) (sym c.is_tolerance.ensures ∙ c.if-not-is_tolerance.true)

pub test_bounds-requires : goal.test_bounds-requires
test_bounds-requires c = let a = c.args in
    let b = (begins-of a.n a.m a.budget a.scheme a.kinds.now a.lower.now a.upper.now a.x.now a.machine.now a.words.now a.ftol (sym c.are_sizes.ensures ∙ c.if-not-are_sizes.false) (sym c.are_lengths.ensures ∙ c.if-not-are_lengths.false) (sym c.are_slices.ensures ∙ c.if-not-are_slices.false) (sym c.are_kinds.ensures ∙ c.if-not-are_kinds.false)).0 in
    let q = b.posed in
    (q.few, omega (arith, q.lower), omega (arith, q.upper))

pub begin_bounded-requires : goal.begin_bounded-requires
begin_bounded-requires c = let a = c.args in
    let b = begins-of a.n a.m a.budget a.scheme a.kinds.now a.lower.now a.upper.now a.x.now a.machine.now a.words.now a.ftol (sym c.are_sizes.ensures ∙ c.if-not-are_sizes.false) (sym c.are_lengths.ensures ∙ c.if-not-are_lengths.false) (sym c.are_slices.ensures ∙ c.if-not-are_slices.false) (sym c.are_kinds.ensures ∙ c.if-not-are_kinds.false) in
    let r = room-ge a.w.now a.iw.now (sym c.is_room.ensures ∙ c.if-not-is_room.false) in
    (b.0, b.1, r.0, r.1)

pub returns-in_err-test_bounds : goal.returns-in_err-test_bounds
returns-in_err-test_bounds c = let a = c.args in
    let p = setup_of a.n a.m a.kinds.now a.lower.now a.upper.now a.ftol a.scheme in
    let e = err_from_is_err_and c.from_residual.result c.from_residual.ensures.1 in
    rw (e.1, e.2) (bound-refused p a.machine.now a.w.now a.words.now a.iw.now _ _ _ _ _ _ (sym c.are_sizes.ensures ∙ c.if-not-are_sizes.false) (lengths-rest _ _ _ _ (sym c.are_lengths.ensures ∙ c.if-not-are_lengths.false) (sym c.are_slices.ensures ∙ c.if-not-are_slices.false)) (sym c.is_room.ensures ∙ c.if-not-is_room.false) (sym c.are_kinds.ensures ∙ c.if-not-are_kinds.false) _ (sym c.is_tolerance.ensures ∙ c.if-not-is_tolerance.false)
    (all-stop a.lower.now a.upper.now _ a.n 0 _ (sym c.test_bounds.ensures ∙ c.in_err-test_bounds.was)))

pub returns : goal.returns
returns c = let a = c.args in
    let p = setup_of a.n a.m a.kinds.now a.lower.now a.upper.now a.ftol a.scheme in
    call-answered p a.machine.now a.w.now a.words.now a.iw.now _ _ _ _ _ _ (sym c.are_sizes.ensures ∙ c.if-not-are_sizes.false) (lengths-rest _ _ _ _ (sym c.are_lengths.ensures ∙ c.if-not-are_lengths.false) (sym c.are_slices.ensures ∙ c.if-not-are_slices.false)) (sym c.is_room.ensures ∙ c.if-not-is_room.false) (sym c.are_kinds.ensures ∙ c.if-not-are_kinds.false) _ _ _ _ _ _ (sym c.is_tolerance.ensures ∙ c.if-not-is_tolerance.false)
    (all_pass a.lower.now a.upper.now _ a.n 0 (sym c.test_bounds.ensures ∙ c.in_ok-test_bounds.was)) c.begin_bounded.ensures
