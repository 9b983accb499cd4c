-- `Problems::write`: the tests, then the file.
use mathlib.Core.Path.{sym, ◌∙◌}
use lib.ListN.{length}
use Rattle.std.proofs.lemmas.Result.{err_from_is_err_and}
use Rattle.problem_write.specs.Lent.{lent_of}
use Rattle.problem_write_call.proofs.Passed.{told-strict, told-stopped, call-done, call-refused}
use Rattle.problem_write_call.proofs.Answers.{room-is, all-passed, none_written}
use Rattle.problem_write_call.proofs.Problems.write.Goals as goal

pub returns-in_err-test_strict : goal.returns-in_err-test_strict
returns-in_err-test_strict c = let a = c.args in
    let p = lent_of a.n a.m a.factor.now a.gradient.now a.kinds.now a.values.now a.widths.now a.jacobian.now a.lower.now a.upper.now in
    let e = err_from_is_err_and c.from_residual.result c.from_residual.ensures.1 in
    let t = told-stopped p (length a.out.now) (length a.w.now) (length a.«iw».now) _ (sym c.test_strict.ensures ∙ c.in_err-test_strict.was) in
    rw (e.1, e.2) (none_written _ _ a.out.now a.w.now a.«iw».now (call-refused p (length a.out.now) (length a.w.now) (length a.«iw».now) _ (sym t)))

pub returns-in_err-test_file : goal.returns-in_err-test_file
returns-in_err-test_file c = let a = c.args in
    let p = lent_of a.n a.m a.factor.now a.gradient.now a.kinds.now a.values.now a.widths.now a.jacobian.now a.lower.now a.upper.now in
    let e = err_from_is_err_and c.from_residual-in_err-test_file.result c.from_residual-in_err-test_file.ensures.1 in
    let t = told-strict p (length a.out.now) (length a.w.now) (length a.«iw».now) (sym c.test_strict.ensures ∙ c.in_ok-test_strict.was) in
    rw (e.1, e.2) (none_written _ _ a.out.now a.w.now a.«iw».now (call-refused p (length a.out.now) (length a.w.now) (length a.«iw».now) _ (sym t ∙ sym c.test_file.ensures ∙ c.in_err-test_file.was)))

pub write_all-requires : goal.write_all-requires
write_all-requires c = let a = c.args in
    let p = lent_of a.n a.m a.factor.now a.gradient.now a.kinds.now a.values.now a.widths.now a.jacobian.now a.lower.now a.upper.now in
    let t = told-strict p (length a.out.now) (length a.w.now) (length a.«iw».now) (sym c.test_strict.ensures ∙ c.in_ok-test_strict.was) in
    let d = call-done p (length a.out.now) (length a.w.now) (length a.«iw».now) (sym t ∙ sym c.test_file.ensures ∙ c.in_ok-test_file.was) in
    (room-is p a.out.now d.the_room, d.the_floats, d.the_words)

pub returns : goal.returns
returns c = let a = c.args in
    let p = lent_of a.n a.m a.factor.now a.gradient.now a.kinds.now a.values.now a.widths.now a.jacobian.now a.lower.now a.upper.now in
    let t = told-strict p (length a.out.now) (length a.w.now) (length a.«iw».now) (sym c.test_strict.ensures ∙ c.in_ok-test_strict.was) in
    let d = call-done p (length a.out.now) (length a.w.now) (length a.«iw».now) (sym t ∙ sym c.test_file.ensures ∙ c.in_ok-test_file.was) in
    all-passed _ _ _ _ _ _ _ _ _ d.the_answer c.write_all.ensures
