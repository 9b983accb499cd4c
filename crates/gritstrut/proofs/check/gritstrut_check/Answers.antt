-- `gritstrut_check`: entries of another number are refused; else what the outcome tells goes out.
use mathlib.Core.Path.{sym, ◌∙◌}
use borrow.Author.Tests.{ne_eqb}
use Rattle.step_rows.specs.Problem.{problem_of}
use Rattle.step_check.specs.Check.{pasted_of}
use Rattle.gritstrut.proofs.Checking.{check-leaves, no-entries, no_size}
use native.Mathlib.Omega.{arith}
use Rattle.gritstrut.proofs.check.gritstrut_check.Goals as goal

pub returns-then-are_sizes : goal.returns-then-are_sizes
returns-then-are_sizes c = let a = c.args in
    let p = problem_of a.n a.m a.factor.now a.gradient.now a.kinds.now a.values.now a.widths.now a.jacobian.now a.lower.now a.upper.now in
    let s = pasted_of a.d.now a.multipliers.now a.lowers.now a.uppers.now in
    no-entries p s a.tolerance _ _ _ (ne_eqb _ _ c.if-verdict-ne-ENTRIES.true) (sym c.are_sizes.ensures ∙ c.if-are_sizes.true) _ c.number.ensures

pub returns-then-verdict-ne-ENTRIES : goal.returns-then-verdict-ne-ENTRIES
returns-then-verdict-ne-ENTRIES c = let a = c.args in
    let p = problem_of a.n a.m a.factor.now a.gradient.now a.kinds.now a.values.now a.widths.now a.jacobian.now a.lower.now a.upper.now in
    let s = pasted_of a.d.now a.multipliers.now a.lowers.now a.uppers.now in
    no_size p s a.tolerance _ _ _ (sym c.are_sizes.ensures ∙ c.if-are_sizes.false) _ c.number-then-verdict-ne-ENTRIES.ensures

pub tell_verdict-requires : goal.tell_verdict-requires
tell_verdict-requires c = c.if-verdict-ne-ENTRIES.false

pub returns : goal.returns
returns c = let a = c.args in
    let p = problem_of a.n a.m a.factor.now a.gradient.now a.kinds.now a.values.now a.widths.now a.jacobian.now a.lower.now a.upper.now in
    let s = pasted_of a.d.now a.multipliers.now a.lowers.now a.uppers.now in
    check-leaves p s a.tolerance _ _ _ c.if-verdict-ne-ENTRIES.false _ _ _ _ _ c.step-answer.ensures c.tell_verdict.ensures
