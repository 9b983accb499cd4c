-- `write_bound`: nothing without a variable, else six entries.
use native.Mathlib.Omega.{arith}
use borrow.Author.Tests.{eq-eqb, ne_eqb}
use Rattle.gritstrut.proofs.Leaves.{bound-written, bound-left}
use Rattle.gritstrut.proofs.steps.write_bound.Goals as goal

pub returns-then-variable : goal.returns-then-variable
returns-then-variable c = let a = c.args in bound-left a.why a.report.now _ c.place-variable.ensures (eq-eqb _ _ c.if-variable.true)

pub write_entries-requires : goal.write_entries-requires
write_entries-requires c = c.requires

pub returns : goal.returns
returns c = let a = c.args in
    bound-written a.why a.report.now _ _ _ c.number-number.ensures c.place-variable.ensures (ne_eqb _ _ c.if-variable.false) c.write_entries.ensures
