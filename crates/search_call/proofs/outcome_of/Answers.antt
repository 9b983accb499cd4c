-- `outcome_of`: by its test.
use borrow.Author.Tests.{eq-eqb, ne_eqb}
use Rattle.search_call.proofs.outcome_of.Goals as goal

pub returns-then-phase-eq-PHASE_NONFINITE : goal.returns-then-phase-eq-PHASE_NONFINITE
returns-then-phase-eq-PHASE_NONFINITE c = rw (eq-eqb _ _ c.if-phase-eq-PHASE_NONFINITE.true)

pub returns : goal.returns
returns c = rw (ne_eqb _ _ c.if-phase-eq-PHASE_NONFINITE.false)
