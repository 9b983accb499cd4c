use Rattle.search_next.proofs.Sloped.{single-raised, single-second}
use borrow.Author.Tests.{eq-eqb, ne_eqb}
use Rattle.search_next.proofs.single_next.Goals as goal

pub returns-then-u-eq-PHASE_RAISED : goal.returns-then-u-eq-PHASE_RAISED
returns-then-u-eq-PHASE_RAISED c = let a = c.args in single-raised a.n a.m a.value a.f.now _ a.u.now _ (eq-eqb _ _ c.if-u-eq-PHASE_RAISED.true) (rw (← c.wide-rows.ensures, ← c.wide-cols.ensures) c.lower_next.ensures)

pub returns : goal.returns
returns c = let a = c.args in single-second a.n a.m a.value a.f.now _ a.u.now _ (ne_eqb _ _ c.if-u-eq-PHASE_RAISED.false) (rw (← c.wide-rows.ensures, ← c.wide-cols.ensures) c.both_next.ensures)
