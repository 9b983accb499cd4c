-- `number_with_place`: the place is stored where there is one.
use mathlib.Core.Path.{refl, sym, ap, ◌∙◌}
use borrow.Author.Tests.{eq-eqb, ne_eqb}
use Rattle.workspace.specs.Tables.{outcome_number}
use Rattle.gritstrut.proofs.Leaves.{some-place, no_place}
use Rattle.gritstrut.proofs.number_with_place.Goals as goal

pub returns-in-Ok : goal.returns-in-Ok
returns-in-Ok c = rw c.in-Ok.is (refl, refl)

pub returns-then-at : goal.returns-then-at
returns-then-at c = let q = c.in-Err.is in
    (c.number-number.ensures ∙ ap outcome_number (sym q), some-place _ _ _ _ q c.place-at.ensures (ne_eqb _ _ c.if-at.true))

pub returns-else-at : goal.returns-else-at
returns-else-at c = let q = c.in-Err.is in
    (c.number-number.ensures ∙ ap outcome_number (sym q), no_place _ _ _ _ q c.place-at.ensures (eq-eqb _ _ c.if-at.false))
