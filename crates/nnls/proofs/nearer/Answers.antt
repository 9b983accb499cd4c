-- `nearer`, each way out by its tests.
use mathlib.Core.Path.{sym, ◌∙◌}
use lib.Ieee.{of_bits}
use Rattle.nnls.proofs.Blockers.{stays_out, stays_up, stays-later, takes-sooner, takes_first}
use Rattle.nnls.proofs.nearer.Goals as goal

pub returns-then-passive-eq0 : goal.returns-then-passive-eq0
returns-then-passive-eq0 c = stays_out _ _ _ _ _ c.if-passive-eq0.true

pub returns-then-not-z : goal.returns-then-not-z
unfolding of_bits
returns-then-not-z c = stays_up _ _ _ _ _ c.if-not-z.true

pub returns-then-not-sooner : goal.returns-then-not-sooner
returns-then-not-sooner c = sym c.in-Some.is ∙ stays-later _ _ _ _ _ _ c.ratio_of-ratio.ensures _ c.in-Some.is _ c.ranks_before-sooner.ensures
    c.if-not-sooner.true

pub returns-else-not-sooner : goal.returns-else-not-sooner
unfolding of_bits
returns-else-not-sooner c = takes-sooner _ _ _ _ _ _ c.ratio_of-ratio.ensures c.if-passive-eq0.false c.if-not-z.false _ c.in-Some.is _
    c.ranks_before-sooner.ensures c.if-not-sooner.false

pub returns-in_default : goal.returns-in_default
unfolding of_bits
returns-in_default c = takes_first _ _ _ _ _ _ c.ratio_of-ratio.ensures c.if-passive-eq0.false c.if-not-z.false c.in_default.is
