-- `better`, each way out by its tests.
use mathlib.Core.Path.{sym, ◌∙◌}
use lib.Ieee.{of_bits}
use Rattle.nnls.proofs.Choosing.{stays-passive, stays-rejected, stays-not-above, stays-above, wins}
use Rattle.nnls.proofs.better.Goals as goal

pub returns-then-behind : goal.returns-then-behind
returns-then-behind c = stays-above _ _ _ _ _ (sym c.leads-behind.ensures ∙ c.if-behind.true)

pub returns-then-not-dual : goal.returns-then-not-dual
unfolding of_bits
returns-then-not-dual c = stays-not-above _ _ _ _ _ c.if-not-dual.true

pub returns-then-passive-ne0 : goal.returns-then-passive-ne0
returns-then-passive-ne0 c = stays-passive _ _ _ _ _ c.if-passive-ne0.true

pub returns-then-rejected-ne0 : goal.returns-then-rejected-ne0
returns-then-rejected-ne0 c = stays-rejected _ _ _ _ _ c.if-rejected-ne0.true

pub returns : goal.returns
unfolding of_bits
returns c = wins _ _ _ _ _ c.if-passive-ne0.false c.if-rejected-ne0.false c.if-not-dual.false (sym c.leads-behind.ensures ∙ c.if-behind.false)
