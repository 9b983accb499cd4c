use mathlib.Core.Path.{refl, sym, ◌∙◌}
use lib.Ieee.{round, of_bits}
use Rattle.search.specs.Turn.{shorter}
use Rattle.search_turn.proofs.shorter_of.Goals as goal

pub returns-then-is_finite : goal.returns-then-is_finite
unfolding shorter round of_bits
returns-then-is_finite c = λ n. c.clip_to.ensures ∙ rw (sym c.is_finite.ensures ∙ c.if-is_finite.true) refl

pub returns : goal.returns
unfolding shorter round of_bits
returns c = λ n. rw (sym c.is_finite.ensures ∙ c.if-is_finite.false) refl
