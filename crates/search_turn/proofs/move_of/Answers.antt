use mathlib.Core.Path.{ap, ◌∙◌}
use lib.Ieee.{Float, round, of_bits}
use Rattle.numbers.specs.Numbers.{one, ◌⊗◌}
use Rattle.search.specs.Turn.{move_of, larger, root_epsilon}
use Rattle.search_turn.proofs.move_of.Goals as goal

pub returns : goal.returns
unfolding move_of round of_bits
returns c = ap (λ (t : Float). root_epsilon ⊗ t) (c.larger_of.ensures ∙ ap (λ (t : Float). larger t one) c.magnitude_of.ensures)
