-- `mix_marks`: `d` has the first entries.
use mathlib.Core.Path.{◌≡◌}
use Rattle.numbers.specs.Numbers.{nth}
use Rattle.replay_list.specs.Digest.{over}
use Rattle.replay_list.proofs.digest.mix_marks.Given as goal

abbrev pub invariant-loop-x : goal.invariant-loop-x
invariant-loop-x l = l.d ≡ over l.x-index (l.digest) (λ k. nth l.xs k)
