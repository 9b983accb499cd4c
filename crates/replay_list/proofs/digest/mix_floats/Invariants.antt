-- `mix_floats`: `d` has the first entries.
use mathlib.Core.Path.{◌≡◌}
use Rattle.numbers.specs.Numbers.{at}
use Rattle.replay_list.specs.Digest.{over, pattern_of}
use Rattle.replay_list.proofs.digest.mix_floats.Given as goal

abbrev pub invariant-loop-x : goal.invariant-loop-x
invariant-loop-x l = l.d ≡ over l.x-index (l.digest) (λ k. pattern_of (at l.xs k))
