-- `mix_kinds`: `d` has the first entries.
use mathlib.Core.Path.{◌≡◌}
use lib.ListN.{length}
use Rattle.numbers.specs.Numbers.{nth}
use Rattle.replay_list.specs.Digest.{over, mix}
use Rattle.replay_list.proofs.digest.mix_kinds.Given as goal

abbrev pub invariant-loop-x : goal.invariant-loop-x
invariant-loop-x l = l.d ≡ over l.x-index (mix l.digest (length l.xs)) (λ k. nth l.xs k)
