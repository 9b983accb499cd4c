-- `largest_pattern` meets its contract: laws of `proofs/Patterns.antt`.
use Rattle.norms.specs.inner.Patterns.{LargestPattern}
use Rattle.norms.proofs.largest_pattern.Given as goal

abbrev pub invariant-loop-x : goal.invariant-loop-x
invariant-loop-x l = LargestPattern l.x-index l.xs l.most
