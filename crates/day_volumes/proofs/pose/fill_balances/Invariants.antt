use mathlib.Core.Path.{◌≡◌}
use Prim.Native.Nat.{◌+◌, ◌-◌, ◌*◌, ◌≤◌}
use lib.ListN.{length, take}
use Rattle.numbers.specs.Numbers.{at, grid}
use Rattle.day_volumes.specs.Posed.{balance_row}
use Rattle.day_volumes.proofs.pose.fill_balances.Given as goal

abbrev pub invariant-loop-j : goal.invariant-loop-j
invariant-loop-j l = (l.j ≤ l.m) × (length l.out ≡ length l.initial.out) × (take (l.j * l.n) l.out ≡ grid l.j l.n (λ k i. at l.f (balance_row k + i)))

abbrev pub decreases-loop-j : goal.decreases-loop-j
decreases-loop-j l = l.m - l.j
