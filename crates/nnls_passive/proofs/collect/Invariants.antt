-- `collect`: after t turns t columns are copied.
use mathlib.Core.Path.{◌≡◌}
use Prim.Native.Nat.{◌-◌, ◌≤◌}
use lib.ListN.{length}
use Rattle.nnls_passive.specs.inner.Work.{Collected}
use Rattle.nnls_passive.proofs.collect.Given as goal

abbrev pub invariant-loop-t : goal.invariant-loop-t
invariant-loop-t l = (l.t ≤ l.c) × (length l.w ≡ length l.initial.w) × Collected l.m l.t l.iw l.initial.w l.w

abbrev pub decreases-loop-t : goal.decreases-loop-t
decreases-loop-t l = l.c - l.t
