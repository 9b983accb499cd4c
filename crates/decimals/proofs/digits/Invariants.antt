-- `digits`: before each turn the digits from i on, after those that stand for v, give the answer.
use mathlib.Core.Path.{◌≡◌}
use Prim.Native.Nat.{◌≤◌, max}
use lib.ListN.{length}
use Rattle.decimals.specs.inner.Work.{run_from}
use Rattle.decimals.proofs.digits.Given as goal

abbrev pub invariant-loop-i : goal.invariant-loop-i
invariant-loop-i l = (l.v ≤ 1000000000000000) × (l.i ≤ max l.from (length l.bytes)) × (run_from l.bytes l.from l.value ≡ run_from l.bytes l.i l.v)
