-- `read`: before turn i the bytes from i on are added up.
use mathlib.Core.Path.{◌≡◌}
use Prim.Native.Nat.{◌-◌, ◌^◌, ◌<◌}
use lib.ListN.{take, drop}
use Rattle.endian.specs.Little.{little}
use Rattle.endian.proofs.read.Given as goal

abbrev pub invariant-loop-i : goal.invariant-loop-i
invariant-loop-i l = (l.v ≡ little (drop l.i (take l.k (drop l.at l.s)))) × (l.v < 256 ^ (l.k - l.i))
