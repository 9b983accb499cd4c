-- `write`: before turn i the bytes from i on are still to come.
use mathlib.Core.Path.{◌≡◌}
use Prim.Native.Nat.{◌+◌, ◌-◌}
use Rattle.endian.specs.Little.{bytes, placed}
use Rattle.endian.proofs.write.Given as goal

abbrev pub invariant-loop-i : goal.invariant-loop-i
invariant-loop-i l = placed (l.at + l.i) (bytes (l.k - l.i) l.rest) l.s ≡ placed l.at (bytes l.k l.x) l.initial.s
