-- `find_place`: the names not compared yet give the answer.
use mathlib.Core.Path.{◌≡◌}
use Prim.Native.Nat.{◌-◌, ◌≤◌}
use Rattle.sheet_words.specs.Names.{place_of}
use Rattle.sheet_words.proofs.find_place.Given as goal

abbrev pub invariant-loop-k : goal.invariant-loop-k
invariant-loop-k l = (l.k ≤ 16) × (place_of 16 0 l.name l.texts ≡ place_of (16 - l.k) l.k l.name l.texts)

abbrev pub decreases-loop-k : goal.decreases-loop-k
decreases-loop-k l = 16 - l.k
