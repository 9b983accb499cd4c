-- `turn_all`: after `count` turns what is left of the turns gives the answer.
use mathlib.Core.Path.{◌≡◌}
use lib.ListN.{length}
use Rattle.nnls.specs.inner.State.{read}
use Rattle.nnls.proofs.Turning.{Turning}
use Rattle.nnls.proofs.turn_all.Given as goal

abbrev pub invariant-loop-count : goal.invariant-loop-count
invariant-loop-count l = (length l.w ≡ length l.initial.w) × (length l.iw ≡ length l.initial.iw) × Turning l.m l.n l.f (read l.m l.n l.initial.w l.initial.iw) (read l.m l.n l.w l.iw) l.count
