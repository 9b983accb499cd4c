-- `try_all`: after `count` tries what is left of the pass gives the answer.
use mathlib.Core.Path.{◌≡◌}
use lib.ListN.{length}
use Rattle.nnls.specs.inner.State.{read}
use Rattle.nnls.proofs.Passing.{Trying}
use Rattle.nnls.proofs.try_all.Given as goal

abbrev pub invariant-loop-count : goal.invariant-loop-count
invariant-loop-count l = (length l.w ≡ length l.initial.w) × (length l.iw ≡ length l.initial.iw) × Trying l.m l.n l.f (read l.m l.n l.initial.w l.initial.iw) (read l.m l.n l.w l.iw) l.count
