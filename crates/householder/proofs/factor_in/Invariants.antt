-- `factor_in`: what is still to do at step k gives the factors.
use mathlib.Core.Path.{◌≡◌}
use Prim.Native.Nat.{◌-◌, min}
use lib.ListN.{length}
use Rattle.workspace.specs.Readings.{mat}
use Rattle.householder.specs.Qr.{steps, factor}
use Rattle.householder.specs.inner.Work.{held, Unmade}
use Rattle.householder.proofs.factor_in.Given as goal

abbrev pub invariant-loop-k : goal.invariant-loop-k
invariant-loop-k l = (l.c ≡ min l.m l.n) × (length l.w ≡ length l.initial.w) × (length l.iw ≡ length l.initial.iw) × (factor l.m l.n (mat 426 l.m l.n l.initial.w) ≡ steps l.m l.n (l.c - l.k) l.k l.tol (held l.m l.n l.k l.w l.iw)) × Unmade l.k (min l.m l.n) l.w
