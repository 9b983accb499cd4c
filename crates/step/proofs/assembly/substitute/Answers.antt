-- `substitute`: after i turns i entries are solved for.
use mathlib.Core.Path.{◌≡◌, refl, ap, ◌∙◌}
use Prim.Native.Nat.{ℕ}
use native.Mathlib.Omega.{arith}
use lib.ListN.{length-set}
use Rattle.numbers.specs.Numbers.{transposed}
use Rattle.workspace.specs.Readings.{vec}
use Rattle.householder.specs.Qr.{downward}
use Rattle.step.proofs.Target.{forward-none, forward-more}
use Rattle.step.proofs.assembly.substitute.Goals as goal

pub loop-i-init : goal.loop-i-init
loop-i-init c = (omega arith, refl, forward-none _ _ _)

pub loop-i-preserved : goal.loop-i-preserved
loop-i-preserved c = let l = c.loop-i in
    (omega arith, simp length-set l.invariant.1, forward-more _ _ _ _ _ _ (omega arith) (omega arith) l.invariant.2 c.solved_entry-v.ensures)

pub returns : goal.returns
returns c = let e : c.loop-i.i ≡ c.args.n = omega arith in
    let a = c.args in
    c.loop-i.invariant.2 ∙ ap (λ (i : ℕ). downward a.n (transposed a.n a.n a.factor.now) i (vec 0 a.n a.w.now)) e
