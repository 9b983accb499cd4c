-- `write_tests`: after i turns i tests are written.
use mathlib.Core.Path.{◌≡◌, refl, sym, ap₂, ◌∙◌}
use mathlib.Core.List.{List}
use Prim.Native.Nat.{◌+◌}
use native.Mathlib.Omega.{arith}
use lib.ListN.{length-set}
use lib.Ieee.{Float, nan}
use Rattle.numbers.specs.Numbers.{at}
use Rattle.workspace.specs.Readings.{vec}
use Rattle.workspace.proofs.Readings.{at-vec}
use Rattle.workspace.proofs.Writes.{written_none, written-more}
use Rattle.suspect.specs.Suspect.{correction, test_of, tests}
use Rattle.suspect.proofs.Measures.{directions-stay, gaps-stay, vector-written}
use Rattle.suspect.proofs.measure.write_tests.Goals as goal

pub loop-i-init : goal.loop-i-init
loop-i-init c = (omega arith, refl, written_none _ _ _ _)

pub loop-i-preserved : goal.loop-i-preserved
loop-i-preserved c = let l = c.loop-i in
    let d = directions-stay c.args.n c.args.w.now l.w c.requires.0 (λ x h. l.invariant.2.before x (omega arith)) in
    let y = gaps-stay c.args.r c.args.w.now l.w (omega arith) (λ x h. l.invariant.2.before x (omega arith)) in
    let h : at l.w (1020 + l.i) ≡ at (vec 1020 c.args.n c.args.w.now) l.i = l.invariant.2.before (1020 + l.i) (omega arith) ∙ sym (at-vec 1020 c.args.n c.args.w.now l.i (omega arith)) in (
      omega arith,
      simp length-set l.invariant.1,
      written-more nan 1056 l.i _ c.args.w.now l.w _ (omega arith)
          (c.test_of.ensures ∙ ap₂ test_of h (c.correction_of-p.ensures ∙ ap₂ (λ (a y : List Float). correction c.args.n c.args.r a y l.i) d y)) l.invariant.2,
    )

pub shape_of-w : goal.shape_of-w
shape_of-w c = c.loop-i.invariant.1

pub returns : goal.returns
unfolding tests
returns c = let l = c.loop-i in let e : l.i ≡ c.args.n = omega arith in vector-written 1056 _ _ _ _ (rw e at l.invariant.2)
