-- `write_spreads`: after i turns i spreads are written.
use mathlib.Core.Path.{◌≡◌, refl, ap, ◌∙◌}
use mathlib.Core.List.{List}
use native.Mathlib.Omega.{arith}
use lib.ListN.{length-set}
use lib.Ieee.{Float, nan}
use Rattle.numbers.specs.Numbers.{at, nth}
use Rattle.workspace.proofs.Writes.{written_none, written-more}
use Rattle.suspect.specs.Suspect.{unseen, new_spread, new_spreads}
use Rattle.suspect.proofs.Measures.{directions-stay, vector-written}
use Rattle.suspect.proofs.measure.write_spreads.Goals as goal

pub loop-i-init : goal.loop-i-init
loop-i-init c = (omega arith, refl, written_none _ _ _ _)

pub loop-i-preserved : goal.loop-i-preserved
loop-i-preserved c = let d = c.args.day.now in let l = c.loop-i in
    let s = directions-stay d.n c.args.w.now l.w d.few_meters (λ x h. l.invariant.2.before x (omega arith)) in (
      omega arith,
      simp length-set l.invariant.1,
      written-more nan 1038 l.i _ c.args.w.now l.w _ (omega arith)
          (c.new_spread.ensures ∙ ap (λ (t : Float). new_spread (nth d.still.now l.i) (at d.spreads.now l.i) t) (c.unseen_of-t.ensures ∙ ap (λ (a : List Float). unseen d.n c.args.r a l.i) s)) l.invariant.2,
    )

pub returns : goal.returns
unfolding new_spreads
returns c = let l = c.loop-i in let e : l.i ≡ c.args.day.now.n = omega arith in vector-written 1038 _ _ _ _ (rw e at l.invariant.2)
