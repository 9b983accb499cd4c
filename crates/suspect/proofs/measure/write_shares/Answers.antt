-- `write_shares`: after i turns i shares are written.
use mathlib.Core.Path.{◌≡◌, refl, ap, ◌∙◌}
use mathlib.Core.List.{List}
use native.Mathlib.Omega.{arith}
use lib.ListN.{length-set}
use lib.Ieee.{Float, nan}
use Rattle.workspace.proofs.Writes.{written_none, written-more}
use Rattle.suspect.specs.Suspect.{share, shares}
use Rattle.suspect.proofs.Measures.{directions-stay, vector-written}
use Rattle.suspect.proofs.measure.write_shares.Goals as goal

pub loop-i-init : goal.loop-i-init
loop-i-init c = (omega arith, refl, written_none _ _ _ _)

pub share_of-h-requires : goal.share_of-h-requires
share_of-h-requires c = (omega arith, c.requires.0, omega (arith, c.loop-i.invariant.1, c.requires.1))

pub loop-i-preserved : goal.loop-i-preserved
loop-i-preserved c = let d = c.args.day.now in let l = c.loop-i in
    let s = directions-stay d.n c.args.w.now l.w d.few_meters l.invariant.2.before in
    (omega arith, simp length-set l.invariant.1, written-more nan 1020 l.i _ c.args.w.now l.w _ (omega arith) (c.share_of-h.ensures ∙ ap (λ (q : List Float). share d.n d.m c.args.r d.spreads.now d.balances.now d.still.now q l.i) s) l.invariant.2)

pub returns : goal.returns
unfolding shares
returns c = let l = c.loop-i in let e : l.i ≡ c.args.day.now.n = omega arith in vector-written 1020 _ _ _ _ (rw e at l.invariant.2)
