-- `put_kept`: the first j of the sheet's limits are told.
use mathlib.Core.Path.{◌≡◌, refl, ap, ◌∙◌}
use Prim.Native.Nat.{◌+◌, ◌-◌, ◌<◌}
use native.Mathlib.Omega.{arith}
use lib.ListN.{length-set}
use Rattle.numbers.proofs.Lists.{row_fits}
use Rattle.workspace.proofs.Writes.{written_none, written-more}
use Rattle.day_volumes.specs.Found.{flag}
use Rattle.day_volumes.proofs.tables.put_kept.Goals as goal

pub loop-j-init : goal.loop-j-init
loop-j-init c = (omega arith, refl, written_none _ _ _ _)

pub keeps-requires : goal.keeps-requires
keeps-requires c = let d = c.args.day.now in
    let g = c.requires in
    let h : d.p - c.args.q + c.loop-j.j < d.p = omega (arith, g.1, c.loop-j-test.true) in
    (omega (arith, row_fits _ d.n _ h, d.limit), omega (arith, h, d.least_of_limit), omega (arith, g.2))

pub bounds-out-j : goal.bounds-out-j
bounds-out-j c = omega (arith, c.loop-j.invariant.1, c.requires.0, c.requires.3)

pub loop-j-preserved : goal.loop-j-preserved
loop-j-preserved c = let l = c.loop-j in (omega arith, simp length-set l.invariant.1, written-more _ _ _ _ _ _ _ (omega (arith, l.invariant.1, c.requires.0, c.requires.3)) (c.flag.ensures ∙ ap flag c.keeps.ensures) l.invariant.2)

pub returns : goal.returns
returns c = let l = c.loop-j in let e : l.j ≡ c.args.q = omega arith in rw e at l.invariant.2
