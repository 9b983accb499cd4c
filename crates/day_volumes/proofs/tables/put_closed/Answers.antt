-- `put_closed`: the first j balances are told.
use mathlib.Core.Path.{◌≡◌, refl, ap, ◌∙◌}
use native.Mathlib.Omega.{arith}
use lib.ListN.{length-set}
use Rattle.numbers.proofs.Lists.{row_fits}
use Rattle.workspace.proofs.Writes.{written_none, written-more}
use Rattle.day_volumes.specs.Found.{flag}
use Rattle.day_volumes.proofs.tables.put_closed.Goals as goal

pub loop-j-init : goal.loop-j-init
loop-j-init c = (omega arith, refl, written_none _ _ _ _)

pub closes-requires : goal.closes-requires
closes-requires c = let d = c.args.day.now in (omega (arith, row_fits d.m d.n c.loop-j.j c.loop-j-test.true, d.balance), omega (arith, c.requires.0))

pub bounds-out-j : goal.bounds-out-j
bounds-out-j c = omega (arith, c.loop-j.invariant.1, c.args.day.now.few_balances, c.requires.1)

pub loop-j-preserved : goal.loop-j-preserved
loop-j-preserved c = let l = c.loop-j in (omega arith, simp length-set l.invariant.1, written-more _ _ _ _ _ _ _ (omega (arith, l.invariant.1, c.args.day.now.few_balances, c.requires.1)) (c.flag.ensures ∙ ap flag c.closes.ensures) l.invariant.2)

pub returns : goal.returns
returns c = let l = c.loop-j in let e : l.j ≡ c.args.day.now.m = omega arith in rw e at l.invariant.2
