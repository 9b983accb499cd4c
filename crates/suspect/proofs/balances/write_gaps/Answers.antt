-- `write_gaps`: after t turns t gaps are written.
use mathlib.Core.Path.{◌≡◌, refl, ap, ◌∙◌}
use native.Mathlib.Omega.{arith}
use lib.ListN.{length-set}
use lib.Ieee.{nan, neg}
use Rattle.numbers.specs.Numbers.{nth}
use Rattle.workspace.proofs.Writes.{written_none, written-more}
use Rattle.workspace.proofs.Copies.{row_in}
use Rattle.suspect.proofs.Preparing.{few, gap_is}
use Rattle.suspect.proofs.balances.write_gaps.Goals as goal

pub loop-t-init : goal.loop-t-init
loop-t-init c = (omega arith, refl, written_none _ _ _ _)

pub overflow_cast-k : goal.overflow_cast-k
overflow_cast-k c = let l = c.loop-t in omega (arith, c.requires.3 l.t (omega arith), c.args.day.now.few_balances)

pub overflow_mul-k : goal.overflow_mul-k
overflow_mul-k c = let d = c.args.day.now in let l = c.loop-t in omega (arith, few (nth c.args.iw.now l.t) d.n (omega (arith, c.requires.3 l.t (omega arith), d.few_balances)) d.few_meters)

pub dot_strided-g-requires : goal.dot_strided-g-requires
dot_strided-g-requires c = let d = c.args.day.now in let l = c.loop-t in record { by_index = row_in d.m d.n (nth c.args.iw.now l.t) _ (c.requires.3 l.t (omega arith)) d.balance; by_index_2 = λ i h. omega (arith, d.value) }

pub loop-t-preserved : goal.loop-t-preserved
loop-t-preserved c = let d = c.args.day.now in let l = c.loop-t in (omega arith, simp length-set l.invariant.1, written-more nan 714 l.t _ _ l.w _ (omega arith) (ap neg (c.dot_strided-g.ensures ∙ gap_is d.n (nth c.args.iw.now l.t) d.values.now d.balances.now)) l.invariant.2)

pub returns : goal.returns
returns c = let l = c.loop-t in let e : l.t ≡ c.args.r = omega arith in rw (← e) l.invariant.2
