-- `order_multipliers`: after j turns j multipliers are in order, and e equalities and i rows of floors and bands are passed.
use mathlib.Core.Path.{◌≡◌, refl, ◌∙◌}
use native.Mathlib.Omega.{arith}
use lib.ListN.{length, length-set}
use lib.Ieee.{nan}
use Rattle.numbers.specs.Numbers.{nth}
use Rattle.workspace.proofs.Writes.{written_none, written-more}
use Rattle.step.proofs.Ordering.{passed_none, passed-more, placed, ordered-kept}
use Rattle.step.proofs.assembly.order_multipliers.Goals as goal

pub loop-j-init : goal.loop-j-init
loop-j-init c = (omega arith, refl, passed_none _ _ _ _ (omega arith) (omega arith), written_none nan _ _ _)

pub ordered_of-v-requires : goal.ordered_of-v-requires
ordered_of-v-requires c = let p = c.loop-j.invariant.2 in
    (omega (arith, p.some), omega (arith, p.others), omega arith)

pub passed-e-requires : goal.passed-e-requires
passed-e-requires c = omega (arith, c.loop-j.invariant.2.some)

pub passed_floors-i-requires : goal.passed_floors-i-requires
passed_floors-i-requires c = omega (arith, c.loop-j.invariant.2.others)

pub loop-j-preserved : goal.loop-j-preserved
loop-j-preserved c = let l = c.loop-j in
    let p = c.ordered_of-v in
    let v = ordered-kept 378 4350 36 (nth c.args.kinds.now l.j) l.e l.i l.j _ c.args.w.now l.w p.result (omega arith) (omega arith) l.invariant.3 p.ensures ∙ placed 378 4350 _ _ _ _ _ _ _ l.invariant.2 (omega arith) in
    (omega arith, simp length-set l.invariant.1, rw (c.passed-e.ensures, c.passed_floors-i.ensures) (passed-more _ _ _ _ _ _ _ l.invariant.2 (omega arith)), written-more nan _ _ _ _ _ _ (omega arith) v l.invariant.3)

pub returns : goal.returns
returns c = let e : c.loop-j.j ≡ length c.args.kinds.now = omega arith in rw (← e) c.loop-j.invariant.3
