-- `pair_multipliers`: after j turns j multipliers are in order, and r rows are passed.
use mathlib.Core.Path.{◌≡◌, refl, ◌∙◌}
use native.Mathlib.Omega.{arith}
use lib.ListN.{length, length-set}
use lib.Ieee.{nan}
use Rattle.numbers.specs.Numbers.{nth}
use Rattle.workspace.proofs.Writes.{written_none, written-more}
use Rattle.step.proofs.Ordering.{rows_none, rows_more, rows_left, paired-next, paired-kept}
use Rattle.step.proofs.assembly.pair_multipliers.Goals as goal

pub loop-j-init : goal.loop-j-init
loop-j-init c = (omega arith, refl, rows_none _ _ _ (omega arith), written_none nan _ _ _)

pub paired_of-v-requires : goal.paired_of-v-requires
paired_of-v-requires c = let l = c.loop-j in
    (omega (arith, rows_left _ _ _ _ _ l.invariant.2 (omega arith)), omega arith)

pub passed_rows-r-requires : goal.passed_rows-r-requires
passed_rows-r-requires c = let l = c.loop-j in
    omega (arith, rows_left _ _ _ _ _ l.invariant.2 (omega arith))

pub loop-j-preserved : goal.loop-j-preserved
loop-j-preserved c = let l = c.loop-j in
    let p = c.paired_of-v in
    let v = paired-kept 2106 36 (nth c.args.kinds.now l.j) l.r l.j _ c.args.w.now l.w p.result (omega arith) l.invariant.3 p.ensures ∙ paired-next 2106 _ _ _ _ _ l.invariant.2 (omega arith) in
    (omega arith, simp length-set l.invariant.1, rw c.passed_rows-r.ensures (rows_more _ _ _ _ _ l.invariant.2 (omega arith)), written-more nan _ _ _ _ _ _ (omega arith) v l.invariant.3)

pub returns : goal.returns
returns c = let e : c.loop-j.j ≡ length c.args.kinds.now = omega arith in rw (← e) c.loop-j.invariant.3
