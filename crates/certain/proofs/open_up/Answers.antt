use Rattle.certain.specs.Bound.{open_term, open_up}
use Rattle.certain.proofs.Laws.{row_in, row-starts}
use Rattle.interval.proofs.Answers.{up_none, up_more, up_done}
use native.Mathlib.Omega.{arith}
use mathlib.Core.Path.{◌≡◌, ap, ◌∙◌}
use Rattle.certain.proofs.open_up.Goals as goal

pub loop-j-init : goal.loop-j-init
loop-j-init c = up_none _

pub row_within-c-requires : goal.row_within-c-requires
row_within-c-requires c = (λ i l. row_in i _ _ _ _ l c.loop-j-test.true c.requires.0, c.requires.1, row-starts _ _ _ _ c.loop-j-test.true c.requires.0)

pub offset_bounds-y-j : goal.offset_bounds-y-j
offset_bounds-y-j c = omega arith

pub bounds-y-j : goal.bounds-y-j
bounds-y-j c = omega (arith, c.requires.2)

pub loop-j-preserved : goal.loop-j-preserved
loop-j-preserved c = up_more _ _ _ c.open_term.result _ c.add_up-sum.ensures (c.open_term.ensures ∙ ap (open_term _) c.row_within-c.ensures) c.loop-j.invariant

pub returns : goal.returns
unfolding open_up
returns c = let e : c.loop-j.j ≡ c.args.m = omega arith in up_done _ _ _ _ e c.loop-j.invariant
