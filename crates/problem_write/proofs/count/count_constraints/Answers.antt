-- `count_constraints`: before each turn the kinds so far are counted.
use mathlib.Core.Path.{◌≡◌, ap, ◌∙◌}
use Prim.Native.Nat.{ℕ}
use native.Mathlib.Omega.{arith}
use lib.ListN.{length}
use Rattle.numbers.specs.Numbers.{nth}
use Rattle.problem_write.specs.inner.Work.{records_of_kinds}
use Rattle.problem_write.proofs.Rows.{kinds-none, kinds-more, kinds-few, kind-few}
use Rattle.problem_write.proofs.count.count_constraints.Goals as goal

pub loop-kind-init : goal.loop-kind-init
loop-kind-init c = kinds-none c.args.kinds.now

pub overflow_add-total : goal.overflow_add-total
overflow_add-total c = let a = c.args in
    let l = c.loop-kind in
    let f = kinds-few l.kind-index a.kinds.now in
    let g = kind-few (nth a.kinds.now l.kind-index) in
    let h = c.requires in
    omega (arith, f, g, h, l.invariant, c.count_constraint-total.ensures)

pub loop-kind-preserved : goal.loop-kind-preserved
loop-kind-preserved c = let l = c.loop-kind in kinds-more c.args.kinds.now l.kind-index l.total _ l.invariant c.count_constraint-total.ensures

pub returns : goal.returns
returns c = let a = c.args in let l = c.loop-kind in let e : l.kind-index ≡ length a.kinds.now = omega arith in l.invariant ∙ ap (λ (x : ℕ). records_of_kinds x a.kinds.now) e
