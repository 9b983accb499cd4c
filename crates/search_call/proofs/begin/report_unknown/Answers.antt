-- `report_unknown`: values that are not known, and the clipped start.
use mathlib.Core.Path.{ap, ◌∙◌}
use mathlib.Core.List.{List}
use native.Mathlib.Omega.{arith}
use lib.Ieee.{Float}
use Rattle.search.specs.Layout.{laid}
use Rattle.search_call.specs.inner.Work.{clipped_in}
use Rattle.search_call.proofs.begin.report_unknown.Goals as goal

pub forget_values-requires : goal.forget_values-requires
forget_values-requires c = (omega arith, omega arith)

pub clip_into-requires : goal.clip_into-requires
clip_into-requires c = (omega arith, omega arith, omega arith, omega arith, omega arith, omega arith)

pub shape_of-f : goal.shape_of-f
shape_of-f c = omega arith

pub returns : goal.returns
returns c = let a = c.args in
    let y = clipped_in a.n a.lower.now a.upper.now a.x.now in
    c.clip_into.ensures ∙ ap (λ (g : List Float). laid 48 y g) c.forget_values.ensures
