-- `ask_first`: the clipped start is reported and asked about, and two words are written.
use mathlib.Core.Path.{refl, ap, ◌∙◌}
use mathlib.Core.List.{List}
use native.Mathlib.Omega.{arith}
use lib.ListN.{length-set}
use lib.Ieee.{Float}
use Rattle.numbers.proofs.Lists.{length-tab}
use Rattle.search.specs.Layout.{laid}
use Rattle.search_call.specs.inner.Work.{clipped_in}
use Rattle.search_call.proofs.Posing.{asked-first}
use Rattle.search_call.proofs.begin.ask_first.Goals as goal

pub report_unknown-requires : goal.report_unknown-requires
report_unknown-requires c = (omega arith, omega arith, omega arith, omega arith, omega arith, omega arith)

pub clip_into-requires : goal.clip_into-requires
clip_into-requires c = (omega arith, omega arith, omega arith, omega arith, omega arith, omega arith)

pub copy_up-requires : goal.copy_up-requires
copy_up-requires c = (omega arith, omega arith)

pub bounds-u-0 : goal.bounds-u-0
bounds-u-0 c = omega arith

pub bounds-u-1 : goal.bounds-u-1
bounds-u-1 c = simp length-set (omega arith)

pub shape_of-f : goal.shape_of-f
shape_of-f c = omega arith

pub shape_of-u : goal.shape_of-u
shape_of-u c = simp length-set (omega arith)

pub returns : goal.returns
returns c = let a = c.args in
    let y = clipped_in a.n a.lower.now a.upper.now a.x.now in
    let f = c.report_unknown.new.f in
    record {
      floats = asked-first a.n y f c.clip_into.new.f c.copy_up.new.w (omega arith) (length-tab a.n _) (omega arith) (omega arith) (omega arith) c.clip_into.ensures c.copy_up.ensures
          ∙ ap (λ (g : List Float). laid 976 y (laid 112 y g)) c.report_unknown.ensures;
      words = refl;
    }
