-- `end_unknown`: the clipped start is reported, and the first word is written.
use mathlib.Core.Path.{refl}
use native.Mathlib.Omega.{arith}
use lib.ListN.{length-set}
use Rattle.search_call.proofs.begin.end_unknown.Goals as goal

pub report_unknown-requires : goal.report_unknown-requires
report_unknown-requires c = (omega arith, omega arith, omega arith, omega arith, omega arith, omega arith)

pub bounds-u-0 : goal.bounds-u-0
bounds-u-0 c = omega arith

pub shape_of-f : goal.shape_of-f
shape_of-f c = omega arith

pub shape_of-u : goal.shape_of-u
shape_of-u c = simp length-set (omega arith)

pub returns : goal.returns
returns c = record { floats = c.report_unknown.ensures; words = refl }
