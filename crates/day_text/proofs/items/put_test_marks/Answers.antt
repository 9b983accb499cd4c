-- `put_test_marks`: its parts one after the other.
use mathlib.Core.Path.{ap}
use native.Mathlib.Omega.{arith}
use lib.Ieee.{lt}
use Rattle.ascii.proofs.Writing.{wrote_then}
use Rattle.ascii.specs.Text.{ascii}
use Rattle.day_text.proofs.Parts.{as-mark}
use Rattle.day_text.specs.Items.{test_marks}
use Rattle.numbers.specs.Numbers.{tab}
use Rattle.suspect.proofs.Decisions.{lit-tiny}
use Rattle.day_text.proofs.items.put_test_marks.Goals as goal

pub put_mark-a-requires : goal.put_mark-a-requires
put_mark-a-requires c = (omega (arith, c.requires), omega arith)

pub put_mark-b-requires : goal.put_mark-b-requires
put_mark-b-requires c = (omega (arith, c.put_mark-a.ensures.upper_bound, c.requires), omega arith)

pub put_mark-requires : goal.put_mark-requires
put_mark-requires c = (omega (arith, c.put_mark-b.ensures.upper_bound, c.put_mark-a.ensures.upper_bound, c.requires), omega arith)

pub shape_of-out : goal.shape_of-out
shape_of-out c = omega arith

pub returns : goal.returns
unfolding ascii tab test_marks
returns c = record { wrote = wrote_then (as-mark _ (ap (lt c.args.share) lit-tiny) c.put_mark-a.ensures.wrote) (wrote_then c.put_mark-b.ensures.wrote c.put_mark.ensures.wrote); upper_bound = omega (arith, c.put_mark.ensures.upper_bound, c.put_mark-b.ensures.upper_bound, c.put_mark-a.ensures.upper_bound) }
