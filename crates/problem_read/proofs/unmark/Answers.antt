-- `unmark`: as many zeros as there are places.
use Rattle.std.proofs.Common.{rules}
use Rattle.problem_read.specs.inner.Spots.{no_marks}
use Rattle.problem_read.proofs.unmark.Goals as goal

pub returns : goal.returns
unfolding no_marks
returns c = search rules
