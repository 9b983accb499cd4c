-- `root_in`: the one place that is written lies behind the matrix.
use native.Mathlib.Omega.{arith}
use lib.Seq.{get_or-set_other}
use lib.Ieee.{nan}
use Rattle.householder.proofs.search.root_in.Goals as goal

pub returns : goal.returns
returns c = (c.root_of-r.ensures, λ x h. get_or-set_other c.args.w.now _ x _ nan (λ e. omega (arith, c.if-n-gt18.false)))
