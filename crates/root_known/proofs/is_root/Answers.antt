-- `is_root`, by the patterns of the two numbers.
use mathlib.Core.Path.{sym, subst}
use mathlib.Core.Bool.{false≢true}
use lib.Dec.{T}
use Rattle.root_known.proofs.Nearest.{number, of-patterns}
use Rattle.root_known.proofs.is_root.Goals as goal

pub returns-then-x : goal.returns-then-x
returns-then-x c = λ e. absurd (false≢true e)

pub returns-then-y : goal.returns-then-y
returns-then-y c = λ e. absurd (false≢true e)

pub float_to_bits-x : goal.float_to_bits-x
float_to_bits-x c = number c.args.x c.if-x.false

pub float_to_bits-y : goal.float_to_bits-y
float_to_bits-y c = number c.args.y c.if-y.false

pub returns : goal.returns
returns c = λ e.
    of-patterns c.args.x c.args.y (subst T (sym c.well_formed.0.1) tt) (subst T (sym c.well_formed.1.0.1) tt) (c.is_root_pattern.ensures e)
