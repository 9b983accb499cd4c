-- `is_after_all`: the four, and all others.
use mathlib.Core.Path.{sym, ap}
use Rattle.day_text.proofs.Expecting.{not_after}
use Rattle.day_text.specs.Refusals.{is_after_all}
use borrow.Enum.Refused.{opened}
use Rattle.day_text.proofs.faults.is_after_all.Goals as goal

pub returns-in-TitleLine : goal.returns-in-TitleLine
unfolding is_after_all
returns-in-TitleLine c = ap is_after_all (sym c.in-TitleLine.is)

pub returns-in-MeterLine : goal.returns-in-MeterLine
unfolding is_after_all
returns-in-MeterLine c = ap is_after_all (sym c.in-MeterLine.is)

pub returns-in-BalanceLine : goal.returns-in-BalanceLine
unfolding is_after_all
returns-in-BalanceLine c = ap is_after_all (sym c.in-BalanceLine.is)

pub returns-in-ToleranceLine : goal.returns-in-ToleranceLine
unfolding is_after_all
returns-in-ToleranceLine c = ap is_after_all (sym c.in-ToleranceLine.is)

pub returns-in_default : goal.returns-in_default
returns-in_default c = not_after _ (opened c.in_default.in_default-own.keys5)
