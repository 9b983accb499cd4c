-- `is_foreign`: neither printable nor a tab.
use native.Mathlib.Omega.{arith}
use Rattle.sheet_parts.proofs.Texts.{foreign-tab, foreign-low, foreign-high}
use Rattle.sheet_parts.proofs.is_foreign.Goals as goal

pub returns-then-c-eq9 : goal.returns-then-c-eq9
returns-then-c-eq9 c = foreign-tab c.args.c c.if-c-eq9.true

pub returns-then-c-lt32 : goal.returns-then-c-lt32
returns-then-c-lt32 c = foreign-low c.args.c c.if-c-eq9.false c.if-c-lt32.true

pub returns : goal.returns
returns c = foreign-high c.args.c c.if-c-eq9.false (omega (arith, c.if-c-lt32.false))
