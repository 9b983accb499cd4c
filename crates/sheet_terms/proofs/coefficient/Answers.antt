-- `coefficient`: with its sign.
use mathlib.Core.Path.{◌≡◌, refl, ◌∙◌}
use lib.Ieee.{Float, of_bits, binary64, round, size, units, odd, span, climb}
use lib.Count.{count_trailing_zeros}
use Rattle.std.specs.Prelude.{Option, Some, None}
use Rattle.std.specs.Option.{unwrap_or}
use Rattle.sheet_terms.specs.Terms.{amount}
use Rattle.sheet_terms.proofs.Laws.{signed-after, signed-before}
use Rattle.sheet_terms.proofs.coefficient.Goals as goal

amount-is : (n : Option Float) → unwrap_or n (of_bits binary64 4607182418800017408) ≡ amount n
unfolding of_bits round size units odd span climb count_trailing_zeros
amount-is (Some x) = refl
amount-is None = refl

pub returns-then-equals : goal.returns-then-equals
returns-then-equals c = signed-after c.args.equals c.args.pending _ (c.unwrap_or-x.ensures ∙ amount-is c.args.pending) c.if-equals.true

pub returns : goal.returns
returns c = signed-before c.args.equals c.args.pending _ (c.unwrap_or-x.ensures ∙ amount-is c.args.pending) c.if-equals.false
