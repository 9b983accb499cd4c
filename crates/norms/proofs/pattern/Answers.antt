-- `pattern` meets its contract: laws of `proofs/Patterns.antt`.
use mathlib.Core.Path.{◌≡◌, sym, subst, ◌∙◌}
use mathlib.Core.Bool.{false, not, true≢false}
use lib.Dec.{T}
use lib.Ieee.{Float, nan, inf, fin, is_nan, ne}
use lib.Ieee.Compare.{differs_from_itself, nan_differs}
use Rattle.norms.specs.inner.Patterns.{PatternOf}
use Rattle.norms.proofs.Patterns.{ranked, ranked-nan}
use Rattle.norms.proofs.pattern.Goals as goal

number : (x : Float) → ne x x ≡ false → T (not (is_nan x))
unfolding is_nan
number nan d = absurd (true≢false (sym nan_differs ∙ d))
number (inf s) d = tt
number (fin s m e) d = tt

pub returns-then-x : goal.returns-then-x
returns-then-x c = subst (λ (y : Float). PatternOf y 9221120237041090560) (sym (differs_from_itself c.args.x (subst T (sym c.if-x.true) tt))) ranked-nan

pub float_to_bits-result : goal.float_to_bits-result
float_to_bits-result c = number c.args.x c.if-x.false

pub returns : goal.returns
returns c = ranked c.args.x (subst T (sym c.well_formed.0.1) tt) (number c.args.x c.if-x.false)
