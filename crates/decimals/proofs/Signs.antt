-- The sign of a text.
use mathlib.Core.Path.{◌≡◌}
use mathlib.Core.Bool.{Bool, true, false}
use mathlib.Core.List.{[], ◌∷◌}
use Rattle.numbers.specs.Numbers.{tab}
use Rattle.ascii.specs.Text.{ascii}
use Rattle.decimals.specs.Decimal.{minus_text}

pub minus-some : (s : Bool) → s ≡ true → 45 ∷ [] ≡ minus_text s
unfolding minus_text ascii tab
minus-some s e = rw e

pub minus-none : (s : Bool) → s ≡ false → [] ≡ minus_text s
unfolding minus_text
minus-none s e = rw e
