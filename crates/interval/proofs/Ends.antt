-- What the laws of ends are about: a float above or below another, the next one, and what is over two. Definitions only.
use mathlib.Core.Path.{◌≡◌}
use mathlib.Core.Logic.{◌⊎◌}
use mathlib.Core.Bool.{true, false}
use lib.Dec.{T}
use lib.Ieee.{Float, inf, binary64, fits, lt}
use Rattle.exact.specs.Exact.{ℚ}
use Rattle.interval.specs.Held.{AtMost}
use Rattle.interval.specs.Next.{next_up, next_down}

-- r is above x, or is +infinity
abbrev pub Higher : Float → Float → Type 0
Higher x r = (r ≡ inf false) ⊎ T (lt x r)

abbrev pub Lower : Float → Float → Type 0
Lower x r = (r ≡ inf true) ⊎ T (lt r x)

pub record NextUp (x r : Float) : Type 0 where
  pub is : r ≡ next_up x
  pub f64 : T (fits binary64 r)
  pub higher : Higher x r

pub record NextDown (x r : Float) : Type 0 where
  pub is : r ≡ next_down x
  pub f64 : T (fits binary64 r)
  pub lower : Lower x r

-- what is above M is above x
abbrev pub Over : Float → Float → Type 0
Over x M = (z : Float) → Higher M z → Higher x z

-- what is below M is below x
abbrev pub Under : Float → Float → Type 0
Under x M = (z : Float) → Lower M z → Lower x z

-- M is at least x and y, in both ways in which this is used
pub record Larger (x y M : Float) : Type 0 where
  pub over-left : Over x M
  pub over-right : Over y M
  pub bounds-left : (q : ℚ) → AtMost q x → AtMost q M
  pub bounds-right : (q : ℚ) → AtMost q y → AtMost q M

pub record Smaller (x y M : Float) : Type 0 where
  pub under_left : Under x M
  pub under-right : Under y M
