-- What is shown of the tests of meters. Definitions only.
use Rattle.std.specs.Prelude.{ℕ, ◌+◌, ◌<◌, ◌≡◌, Bool, true, false, List, ◌⊎◌, ℤ, Float}
use Rattle.std.specs.Float.{nan, fin}
use Rattle.std.specs.Float.Ieee.{lt}
use Rattle.numbers.specs.Numbers.{+0, -0, at, nth, entry}
use Rattle.suspect.specs.Suspect.{is_outside, square_of, limits, suspect}

-- the degrees of freedom, the shares, the new spreads and the groups do not depend on the values
abbrev pub ByPlantAlone : Type 0
ByPlantAlone = (n m : ℕ) (v v' s c : List Float) (z : List ℕ)
    → ((suspect n m v s c z).finding.freedom ≡ (suspect n m v' s c z).finding.freedom) × ((suspect n m v s c z).shares ≡ (suspect n m v' s c z).shares)
    × ((suspect n m v s c z).new_spreads ≡ (suspect n m v' s c z).new_spreads) × ((suspect n m v s c z).groups ≡ (suspect n m v' s c z).groups)

-- a meter in no balance is unchecked: its share and its test are +0, no other is tied to it before it, and it is never marked
abbrev pub InNoBalance : Type 0
InNoBalance = (n m : ℕ) (v s c : List Float) (z : List ℕ) (i : ℕ) → i < n → is_outside n s c z i m ≡ true
    → (at (suspect n m v s c z).shares i ≡ +0) × (at (suspect n m v s c z).tests i ≡ +0) × (nth (suspect n m v s c z).groups i ≡ i) × (nth (suspect n m v s c z).marks i ≡ 0)

-- a meter that stands still is in no balance
abbrev pub StillInNone : Type 0
StillInNone = (n m : ℕ) (s c : List Float) (z : List ℕ) (i : ℕ) → nth z i ≡ 1 → is_outside n s c z i m ≡ true

-- and so is one whose coefficients are all zero, where its spread is finite
abbrev pub IsZero : Float → Type 0
IsZero x = (x ≡ +0) ⊎ (x ≡ -0)

abbrev pub ZeroInNone : Type 0
ZeroInNone = (n m : ℕ) (s c : List Float) (z : List ℕ) (i : ℕ) (sign : Bool) (k : ℕ) (e : ℤ) → at s i ≡ fin sign k e → ((j : ℕ) → j < m → IsZero (entry n c j i)) → is_outside n s c z i m ≡ true

-- a misfit that is NaN disagrees, and so does a test, a value of any meter, in a balance or not, and a coefficient
abbrev pub NanMisfit : Type 0
NanMisfit = (n m : ℕ) (v s c : List Float) (z : List ℕ) → (suspect n m v s c z).finding.misfit ≡ nan → (suspect n m v s c z).finding.agree ≡ false

abbrev pub NanTest : Type 0
NanTest = (n m : ℕ) (v s c : List Float) (z : List ℕ) (i : ℕ) → i < n → at (suspect n m v s c z).tests i ≡ nan → (suspect n m v s c z).finding.agree ≡ false

abbrev pub NanValue : Type 0
NanValue = (n m : ℕ) (v s c : List Float) (z : List ℕ) (i : ℕ) → i < n → at v i ≡ nan → (suspect n m v s c z).finding.agree ≡ false

abbrev pub NanCoefficient : Type 0
NanCoefficient = (n m : ℕ) (v s c : List Float) (z : List ℕ) (i k : ℕ) → i < n → k < m → entry n c k i ≡ nan → (suspect n m v s c z).finding.agree ≡ false

-- where there is no freedom nothing is checked: the meters do not agree, and none is marked
abbrev pub NoFreedom : Type 0
NoFreedom = (n m : ℕ) (v s c : List Float) (z : List ℕ) → (suspect n m v s c z).finding.freedom ≡ 0
    → ((suspect n m v s c z).finding.agree ≡ false) × ((i : ℕ) → i < n → nth (suspect n m v s c z).marks i ≡ 0)

-- where the meters agree none is marked
abbrev pub AgreedUnmarked : Type 0
AgreedUnmarked = (n m : ℕ) (v s c : List Float) (z : List ℕ) (i : ℕ) → i < n → (suspect n m v s c z).finding.agree ≡ true → nth (suspect n m v s c z).marks i ≡ 0

-- no test is larger than that of the meter named first
abbrev pub LargestFirst : Type 0
LargestFirst = (n m : ℕ) (v s c : List Float) (z : List ℕ) (i : ℕ) → i < n
    → lt (suspect n m v s c z).finding.square (square_of (at (suspect n m v s c z).shares i) (at (suspect n m v s c z).tests i)) ≡ false

-- the limits increase
abbrev pub Increasing : Type 0
Increasing = (k : ℕ) → k < 16 → lt (at limits k) (at limits (k + 1)) ≡ true
