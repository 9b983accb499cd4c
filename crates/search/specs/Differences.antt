-- Slopes by difference: what they are, what is asked for them and what that costs, for both schemes and all sizes. Definitions only.
use Rattle.std.specs.Prelude.{ℕ, suc, ◌+◌, ◌<◌, ◌≡◌, false, List, [], ◌∷◌, ◌++◌, set, Float}
use Rattle.numbers.specs.Numbers.{at, tab, grid}
use Rattle.step_rows.specs.Problem.{each}
use Rattle.search.specs.Setup.{Setup, Scheme, told, forward, central, Report, Question, values, slopes, single, exhausted, nonfinite, are_finite}
use Rattle.search.specs.Turn.{point_of, raise, lower, quotient}
use Rattle.search.specs.Written.{Script, Transcript, play, slopes_at}

-- the lower coordinate of a difference: by the forward scheme, the coordinate as it is
abbrev pub low : Scheme → Float → Float
low told x = x
low forward x = x
low central x = lower x

-- the slope of function w along coordinate i at x
unfoldable pub difference : Scheme → (F : ℕ → List Float → Float) → (x : List Float) → (w i : ℕ) → Float
difference s F x w i =
    let y = at x i in
    quotient (F w (set x i (raise y))) (F w (set x i (low s y))) (raise y) (low s y)

-- all slopes: 1 + m functions, n coordinates
unfoldable pub differences : Scheme → (n m : ℕ) → (F : ℕ → List Float → Float) → (x : List Float) → List Float
differences s n m F x = grid (suc m) n (λ w i. difference s F x w i)

-- what is asked for one slope, and for all: function by function, coordinate by coordinate
abbrev pub questions_at : Scheme → (x : List Float) → (w i : ℕ) → List Question
questions_at told x w i = single w (set x i (raise (at x i))) ∷ []
questions_at forward x w i = single w (set x i (raise (at x i))) ∷ []
questions_at central x w i = single w (set x i (raise (at x i))) ∷ single w (set x i (lower (at x i))) ∷ []

unfoldable pub questions_for : Scheme → (n m : ℕ) → (x : List Float) → List Question
questions_for s n m x = each (suc m) (λ w. each n (λ i. questions_at s x w i))

-- the objective values that this costs: constraints cost nothing
abbrev pub cost : Scheme → ℕ → ℕ
cost told n = n
cost forward n = n
cost central n = n + n

-- who answers by the functions F, and slopes, where those are asked for, by S
abbrev pub answers_of : (m : ℕ) (F : ℕ → List Float → Float) (S : List Float → List Float) → Question → List Float
answers_of m F S (values x) = tab (suc m) (λ w. F w x)
answers_of m F S (slopes x) = S x
answers_of m F S (single w x) = F w x ∷ []

-- the questions qs come first
abbrev pub asking_all : List Question → Transcript → Transcript
asking_all qs t = record { asked = qs ++ t.asked; ending = t.ending; report = t.report }

-- the numbers that are looked at for one slope, and for all: the moved coordinates, what is told there, and the slope
abbrev pub numbers_at : Scheme → (F : ℕ → List Float → Float) → (x : List Float) → (w i : ℕ) → List Float
numbers_at told F x w i = raise (at x i) ∷ F w (set x i (raise (at x i))) ∷ difference told F x w i ∷ []
numbers_at forward F x w i = raise (at x i) ∷ F w (set x i (raise (at x i))) ∷ difference forward F x w i ∷ []
numbers_at central F x w i = raise (at x i) ∷ F w (set x i (raise (at x i))) ∷ lower (at x i) ∷ F w (set x i (lower (at x i))) ∷ difference central F x w i ∷ []

unfoldable pub numbers_for : Scheme → (n m : ℕ) → (F : ℕ → List Float → Float) → (x : List Float) → List Float
numbers_for s n m F x = each (suc m) (λ w. each n (λ i. numbers_at s F x w i))

-- A run under the budget b ends on the way with the report r: as exhausted where the budget is below the price, or as nonfinite where something bad was met;
-- or it has asked qs, paid the price, and goes on by k under what is left.
pub data Passes (a : Question → List Float) (r : Report) (price : ℕ) (qs : List Question) (Bad : Type 0) (b : ℕ) (k : ℕ → Script) (t : Transcript) : Type 0 where
  out_of_budget : t.ending ≡ exhausted → t.report ≡ r → b < price → Passes a r price qs Bad b k t
  not_finite : t.ending ≡ nonfinite → t.report ≡ r → Bad → Passes a r price qs Bad b k t
  passes : (c : ℕ) → b ≡ price + c → t ≡ asking_all qs (play a (k c)) → Passes a r price qs Bad b k t

abbrev pub IsDifference : Scheme → Type 0
IsDifference told = ⊥
IsDifference forward = Unit {0}
IsDifference central = Unit {0}

-- The one statement: whatever the functions are, a search by differences that goes on from a point goes on with the difference quotients there, of all functions along all coordinates;
-- it has asked for the moved points in their order, and paid for the objective's alone. It ends on the way only where the budget is below that price, or where one of the numbers looked at is not finite.
abbrev pub ByDifferences : Type 0
ByDifferences =
    (p : Setup) → IsDifference p.scheme → (F : ℕ → List Float → Float) (S : List Float → List Float) (x : List Float) (r : Report) (b : ℕ) (k : ℕ → List Float → Script) →
    let a = answers_of p.m F S in
    Passes a r (cost p.scheme p.n) (questions_for p.scheme p.n p.m x) (are_finite (numbers_for p.scheme p.n p.m F x) ≡ false) b (λ c. k c (differences p.scheme p.n p.m F x))
    (play a (slopes_at p b r (point_of x (a (values x))) k))
