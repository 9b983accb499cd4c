-- The verdict, the first line of the day's report. Definitions only.
use Rattle.std.specs.Prelude.{cond, not, List, [], ◌++◌, ℕ, zero, suc, ◌+◌, ◌-◌, ◌^◌, ltb, eqb, Float}
use Rattle.std.specs.Float.Ieee.{le}
use Rattle.numbers.specs.Numbers.{near}
use Rattle.ascii.specs.Text.{ascii}
use Rattle.day_text.specs.Places.{name_text, bound_of, mark_of, freedom_of, agree_sign, kept_sign}

pub data Verdict : Type 0 where
  does_not_close : Verdict
  not_certain : Verdict
  closes : Verdict
  unchecked : Verdict
  disagree : Verdict

-- 2 ^ -10: a bound that is not at most this is too large to say that the day closes, and NaN is not
abbrev pub certain_enough : Float
certain_enough = near 1 (2 ^ 10)

-- the first that applies
unfoldable pub verdict_of : (figures : List Float) (signs : List ℕ) → Verdict
verdict_of figures signs =
    cond (eqb (kept_sign signs) 0) does_not_close
    (cond (not (le (bound_of figures) certain_enough)) not_certain
    (cond (eqb (agree_sign signs) 1) closes
    (cond (eqb (freedom_of signs) 0) unchecked
    disagree)))

-- ---- whom to look at first: all items with mark 2

-- the first of `left` items from item i on, and i + left where there is none
unfoldable pub first_suspect : (left i : ℕ) (signs : List ℕ) → ℕ
first_suspect zero i signs = i
first_suspect (suc left) i signs = cond (eqb (mark_of signs i) 2) i (first_suspect left (i + 1) signs)

abbrev pub suspect_text : (i : ℕ) (texts signs : List ℕ) → List ℕ
suspect_text i texts signs = cond (eqb (mark_of signs i) 2) (ascii " or " ++ name_text texts i) []

-- the others among `left` items from item i on
unfoldable pub other_suspects : (left i : ℕ) (texts signs : List ℕ) → List ℕ
other_suspects zero i texts signs = []
other_suspects (suc left) i texts signs = suspect_text i texts signs ++ other_suspects left (i + 1) texts signs

-- k is the first
unfoldable pub look_at : (n k : ℕ) (texts signs : List ℕ) → List ℕ
look_at n k texts signs = cond (ltb k n) (ascii ": look at " ++ (name_text texts k ++ (other_suspects (n - (k + 1)) (k + 1) texts signs ++ ascii " first"))) []

abbrev pub look_text : (n : ℕ) (texts signs : List ℕ) → List ℕ
look_text n texts signs = look_at n (first_suspect n 0 signs) texts signs

-- ---- the line, without its line feed

unfoldable pub verdict_text : Verdict → (n : ℕ) (texts signs : List ℕ) → List ℕ
verdict_text does_not_close n texts signs = ascii "does not close"
verdict_text not_certain n texts signs = ascii "not certain"
verdict_text closes n texts signs = ascii "closes"
verdict_text unchecked n texts signs = ascii "closes, but no meter is checked"
verdict_text disagree n texts signs = ascii "closes, but the meters disagree" ++ look_text n texts signs
