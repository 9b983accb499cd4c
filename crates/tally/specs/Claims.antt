-- What a tally holds after any number of raises. Definitions only.
use Rattle.std.specs.Prelude.{ℕ, ◌+◌, ◌^◌, ◌<◌, ◌≡◌, List, [], ◌∷◌}
use Rattle.tally.specs.Tally.{raised}
use Rattle.tally.specs.declared.Tally.{Tally}

-- what one step took
pub record Spent : Type 0 where
  pub rounds : ℕ
  pub factorings : ℕ

-- raised by some steps, one after another
unfoldable pub raised_by : Tally → List Spent → Tally
raised_by t [] = t
raised_by t (s ∷ ss) = raised_by (raised t s.rounds s.factorings) ss

-- all their rounds, and all their factorings
unfoldable pub all_rounds : List Spent → ℕ
all_rounds [] = 0
all_rounds (s ∷ ss) = s.rounds + all_rounds ss

unfoldable pub all_factorings : List Spent → ℕ
all_factorings [] = 0
all_factorings (s ∷ ss) = s.factorings + all_factorings ss

-- after any steps each count is the whole sum, or the largest u64
abbrev pub Saturates : Type 0
Saturates = (t : Tally) (ss : List Spent) → t.rounds < 2 ^ 64 → t.factorings < 2 ^ 64 → raised_by t ss ≡ raised t (all_rounds ss) (all_factorings ss)
