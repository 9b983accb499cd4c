-- What a tally holds after some steps.
use mathlib.Core.Path.{◌≡◌, ◌∙◌}
use mathlib.Core.List.{[], ◌∷◌}
use Prim.Native.Nat.{ℕ, ◌+◌, ◌^◌, ◌<◌}
use native.Mathlib.Omega.{arith}
use Rattle.tally.specs.Tally.{saturated, raised}
use Rattle.tally.specs.Claims.{raised_by, all_rounds, all_factorings, Saturates}

-- raised by nothing, and by one after another
still : (a : ℕ) → a < 2 ^ 64 → a ≡ saturated a 0
still a h = omega arith

twice : (a b c : ℕ) → saturated (saturated a b) c ≡ saturated a (b + c)
twice a b c = omega arith

below : (a b : ℕ) → saturated a b < 2 ^ 64
below a b = omega arith

pub saturates : Saturates
unfolding raised_by all_rounds all_factorings
saturates t [] h k = λ i. record { rounds = still t.rounds h i; factorings = still t.factorings k i }
saturates t (s ∷ ss) h k =
    saturates (raised t s.rounds s.factorings) ss (below t.rounds s.rounds) (below t.factorings s.factorings)
    ∙ (λ i. record { rounds = twice t.rounds s.rounds (all_rounds ss) i; factorings = twice t.factorings s.factorings (all_factorings ss) i })
