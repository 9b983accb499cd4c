-- The running tally of rounds and factorings that a caller lends. Definitions only.
use Rattle.std.specs.Prelude.{ℕ, ◌+◌, ◌-◌, ◌^◌, min}
use Rattle.tally.specs.declared.Tally.{Tally}

-- the sum; a count that would pass the u64 range stays at its largest value
abbrev pub saturated : ℕ → ℕ → ℕ
saturated a b = min (a + b) (2 ^ 64 - 1)

-- raised by rounds and factorings
abbrev pub raised : Tally → (rounds factorings : ℕ) → Tally
raised t r f = record { rounds = saturated t.rounds r; factorings = saturated t.factorings f }
