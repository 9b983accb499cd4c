-- How many places there are for remembered roots. Definitions only.
use Rattle.std.specs.Prelude.{ℕ}

-- a prime, so that each digit of a number moves the place of its root
abbrev pub ROOT_PLACES : ℕ
ROOT_PLACES = 509
