-- A number by its bits. Definitions only.
use Rattle.std.specs.Prelude.{cond, ℕ, ◌+◌, ◌-◌, ◌*◌, ◌/◌, ◌%◌, ◌^◌, ltb}

-- a positive pattern's number, in units of the smallest f64
unfoldable pub units_of : ℕ → ℕ
units_of b = cond (ltb b (2 ^ 52)) b ((2 ^ 52 + b % 2 ^ 52) * 2 ^ (b / 2 ^ 52 - 1))
