-- Digits as they are read. Definitions only.
use Rattle.std.specs.Prelude.{List, ℕ, ◌+◌, min, length, drop}
use Rattle.decimals.specs.Decimal.{numeral_from, digits_of}
use Rattle.decimals.specs.declared.Run.{Run}

-- the number that digits stand for, as long as it is below 10 ^ 15
abbrev pub capped : ℕ → ℕ
capped n = min n 1000000000000000

-- the digits from a place on, after digits that stand for a
unfoldable pub run_from : (bytes : List ℕ) (from a : ℕ) → Run
run_from bytes from a = record {
  value = capped (numeral_from a (digits_of (drop from bytes)));
  end = from + length (digits_of (drop from bytes));
}
