-- Worked cases: the numbers that texts say.
use mathlib.Core.Path.{◌≡◌, refl}
use lib.Ieee.{binary64, round, of_bits}
use Rattle.std.specs.Prelude.{Err}
use Rattle.numbers.specs.Numbers.{tab}
use Rattle.ascii.specs.Text.{ascii}
use Rattle.decimals.specs.Decimal.{number, numeral_from, digits_of, value_of, within, unsigned_at, decimal_at}

below-zero : decimal_at (ascii "-0.1 m3") 0 ≡ number (of_bits binary64 0xbfb999999999999a) 4
unfolding ascii tab digits_of numeral_from value_of within unsigned_at decimal_at round of_bits
below-zero = refl

minus-nothing : decimal_at (ascii "-0") 0 ≡ number (of_bits binary64 0x8000000000000000) 2
unfolding ascii tab digits_of numeral_from value_of within unsigned_at decimal_at round of_bits
minus-nothing = refl

inner : decimal_at (ascii "a 00012.50;") 2 ≡ number (of_bits binary64 0x4029000000000000) 10
unfolding ascii tab digits_of numeral_from value_of within unsigned_at decimal_at round of_bits
inner = refl

no_part : decimal_at (ascii "1.") 0 ≡ Err 2
unfolding ascii tab digits_of numeral_from value_of within unsigned_at decimal_at
no_part = refl

no_whole : decimal_at (ascii "-.5") 0 ≡ Err 1
unfolding ascii tab digits_of numeral_from value_of within unsigned_at decimal_at
no_whole = refl

nothing : decimal_at (ascii "") 7 ≡ Err 7
unfolding ascii tab digits_of numeral_from value_of within unsigned_at decimal_at
nothing = refl

sixteen-digits : decimal_at (ascii "x1000000000000000") 1 ≡ Err 1
unfolding ascii tab digits_of numeral_from value_of within unsigned_at decimal_at
sixteen-digits = refl
