-- Worked cases: numbers as text.
use mathlib.Core.Path.{◌≡◌, refl}
use mathlib.Core.Bool.{true}
use lib.Ieee.{inf, binary64, round}
use Rattle.numbers.specs.Numbers.{tab, near}
use Rattle.ascii.specs.Text.{ascii, decimal_from, decimal_text, padded}
use Rattle.decimals.specs.Decimal.{minus_text}
use Rattle.decimals.specs.Fixed.{thousandths, thousandths_text, signed_text, tiny_text, small_text, fixed_text}

tenth : fixed_text (near 1 10) ≡ ascii "0.100"
unfolding ascii tab decimal_from decimal_text thousandths minus_text thousandths_text signed_text tiny_text small_text fixed_text round
tenth = refl

-- 0.0625 and 0.1875 lie in the middle
tie_down : fixed_text (near 1 16) ≡ ascii "0.062"
unfolding ascii tab decimal_from decimal_text thousandths minus_text thousandths_text signed_text tiny_text small_text fixed_text round
tie_down = refl

tie_up : fixed_text (round binary64 true 3 16) ≡ ascii "-0.188"
unfolding ascii tab decimal_from decimal_text thousandths minus_text thousandths_text signed_text tiny_text small_text fixed_text round
tie_up = refl

-- zero has no minus
minus-zero : fixed_text (round binary64 true 0 1) ≡ ascii "0.000"
unfolding ascii tab decimal_from decimal_text thousandths minus_text thousandths_text signed_text tiny_text small_text fixed_text round
minus-zero = refl

-- and what is not zero does not read as zero
tiny : fixed_text (near 1 2001) ≡ ascii "<0.001"
unfolding ascii tab decimal_from decimal_text thousandths minus_text thousandths_text signed_text tiny_text small_text fixed_text round
tiny = refl

tiny-below : fixed_text (round binary64 true 1 2001) ≡ ascii ">-0.001"
unfolding ascii tab decimal_from decimal_text thousandths minus_text thousandths_text signed_text tiny_text small_text fixed_text round
tiny-below = refl

-- more than half a thousandth is one
thousandth : fixed_text (near 1 1999) ≡ ascii "0.001"
unfolding ascii tab decimal_from decimal_text thousandths minus_text thousandths_text signed_text tiny_text small_text fixed_text round
thousandth = refl

-- the last number before the words (`decimal_text` of a large number does not compute: its recursion uses up all of `left`)
last : thousandths (round binary64 true 9007199254740991 1) ≡ 9007199254740991000
unfolding thousandths round
last = refl

hundreds : fixed_text (near 1234567 10000) ≡ ascii "123.457"
unfolding ascii tab decimal_from decimal_text thousandths minus_text thousandths_text signed_text tiny_text small_text fixed_text round
hundreds = refl

large : fixed_text (round binary64 true 9007199254740992 1) ≡ ascii "-large"
unfolding ascii tab decimal_from decimal_text thousandths minus_text thousandths_text signed_text tiny_text small_text fixed_text round
large = refl

words : padded 6 (fixed_text (inf true)) ≡ ascii "  -inf"
unfolding ascii tab minus_text fixed_text padded
words = refl
