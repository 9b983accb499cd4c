-- Days worked by hand: the meters and balances, and what a call returns. proofs/Days.antt shows that the definitions answer so.
-- A call is lent outputs of the right lengths, which hold zeros, and the two workspaces.
use Rattle.std.specs.Prelude.{ℕ, true, false, List, [], ◌∷◌, replicate, Float}
use Rattle.std.specs.Float.{nan, binary64}
use Rattle.std.specs.Float.Ieee.{of_bits, neg}
use Rattle.numbers.specs.Numbers.{+0, -0, -1, near, one}
use Rattle.workspace.specs.Tables.{Answer, done, refused, number, output, place_of, nowhere}
use Rattle.nnls.specs.Counted.{Counted}
use Rattle.lsei.specs.Lsei.{Solution}
use Rattle.reconcile.specs.Day.{Day, day_of, named}
use Rattle.reconcile_call.specs.Promise.{day_call}
use Rattle.worked.specs.Worked.{two, zeros, w, iw}

-- ---- a day: its number, the place that comes with it, volumes and marks

pub data WorkedDay : Type 0 where
  DAY : Day → (number place : ℕ) (volumes : List Float) (marks : List ℕ) → WorkedDay

-- the place, where the answer has one
abbrev pub place_told : Answer Solution → ℕ
place_told (done s) = nowhere
place_told (refused r) = place_of r

-- the day as an answer leaves it
abbrev pub told : Day → Answer Solution → WorkedDay
told d c = DAY d (number c) (place_told c) (output c (λ s. s.x) (zeros d.n)) (output c (λ s. named d.n s.x) (replicate d.n 0))

-- the day with the definitions' answer in the place of its own
abbrev pub with_day : WorkedDay → WorkedDay
with_day (DAY d k place volumes marks) = told d (day_call d (zeros d.n) (replicate d.n 0) w iw)

-- ---- the table

-- 999,990 and then 10: 20 have passed
abbrev pub rolled_over : Day
rolled_over = day_of 1 0 (999990 ∷ []) (10 ∷ []) (two ∷ []) []

-- equal readings: none has passed
abbrev pub equal_readings : Day
equal_readings = day_of 1 0 (7 ∷ []) (7 ∷ []) (two ∷ []) []

-- 50, the totaliser having rolled over, and 100, where three of the first are four of the second: 80 and 60
abbrev pub three_to_four : Day
three_to_four = day_of 2 1 (999980 ∷ 0 ∷ []) (30 ∷ 100 ∷ []) (one ∷ one ∷ []) (near 3 1 ∷ neg (near 4 1) ∷ [])

-- 3 and 5 whose sum is zero: both are, but for the rounding, which leaves one below zero
abbrev pub both_none : Day
both_none = day_of 2 1 (0 ∷ 0 ∷ []) (3 ∷ 5 ∷ []) (one ∷ one ∷ []) (one ∷ one ∷ [])

-- the same balance twice
abbrev pub balance_twice : Day
balance_twice = day_of 2 2 (0 ∷ 0 ∷ []) (3 ∷ 5 ∷ []) (one ∷ one ∷ []) (one ∷ -1 ∷ one ∷ -1 ∷ [])

-- meter 1 has a reading of seven digits and a spread of zero, meter 2 a spread that is NaN
abbrev pub amiss : Day
amiss = day_of 3 0 (1 ∷ 1000000 ∷ 1 ∷ []) (2 ∷ 2 ∷ 2 ∷ []) (one ∷ +0 ∷ nan ∷ []) []

-- the same with a spread below zero on meter 0
abbrev pub amiss_earlier : Day
amiss_earlier = day_of 3 0 (1 ∷ 1000000 ∷ 1 ∷ []) (2 ∷ 2 ∷ 2 ∷ []) (-1 ∷ +0 ∷ nan ∷ []) []

abbrev pub days : List WorkedDay
days =
    DAY (day_of 0 0 [] [] [] []) 0 nowhere [] []
    ∷ DAY (day_of 0 1 [] [] [] []) 11 0 [] []
    ∷ DAY (day_of 17 0 [] [] [] []) 1 nowhere (zeros 17) (replicate 17 0)
    ∷ DAY rolled_over 0 nowhere (near 20 1 ∷ []) (0 ∷ [])
    ∷ DAY equal_readings 0 nowhere (-0 ∷ []) (0 ∷ [])
    ∷ DAY three_to_four 0 nowhere (near 80 1 ∷ near 60 1 ∷ []) (0 ∷ 0 ∷ [])
    ∷ DAY both_none 0 nowhere (of_bits binary64 0x3ccc_48c6_001f_0ac1 ∷ of_bits binary64 0xbccc_48c6_001f_0ac1 ∷ []) (0 ∷ 1 ∷ [])
    ∷ DAY balance_twice 11 1 (zeros 2) (0 ∷ 0 ∷ [])
    ∷ DAY amiss 12 1 (zeros 3) (0 ∷ 0 ∷ 0 ∷ [])
    ∷ DAY amiss_earlier 13 0 (zeros 3) (0 ∷ 0 ∷ 0 ∷ [])
    ∷ []

-- four meters around one header (docs/MANUAL.md, examples/day.c): by hand 1203.2, 793.2, 1297.2 and 699.2, to the last places
abbrev pub header : Day
header =
    day_of 4 1 (431250 ∷ 999710 ∷ 20000 ∷ 750300 ∷ []) (432450 ∷ 500 ∷ 21310 ∷ 751000 ∷ []) (near 10 1 ∷ near 10 1 ∷ near 20 1 ∷ near 5 1 ∷ [])
    (one ∷ one ∷ -1 ∷ -1 ∷ [])

abbrev pub header_day : WorkedDay
header_day =
    DAY header 0 nowhere
    (of_bits binary64 0x4092_cccc_cccc_ccca ∷ of_bits binary64 0x4088_c999_9999_9998 ∷ of_bits binary64 0x4094_44cc_cccc_cccb ∷ of_bits binary64 0x4085_d999_9999_999a ∷ [])
    (0 ∷ 0 ∷ 0 ∷ 0 ∷ [])
