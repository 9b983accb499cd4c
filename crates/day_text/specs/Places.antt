-- Where the tables hold what is printed. Definitions only.
-- The tables of the sheet are those of `State` (crate sheet_lines): texts, wholes, numbers. `figures` and `signs` are what was worked out. Items are meters, lines and stocks,
-- limits are floors and ceilings, each in the sheet's order; at most 16 of each.
use Rattle.std.specs.Prelude.{List, ℕ, ◌+◌, ◌*◌, take, drop, Float}
use Rattle.numbers.specs.Numbers.{at, nth}
use Rattle.sheet_parts.specs.Texts.{without_blanks}

-- ---- texts

-- the name at place k, filled up with blanks to 16 bytes: of item k, of balance k - 16, of limit k - 32
unfoldable pub name_cell : List ℕ → ℕ → List ℕ
name_cell texts k = take 16 (drop (16 * k) texts)

abbrev pub balance_name : ℕ → ℕ
balance_name j = 16 + j

abbrev pub limit_name : ℕ → ℕ
limit_name j = 32 + j

-- a name without the blanks that fill it up
unfoldable pub name_text : List ℕ → ℕ → List ℕ
name_text texts k = without_blanks (name_cell texts k)

-- a title or a doubt, from its place on, without the blanks that fill it up to 72 bytes
unfoldable pub text_from : List ℕ → ℕ → List ℕ
text_from texts p = without_blanks (take 72 (drop p texts))

abbrev pub title_place : ℕ
title_place = 768

abbrev pub doubt_place : ℕ → ℕ
doubt_place j = 840 + 72 * j

-- ---- wholes

abbrev pub old_reading : List ℕ → ℕ → ℕ
old_reading wholes i = nth wholes i

abbrev pub new_reading : List ℕ → ℕ → ℕ
new_reading wholes i = nth wholes (16 + i)

-- 0 a meter, 1 a line, 2 a stock
abbrev pub kind_of : List ℕ → ℕ → ℕ
kind_of wholes i = nth wholes (32 + i)

-- 0 a floor, 1 a ceiling
abbrev pub limit_kind : List ℕ → ℕ → ℕ
limit_kind wholes j = nth wholes (48 + j)

-- ---- numbers

-- a meter's or a stock's spread, a line's capacity
abbrev pub spread_of : List Float → ℕ → Float
spread_of numbers i = at numbers i

-- a stock's content
abbrev pub content_before : List Float → ℕ → Float
content_before numbers i = at numbers (16 + i)

abbrev pub content_after : List Float → ℕ → Float
content_after numbers i = at numbers (32 + i)

abbrev pub amount_of : List Float → ℕ → Float
amount_of numbers j = at numbers (304 + j)

abbrev pub tolerance_of : List Float → Float
tolerance_of numbers = at numbers 576

-- ---- figures

abbrev pub value_of : List Float → ℕ → Float
value_of figures i = at figures i

abbrev pub corrected_of : List Float → ℕ → Float
corrected_of figures i = at figures (16 + i)

abbrev pub new_spread_of : List Float → ℕ → Float
new_spread_of figures i = at figures (32 + i)

abbrev pub test_of : List Float → ℕ → Float
test_of figures i = at figures (48 + i)

abbrev pub share_of : List Float → ℕ → Float
share_of figures i = at figures (64 + i)

-- what balance j comes to on the values, and on the corrected volumes
abbrev pub measured_of : List Float → ℕ → Float
measured_of figures j = at figures (80 + j)

abbrev pub left_of : List Float → ℕ → Float
left_of figures j = at figures (96 + j)

-- what limit j comes to on the corrected volumes
abbrev pub comes_to : List Float → ℕ → Float
comes_to figures j = at figures (112 + j)

abbrev pub bound_of : List Float → Float
bound_of figures = at figures 128

abbrev pub misfit_of : List Float → Float
misfit_of figures = at figures 129

-- ---- signs

-- 2 for an item to look at first, 1 for one that is suspected too
abbrev pub mark_of : List ℕ → ℕ → ℕ
mark_of signs i = nth signs i

-- 1 where balance j, or limit j, is within the tolerance
abbrev pub balance_within : List ℕ → ℕ → ℕ
balance_within signs j = nth signs (16 + j)

abbrev pub limit_within : List ℕ → ℕ → ℕ
limit_within signs j = nth signs (32 + j)

-- the degrees of freedom
abbrev pub freedom_of : List ℕ → ℕ
freedom_of signs = nth signs 48

-- 1 where the meters agree
abbrev pub agree_sign : List ℕ → ℕ
agree_sign signs = nth signs 49

-- 1 where every balance and every limit is kept within the tolerance
abbrev pub kept_sign : List ℕ → ℕ
kept_sign signs = nth signs 50
