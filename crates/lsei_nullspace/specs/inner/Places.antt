-- Where things stand in the part of LSEI, which begins with a QR part for C'.
use Rattle.std.specs.Prelude.{ℕ, ◌+◌, ◌*◌}
use Rattle.lsei.specs.inner.Places.{LSI_E, LSI_F, LSI_G, LSI_MULTIPLIERS, LSI_ROOM, LSI_WORDS, LSI_X}
use Rattle.householder.specs.inner.Places.{QR_MATRIX, QR_SOLUTION}

-- the columns of C'
abbrev pub LSEI_C : ℕ
LSEI_C = QR_MATRIX

-- first d, then y, then x
abbrev pub LSEI_X : ℕ
LSEI_X = LSEI_C + 16 * 18

-- the rows of E
abbrev pub LSEI_E : ℕ
LSEI_E = LSEI_X + 18

abbrev pub LSEI_F : ℕ
LSEI_F = LSEI_E + 17 * 18

-- the rows of G, each with its side behind it
abbrev pub LSEI_G : ℕ
LSEI_G = LSEI_F + 18

-- LSI's part
abbrev pub LSEI_LSI : ℕ
LSEI_LSI = LSEI_G + 66 * 18

abbrev pub LSEI_LSI_E : ℕ
LSEI_LSI_E = LSEI_LSI + LSI_E

abbrev pub LSEI_LSI_F : ℕ
LSEI_LSI_F = LSEI_LSI + LSI_F

abbrev pub LSEI_LSI_G : ℕ
LSEI_LSI_G = LSEI_LSI + LSI_G

abbrev pub LSEI_LSI_X : ℕ
LSEI_LSI_X = LSEI_LSI + LSI_X

-- the multipliers of the equalities
abbrev pub LSEI_EQUALITY_MULTIPLIERS : ℕ
LSEI_EQUALITY_MULTIPLIERS = QR_SOLUTION

-- the multipliers of the inequalities
abbrev pub LSEI_MULTIPLIERS : ℕ
LSEI_MULTIPLIERS = LSEI_LSI + LSI_MULTIPLIERS

-- how many f64 it takes
abbrev pub LSEI_ROOM : ℕ
LSEI_ROOM = LSEI_LSI + LSI_ROOM

-- in the u32 workspace: the permutation of C' stands at 0, and LSI's part here
abbrev pub LSEI_LSI_WORDS : ℕ
LSEI_LSI_WORDS = 18

-- how many u32 it takes
abbrev pub LSEI_WORDS : ℕ
LSEI_WORDS = LSEI_LSI_WORDS + LSI_WORDS
