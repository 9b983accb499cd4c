-- Where things stand in the parts of LDP and LSI.
use Rattle.std.specs.Prelude.{ℕ, ◌+◌, ◌*◌}
use Rattle.householder.specs.inner.Places.{QR_MATRIX, QR_SOLUTION}
use Rattle.nnls_passive.specs.inner.Places.{NNLS_DUAL, NNLS_RESIDUAL, NNLS_ROOM, NNLS_SIDE, NNLS_WORDS, NNLS_X, NNLS_Z}

-- ---- LDP: its part is that of nonnegative least squares for its dual. Row i of G with its side h_i behind it stands at 18 i: read by columns, that is the dual's matrix.

-- the dual's right side
abbrev pub LDP_SIDE : ℕ
LDP_SIDE = NNLS_SIDE

-- the dual's solution
abbrev pub LDP_U : ℕ
LDP_U = NNLS_X

-- the dual's residual
abbrev pub LDP_RESIDUAL : ℕ
LDP_RESIDUAL = NNLS_Z

abbrev pub LDP_MULTIPLIERS : ℕ
LDP_MULTIPLIERS = NNLS_DUAL

abbrev pub LDP_X : ℕ
LDP_X = NNLS_RESIDUAL

-- how many f64 it takes
abbrev pub LDP_ROOM : ℕ
LDP_ROOM = NNLS_ROOM

-- how many u32 it takes
abbrev pub LDP_WORDS : ℕ
LDP_WORDS = NNLS_WORDS

-- ---- LSI: its part begins with a QR part for E

-- the columns of E
abbrev pub LSI_E : ℕ
LSI_E = QR_MATRIX

-- first f, then Q'f
abbrev pub LSI_F : ℕ
LSI_F = LSI_E + 17 * 18

-- LDP's part: the rows of G, each with its side behind it
abbrev pub LSI_G : ℕ
LSI_G = LSI_F + 18

abbrev pub LSI_X : ℕ
LSI_X = QR_SOLUTION

abbrev pub LSI_MULTIPLIERS : ℕ
LSI_MULTIPLIERS = LSI_G + LDP_MULTIPLIERS

abbrev pub LSI_LDP_X : ℕ
LSI_LDP_X = LSI_G + LDP_X

-- how many f64 it takes
abbrev pub LSI_ROOM : ℕ
LSI_ROOM = LSI_G + LDP_ROOM

-- in the u32 workspace: the permutation of E stands at 0, and LDP's part here
abbrev pub LSI_LDP_WORDS : ℕ
LSI_LDP_WORDS = 18

-- how many u32 it takes
abbrev pub LSI_WORDS : ℕ
LSI_WORDS = LSI_LDP_WORDS + LDP_WORDS
