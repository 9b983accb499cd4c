-- Where things stand in the part of nonnegative least squares. The columns of A stand at 0, 18 places each.
use Rattle.std.specs.Prelude.{ℕ, ◌+◌, ◌*◌}
use Rattle.householder.specs.inner.Places.{QR_SIDE, QR_SOLUTION, QR_MATRIX}

-- the right side b
abbrev pub NNLS_SIDE : ℕ
NNLS_SIDE = 66 * 18

abbrev pub NNLS_X : ℕ
NNLS_X = NNLS_SIDE + 18

-- the trial values
abbrev pub NNLS_Z : ℕ
NNLS_Z = NNLS_X + 66

abbrev pub NNLS_DUAL : ℕ
NNLS_DUAL = NNLS_Z + 66

abbrev pub NNLS_RESIDUAL : ℕ
NNLS_RESIDUAL = NNLS_DUAL + 66

-- a QR part, for the passive columns
abbrev pub NNLS_QR : ℕ
NNLS_QR = NNLS_RESIDUAL + 18

abbrev pub NNLS_QR_SIDE : ℕ
NNLS_QR_SIDE = NNLS_QR + QR_SIDE

abbrev pub NNLS_QR_SOLUTION : ℕ
NNLS_QR_SOLUTION = NNLS_QR + QR_SOLUTION

abbrev pub NNLS_QR_MATRIX : ℕ
NNLS_QR_MATRIX = NNLS_QR + QR_MATRIX

-- how many f64 it takes
abbrev pub NNLS_ROOM : ℕ
NNLS_ROOM = NNLS_QR_MATRIX + 66 * 18

-- in the u32 workspace: the passive marks stand at 0, and these are the rejected
abbrev pub NNLS_REJECTED : ℕ
NNLS_REJECTED = 66

-- the columns to solve on
abbrev pub NNLS_COLUMNS : ℕ
NNLS_COLUMNS = NNLS_REJECTED + 66

-- the QR part's permutation
abbrev pub NNLS_PERM : ℕ
NNLS_PERM = NNLS_COLUMNS + 66

-- how many u32 it takes
abbrev pub NNLS_WORDS : ℕ
NNLS_WORDS = NNLS_PERM + 66
