-- Where things stand in a QR part of the workspaces. The u of the reflectors stand at 0, 18 places each; the permutation stands in the u32 workspace at 0.
use Rattle.std.specs.Prelude.{ℕ, ◌+◌, ◌*◌}

-- the b of the reflectors
abbrev pub QR_B : ℕ
QR_B = 18 * 18

-- a right-hand side
abbrev pub QR_SIDE : ℕ
QR_SIDE = QR_B + 18

-- a solution
abbrev pub QR_SOLUTION : ℕ
QR_SOLUTION = QR_SIDE + 18

-- the columns of the matrix, and then of R, 18 places each
abbrev pub QR_MATRIX : ℕ
QR_MATRIX = QR_SOLUTION + 66

-- the roots that are remembered, behind 18 columns
abbrev pub QR_ROOTS : ℕ
QR_ROOTS = QR_MATRIX + 18 * 18
