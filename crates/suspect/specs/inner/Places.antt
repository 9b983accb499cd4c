-- Where things stand in the part of the workspaces, which begins with a QR part for K.
use Rattle.std.specs.Prelude.{ℕ, ◌+◌, ◌*◌}
use Rattle.householder.specs.inner.Places.{QR_MATRIX}

-- y
abbrev pub SUSPECT_GAPS : ℕ
SUSPECT_GAPS = QR_MATRIX + 16 * 18

-- the rows of Q
abbrev pub SUSPECT_DIRECTIONS : ℕ
SUSPECT_DIRECTIONS = SUSPECT_GAPS + 18

abbrev pub SUSPECT_SHARES : ℕ
SUSPECT_SHARES = SUSPECT_DIRECTIONS + 16 * 18

abbrev pub SUSPECT_SPREADS : ℕ
SUSPECT_SPREADS = SUSPECT_SHARES + 18

abbrev pub SUSPECT_TESTS : ℕ
SUSPECT_TESTS = SUSPECT_SPREADS + 18

-- how many f64 it takes
abbrev pub SUSPECT_ROOM : ℕ
SUSPECT_ROOM = SUSPECT_TESTS + 18

-- in the u32 workspace: the permutation stands at 0
abbrev pub SUSPECT_GROUPS : ℕ
SUSPECT_GROUPS = 18

abbrev pub SUSPECT_MARKS : ℕ
SUSPECT_MARKS = SUSPECT_GROUPS + 18

-- how many u32 it takes
abbrev pub SUSPECT_WORDS : ℕ
SUSPECT_WORDS = SUSPECT_MARKS + 18
