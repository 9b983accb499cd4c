-- Where things stand behind LSEI's part.
use Rattle.std.specs.Prelude.{ℕ, ◌+◌}
use Rattle.lsei_nullspace.specs.inner.Places.{LSEI_ROOM, LSEI_WORDS}

-- x, y and z of LSEI's answer, and in the end of the one that is chosen
abbrev pub SETTLE_X : ℕ
SETTLE_X = LSEI_ROOM

abbrev pub SETTLE_Y : ℕ
SETTLE_Y = SETTLE_X + 18

abbrev pub SETTLE_Z : ℕ
SETTLE_Z = SETTLE_Y + 18

-- those of the answer worked again
abbrev pub SETTLE_AGAIN_X : ℕ
SETTLE_AGAIN_X = SETTLE_Z + 48

abbrev pub SETTLE_AGAIN_Y : ℕ
SETTLE_AGAIN_Y = SETTLE_AGAIN_X + 18

abbrev pub SETTLE_AGAIN_Z : ℕ
SETTLE_AGAIN_Z = SETTLE_AGAIN_Y + 18

-- how many f64 it takes
abbrev pub SETTLE_ROOM : ℕ
SETTLE_ROOM = SETTLE_AGAIN_Z + 48

-- in the u32 workspace: the limits that are held
abbrev pub SETTLE_HELD : ℕ
SETTLE_HELD = LSEI_WORDS

-- how many u32 it takes
abbrev pub SETTLE_WORDS : ℕ
SETTLE_WORDS = SETTLE_HELD + 48
