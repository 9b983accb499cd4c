-- Where things stand in the part of the step.
use Rattle.std.specs.Prelude.{ℕ, ◌+◌}
use Rattle.lsei.specs.inner.Places.{LSI_E, LSI_F, LSI_G, LSI_X, LSI_MULTIPLIERS}
use Rattle.lsei_nullspace.specs.inner.Places.{LSEI_C, LSEI_X, LSEI_E, LSEI_F, LSEI_G, LSEI_EQUALITY_MULTIPLIERS, LSEI_MULTIPLIERS, LSEI_ROOM, LSEI_WORDS}

-- the target f stands at 0, and LSEI's part or LSI's behind it
abbrev pub STEP_LENT : ℕ
STEP_LENT = 18

-- the step d, when a problem is solved
abbrev pub STEP_D : ℕ
STEP_D = STEP_LENT

-- its multipliers, one per constraint
abbrev pub STEP_MULTIPLIERS : ℕ
STEP_MULTIPLIERS = STEP_D + 18

-- the exact problem, in LSEI's part: its equalities, each with its side behind it at first
abbrev pub EXACT_C : ℕ
EXACT_C = STEP_LENT + LSEI_C

-- the equalities' sides, and then x
abbrev pub EXACT_X : ℕ
EXACT_X = STEP_LENT + LSEI_X

abbrev pub EXACT_E : ℕ
EXACT_E = STEP_LENT + LSEI_E

abbrev pub EXACT_F : ℕ
EXACT_F = STEP_LENT + LSEI_F

abbrev pub EXACT_G : ℕ
EXACT_G = STEP_LENT + LSEI_G

abbrev pub EXACT_EQUALITY_MULTIPLIERS : ℕ
EXACT_EQUALITY_MULTIPLIERS = STEP_LENT + LSEI_EQUALITY_MULTIPLIERS

abbrev pub EXACT_MULTIPLIERS : ℕ
EXACT_MULTIPLIERS = STEP_LENT + LSEI_MULTIPLIERS

-- the relaxed problem, in LSI's part
abbrev pub RELAXED_E : ℕ
RELAXED_E = STEP_LENT + LSI_E

abbrev pub RELAXED_F : ℕ
RELAXED_F = STEP_LENT + LSI_F

abbrev pub RELAXED_G : ℕ
RELAXED_G = STEP_LENT + LSI_G

abbrev pub RELAXED_X : ℕ
RELAXED_X = STEP_LENT + LSI_X

abbrev pub RELAXED_MULTIPLIERS : ℕ
RELAXED_MULTIPLIERS = STEP_LENT + LSI_MULTIPLIERS

-- how many f64 the step takes
abbrev pub STEP_ROOM : ℕ
STEP_ROOM = STEP_LENT + LSEI_ROOM

-- how many u32 it takes
abbrev pub STEP_WORDS : ℕ
STEP_WORDS = LSEI_WORDS
