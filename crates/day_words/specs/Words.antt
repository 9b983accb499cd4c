-- A text's lines, and a line's words. Definitions only.
use Rattle.std.specs.Prelude.{Bool, cond, ◌||◌, List, [], ◌∷◌, ℕ, ◌-◌, eqb, length, take, drop, get_or}

-- the bytes before the first at which `stop` holds
unfoldable pub up_to : (ℕ → Bool) → List ℕ → List ℕ
up_to stop [] = []
up_to stop (c ∷ cs) = cond (stop c) [] (c ∷ up_to stop cs)

-- ---- lines

abbrev pub is_feed : ℕ → Bool
is_feed c = eqb c 10

-- a byte before the first line; it is a line of its own where there is none
unfoldable pub joined : ℕ → List (List ℕ) → List (List ℕ)
joined c [] = (c ∷ []) ∷ []
joined c (l ∷ ls) = (c ∷ l) ∷ ls

-- Lines end at a line feed. The last may lack it, and nothing after the last line feed is no line.
unfoldable pub lines_of : List ℕ → List (List ℕ)
lines_of [] = []
lines_of (c ∷ cs) = cond (is_feed c) ([] ∷ lines_of cs) (joined c (lines_of cs))

-- a line without the carriage return that it ends in, if it does
unfoldable pub without_return : List ℕ → List ℕ
without_return l = cond (eqb (get_or l (length l - 1) 0) 13) (take (length l - 1) l) l

-- ---- words

-- the space and the tab
abbrev pub is_blank : ℕ → Bool
is_blank c = eqb c 32 || eqb c 9

unfoldable pub skip_blanks : List ℕ → List ℕ
skip_blanks [] = []
skip_blanks (c ∷ cs) = cond (is_blank c) (skip_blanks cs) (c ∷ cs)

-- the first word of a text, which is empty where there is none, and what comes after it
unfoldable pub word : List ℕ → List ℕ
word t = up_to is_blank (skip_blanks t)

unfoldable pub rest : List ℕ → List ℕ
rest t = drop (length (word t)) (skip_blanks t)
