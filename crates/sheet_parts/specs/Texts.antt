-- A text: the rest of a line without the blanks around it, and how much of it can stand. Definitions only.
use Rattle.std.specs.Prelude.{Bool, cond, not, ◌&&◌, ◌||◌, List, [], ◌∷◌, ℕ, leb, eqb, take}
use Rattle.day_words.specs.Words.{up_to, is_blank, skip_blanks}

-- a byte before a text without blanks at its end
abbrev pub kept : ℕ → List ℕ → List ℕ
kept c [] = cond (is_blank c) [] (c ∷ [])
kept c (d ∷ ds) = c ∷ (d ∷ ds)

unfoldable pub without_blanks : List ℕ → List ℕ
without_blanks [] = []
without_blanks (c ∷ cs) = kept c (without_blanks cs)

abbrev pub text_in : List ℕ → List ℕ
text_in t = without_blanks (skip_blanks t)

-- printable ASCII and the space
abbrev pub is_plain : ℕ → Bool
is_plain c = leb 32 c && leb c 126

abbrev pub is_foreign : ℕ → Bool
is_foreign c = not (is_plain c || eqb c 9)

-- what of a text can stand: up to the first other byte, and at most 72
unfoldable pub sound_part : List ℕ → List ℕ
sound_part t = take 72 (up_to is_foreign t)
