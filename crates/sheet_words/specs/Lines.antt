-- The byte order mark, remarks, the words of a text, and what stands between two places. Definitions only.
use Rattle.std.specs.Prelude.{Bool, true, cond, ◌&&◌, List, [], ◌∷◌, ℕ, ◌-◌, ◌≤◌, eqb, length, take, drop}
use Rattle.ascii.specs.Text.{same_text}
use Rattle.day_words.specs.Words.{is_blank, joined}
use Rattle.sheet_words.specs.declared.Wrong.{Wrong}

-- ---- the bytes EF BB BF at the front

unfoldable pub after_mark : List ℕ → List ℕ
after_mark bytes = cond (same_text (take 3 bytes) (239 ∷ (187 ∷ (191 ∷ [])))) (drop 3 bytes) bytes

-- ---- remarks: from a `#` on that stands at the front or after a blank

unfoldable pub unremarked_from : (free : Bool) → List ℕ → List ℕ
unremarked_from free [] = []
unremarked_from free (c ∷ cs) = cond (free && eqb c 35) [] (c ∷ unremarked_from (is_blank c) cs)

abbrev pub unremarked : List ℕ → List ℕ
unremarked t = unremarked_from true t

-- ---- all words of a text

abbrev pub is_over : List ℕ → Bool
is_over [] = true
is_over (c ∷ cs) = is_blank c

unfoldable pub words_of : List ℕ → List (List ℕ)
words_of [] = []
words_of (c ∷ cs) = cond (is_blank c) (words_of cs) (cond (is_over cs) ((c ∷ []) ∷ words_of cs) (joined c (words_of cs)))

-- ---- what stands from a place to a place

abbrev pub between : (a b : ℕ) → List ℕ → List ℕ
between a b line = take (b - a) (drop a line)

abbrev pub Lies : (a b : ℕ) → List ℕ → Type 0
Lies a b line = (a ≤ b) × (b ≤ length line)

-- the word of a fault, and that it stands in the line
abbrev pub found : (line : List ℕ) → Wrong → List ℕ
found line w = between w.word.start w.word.end line

abbrev pub FoundIn : (line : List ℕ) → Wrong → Type 0
FoundIn line w = Lies w.word.start w.word.end line
