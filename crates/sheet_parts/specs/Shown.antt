-- How a fault shows the word that it found. Definitions only.
use Rattle.std.specs.Prelude.{cond, List, [], ◌∷◌, ◌++◌, ℕ, ◌+◌, ◌/◌, ◌%◌, ltb, length, take}
use Rattle.ascii.specs.Text.{ascii}
use Rattle.sheet_parts.specs.Texts.{is_plain}

abbrev pub hex_digit : ℕ → ℕ
hex_digit d = cond (ltb d 10) (48 + d) (87 + d)

-- a byte from 32 to 126 as it is, any other as `\x` and two hexadecimal digits
unfoldable pub escape : ℕ → List ℕ
escape c = cond (is_plain c) (c ∷ []) (92 ∷ (120 ∷ (hex_digit (c / 16) ∷ (hex_digit (c % 16) ∷ []))))

unfoldable pub escaped : List ℕ → List ℕ
escaped [] = []
escaped (c ∷ cs) = escape c ++ escaped cs

-- the first 32 bytes of it, and `..` where there are more
unfoldable pub shown_word : List ℕ → List ℕ
shown_word w = escaped (take 32 w) ++ cond (ltb 32 (length w)) (ascii "..") []
