-- Text and numbers as bytes. Definitions only.
use Rattle.std.specs.Prelude.{Bool, true, false, cond, ◌&&◌, List, [], ◌∷◌, ◌++◌, ℕ, zero, suc, ◌-◌, ◌/◌, ◌%◌, ltb, eqb, length, replicate}
use Prim.Native.Char.{code}
use Prim.Native.String.{String, len, char_at}
use Rattle.io.specs.Digits.{hex_digit_ascii}
use Rattle.numbers.specs.Numbers.{tab}

-- the bytes of a text in ASCII
unfoldable pub ascii : String → List ℕ
ascii s = tab (len s) (λ i. code (char_at s i))

-- k in decimal, where `left` is above k
unfoldable pub decimal_from : (left k : ℕ) → List ℕ
decimal_from zero k = []
decimal_from (suc left) k = cond (ltb k 10) (hex_digit_ascii k ∷ []) (decimal_from left (k / 10) ++ (hex_digit_ascii (k % 10) ∷ []))

unfoldable pub decimal_text : ℕ → List ℕ
decimal_text k = decimal_from (suc k) k

-- a text with blanks before it, up to a width
unfoldable pub padded : ℕ → List ℕ → List ℕ
padded width text = replicate (width - length text) 32 ++ text

-- whether two texts are the same, byte by byte
unfoldable pub same_text : (s t : List ℕ) → Bool
same_text [] [] = true
same_text [] (d ∷ ds) = false
same_text (c ∷ cs) [] = false
same_text (c ∷ cs) (d ∷ ds) = eqb c d && same_text cs ds
