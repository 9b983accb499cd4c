-- Numbers as bytes, the lowest byte first, and bytes at a place of a list. Definitions only.
use Rattle.std.specs.Prelude.{List, [], ◌∷◌, ◌++◌, ℕ, zero, suc, ◌+◌, ◌*◌, ◌/◌, ◌%◌, length, take, drop}

-- the number that some bytes stand for
unfoldable pub little : List ℕ → ℕ
little [] = 0
little (b ∷ bs) = b + 256 * little bs

-- x in k bytes
unfoldable pub bytes : (k x : ℕ) → List ℕ
bytes zero x = []
bytes (suc k) x = x % 256 ∷ bytes k (x / 256)

-- the number in the k bytes from place `at` on
abbrev pub number_at : (k at : ℕ) → List ℕ → ℕ
number_at k at s = little (take k (drop at s))

-- s with t in the places from `at` on
unfoldable pub placed : (at : ℕ) (t s : List ℕ) → List ℕ
placed at t s = take at s ++ (t ++ drop (at + length t) s)
