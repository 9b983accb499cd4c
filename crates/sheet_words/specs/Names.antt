-- Names by their letters, and where a name stands in the table. Definitions only.
use Rattle.std.specs.Prelude.{Option, Some, None, Result, Ok, Err, Bool, true, false, cond, not, ◌&&◌, ◌||◌, List, [], ◌∷◌, ℕ, zero, suc, ◌+◌, ◌*◌, ◌≤◌, ◌<◌, leb, ltb, eqb, length, take, drop, Float}
use Rattle.std.specs.Float.Ieee.{lt, le, eq}
use Rattle.numbers.specs.Numbers.{+0}
use Rattle.ascii.specs.Text.{same_text}
use Rattle.decimals.specs.Decimal.{is_digit}
use Rattle.day_words.specs.Items.{is_printable, decimal_of, filled}
use Rattle.sheet_words.specs.declared.Expected.{Expected}
use Rattle.sheet_words.specs.declared.Expected.TheVariants.{Name, ShortName, PlainName, NewName}

-- ---- letters

abbrev pub is_capital : ℕ → Bool
is_capital c = leb 65 c && leb c 90

abbrev pub is_small : ℕ → Bool
is_small c = leb 97 c && leb c 122

abbrev pub is_letter : ℕ → Bool
is_letter c = is_capital c || is_small c

-- a capital's small letter; any other byte as it is
unfoldable pub small : ℕ → ℕ
small c = cond (is_capital c) (c + 32) c

-- the same but for capitals
unfoldable pub same_small : (s t : List ℕ) → Bool
same_small [] [] = true
same_small [] (d ∷ ds) = false
same_small (c ∷ cs) [] = false
same_small (c ∷ cs) (d ∷ ds) = eqb (small c) (small d) && same_small cs ds

-- ---- how a word begins

abbrev pub begins_letter : List ℕ → Bool
begins_letter [] = false
begins_letter (c ∷ cs) = is_letter c

-- a digit, a minus, a plus, a point
abbrev pub is_numeric : ℕ → Bool
is_numeric c = is_digit c || (eqb c 45 || (eqb c 43 || eqb c 46))

abbrev pub begins_number : List ℕ → Bool
begins_number [] = false
begins_number (c ∷ cs) = is_numeric c

-- ---- names: a letter, at most 16 bytes, printable and not `=`

unfoldable pub has_equals : List ℕ → Bool
has_equals [] = false
has_equals (c ∷ cs) = eqb c 61 || has_equals cs

abbrev pub is_name_byte : ℕ → Bool
is_name_byte c = is_printable c && not (eqb c 61)

unfoldable pub are_name_bytes : List ℕ → Bool
are_name_bytes [] = true
are_name_bytes (c ∷ cs) = is_name_byte c && are_name_bytes cs

-- The names stand 16 bytes each at the front of the texts, blank where none is given yet. Is this one among `left` of them from the k-th on, in capitals or not?
unfoldable pub is_taken : (left k : ℕ) → (name texts : List ℕ) → Bool
is_taken zero k name texts = false
is_taken (suc left) k name texts = same_small (take 16 (drop (16 * k) texts)) name || is_taken left (suc k) name texts

-- the first place of a name, letter by letter
unfoldable pub place_of : (left k : ℕ) → (name texts : List ℕ) → Option ℕ
place_of zero k name texts = None
place_of (suc left) k name texts = cond (same_text (take 16 (drop (16 * k) texts)) name) (Some k) (place_of left (suc k) name texts)

-- may this word be given as a name?
unfoldable pub name_judged : (w texts : List ℕ) → Result Unit Expected
name_judged w texts =
    cond (not (begins_letter w)) (Err Name)
    (cond (ltb 16 (length w)) (Err ShortName)
    (cond (not (are_name_bytes w)) (Err PlainName)
    (cond (is_taken 48 0 (filled w) texts) (Err NewName)
    (Ok tt))))

-- ---- what callers need besides

abbrev pub Inside : Option ℕ → Type 0
Inside (Some k) = k < 16
Inside None = Unit

abbrev pub ShortIf : Result Unit Expected → List ℕ → Type 0
ShortIf (Ok u) w = length w ≤ 16
ShortIf (Err e) w = Unit

-- ---- decimals of a kind

abbrev pub only_if : (Float → Bool) → Option Float → Option Float
only_if test (Some x) = cond (test x) (Some x) None
only_if test None = None

unfoldable pub above_zero : List ℕ → Option Float
above_zero w = only_if (λ x. lt +0 x) (decimal_of w)

unfoldable pub not_below_zero : List ℕ → Option Float
not_below_zero w = only_if (λ x. le +0 x) (decimal_of w)

unfoldable pub not_zero : List ℕ → Option Float
not_zero w = only_if (λ x. not (eq x +0)) (decimal_of w)
