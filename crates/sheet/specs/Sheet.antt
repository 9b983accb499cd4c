-- What a sheet says, line by line, or its first fault. Definitions only.
use Rattle.std.specs.Prelude.{Bool, true, false, cond, not, ◌||◌, List, [], ◌∷◌, ℕ, suc, ◌+◌, ◌-◌, ltb, eqb, length, replicate, Float}
use Rattle.numbers.specs.Numbers.{+0}
use Rattle.ascii.specs.Text.{ascii, same_text}
use Rattle.day_words.specs.Words.{lines_of, without_return, word, rest}
use Rattle.sheet_words.specs.declared.Expected.{Expected}
use Rattle.sheet_words.specs.declared.Expected.TheVariants.{Kind, SmallKind, TitleLine, MeterLine, BalanceLine, ToleranceLine}
use Rattle.sheet_words.specs.Names.{same_small}
use Rattle.sheet_words.specs.Lines.{after_mark, unremarked}
use Rattle.sheet_lines.specs.Lines.{State, Line, taken, wrong, title_line, doubt_line, item_line, balance_line, limit_line, tolerance_line}

-- ---- a line, by its first word

-- no word, or one that starts with `#`
abbrev pub is_passed : List ℕ → Bool
is_passed [] = true
is_passed (c ∷ cs) = eqb c 35

-- the kinds of line, from 0 on
abbrev pub kinds : List (List ℕ)
kinds = ascii "meter" ∷ (ascii "line" ∷ (ascii "stock" ∷ (ascii "balance" ∷ (ascii "floor" ∷ (ascii "ceiling" ∷ (ascii "tolerance" ∷ (ascii "title" ∷ (ascii "doubt" ∷ []))))))))

-- the place of a word among others; how many they are where it is none of them
unfoldable pub place_among : List ℕ → List (List ℕ) → ℕ
place_among w [] = 0
place_among w (k ∷ ks) = cond (same_text w k) 0 (suc (place_among w ks))

unfoldable pub kind_of : List ℕ → ℕ
kind_of w = place_among w kinds

unfoldable pub is_alike : List ℕ → List (List ℕ) → Bool
is_alike w [] = false
is_alike w (k ∷ ks) = same_small w k || is_alike w ks

-- w is the first word, k its kind, and t what comes after it, without a remark
unfoldable pub plain_line : (k : ℕ) (w t : List ℕ) → State → Line
plain_line k w t s =
    cond (ltb k 3) (item_line k w t s)
    (cond (eqb k 3) (balance_line w t s)
    (cond (ltb k 6) (limit_line (k - 4) w t s)
    (cond (eqb k 6) (tolerance_line w t s)
    (cond (is_alike w kinds) (wrong SmallKind w)
    (wrong Kind w)))))

unfoldable pub line_read : List ℕ → State → Line
line_read l s =
    cond (is_passed (word l)) (taken s)
    (cond (eqb (kind_of (word l)) 7) (title_line (word l) (rest l) s)
    (cond (eqb (kind_of (word l)) 8) (doubt_line (word l) (rest l) s)
    (plain_line (kind_of (word l)) (word l) (unremarked (rest l)) s)))

-- ---- the sheet

-- all that it says; or the line of its first fault, what was expected there, and the word found; or it is too long
pub data Outcome : Type 0 where
  whole : (items balances limits doubts : ℕ) (texts wholes : List ℕ) (numbers : List Float) → Outcome
  fault : (line : ℕ) → Expected → (word : List ℕ) → Outcome
  long : Outcome

unfoldable pub sheet_end : (line : ℕ) → State → Outcome
sheet_end line s =
    cond (not s.titled) (fault line TitleLine [])
    (cond (not s.metered) (fault line MeterLine [])
    (cond (eqb s.balances 0) (fault line BalanceLine [])
    (cond (not s.toleranced) (fault line ToleranceLine [])
    (whole s.items s.balances s.limits s.doubts s.texts s.wholes s.numbers))))

abbrev pub onward : (line : ℕ) → Line → (State → Outcome) → Outcome
onward line (taken s) others = others s
onward line (wrong e w) others = fault line e w

-- the lines after the first k
unfoldable pub lines_read : List (List ℕ) → (k : ℕ) → State → Outcome
lines_read [] k s = sheet_end (k + 1) s
lines_read (l ∷ ls) k s = onward (k + 1) (line_read (without_return l) s) (lines_read ls (k + 1))

-- nothing is given yet
unfoldable pub blank_texts : List ℕ
blank_texts = replicate 1992 32

unfoldable pub blank_wholes : List ℕ
blank_wholes = replicate 64 0

unfoldable pub blank_numbers : List Float
blank_numbers = replicate 577 +0

unfoldable pub at_start : State
at_start = record {
  items = 0;
  balances = 0;
  limits = 0;
  doubts = 0;
  titled = false;
  metered = false;
  toleranced = false;
  texts = blank_texts;
  wholes = blank_wholes;
  numbers = blank_numbers;
}

unfoldable pub sheet_of : List ℕ → Outcome
sheet_of bytes = cond (ltb 65536 (length bytes)) long (lines_read (lines_of (after_mark bytes)) 0 at_start)
