-- The sentences of refusals (docs/RULES.md, "The day's report" and, for what was expected, "The day's sheet"). Definitions only.
use Rattle.std.specs.Prelude.{Bool, true, false, cond, List, [], ◌∷◌, ◌++◌, ℕ, ltb, eqb}
use Rattle.workspace.specs.Tables.{number_of, place_of}
use Rattle.workspace.specs.declared.Refusal.{Refusal}
use Rattle.ascii.specs.Text.{ascii, decimal_text}
use Rattle.sheet_words.specs.declared.Expected.{Expected}
use Rattle.sheet_words.specs.declared.Expected.TheVariants.{Kind, SmallKind, OneTitle, OneTolerance, Late, FewItems, MeterBefore, FewBalances, FewLimits, FewDoubts, Text, Name, ShortName, PlainName, NewName, OneName, Reading, Decimal, Above, NotBelow, End, Equals, OneEquals, NoEquals, ApartEquals, NoSign, Coefficient, TermName, SameCapitals, Given, Once, TitleLine, MeterLine, BalanceLine, ToleranceLine}
use Rattle.sheet_parts.specs.Shown.{shown_word}
use Rattle.day_text.specs.Places.{name_text, balance_name}

-- ---- a fault of the sheet: 9, with its line, what was expected there, and what was found

unfoldable pub expected_text : Expected → List ℕ
expected_text Kind = ascii "title, meter, line, stock, balance, floor, ceiling, doubt or tolerance"
expected_text SmallKind = ascii "the first word in small letters"
expected_text OneTitle = ascii "one title"
expected_text OneTolerance = ascii "one tolerance"
expected_text Late = ascii "meters, lines and stocks before balances, floors and ceilings"
expected_text FewItems = ascii "at most 16 meters, lines and stocks"
expected_text MeterBefore = ascii "a meter before balances, floors and ceilings"
expected_text FewBalances = ascii "at most 16 balances"
expected_text FewLimits = ascii "at most 16 floors and ceilings"
expected_text FewDoubts = ascii "at most 16 doubts"
expected_text Text = ascii "a text of 1 to 72 printable ASCII characters"
expected_text Name = ascii "a name, which begins with a letter"
expected_text ShortName = ascii "a name of at most 16 characters"
expected_text PlainName = ascii "a name of printable ASCII characters other than ="
expected_text NewName = ascii "a name not given before, in capitals or not"
expected_text OneName = ascii "a number after the name, which has no blank in it"
expected_text Reading = ascii "a reading of one to six digits"
expected_text Decimal = ascii "a decimal number"
expected_text Above = ascii "a decimal number above zero"
expected_text NotBelow = ascii "a decimal number not below zero"
expected_text End = ascii "the end of the line"
expected_text Equals = ascii "=, and after it what flows out"
expected_text OneEquals = ascii "one ="
expected_text NoEquals = ascii "no = in a floor or ceiling"
expected_text ApartEquals = ascii "a blank on each side of ="
expected_text NoSign = ascii "names with no sign between them; what flows out stands after ="
expected_text Coefficient = ascii "a decimal number other than zero, then a name"
expected_text TermName = ascii "a name of a meter, line or stock"
expected_text SameCapitals = ascii "a name given above, in the same capitals"
expected_text Given = ascii "a name given above for a meter, line or stock"
expected_text Once = ascii "a name only once in a line"
expected_text TitleLine = ascii "a title"
expected_text MeterLine = ascii "a meter"
expected_text BalanceLine = ascii "a balance"
expected_text ToleranceLine = ascii "a tolerance"

-- these four are told after the last line
unfoldable pub is_after_all : Expected → Bool
is_after_all TitleLine = true
is_after_all MeterLine = true
is_after_all BalanceLine = true
is_after_all ToleranceLine = true
is_after_all Kind = false
is_after_all SmallKind = false
is_after_all OneTitle = false
is_after_all OneTolerance = false
is_after_all Late = false
is_after_all FewItems = false
is_after_all MeterBefore = false
is_after_all FewBalances = false
is_after_all FewLimits = false
is_after_all FewDoubts = false
is_after_all Text = false
is_after_all Name = false
is_after_all ShortName = false
is_after_all PlainName = false
is_after_all NewName = false
is_after_all OneName = false
is_after_all Reading = false
is_after_all Decimal = false
is_after_all Above = false
is_after_all NotBelow = false
is_after_all End = false
is_after_all Equals = false
is_after_all OneEquals = false
is_after_all NoEquals = false
is_after_all ApartEquals = false
is_after_all NoSign = false
is_after_all Coefficient = false
is_after_all TermName = false
is_after_all SameCapitals = false
is_after_all Given = false
is_after_all Once = false

abbrev pub word_text : List ℕ → List ℕ
word_text [] = ascii "the end of the line"
word_text (c ∷ cs) = ascii "\"" ++ (shown_word (c ∷ cs) ++ ascii "\"")

unfoldable pub found_text : Expected → (word : List ℕ) → List ℕ
found_text e word = cond (is_after_all e) (ascii "the end of the sheet") (word_text word)

unfoldable pub fault_text : (line : ℕ) → Expected → (word : List ℕ) → List ℕ
fault_text line e word = ascii "refused 9: line " ++ (decimal_text line ++ (ascii ": expected " ++ (expected_text e ++ (ascii ", found " ++ (found_text e word ++ ascii "\n")))))

abbrev pub long_text : List ℕ
long_text = ascii "refused 9: expected a sheet of at most 65536 bytes\n"

-- ---- what the settling refuses, by its number; 11 has the place of a balance

-- the last stands for all other numbers, which no sheet brings about
unfoldable pub plain_text : ℕ → List ℕ
plain_text number =
    cond (eqb number 5) (ascii "the spreads are too far apart, or one is out of range")
    (cond (eqb number 6) (ascii "no volumes were found that close the balances and keep the limits")
    (cond (eqb number 7) (ascii "the working did not end within its rounds")
    (ascii "the call was not taken")))

-- the name of the balance at a place; past the 16 there is none
unfoldable pub balance_named : List ℕ → (place : ℕ) → List ℕ
balance_named texts place = cond (ltb place 16) (name_text texts (balance_name place)) []

unfoldable pub reason_text : List ℕ → (number place : ℕ) → List ℕ
reason_text texts number place = cond (eqb number 11) (balance_named texts place ++ ascii " depends on the other balances") (plain_text number)

unfoldable pub refusal_text : List ℕ → Refusal → List ℕ
refusal_text texts why = ascii "refused " ++ (decimal_text (number_of why) ++ (ascii ": " ++ (reason_text texts (number_of why) (place_of why) ++ ascii "\n")))
