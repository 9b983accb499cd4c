-- Sheets with a fault, and what is told of each; a sheet without, and what stands in its tables. Definitions only.
use Rattle.std.specs.Prelude.{◌≡◌, List, [], ◌∷◌, ℕ, take, drop, Float}
use Rattle.std.specs.Float.Ieee.{neg}
use Rattle.numbers.specs.Numbers.{+0, -1, one, near}
use Rattle.ascii.specs.Text.{ascii}
use Rattle.sheet_words.specs.declared.Expected.{Expected}
use Rattle.sheet_words.specs.declared.Expected.TheVariants.{Above, ApartEquals, BalanceLine, Coefficient, Decimal, End, Equals, FewDoubts, FewItems, Given, Kind, Late, MeterBefore, MeterLine, Name, NewName, NoEquals, NoSign, NotBelow, Once, OneEquals, OneName, OneTitle, OneTolerance, PlainName, Reading, SameCapitals, ShortName, SmallKind, TermName, Text, TitleLine, ToleranceLine}
use Rattle.sheet.specs.Sheet.{Outcome, whole, fault, long, sheet_of}

-- a sheet, and what is told of it
pub record Case : Type 0 where
  pub text : List ℕ
  pub tells : Outcome

abbrev pub FAULT : (text : List ℕ) (line : ℕ) → Expected → (word : List ℕ) → Case
FAULT text line e w = record { text = text; tells = fault line e w }

abbrev pub answered : Case → Case
answered c = record { text = c.text; tells = sheet_of c.text }

abbrev pub faults : List Case
faults =
    FAULT (ascii "title T\nmetre a 1 2 3\n") 2 Kind (ascii "metre")
    ∷ FAULT (ascii "title T\nMeter a 1 2 3\n") 2 SmallKind (ascii "Meter")
    ∷ FAULT (ascii "title T\nMETER a 1 2 3\n") 2 SmallKind (ascii "METER")
    ∷ FAULT (ascii "title T\nmeter: a 1 2 3\n") 2 Kind (ascii "meter:")
    ∷ FAULT (ascii "title T\na 1 2 3\n") 2 Kind (ascii "a")
    ∷ FAULT (239 ∷ 187 ∷ 191 ∷ 239 ∷ 187 ∷ 191 ∷ 116 ∷ 105 ∷ 116 ∷ 108 ∷ 101 ∷ 32 ∷ 84 ∷ 10 ∷ []) 1 Kind (239 ∷ 187 ∷ 191 ∷ 116 ∷ 105 ∷ 116 ∷ 108 ∷ 101 ∷ [])
    ∷ FAULT (ascii "title T\ntitle U\n") 2 OneTitle (ascii "title")
    ∷ FAULT (ascii "title\n") 1 Text []
    ∷ FAULT (116 ∷ 105 ∷ 116 ∷ 108 ∷ 101 ∷ 32 ∷ 32 ∷ 32 ∷ 9 ∷ 32 ∷ 10 ∷ []) 1 Text []
    ∷ FAULT (116 ∷ 105 ∷ 116 ∷ 108 ∷ 101 ∷ 32 ∷ 87 ∷ 101 ∷ 114 ∷ 107 ∷ 32 ∷ 83 ∷ 195 ∷ 188 ∷ 100 ∷ 10 ∷ []) 1 Text (195 ∷ 188 ∷ 100 ∷ [])
    ∷ FAULT (ascii "title xxxxxxxxxxxxxxxxxxxxxxxxxxxxxxxxxxxxxxxxxxxxxxxxxxxxxxxxxxxxxxxxxxxxxxxxx\n") 1 Text (ascii "x")
    ∷ FAULT (ascii "title T\ntolerance 1\ntolerance 2\n") 3 OneTolerance (ascii "tolerance")
    ∷ FAULT (ascii "title T\nmeter a 1 2 3\nmeter b 1 2 3\nline v 500\nstock k 8 7.5 2\nbalance m a 0.98 b = k v\nmeter c 1 2 3\ntolerance 0.001\n") 7 Late (ascii "meter")
    ∷ FAULT (ascii "title T\nmeter a 1 2 3\nmeter b 1 2 3\nline v 500\nstock k 8 7.5 2\nfloor f 1 a\nline c 1\ntolerance 0.001\n") 7 Late (ascii "line")
    ∷ FAULT (ascii "title T\nmeter m0 1 2 3\nmeter m1 1 2 3\nmeter m2 1 2 3\nmeter m3 1 2 3\nmeter m4 1 2 3\nmeter m5 1 2 3\nmeter m6 1 2 3\nmeter m7 1 2 3\nmeter m8 1 2 3\nmeter m9 1 2 3\nmeter m10 1 2 3\nmeter m11 1 2 3\nmeter m12 1 2 3\nmeter m13 1 2 3\nmeter m14 1 2 3\nmeter m15 1 2 3\nmeter m16 1 2 3\n") 18 FewItems (ascii "meter")
    ∷ FAULT (ascii "title T\nbalance m a = b\n") 2 MeterBefore (ascii "balance")
    ∷ FAULT (ascii "title T\nline v 5\nceiling c 5 v\n") 3 MeterBefore (ascii "ceiling")
    ∷ FAULT (ascii "title T\ndoubt d\ndoubt d\ndoubt d\ndoubt d\ndoubt d\ndoubt d\ndoubt d\ndoubt d\ndoubt d\ndoubt d\ndoubt d\ndoubt d\ndoubt d\ndoubt d\ndoubt d\ndoubt d\ndoubt d\n") 18 FewDoubts (ascii "doubt")
    ∷ FAULT (ascii "title T\nmeter\n") 2 Name []
    ∷ FAULT (ascii "title T\nmeter # a 1 2 3\n") 2 Name []
    ∷ FAULT (ascii "title T\nmeter 412380 416499 40\n") 2 Name (ascii "412380")
    ∷ FAULT (ascii "title T\nmeter -a 1 2 3\n") 2 Name (ascii "-a")
    ∷ FAULT (ascii "title T\nmeter abcdefghijklmnopq 1 2 3\n") 2 ShortName (ascii "abcdefghijklmnopq")
    ∷ FAULT (116 ∷ 105 ∷ 116 ∷ 108 ∷ 101 ∷ 32 ∷ 84 ∷ 10 ∷ 109 ∷ 101 ∷ 116 ∷ 101 ∷ 114 ∷ 32 ∷ 116 ∷ 111 ∷ 226 ∷ 128 ∷ 147 ∷ 110 ∷ 32 ∷ 49 ∷ 32 ∷ 50 ∷ 32 ∷ 51 ∷ 10 ∷ []) 2 PlainName (116 ∷ 111 ∷ 226 ∷ 128 ∷ 147 ∷ 110 ∷ [])
    ∷ FAULT (116 ∷ 105 ∷ 116 ∷ 108 ∷ 101 ∷ 32 ∷ 84 ∷ 10 ∷ 109 ∷ 101 ∷ 116 ∷ 101 ∷ 114 ∷ 32 ∷ 97 ∷ 194 ∷ 160 ∷ 49 ∷ 32 ∷ 50 ∷ 32 ∷ 51 ∷ 10 ∷ []) 2 PlainName (97 ∷ 194 ∷ 160 ∷ 49 ∷ [])
    ∷ FAULT (ascii "title T\nmeter a=b 1 2 3\n") 2 PlainName (ascii "a=b")
    ∷ FAULT (ascii "title T\nmeter a 1 2 3\nmeter a 1 2 3\n") 3 NewName (ascii "a")
    ∷ FAULT (ascii "title T\nmeter a 1 2 3\nmeter A 1 2 3\n") 3 NewName (ascii "A")
    ∷ FAULT (ascii "title T\nmeter a 1 2 3\nmeter b 1 2 3\nline v 500\nstock k 8 7.5 2\nbalance a a = b\ntolerance 0.001\n") 6 NewName (ascii "a")
    ∷ FAULT (ascii "title T\nmeter generator A 1 2 3\n") 2 OneName (ascii "A")
    ∷ FAULT (ascii "title T\nmeter a 1 2 3\nmeter b 1 2 3\nline v 500\nstock k 8 7.5 2\nfloor f a 5\ntolerance 0.001\n") 6 OneName (ascii "a")
    ∷ FAULT (ascii "title T\nmeter a 4312500 2 3\n") 2 Reading (ascii "4312500")
    ∷ FAULT (ascii "title T\nmeter a 431,250 2 3\n") 2 Reading (ascii "431,250")
    ∷ FAULT (ascii "title T\nmeter a 1 -2 3\n") 2 Reading (ascii "-2")
    ∷ FAULT (ascii "title T\nmeter a 1\n") 2 Reading []
    ∷ FAULT (ascii "title T\nmeter a 1 2 3,5\n") 2 Above (ascii "3,5")
    ∷ FAULT (ascii "title T\nmeter a 1 2 0.0\n") 2 Above (ascii "0.0")
    ∷ FAULT (ascii "title T\nmeter a 1 2\n") 2 Above []
    ∷ FAULT (ascii "title T\nmeter a 1 2 -3\n") 2 Above (ascii "-3")
    ∷ FAULT (ascii "title T\nmeter a 1 2 1e3\n") 2 Above (ascii "1e3")
    ∷ FAULT (ascii "title T\nmeter a 1 2 3 4\n") 2 End (ascii "4")
    ∷ FAULT (ascii "title T\nmeter a 1 2 3# x\n") 2 Above (ascii "3#")
    ∷ FAULT (ascii "title T\nline v\n") 2 Above []
    ∷ FAULT (ascii "title T\nline v 0\n") 2 Above (ascii "0")
    ∷ FAULT (ascii "title T\nstock k 1\n") 2 Decimal []
    ∷ FAULT (ascii "title T\nstock k 1 .5 2\n") 2 Decimal (ascii ".5")
    ∷ FAULT (ascii "title T\nmeter a 1 2 3\nmeter b 1 2 3\nline v 500\nstock k 8 7.5 2\nfloor f 1, a\ntolerance 0.001\n") 6 Decimal (ascii "1,")
    ∷ FAULT (ascii "title T\ntolerance -1\n") 2 NotBelow (ascii "-1")
    ∷ FAULT (ascii "title T\ntolerance\n") 2 NotBelow []
    ∷ FAULT (ascii "title T\ntolerance 1 2\n") 2 End (ascii "2")
    ∷ FAULT (ascii "title T\nmeter a 1 2 3\nmeter b 1 2 3\nline v 500\nstock k 8 7.5 2\nbalance m\ntolerance 0.001\n") 6 TermName []
    ∷ FAULT (ascii "title T\nmeter a 1 2 3\nmeter b 1 2 3\nline v 500\nstock k 8 7.5 2\nbalance m a b\ntolerance 0.001\n") 6 Equals []
    ∷ FAULT (ascii "title T\nmeter a 1 2 3\nmeter b 1 2 3\nline v 500\nstock k 8 7.5 2\nbalance m 1 1 -1 -1\ntolerance 0.001\n") 6 TermName (ascii "1")
    ∷ FAULT (ascii "title T\nmeter a 1 2 3\nmeter b 1 2 3\nline v 500\nstock k 8 7.5 2\nbalance m = a\ntolerance 0.001\n") 6 TermName (ascii "=")
    ∷ FAULT (ascii "title T\nmeter a 1 2 3\nmeter b 1 2 3\nline v 500\nstock k 8 7.5 2\nbalance m a =\ntolerance 0.001\n") 6 TermName []
    ∷ FAULT (ascii "title T\nmeter a 1 2 3\nmeter b 1 2 3\nline v 500\nstock k 8 7.5 2\nbalance m a 2 = b\ntolerance 0.001\n") 6 TermName (ascii "=")
    ∷ FAULT (ascii "title T\nmeter a 1 2 3\nmeter b 1 2 3\nline v 500\nstock k 8 7.5 2\nbalance m a = 2\ntolerance 0.001\n") 6 TermName []
    ∷ FAULT (ascii "title T\nmeter a 1 2 3\nmeter b 1 2 3\nline v 500\nstock k 8 7.5 2\nbalance m a = b = v\ntolerance 0.001\n") 6 OneEquals (ascii "=")
    ∷ FAULT (ascii "title T\nmeter a 1 2 3\nmeter b 1 2 3\nline v 500\nstock k 8 7.5 2\nbalance m a = = v\ntolerance 0.001\n") 6 OneEquals (ascii "=")
    ∷ FAULT (ascii "title T\nmeter a 1 2 3\nmeter b 1 2 3\nline v 500\nstock k 8 7.5 2\nfloor f 1 a = b\ntolerance 0.001\n") 6 NoEquals (ascii "=")
    ∷ FAULT (ascii "title T\nmeter a 1 2 3\nmeter b 1 2 3\nline v 500\nstock k 8 7.5 2\nfloor f 1\ntolerance 0.001\n") 6 TermName []
    ∷ FAULT (ascii "title T\nmeter a 1 2 3\nmeter b 1 2 3\nline v 500\nstock k 8 7.5 2\nbalance m a=b\ntolerance 0.001\n") 6 ApartEquals (ascii "a=b")
    ∷ FAULT (ascii "title T\nmeter a 1 2 3\nmeter b 1 2 3\nline v 500\nstock k 8 7.5 2\nbalance m a b== v\ntolerance 0.001\n") 6 ApartEquals (ascii "b==")
    ∷ FAULT (ascii "title T\nmeter a 1 2 3\nmeter b 1 2 3\nline v 500\nstock k 8 7.5 2\nbalance m a + b = v\ntolerance 0.001\n") 6 NoSign (ascii "+")
    ∷ FAULT (ascii "title T\nmeter a 1 2 3\nmeter b 1 2 3\nline v 500\nstock k 8 7.5 2\nbalance m a 0,98 b = v\ntolerance 0.001\n") 6 Coefficient (ascii "0,98")
    ∷ FAULT (ascii "title T\nmeter a 1 2 3\nmeter b 1 2 3\nline v 500\nstock k 8 7.5 2\nbalance m a 0 b = v\ntolerance 0.001\n") 6 Coefficient (ascii "0")
    ∷ FAULT (ascii "title T\nmeter a 1 2 3\nmeter b 1 2 3\nline v 500\nstock k 8 7.5 2\nbalance m a 0.98*b = v\ntolerance 0.001\n") 6 Coefficient (ascii "0.98*b")
    ∷ FAULT (ascii "title T\nmeter a 1 2 3\nmeter b 1 2 3\nline v 500\nstock k 8 7.5 2\nbalance m a (b) = v\ntolerance 0.001\n") 6 TermName (ascii "(b)")
    ∷ FAULT (ascii "title T\nmeter a 1 2 3\nmeter b 1 2 3\nline v 500\nstock k 8 7.5 2\nbalance m A = v\ntolerance 0.001\n") 6 SameCapitals (ascii "A")
    ∷ FAULT (ascii "title T\nmeter a 1 2 3\nmeter b 1 2 3\nline v 500\nstock k 8 7.5 2\nbalance m a = c\ntolerance 0.001\n") 6 Given (ascii "c")
    ∷ FAULT (ascii "title T\nmeter a 1 2 3\nmeter b 1 2 3\nline v 500\nstock k 8 7.5 2\nbalance m a = m\ntolerance 0.001\n") 6 Given (ascii "m")
    ∷ FAULT (ascii "title T\nmeter a 1 2 3\nmeter b 1 2 3\nline v 500\nstock k 8 7.5 2\nbalance m a, b = v\ntolerance 0.001\n") 6 Given (ascii "a,")
    ∷ FAULT (ascii "title T\nmeter a 1 2 3\nmeter b 1 2 3\nline v 500\nstock k 8 7.5 2\nbalance m a b a = v\ntolerance 0.001\n") 6 Once (ascii "a")
    ∷ FAULT (ascii "title T\nmeter a 1 2 3\nmeter b 1 2 3\nline v 500\nstock k 8 7.5 2\nbalance m a = a\ntolerance 0.001\n") 6 Once (ascii "a")
    ∷ FAULT (ascii "title T\nmeter a 1 2 3\nmeter b 1 2 3\nline v 500\nstock k 8 7.5 2\nceiling f 1 2 a a\ntolerance 0.001\n") 6 Once (ascii "a")
    ∷ FAULT [] 1 TitleLine []
    ∷ FAULT (ascii "# x\n\n") 3 TitleLine []
    ∷ FAULT (ascii "title T\n") 2 MeterLine []
    ∷ FAULT (ascii "title T\nline v 1\n") 3 MeterLine []
    ∷ FAULT (ascii "title T\nmeter a 1 2 3\nmeter b 1 2 3\nline v 500\nstock k 8 7.5 2\n") 6 BalanceLine []
    ∷ FAULT (ascii "title T\nmeter a 1 2 3\nmeter b 1 2 3\nline v 500\nstock k 8 7.5 2\nbalance m a 0.98 b = k v\n") 7 ToleranceLine []
    ∷ FAULT (ascii "title T\nmeter a 1,2 2 3\nmetre b\n") 2 Reading (ascii "1,2")
    ∷ []

-- ---- a sheet without a fault

abbrev pub sound : List ℕ
sound = ascii "title Plant #7\nmeter a 1 2 3\nmeter b 1 2 3 # r\nline v 500\nstock k 8 7.5 2\nbalance m a 0.98 b = 2 k v\nfloor f 2600 a\nceiling g -1.5 2 a b\ntolerance 0.001"

-- n entries of a table from p on
abbrev pub numbers_in : (p n : ℕ) → Outcome → List Float
numbers_in p n (whole i b l d texts wholes numbers) = take n (drop p numbers)
numbers_in p n (fault line e w) = []
numbers_in p n long = []

abbrev pub wholes_in : (p n : ℕ) → Outcome → List ℕ
wholes_in p n (whole i b l d texts wholes numbers) = take n (drop p wholes)
wholes_in p n (fault line e w) = []
wholes_in p n long = []

abbrev pub bytes_in : (p n : ℕ) → Outcome → List ℕ
bytes_in p n (whole i b l d texts wholes numbers) = take n (drop p texts)
bytes_in p n (fault line e w) = []
bytes_in p n long = []

pub record Says (o : Outcome) : Type 0 where
  pub title : bytes_in 768 9 o ≡ ascii "Plant #7 "
  -- what stands after `=` has the other sign
  pub balance : numbers_in 48 5 o ≡ one ∷ near 98 100 ∷ -1 ∷ neg (near 2 1) ∷ +0 ∷ []
  pub amounts : numbers_in 304 3 o ≡ near 2600 1 ∷ neg (near 15 10) ∷ +0 ∷ []
  pub ceiling : numbers_in 336 4 o ≡ near 2 1 ∷ one ∷ +0 ∷ +0 ∷ []
  -- two meters, a line, a stock; a floor, a ceiling
  pub kinds : wholes_in 32 5 o ≡ 0 ∷ 0 ∷ 1 ∷ 2 ∷ 0 ∷ []
  pub limits : wholes_in 48 3 o ≡ 0 ∷ 1 ∷ 0 ∷ []
