-- What the functions that write the tables are handed. Definitions only.
use Rattle.std.specs.Prelude.{◌≡◌, List, ℕ, length, Float}
use Rattle.sheet_words.specs.declared.Expected.{Expected}
use Rattle.sheet_words.specs.declared.Expected.TheVariants.{Kind, SmallKind, OneTitle, OneTolerance, Late, FewItems, MeterBefore, FewBalances, FewLimits, FewDoubts, Text, Name, ShortName, PlainName, NewName, OneName, Reading, Decimal, Above, NotBelow, End, Equals, OneEquals, NoEquals, ApartEquals, NoSign, Coefficient, TermName, SameCapitals, Given, Once, TitleLine, MeterLine, BalanceLine, ToleranceLine}

-- the lengths of the tables
pub record Tables (texts wholes : List ℕ) (numbers figures : List Float) (signs : List ℕ) : Type 0 where
  pub lt : length texts ≡ 1992
  pub lw : length wholes ≡ 64
  pub ln : length numbers ≡ 577
  pub lf : length figures ≡ 130
  pub ls : length signs ≡ 51

-- what may be expected, in the order of the rules
unfoldable pub rank_of : Expected → ℕ
rank_of Kind = 0
rank_of SmallKind = 1
rank_of OneTitle = 2
rank_of OneTolerance = 3
rank_of Late = 4
rank_of FewItems = 5
rank_of MeterBefore = 6
rank_of FewBalances = 7
rank_of FewLimits = 8
rank_of FewDoubts = 9
rank_of Text = 10
rank_of Name = 11
rank_of ShortName = 12
rank_of PlainName = 13
rank_of NewName = 14
rank_of OneName = 15
rank_of Reading = 16
rank_of Decimal = 17
rank_of Above = 18
rank_of NotBelow = 19
rank_of End = 20
rank_of Equals = 21
rank_of OneEquals = 22
rank_of NoEquals = 23
rank_of ApartEquals = 24
rank_of NoSign = 25
rank_of Coefficient = 26
rank_of TermName = 27
rank_of SameCapitals = 28
rank_of Given = 29
rank_of Once = 30
rank_of TitleLine = 31
rank_of MeterLine = 32
rank_of BalanceLine = 33
rank_of ToleranceLine = 34
