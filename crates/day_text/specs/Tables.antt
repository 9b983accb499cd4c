-- The tables of the day's report: items, balances, limits. Definitions only.
use Rattle.std.specs.Prelude.{cond, List, [], ◌++◌, ℕ, zero, suc, ◌+◌, eqb, Float}
use Rattle.numbers.specs.Numbers.{◌⊖◌}
use Rattle.ascii.specs.Text.{ascii}
use Rattle.day_text.specs.Places.{name_cell, balance_name, limit_name, limit_kind, amount_of, measured_of, left_of, comes_to, balance_within, limit_within}
use Rattle.day_text.specs.Cells.{number_cell, within_text}
use Rattle.day_text.specs.Items.{item_row}

-- ---- items

abbrev pub item_heading : List ℕ
item_heading = ascii "name             kind           old          new       volume    corrected   new spread   correction   in spreads         test  marks\n"

-- `left` rows from item i on
unfoldable pub item_rows : (left i : ℕ) (texts wholes : List ℕ) (numbers figures : List Float) (signs : List ℕ) → List ℕ
item_rows zero i texts wholes numbers figures signs = []
item_rows (suc left) i texts wholes numbers figures signs = item_row i texts wholes numbers figures signs ++ item_rows left (i + 1) texts wholes numbers figures signs

unfoldable pub item_table : (n : ℕ) (texts wholes : List ℕ) (numbers figures : List Float) (signs : List ℕ) → List ℕ
item_table n texts wholes numbers figures signs = item_heading ++ (item_rows n 0 texts wholes numbers figures signs ++ ascii "\n")

-- ---- balances

abbrev pub balance_heading : List ℕ
balance_heading = ascii "balance              measured         left  within\n"

unfoldable pub balance_row : (j : ℕ) (texts : List ℕ) (figures : List Float) (signs : List ℕ) → List ℕ
balance_row j texts figures signs = name_cell texts (balance_name j) ++ (number_cell (measured_of figures j) ++ (number_cell (left_of figures j) ++ within_text (balance_within signs j)))

-- `left` rows from balance j on
unfoldable pub balance_rows : (left j : ℕ) (texts : List ℕ) (figures : List Float) (signs : List ℕ) → List ℕ
balance_rows zero j texts figures signs = []
balance_rows (suc left) j texts figures signs = balance_row j texts figures signs ++ balance_rows left (j + 1) texts figures signs

unfoldable pub balance_table : (m : ℕ) (texts : List ℕ) (figures : List Float) (signs : List ℕ) → List ℕ
balance_table m texts figures signs = balance_heading ++ (balance_rows m 0 texts figures signs ++ ascii "\n")

-- ---- limits

abbrev pub limit_heading : List ℕ
limit_heading = ascii "limit            kind          amount     comes to         left  within\n"

-- filled up with blanks to 7 bytes, after a blank
unfoldable pub limit_kind_text : ℕ → List ℕ
limit_kind_text kind = cond (eqb kind 0) (ascii " floor  ") (ascii " ceiling")

-- what is left to the limit: above a floor, below a ceiling
abbrev pub slack : (kind : ℕ) (amount sum : Float) → Float
slack kind amount sum = cond (eqb kind 0) (sum ⊖ amount) (amount ⊖ sum)

-- amount, comes to, left
unfoldable pub amounts_text : (kind : ℕ) (amount sum : Float) → List ℕ
amounts_text kind amount sum = number_cell amount ++ (number_cell sum ++ number_cell (slack kind amount sum))

unfoldable pub limit_row : (j : ℕ) (texts wholes : List ℕ) (numbers figures : List Float) (signs : List ℕ) → List ℕ
limit_row j texts wholes numbers figures signs =
    name_cell texts (limit_name j)
    ++ (limit_kind_text (limit_kind wholes j) ++ (amounts_text (limit_kind wholes j) (amount_of numbers j) (comes_to figures j) ++ within_text (limit_within signs j)))

-- `left` rows from limit j on
unfoldable pub limit_rows : (left j : ℕ) (texts wholes : List ℕ) (numbers figures : List Float) (signs : List ℕ) → List ℕ
limit_rows zero j texts wholes numbers figures signs = []
limit_rows (suc left) j texts wholes numbers figures signs = limit_row j texts wholes numbers figures signs ++ limit_rows left (j + 1) texts wholes numbers figures signs

-- only where there is one
unfoldable pub limit_table : (q : ℕ) (texts wholes : List ℕ) (numbers figures : List Float) (signs : List ℕ) → List ℕ
limit_table q texts wholes numbers figures signs = cond (eqb q 0) [] (limit_heading ++ (limit_rows q 0 texts wholes numbers figures signs ++ ascii "\n"))
