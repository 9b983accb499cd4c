-- What the inner functions tell. Definitions only.
use Rattle.std.specs.Prelude.{◌≡◌, Bool, true, false, cond, List, [], ◌∷◌, ℕ, ◌+◌, drop, set, Result, Option}
use Rattle.day_words.specs.Words.{lines_of, without_return, word, rest}
use Rattle.sheet_words.specs.Names.{name_judged, above_zero}
use Rattle.sheet_words.specs.Lines.{between}
use Rattle.plant.specs.Lines.{Meter, no_names, last_words, spread_by, name_by, meter_line, line_of, lines_from}
use Rattle.plant_lines.specs.declared.Given.{Given}
use Rattle.plant_lines.specs.Table.{given_told, line_told, limit_of, Known, Noted}
use Rattle.plant_lines.specs.declared.Wrong.{Wrong}

-- ---- a meter's line from one of its words on

abbrev pub AllowedRead : (line : List ℕ) → Given → Result Given Wrong → Type 0
AllowedRead line g r =
    given_told line r
    ≡ last_words (word (drop g.spread_end line)) (word (rest (drop g.spread_end line))) g.number (between g.name g.name_end line) (between g.spread g.spread_end line)

abbrev pub SpreadRead : (line : List ℕ) (number name to : ℕ) → Result Given Wrong → Type 0
SpreadRead line number name to r = given_told line r ≡ spread_by (above_zero (word (drop to line))) (drop to line) number (between name to line)

abbrev pub NameRead : (line : List ℕ) (number from : ℕ) → Result Given Wrong → Type 0
NameRead line number from r = given_told line r ≡ name_by (name_judged (word (drop from line)) no_names) (drop from line) number

abbrev pub MeterRead : (line : List ℕ) (from : ℕ) (table : List ℕ) → Result Given Wrong → Type 0
MeterRead line from table r = (ms : List Meter) → Known ms table → given_told line r ≡ meter_line (drop from line) ms

abbrev pub NextRead : (plant : List ℕ) (at end : ℕ) (table : List ℕ) → Result (Option Given) Wrong → Type 0
NextRead plant at end table r = (ms : List Meter) → Known ms table → line_told plant r ≡ line_of (without_return (between at end plant)) ms

-- ---- a meter in the table

-- its places in a plant file in which the line begins at a place
abbrev pub moved : ℕ → Given → Given
moved at g = record {
  number = g.number;
  name = at + g.name;
  name_end = at + g.name_end;
  spread = at + g.spread;
  spread_end = at + g.spread_end;
  allowed = g.allowed;
}

unfoldable pub with_row : Given → (table : List ℕ) → List ℕ
with_row g table = set (set (set (set table (32 + g.number) g.name_end) (48 + g.number) (limit_of g.allowed)) (16 + g.number) g.name) g.number 1

-- ---- some lines, and those that are left

abbrev pub is_some : List Meter → Bool
is_some [] = false
is_some (m ∷ ms) = true

-- the meters of the lines before a place are in the table, and with them the lines from there on give the answer
pub record SoFar (plant : List ℕ) (from at k : ℕ) (metered : Bool) (table : List ℕ) : Type 0 where
  pub meters : List Meter
  pub noted : Noted plant meters table
  pub some : metered ≡ is_some meters
  pub left : lines_from (lines_of (drop from plant)) 0 [] ≡ lines_from (lines_of (drop at plant)) k meters
