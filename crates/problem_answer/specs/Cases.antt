-- Inputs of the record program, and what it writes for each. Definitions only.
use Rattle.std.specs.Prelude.{◌≡◌, List, [], ◌∷◌, ◌++◌, map, ℕ}
use Prim.Native.Char.{Char, code}
use Rattle.endian.specs.Little.{bytes}
use Rattle.ascii.specs.Text.{ascii}
use Rattle.problem_answer.specs.Program.{program_text}

pub record RecordCase : Type 0 where
  pub input : List ℕ
  pub text : List ℕ

abbrev pub case : (input text : List ℕ) → RecordCase
case i t = record { input = i; text = t }

-- the case with the definition's text in the place of its own
abbrev pub with_text : RecordCase → RecordCase
with_text c = case c.input (program_text c.input)

-- ---- records

-- a record with its two spare places
unfoldable pub spared : Char → (first row column last bits : ℕ) → List ℕ
spared tag first row column last bits = code tag ∷ first ∷ (bytes 2 row ++ (bytes 2 column ++ (bytes 2 last ++ bytes 8 bits)))

abbrev pub record_of : Char → (row column bits : ℕ) → List ℕ
record_of tag row column bits = spared tag 0 row column 0 bits

-- the first record: m constraints, n variables
abbrev pub sizes_record : (m n : ℕ) → List ℕ
sizes_record m n = record_of "D" m n 0

-- the bits of 1
abbrev pub one_bits : ℕ
one_bits = 0x3ff0_0000_0000_0000

-- ---- the cases

-- docs/RULES.md's own
abbrev pub rule_case : RecordCase
rule_case =
    case
    (0x44 ∷ 0x00 ∷ 0x00 ∷ 0x00 ∷ 0x01 ∷ 0x00 ∷ 0x00 ∷ 0x00 ∷ 0x00 ∷ 0x00 ∷ 0x00 ∷ 0x00 ∷ 0x00 ∷ 0x00 ∷ 0x00 ∷ 0x00
    ∷ 0x47 ∷ 0x00 ∷ 0x00 ∷ 0x00 ∷ 0x00 ∷ 0x00 ∷ 0x00 ∷ 0x00 ∷ 0x00 ∷ 0x00 ∷ 0x00 ∷ 0x00 ∷ 0x00 ∷ 0x00 ∷ 0xf0 ∷ 0x3f ∷ [])
    (ascii "ok\nrelaxation 0000000000000000\nd 0 bff0000000000000\n")

-- faults
abbrev pub fault_cases : List RecordCase
fault_cases =
    -- an empty input, and a short first record
    case [] (ascii "refused 9 at 0\n")
    ∷ case (68 ∷ []) (ascii "refused 9 at 0\n")
    -- a first record that is not `D`, a nonzero value in it, a nonzero spare byte in it
    ∷ case (record_of "G" 0 0 one_bits) (ascii "refused 9 at 0\n")
    ∷ case (record_of "D" 0 1 1) (ascii "refused 9 at 0\n")
    ∷ case (spared "D" 1 0 1 0 0) (ascii "refused 9 at 0\n")
    -- a later `D`, and a tag that is none
    ∷ case (sizes_record 0 1 ++ (record_of "G" 0 0 one_bits ++ sizes_record 0 1)) (ascii "refused 9 at 2\n")
    ∷ case (sizes_record 0 1 ++ record_of "X" 0 0 one_bits) (ascii "refused 9 at 1\n")
    -- an `L` above the diagonal, a row where 0 is fixed, a column past the variables
    ∷ case (sizes_record 0 2 ++ record_of "L" 0 1 one_bits) (ascii "refused 9 at 1\n")
    ∷ case (sizes_record 0 1 ++ record_of "T" 1 0 one_bits) (ascii "refused 9 at 1\n")
    ∷ case (sizes_record 1 1 ++ record_of "A" 0 1 one_bits) (ascii "refused 9 at 1\n")
    -- spare bytes
    ∷ case (sizes_record 0 1 ++ spared "G" 1 0 0 0 one_bits) (ascii "refused 9 at 1\n")
    ∷ case (sizes_record 0 1 ++ spared "G" 0 0 0 256 one_bits) (ascii "refused 9 at 1\n")
    -- a repeated entry, also with the same value
    ∷ case (sizes_record 0 1 ++ (record_of "G" 0 0 one_bits ++ record_of "G" 0 0 one_bits)) (ascii "refused 9 at 2\n")
    -- `E` and `I` for one row
    ∷ case (sizes_record 1 1 ++ (record_of "E" 0 0 one_bits ++ record_of "I" 0 0 one_bits)) (ascii "refused 9 at 2\n")
    -- a short last record, before a missing constraint
    ∷ case (sizes_record 1 1 ++ (record_of "G" 0 0 one_bits ++ (71 ∷ 0 ∷ 0 ∷ []))) (ascii "refused 9 at 2\n")
    -- a missing constraint, last
    ∷ case (sizes_record 2 1 ++ (record_of "I" 1 0 one_bits ++ record_of "G" 0 0 one_bits)) (ascii "refused 9 at 3\n")
    ∷ []

-- a sound `D` outside the sizes: nothing later is read
abbrev pub size_cases : List RecordCase
size_cases =
    case (sizes_record 0 17) (ascii "refused 1\n")
    ∷ case (sizes_record 0 0 ++ (88 ∷ [])) (ascii "refused 1\n")
    ∷ case (sizes_record 17 1 ++ record_of "X" 0 0 one_bits) (ascii "refused 1\n")
    ∷ []

-- steps: an equality d + 1 = 0 with its multiplier, a gradient that is NaN, and a factor of 0, whose step is refused
abbrev pub step_cases : List RecordCase
step_cases =
    case (sizes_record 1 1 ++ (record_of "E" 0 0 one_bits ++ record_of "A" 0 0 one_bits)) (ascii "ok\nrelaxation 0000000000000000\nd 0 bff0000000000000\nm 0 bff0000000000000\n")
    ∷ case (sizes_record 0 1 ++ record_of "G" 0 0 0x7ff8_0000_0000_0001) (ascii "ok\nrelaxation 0000000000000000\nd 0 nan\n")
    ∷ case (sizes_record 0 1 ++ record_of "L" 0 0 0) (ascii "refused 5\n")
    ∷ []

-- bounds that mean nothing, each fault at each side, the width first, and both sides open
abbrev pub bound_cases : List RecordCase
bound_cases =
    case (sizes_record 0 1 ++ record_of "B" 0 0 0x7ff0_0000_0000_0000) (ascii "refused 15\n")
    ∷ case (sizes_record 0 2 ++ record_of "T" 0 1 0xfff0_0000_0000_0000) (ascii "refused 15\n")
    ∷ case (sizes_record 0 1 ++ record_of "B" 0 0 0x7ff8_0000_0000_0000) (ascii "refused 15\n")
    ∷ case (sizes_record 0 1 ++ record_of "T" 0 0 0xfff0_0000_0000_0001) (ascii "refused 15\n")
    ∷ case (sizes_record 1 1 ++ (record_of "I" 0 0 one_bits ++ (record_of "W" 0 0 0x7ff0_0000_0000_0000 ++ record_of "B" 0 0 0x7ff0_0000_0000_0000))) (ascii "refused 14\n")
    ∷ case (sizes_record 0 1 ++ (record_of "G" 0 0 one_bits ++ (record_of "B" 0 0 0xfff0_0000_0000_0000 ++ record_of "T" 0 0 0x7ff0_0000_0000_0000))) (ascii "ok\nrelaxation 0000000000000000\nd 0 bff0000000000000\n")
    ∷ []

-- the definitions answer so
pub record CasesHold : Type 0 where
  pub rule : with_text rule_case ≡ rule_case
  pub faults : map with_text fault_cases ≡ fault_cases
  pub sizes : map with_text size_cases ≡ size_cases
  pub steps : map with_text step_cases ≡ step_cases
  pub open_bounds : map with_text bound_cases ≡ bound_cases
