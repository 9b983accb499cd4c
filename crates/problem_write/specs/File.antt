-- The file of a problem (docs/RULES.md, "Writing problem files"): the records that give it, in one order. Definitions only.
use Rattle.std.specs.Prelude.{Bool, cond, List, [], ◌∷◌, ◌++◌, ℕ, zero, suc, ◌+◌, ◌*◌, eqb, get_or}
use Prim.Native.Char.{code}
use Rattle.numbers.specs.Numbers.{nth}
use Rattle.endian.specs.Little.{bytes}
use Rattle.problem_read.specs.Bits.{ConstraintBits, equality, floor, band, Bits, one_bits, low_bits, high_bits}
use Rattle.problem_read.specs.Input.{is}

-- ---- one record: tag, a zero byte, row, column, two zero bytes, the value's bits

unfoldable pub record_of : (tag row column bits : ℕ) → List ℕ
record_of tag row column bits = tag ∷ 0 ∷ (bytes 2 row ++ (bytes 2 column ++ (bytes 2 0 ++ bytes 8 bits)))

-- ---- the entries of the factor, the gradient, the Jacobian and the bounds

-- what a missing entry is: 1 on the factor's diagonal, -infinity for a lower bound, +infinity for an upper, else +0
unfoldable pub missing : (tag row column : ℕ) → ℕ
missing tag row column = cond (is "L" tag) (cond (eqb row column) one_bits 0) (cond (is "B" tag) low_bits (cond (is "T" tag) high_bits 0))

-- an entry whose bits equal the missing value is left out
unfoldable pub entry_of : (tag row column bits : ℕ) → List (List ℕ)
entry_of tag row column bits = cond (eqb bits (missing tag row column)) [] (record_of tag row column bits ∷ [])

-- f 0, f 1, .., f (n - 1) one after the other
unfoldable pub each : {A : Type 0} → ℕ → (ℕ → List A) → List A
each zero f = []
each (suc n) f = each n f ++ f n

-- how much of row i is given: of the factor's what is on and below the diagonal, else all of it
unfoldable pub row_length : (tag row columns : ℕ) → ℕ
row_length tag row columns = cond (is "L" tag) (row + 1) columns

-- by row then column
unfoldable pub entries_of : (tag rows columns : ℕ) → List ℕ → List (List ℕ)
entries_of tag rows columns xs = each rows (λ i. each (row_length tag i columns) (λ j. entry_of tag i j (nth xs (i * columns + j))))

-- ---- constraints: `E` or `I`, and the `W` of a band directly after its `I`, whatever their bits are

unfoldable pub constraint_records : ℕ → ConstraintBits → List (List ℕ)
constraint_records i (equality v) = record_of (code "E") i 0 v ∷ []
constraint_records i (floor v) = record_of (code "I") i 0 v ∷ []
constraint_records i (band v w) = record_of (code "I") i 0 v ∷ record_of (code "W") i 0 w ∷ []

abbrev pub constraint_at : Bits → ℕ → ConstraintBits
constraint_at p i = get_or p.constraints i (equality 0)

-- ---- the file: `D`, then `L`, `G`, `E` or `I` with its `W`, `A`, `B`, `T`

unfoldable pub records_of : Bits → List (List ℕ)
records_of p =
    let n = p.n in
    let m = p.m in
    record_of (code "D") m n 0
    ∷ (entries_of (code "L") n n p.factor
    ++ (entries_of (code "G") 1 n p.gradient
    ++ (each m (λ i. constraint_records i (constraint_at p i))
    ++ (entries_of (code "A") m n p.jacobian
    ++ (entries_of (code "B") 1 n p.lower
    ++ entries_of (code "T") 1 n p.upper)))))

-- their bytes, one after the other
unfoldable pub joined : List (List ℕ) → List ℕ
joined [] = []
joined (r ∷ rs) = r ++ joined rs

unfoldable pub file : Bits → List ℕ
file p = joined (records_of p)
