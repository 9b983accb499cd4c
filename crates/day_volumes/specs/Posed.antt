-- What a sheet poses: values with spreads, balances and limits, from the tables that its reading leaves (docs/RULES.md, "What a sheet poses"). Definitions only.
-- Items are the meters, lines and stocks, in the sheet's order; z are its whole numbers and f its numbers, whose places `sheet_lines` names.
use Rattle.std.specs.Prelude.{ℕ, zero, suc, ◌+◌, ◌-◌, ◌*◌, Bool, true, cond, not, List, [], ◌∷◌, ◌++◌, ltb, eqb, length, take, Float}
use Rattle.std.specs.Float.Ieee.{neg}
use Rattle.numbers.specs.Numbers.{+0, -1, near, one, ◌⊖◌, ◌⊘◌, at, nth, tab, grid}
use Rattle.totaliser.specs.Volume.{volume}
use Rattle.settle.specs.Settle.{Measured, measured}

-- ---- the sheet's tables

-- the kind of item i: 0 a meter, 1 a line, 2 a stock
abbrev pub kind_at : List ℕ → ℕ → ℕ
kind_at z i = nth z (32 + i)

abbrev pub is_line : List ℕ → ℕ → Bool
is_line z i = eqb (kind_at z i) 1

abbrev pub is_stock : List ℕ → ℕ → Bool
is_stock z i = eqb (kind_at z i) 2

-- whether the sheet's limit j is a ceiling
abbrev pub is_ceiling : List ℕ → ℕ → Bool
is_ceiling z j = eqb (nth z (48 + j)) 1

-- where the rows of balance j and limit j begin, each of 16 numbers
abbrev pub balance_row : ℕ → ℕ
balance_row j = 48 + 16 * j

abbrev pub limit_row : ℕ → ℕ
limit_row j = 320 + 16 * j

abbrev pub amount_at : List Float → ℕ → Float
amount_at f j = at f (304 + j)

abbrev pub tolerance_of : List Float → Float
tolerance_of f = at f 576

-- ---- values and spreads

-- a meter's volume, half a line's capacity, or what a stock lost
unfoldable pub value_of : (kind old new : ℕ) (spread before after : Float) → Float
value_of kind old new spread before after =
    cond (eqb kind 0) (near (volume old new) 1)
    (cond (eqb kind 1) (spread ⊘ near 2 1)
    (before ⊖ after))

unfoldable pub values : ℕ → List ℕ → List Float → List Float
values n z f = tab n (λ i. value_of (kind_at z i) (nth z i) (nth z (16 + i)) (at f i) (at f (16 + i)) (at f (32 + i)))

-- a line's spread is its capacity, and stands where the others' do
abbrev pub spreads : ℕ → List Float → List Float
spreads n f = take n f

-- ---- balances

unfoldable pub balances : (n m : ℕ) → List Float → List Float
balances n m f = grid m n (λ j i. at f (balance_row j + i))

-- ---- limits: number k below n is the zero of item k, then the capacity of item k - n, from 2 n on the sheet's limit k - 2 n

-- a stock has no zero, and only a line has a capacity
unfoldable pub is_limit : (n : ℕ) → List ℕ → ℕ → Bool
is_limit n z k =
    cond (ltb k n) (not (is_stock z k))
    (cond (ltb k (n + n)) (is_line z (k - n))
    true)

-- a number with its sign changed where it belongs to a ceiling
abbrev pub turned : Bool → Float → Float
turned ceiling x = cond ceiling (neg x) x

-- the coefficient of item i in limit k
unfoldable pub limit_entry : (n : ℕ) → List ℕ → List Float → (k i : ℕ) → Float
limit_entry n z f k i =
    cond (ltb k n) (cond (eqb i k) one +0)
    (cond (ltb k (n + n)) (cond (eqb i (k - n)) -1 +0)
    (turned (is_ceiling z (k - (n + n))) (at f (limit_row (k - (n + n)) + i))))

-- what limit k is at least
unfoldable pub least_of : (n : ℕ) → List ℕ → List Float → ℕ → Float
least_of n z f k =
    cond (ltb k n) +0
    (cond (ltb k (n + n)) (neg (at f (k - n)))
    (turned (is_ceiling z (k - (n + n))) (amount_at f (k - (n + n)))))

-- the rows of those of the first k that are limits, and what they are at least
unfoldable pub limits : (n : ℕ) → List ℕ → List Float → ℕ → List Float
limits n z f zero = []
limits n z f (suc k) = cond (is_limit n z k) (limits n z f k ++ tab n (limit_entry n z f k)) (limits n z f k)

unfoldable pub least : (n : ℕ) → List ℕ → List Float → ℕ → List Float
least n z f zero = []
least n z f (suc k) = cond (is_limit n z k) (least n z f k ++ (least_of n z f k ∷ [])) (least n z f k)

-- ---- the whole: n items, m balances, q floors and ceilings

abbrev pub posed : (n m q : ℕ) → List ℕ → List Float → Measured
posed n m q z f =
    let k = n + n + q in
    measured n m (length (least n z f k)) (values n z f) (spreads n f) (balances n m f) (limits n z f k) (least n z f k)
