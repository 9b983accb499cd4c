-- The tests of meters (measurement test and global test, VDI 2048): which meter may be wrong, from the values, the spreads and the balances of a day. Definitions only.
-- v are the n values, s their spreads, c the m balances, a row of n coefficients each, and z marks the meters that stand still by 1.
use Rattle.std.specs.Prelude.{ℕ, zero, suc, ◌+◌, ◌-◌, ◌^◌, Bool, true, false, cond, ◌&&◌, ◌||◌, List, [], ◌∷◌, ltb, eqb, Float}
use Rattle.std.specs.Float.{inf}
use Rattle.std.specs.Float.Ieee.{eq, lt, le, neg}
use Rattle.numbers.specs.Numbers.{+0, -1, near, one, ◌⊖◌, ◌⊗◌, ◌⊘◌, Σ, at, nth, tab, dot, entry, rows, grid}
use Rattle.numbers.specs.Root.{sqrt_of}
use Rattle.householder.specs.Qr.{Factors, factor, apply_qt, solve_rt}
use Rattle.suspect.specs.declared.Lead.{Lead}
use Rattle.suspect.specs.declared.Finding.{Finding}

-- ---- the balances in spreads

-- a coefficient in spreads: +0 for a meter that stands still
abbrev pub weight : ℕ → Float → Float → Float
weight z s c = cond (eqb z 1) +0 (s ⊗ c)

-- K: a row for each meter, a column for each balance
unfoldable pub weights : (n m : ℕ) (s c : List Float) (z : List ℕ) → List Float
weights n m s c z = grid n m (λ i k. weight (nth z i) (at s i) (entry n c k i))

-- what balance k lacks
abbrev pub gap : (n : ℕ) (v c : List Float) → ℕ → Float
gap n v c k = Σ n (λ i. entry n c k i ⊗ at v i)

abbrev pub is_finite : Float → Bool
is_finite x = lt (inf true) x && lt x (inf false)

-- what each of the first k balances lacks is finite: a coefficient that is NaN takes its balance out of the factors, and shows here alone
unfoldable pub are_finite : (n : ℕ) (v c : List Float) → ℕ → Bool
are_finite n v c zero = true
are_finite n v c (suc k) = are_finite n v c k && is_finite (gap n v c k)

-- y with R'y = -P'C v, of the first r rows: the gaps as r independent ones, each of spread one; r is the rank of K, the degrees of freedom
unfoldable pub scaled_gaps : (n m : ℕ) → Factors → (v c : List Float) → List Float
scaled_gaps n m q v c = solve_rt m q (tab q.rank (λ t. neg (gap n v c (nth q.perm t))))

-- e_i
unfoldable pub unit : ℕ → ℕ → List Float
unit n i = tab n (λ j. cond (eqb j i) one +0)

-- Q, whose row i is Q'e_i: its first r entries are what the balances see of meter i
unfoldable pub directions : ℕ → Factors → List Float
directions n q = rows n (λ i. apply_qt n q (unit n i))

-- ---- one meter, or two; a are the directions, n by n

-- what the balances see of meters i and j together
unfoldable pub overlap : (n r : ℕ) (a : List Float) (i j : ℕ) → Float
overlap n r a i j = Σ r (λ k. entry n a i k ⊗ entry n a j k)

-- meter i is outside the first k balances: its coefficients in spreads are zero
unfoldable pub is_outside : (n : ℕ) (s c : List Float) (z : List ℕ) (i k : ℕ) → Bool
is_outside n s c z i zero = true
is_outside n s c z i (suc k) = is_outside n s c z i k && eq (weight (nth z i) (at s i) (entry n c k i)) +0

-- the share of meter i's error that shows in the balances: +0 where it is outside all of them, and near 1 where the others determine it
abbrev pub share : (n m r : ℕ) (s c : List Float) (z : List ℕ) (a : List Float) → ℕ → Float
share n m r s c z a i = cond (is_outside n s c z i m) +0 (overlap n r a i i)

-- what no balance sees of meter i
unfoldable pub unseen : (n r : ℕ) (a : List Float) → ℕ → Float
unseen n r a i = Σ (n - r) (λ k. entry n a i (r + k) ⊗ entry n a i (r + k))

-- the correction of meter i in spreads
unfoldable pub correction : (n r : ℕ) (a y : List Float) → ℕ → Float
correction n r a y i = Σ r (λ k. entry n a i k ⊗ at y k)

-- 2^-20
abbrev pub tiny : Float
tiny = near 1 (2 ^ 20)

-- a share below it is none
abbrev pub is_unchecked : Float → Bool
is_unchecked h = lt h tiny

-- the spread of the corrected value: s √t, and +0 for a meter that stands still, or that the others determine
unfoldable pub new_spread : ℕ → Float → Float → Float
new_spread z s t = cond (eqb z 1) +0 (cond (eq t +0) +0 (s ⊗ sqrt_of t))

-- the correction over its own deviation; +0 for a meter that is unchecked
unfoldable pub test_of : Float → Float → Float
test_of h p = cond (is_unchecked h) +0 (p ⊘ sqrt_of h)

-- the test's square; -1 for a meter that is unchecked
unfoldable pub square_of : Float → Float → Float
square_of h t = cond (is_unchecked h) -1 (t ⊗ t)

-- two meters of shares h and g are not told apart
unfoldable pub tie_of : Float → Float → Float → Bool
tie_of h g p = cond (is_unchecked h) false (cond (is_unchecked g) false (le (near 99 100 ⊗ (h ⊗ g)) (p ⊗ p)))

-- ---- all meters

unfoldable pub shares : (n m r : ℕ) (s c : List Float) (z : List ℕ) (a : List Float) → List Float
shares n m r s c z a = tab n (share n m r s c z a)

unfoldable pub new_spreads : (n r : ℕ) (s : List Float) (z : List ℕ) (a : List Float) → List Float
new_spreads n r s z a = tab n (λ i. new_spread (nth z i) (at s i) (unseen n r a i))

-- h are the shares
unfoldable pub tests : (n r : ℕ) (a y h : List Float) → List Float
tests n r a y h = tab n (λ i. test_of (at h i) (correction n r a y i))

-- only a strictly larger square takes the lead, and NaN never does
abbrev pub better : Lead → ℕ → (h t : Float) → Lead
better old i h t = cond (lt old.square (square_of h t)) (record { index = i; square = square_of h t }) old

-- of the first c meters the first whose test is largest, with its square; t are the tests
unfoldable pub largest : (h t : List Float) → ℕ → Lead
largest h t zero = record { index = 0; square = -1 }
largest h t (suc c) = better (largest h t c) c (at h c) (at t c)

-- a test is within 3
abbrev pub is_within : (h t : Float) → Bool
is_within h t = le (square_of h t) (near 9 1)

-- each of the first c tests is
unfoldable pub are_within : (h t : List Float) → ℕ → Bool
are_within h t zero = true
are_within h t (suc c) = are_within h t c && is_within (at h c) (at t c)

-- ---- which meters

abbrev pub is_tied : (n r : ℕ) (a h : List Float) (i j : ℕ) → Bool
is_tied n r a h i j = tie_of (at h i) (at h j) (overlap n r a i j)

-- the group of meter i: the least of the meters i - d to i that is not told apart from it
unfoldable pub group_of : (n r : ℕ) (a h : List Float) (i d : ℕ) → ℕ
group_of n r a h i zero = i
group_of n r a h i (suc d) = cond (is_tied n r a h i (i - (d + 1))) (i - (d + 1)) (group_of n r a h i d)

unfoldable pub groups : (n r : ℕ) (a h : List Float) → List ℕ
groups n r a h = tab n (λ i. group_of n r a h i i)

-- where the meters disagree: 2 for the largest test and all not told apart from it (look first), 1 for a square that is at most 6 below it, else 0
unfoldable pub mark_of : (h t square : Float) (tied : Bool) → ℕ
mark_of h t square tied = cond (is_unchecked h) 0 (cond tied 2 (cond (le (square ⊖ near 6 1) (square_of h t)) 1 0))

abbrev pub mark : (n r : ℕ) (a h t : List Float) → Lead → ℕ → ℕ
mark n r a h t best i = mark_of (at h i) (at t i) best.square (is_tied n r a h i best.index)

abbrev pub mark_unless : Bool → (n r : ℕ) (a h t : List Float) → Lead → ℕ → ℕ
mark_unless agree n r a h t best i = cond agree 0 (mark n r a h t best i)

unfoldable pub marks : (n r : ℕ) (a h t : List Float) → Lead → Bool → List ℕ
marks n r a h t best agree = tab n (mark_unless agree n r a h t best)

-- ---- all meters together

-- the 95 % limits of chi-square, by degrees of freedom; at 0 nothing is checked
unfoldable pub limits : List Float
limits =
    +0 ∷ near 3841 1000 ∷ near 5991 1000 ∷ near 7815 1000 ∷ near 9488 1000 ∷ near 11070 1000 ∷ near 12592 1000 ∷ near 14067 1000 ∷ near 15507 1000
    ∷ near 16919 1000 ∷ near 18307 1000 ∷ near 19675 1000 ∷ near 21026 1000 ∷ near 22362 1000 ∷ near 23685 1000 ∷ near 24996 1000 ∷ near 26296 1000 ∷ []

-- the meters agree where there is freedom, the misfit is at most its limit, each test is within 3 and each gap finite; a NaN disagrees
abbrev pub agrees : ℕ → Float → (within finite : Bool) → Bool
agrees r misfit within finite = ltb 0 r && (le misfit (at limits r) && (within && finite))

-- one meter explains a disagreement where the misfit without it is at most the limit of one degree less
abbrev pub explains : ℕ → Float → Float → Bool
explains r misfit square = eqb r 1 || le (misfit ⊖ square) (at limits (r - 1))

-- what is found of all together; y are the scaled gaps, h the shares, t the tests, and finite says whether each gap is
unfoldable pub finding_of : (n r : ℕ) (y h t : List Float) (finite : Bool) → Finding
finding_of n r y h t finite =
    let misfit = dot r y y in
    let best = largest h t n in
    record { freedom = r; misfit = misfit; first = best.index; square = best.square; agree = agrees r misfit (are_within h t n) finite; explained = explains r misfit best.square }

-- ---- which meters stand still

-- its value is zero, and its corrected value x is at most 2^-20 spreads: its floor holds it, and no balance corrects it
unfoldable pub still_of : (v x s : Float) → ℕ
still_of v x s = cond (eq v +0 && le x (tiny ⊗ s)) 1 0

unfoldable pub stills : ℕ → (v x s : List Float) → List ℕ
stills n v x s = tab n (λ i. still_of (at v i) (at x i) (at s i))

-- ---- the whole

pub record Tests : Type 0 where
  pub finding : Finding
  pub shares : List Float
  pub new_spreads : List Float
  pub tests : List Float
  pub groups : List ℕ
  pub marks : List ℕ

abbrev pub lead_of : Finding → Lead
lead_of d = record { index = d.first; square = d.square }

unfoldable pub tests_from : (n m r : ℕ) (s c : List Float) (z : List ℕ) (a y : List Float) (finite : Bool) → Tests
tests_from n m r s c z a y finite =
    let h = shares n m r s c z a in
    let t = tests n r a y h in
    let d = finding_of n r y h t finite in
    record { finding = d; shares = h; new_spreads = new_spreads n r s z a; tests = t; groups = groups n r a h; marks = marks n r a h t (lead_of d) d.agree }

unfoldable pub suspect : (n m : ℕ) (v s c : List Float) (z : List ℕ) → Tests
suspect n m v s c z =
    let q = factor n m (weights n m s c z) in
    tests_from n m q.rank s c z (directions n q) (scaled_gaps n m q v c) (are_finite n v c m)
