-- What the code decides and sums, from the definitions.
use mathlib.Core.Path.{◌≡◌, refl, sym, ap, ap₂, ◌∙◌}
use mathlib.Core.Bool.{Bool, true, false, ◌&&◌}
use mathlib.Core.Logic.{⊎_elim}
use mathlib.Core.List.{List}
use Prim.Native.Nat.{ℕ, zero, suc, ◌+◌, ◌*◌, ◌≤◌, ◌<◌}
use native.Mathlib.Nat.{mul-le-mul_right, eq-or-lt_of_le}
use native.Mathlib.Numerals.{add-one}
use native.Mathlib.Omega.{arith}
use lib.Ieee.{Float, binary64, le, of_bits}
use Rattle.numbers.specs.Numbers.{+0, at, entry}
use Rattle.interval.specs.Intervals.{larger, point, plus, minus, product, sum_within, mul_up, magnitude}
use Rattle.interval.specs.declared.Interval.{Interval}
use Rattle.interval.proofs.Answers.{TOP, top-is, zero_is, sum_same}
use Rattle.certain.specs.Bound.{all_below, are_finite, are_positive, none_negative, day_finite, report_finite, row_within, pull_within, slack_term, fit_up, open_up, slack_up, fourfold, reach_up, closes, keeps, kept}

-- ---- tests of all
pub all_none : (f : ℕ → Bool) → all_below 0 f ≡ true
unfolding all_below
all_none f = refl

pub all_more : (i : ℕ) (f : ℕ → Bool) → all_below i f ≡ true → f i ≡ true → all_below (i + 1) f ≡ true
unfolding all_below
all_more i f h k = rw (add-one i, h, k) refl

pub all_done : (i n : ℕ) (f : ℕ → Bool) → i ≡ n → all_below i f ≡ true → true ≡ all_below n f
all_done i n f e h = sym (ap (λ (k : ℕ). all_below k f) (sym e) ∙ h)

and-false : (a : Bool) → (a && false) ≡ false
and-false true = refl
and-false false = refl

pub all-broken : (n i : ℕ) (f : ℕ → Bool) → i < n → f i ≡ false → false ≡ all_below n f
unfolding all_below
all-broken zero i f h k = absurd (omega arith)
all-broken (suc n) i f h k =
    ⊎_elim (λ (e : i ≡ n). sym (ap (λ (b : Bool). all_below n f && b) (ap f (sym e) ∙ k) ∙ and-false (all_below n f)))
    (λ (l : i < n). ap (λ (b : Bool). b && f n) (all-broken n i f l k)) (eq-or-lt_of_le (before i n h))
  where
    before : (i n : ℕ) → i < suc n → i ≤ n
    before i n l = omega arith

pub zero-le : (v : Float) → le (of_bits binary64 0) v ≡ le +0 v
zero-le v = ap (λ (z : Float). le z v) zero_is

-- ---- rows and columns
pub pull-is : (n m p i : ℕ) (balances limits y z : List Float) (r a b : Interval) → r ≡ plus a b → a ≡ sum_within m (λ j. product (at balances (i + j * n)) (at y (0 + j * 1)))
    → b ≡ sum_within p (λ k. product (at limits (i + k * n)) (at z (0 + k * 1))) → r ≡ pull_within n m p i balances limits y z
unfolding pull_within
pull-is n m p i balances limits y z r a b e h k = e ∙ ap₂ plus (h ∙ turned m balances y) (k ∙ turned p limits z)
  where
    place : (i j n : ℕ) → i + j * n ≡ j * n + i
    place i j n = omega arith

    index : (j : ℕ) → 0 + j * 1 ≡ j
    index j = omega arith

    turned : (m : ℕ) (rows y : List Float) → sum_within m (λ j. product (at rows (i + j * n)) (at y (0 + j * 1))) ≡ sum_within m (λ j. product (entry n rows j i) (at y j))
    turned m rows y = sum_same m _ _ (λ j. ap₂ (λ (a b : ℕ). product (at rows a) (at y b)) (place i j n) (index j))

pub row_is : (n j : ℕ) (rows x : List Float) (r : Interval) → r ≡ sum_within n (λ i. product (at rows (j * n + i * 1)) (at x (0 + i * 1))) → r ≡ row_within n j rows x
unfolding row_within
row_is n j rows x r e = e ∙ sum_same n _ _ (λ i. ap₂ (λ (a b : ℕ). product (at rows a) (at x b)) (place j n i) (index i))
  where
    place : (j n i : ℕ) → j * n + i * 1 ≡ j * n + i
    place j n i = omega arith

    index : (i : ℕ) → 0 + i * 1 ≡ i
    index i = omega arith

-- ---- the terms and the whole
pub slack-is : (z b : Float) (a over : Interval) (M r : Float) → le (of_bits binary64 0) z ≡ true → over ≡ minus a (point b) → M ≡ larger over.hi (of_bits binary64 0) → r ≡ mul_up z M
    → r ≡ slack_term z b a
unfolding slack_term
slack-is z b a over M r h o m e = rw (sym (zero-le z) ∙ h) (e ∙ ap (mul_up z) (m ∙ ap₂ (λ (q : Interval) (u : Float). larger q.hi u) o zero_is))

pub slack-none : (z b : Float) (a : Interval) → le (of_bits binary64 0) z ≡ false → TOP ≡ slack_term z b a
unfolding slack_term
slack-none z b a h = rw (sym (zero-le z) ∙ h) top-is

-- ---- rows of tests: the first that fails settles it
module _ (n m p : ℕ) (values balances limits least : List Float) where
  pub day-1 : (a : Bool) → a ≡ are_finite n values → a ≡ false → false ≡ day_finite n m p values balances limits least
  unfolding day_finite
  day-1 a e h = rw (sym e ∙ h) refl

  pub day-2 : (a b : Bool) → a ≡ are_finite n values → a ≡ true → b ≡ are_finite (m * n) balances → b ≡ false → false ≡ day_finite n m p values balances limits least
  unfolding day_finite
  day-2 a b e h f k = rw (sym e ∙ h, sym f ∙ k) refl

  pub day-3 : (a b d : Bool) → a ≡ are_finite n values → a ≡ true → b ≡ are_finite (m * n) balances → b ≡ true → d ≡ are_finite (p * n) limits → d ≡ false
      → false ≡ day_finite n m p values balances limits least
  unfolding day_finite
  day-3 a b d e h f k g l = rw (sym e ∙ h, sym f ∙ k, sym g ∙ l) refl

  pub day-4 : (a b d r : Bool) → a ≡ are_finite n values → a ≡ true → b ≡ are_finite (m * n) balances → b ≡ true → d ≡ are_finite (p * n) limits → d ≡ true → r ≡ are_finite p least
      → r ≡ day_finite n m p values balances limits least
  unfolding day_finite
  day-4 a b d r e h f k g l i = rw (sym e ∙ h, sym f ∙ k, sym g ∙ l) i

module _ (n m p : ℕ) (x y z : List Float) where
  pub report-1 : (a : Bool) → a ≡ are_finite n x → a ≡ false → false ≡ report_finite n m p x y z
  unfolding report_finite
  report-1 a e h = rw (sym e ∙ h) refl

  pub report-2 : (a b : Bool) → a ≡ are_finite n x → a ≡ true → b ≡ are_finite m y → b ≡ false → false ≡ report_finite n m p x y z
  unfolding report_finite
  report-2 a b e h f k = rw (sym e ∙ h, sym f ∙ k) refl

  pub report-3 : (a b r : Bool) → a ≡ are_finite n x → a ≡ true → b ≡ are_finite m y → b ≡ true → r ≡ are_finite p z → r ≡ report_finite n m p x y z
  unfolding report_finite
  report-3 a b r e h f k i = rw (sym e ∙ h, sym f ∙ k) i

module _ (n m p : ℕ) (values spreads balances limits least x y z : List Float) where
  abbrev A : Bool
  A = are_positive n spreads

  abbrev B : Bool
  B = none_negative p z

  abbrev D : Bool
  D = day_finite n m p values balances limits least

  abbrev E : Bool
  E = report_finite n m p x y z

  pub reach-1 : (a : Bool) → a ≡ A → a ≡ false → TOP ≡ reach_up n m p values spreads balances limits least x y z
  unfolding reach_up
  reach-1 a e h = rw (sym e ∙ h) top-is

  pub reach-2 : (a b : Bool) → a ≡ A → a ≡ true → b ≡ B → b ≡ false → TOP ≡ reach_up n m p values spreads balances limits least x y z
  unfolding reach_up
  reach-2 a b e h f k = rw (sym e ∙ h, sym f ∙ k) top-is

  pub reach-3 : (a b d : Bool) → a ≡ A → a ≡ true → b ≡ B → b ≡ true → d ≡ D → d ≡ false → TOP ≡ reach_up n m p values spreads balances limits least x y z
  unfolding reach_up
  reach-3 a b d e h f k g l = rw (sym e ∙ h, sym f ∙ k, sym g ∙ l) top-is

  pub reach-4 : (a b d t : Bool) → a ≡ A → a ≡ true → b ≡ B → b ≡ true → d ≡ D → d ≡ true → t ≡ E → t ≡ false → TOP ≡ reach_up n m p values spreads balances limits least x y z
  unfolding reach_up
  reach-4 a b d t e h f k g l i j = rw (sym e ∙ h, sym f ∙ k, sym g ∙ l, sym i ∙ j) top-is

  pub reach-5 : (a b d t : Bool) (f o s r : Float) → a ≡ A → a ≡ true → b ≡ B → b ≡ true → d ≡ D → d ≡ true → t ≡ E → t ≡ true → r ≡ fourfold f o s
      → f ≡ fit_up n m p values spreads balances limits x y z → o ≡ open_up n m balances x y → s ≡ slack_up n p limits least x z → r ≡ reach_up n m p values spreads balances limits least x y z
  unfolding reach_up
  reach-5 a b d t f o s r e h g k i l j q w u v z' =
      rw (sym e ∙ h, sym g ∙ k, sym i ∙ l, sym j ∙ q) (w ∙ ap (λ (t : Float). fourfold t o s) u ∙ ap₂ (λ (t q : Float). fourfold (fit_up n m p values spreads balances limits x y z) t q) v z')

-- ---- kept
pub close-is : (n j : ℕ) (balances x : List Float) (t v : Float) (c : Interval) (b : Bool) → v ≡ magnitude c → c ≡ row_within n j balances x → le v t ≡ b → closes n j balances x t ≡ b
unfolding closes
close-is n j balances x t v c b e h k = ap (λ (w : Float). le w t) (sym (e ∙ ap magnitude h)) ∙ k

pub keep-is : (n k : ℕ) (limits least x : List Float) (t : Float) (o a u : Interval) (b : Bool) → u ≡ minus o a → o ≡ point (at least k) → a ≡ row_within n k limits x → le u.hi t ≡ b
    → keeps n k limits least x t ≡ b
unfolding keeps
keep-is n k limits least x t o a u b e f h l = ap (λ (w : Interval). le w.hi t) (sym (e ∙ ap₂ minus f h)) ∙ l

pub kept-first : (n m p : ℕ) (balances limits least x : List Float) (t : Float) (a : Bool) → a ≡ all_below m (λ j. closes n j balances x t) → a ≡ false → false ≡ kept n m p balances limits least x t
unfolding kept
kept-first n m p balances limits least x t a e h = rw (sym e ∙ h) refl

pub kept-both : (n m p : ℕ) (balances limits least x : List Float) (t : Float) (a r : Bool) → a ≡ all_below m (λ j. closes n j balances x t) → a ≡ true
    → r ≡ all_below p (λ k. keeps n k limits least x t) → r ≡ kept n m p balances limits least x t
unfolding kept
kept-both n m p balances limits least x t a r e h i = rw (sym e ∙ h) i

-- an entry of a matrix is in its list
pub column-in : (i j n m l : ℕ) → i < n → j < m → m * n ≤ l → i + j * n < l
column-in i j n m l h k s = let t : suc j * n ≤ m * n = mul-le-mul_right n k in omega arith

pub row_in : (i j n m l : ℕ) → i < n → j < m → m * n ≤ l → j * n + i * 1 < l
row_in i j n m l h k s = let t : suc j * n ≤ m * n = mul-le-mul_right n k in omega arith

pub row-starts : (j n m l : ℕ) → j < m → m * n ≤ l → j * n ≤ l
row-starts j n m l k s = let t : suc j * n ≤ m * n = mul-le-mul_right n k in omega arith

pub row_ends : (j n m l : ℕ) → j < m → m * n ≤ l → j * n + n ≤ l
row_ends j n m l k s = let t : suc j * n ≤ m * n = mul-le-mul_right n k in omega arith

pub index_in : (i n l : ℕ) → i < n → n ≤ l → 0 + i * 1 < l
index_in i n l h k = omega arith
