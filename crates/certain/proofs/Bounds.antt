-- The claims on the bound and on what is kept: each operation by its containment (crate `interval`), each term by its law (Terms.antt). Assumes nothing.
use mathlib.Core.Path.{◌≡◌, refl, sym, ap, subst, ◌∙◌}
use mathlib.Core.Bool.{Bool, true, false, cond, ◌&&◌, false≢true}
use mathlib.Core.Logic.{⊎_elim, inl, inr}
use mathlib.Core.List.{List}
use Prim.Native.Nat.{ℕ, zero, suc, ◌+◌, ◌*◌, ◌≤◌, ◌<◌}
use native.Mathlib.Nat.{eq-or-lt_of_le}
use native.Mathlib.Omega.{arith}
use lib.Dec.{T}
use lib.Ieee.{Float, nan, inf, fin, binary64, fits, lt, le}
use lib.Ieee.Fits.{add-fits, inf-fits, cond-fits}
use Rattle.numbers.specs.Numbers.{+0, ◌⊕◌, at, entry}
use Rattle.numbers.specs.Root.{sqrt_of}
use Rattle.exact.specs.Exact.{ℚ, ◌≤ℚ◌, ◌<ℚ◌, whole, negℚ, ◌+ℚ◌, ◌-ℚ◌, ◌*ℚ◌, squared, absℚ, Σℚ, value, Finite}
use Rattle.exact.proofs.Laws as laws
use Rattle.exact.proofs.Values.{above_zero, at-most-is-at-most, and_left, and_right}
use Rattle.interval.specs.Next.{next_up}
use Rattle.interval.specs.Held.{AtMost, Holds}
use Rattle.interval.specs.Intervals.{is_finite, is_positive, larger, div_up, point, minus, times, magnitude, product, sum_within, add_up, mul_up}
use Rattle.interval.specs.declared.Interval.{Interval}
use Rattle.interval.proofs.Ends.{Higher}
use Rattle.interval.proofs.Least.{up_is}
use Rattle.interval.proofs.Containment.{finite, finite-at-most, larger-is, adds, multiplies, divides, root-fits, roots, point-holds, plus-holds, minus-holds, times-holds, product-holds, magnitude-bounds, sum-holds, up-bounds}
use Rattle.certain.specs.Day.{Day, Sound, AsGood, WithinTolerance, apart, balanced, limited, reach, exactly, read, report}
use Rattle.certain.specs.Bound.{all_below, are_finite, are_positive, none_negative, day_finite, report_finite, row_within, pull_within, fit_term, open_term, slack_term, fit_up, open_up, slack_up, fourfold, reach_up, bound, closes, keeps, kept}
use Rattle.certain.specs.Claims.{AllFinite, ReachIsBounded, WithinBound, NoMeterBeyond, BoundIsEnough, BoundIsOfNumbers, SmallIsFinite, KeptIsWithin}
use Rattle.certain.proofs.Certain.{none_farther, no_meter_farther}
use Rattle.certain.proofs.Terms as terms

-- ---- the terms
pull-holds : (n m p i : ℕ) (balances limits y z : List Float) → Holds (pull_within n m p i balances limits y z) (terms.pulled n m p i balances limits y z)
unfolding pull_within terms.pulled
pull-holds n m p i balances limits y z =
    plus-holds (sum_within m (λ j. product (entry n balances j i) (at y j))) (sum_within p (λ k. product (entry n limits k i) (at z k)))
    (Σℚ m (λ j. exactly balances (j * n + i) *ℚ exactly y j)) (Σℚ p (λ k. exactly limits (k * n + i) *ℚ exactly z k))
    (sum-holds m _ _ (λ j. product-holds (entry n balances j i) (at y j))) (sum-holds p _ _ (λ k. product-holds (entry n limits k i) (at z k)))

row-holds : (n j : ℕ) (rows x : List Float) → Holds (row_within n j rows x) (terms.row_times n j rows x)
unfolding row_within terms.row_times
row-holds n j rows x = sum-holds n _ _ (λ i. product-holds (entry n rows j i) (at x i))

fit-bounds : (x v s : Float) (g : Interval) (q : ℚ) → Holds g q → AtMost (terms.fit_term (value x) (value v) (value s) q) (fit_term x v s g)
unfolding fit_term
fit-bounds x v s g q h =
    let left = minus (minus (point x) (point v)) (times (product s s) g) in
    let d = (value x -ℚ value v) -ℚ value s *ℚ value s *ℚ q in
    let u = div_up (magnitude left) s in
    let held : Holds left d =
    minus-holds (minus (point x) (point v)) (times (product s s) g) (value x -ℚ value v) (value s *ℚ value s *ℚ q)
    (minus-holds (point x) (point v) (value x) (value v) (point-holds x) (point-holds v)) (times-holds (product s s) g (value s *ℚ value s) q (product-holds s s) h) in
    terms.fit-term-up (value x) (value v) (value s) q u (mul_up u u) ((divides (magnitude left) s).quotient d (magnitude-bounds left d held)) (multiplies u u)

open_bounds : (y : Float) (c : Interval) (q : ℚ) → Holds c q → AtMost (terms.open_term (value y) q) (open_term y c)
unfolding open_term
open_bounds y c q h =
    terms.open-term-up (value y) q (magnitude (point y)) (magnitude c) (mul_up (magnitude (point y)) (magnitude c)) (magnitude-bounds (point y) (value y) (point-holds y)) (magnitude-bounds c q h)
    (multiplies (magnitude (point y)) (magnitude c))

slack-bounds : (z b : Float) (a : Interval) (q : ℚ) → Holds a q → AtMost (terms.slack_term (value z) (value b) q) (slack_term z b a)
unfolding slack_term
slack-bounds z b a q h = go (le +0 z) refl
  where
    go : (t : Bool) → le +0 z ≡ t → AtMost (terms.slack_term (value z) (value b) q) (cond t (mul_up z (larger (minus a (point b)).hi +0)) (inf false))
    go true e =
        let M = larger (minus a (point b)).hi +0 in
        terms.slack-term-up z (value b) q (minus a (point b)).hi M (mul_up z M) e (minus-holds a (point b) q (value b) h (point-holds b)).high (larger-is (minus a (point b)).hi +0) (multiplies z M)
    go false e = tt

-- ---- tests of all
all-at : (n : ℕ) (f : ℕ → Bool) → all_below n f ≡ true → (i : ℕ) → i < n → f i ≡ true
unfolding all_below
all-at zero f h i l = absurd (omega arith)
all-at (suc n) f h i l =
    ⊎_elim (λ (e : i ≡ n). ap f e ∙ and_right (all_below n f) (f n) h) (λ (m : i < n). all-at n f (and_left (all_below n f) (f n) h) i m) (eq-or-lt_of_le (before i n l))
  where
    before : (i n : ℕ) → i < suc n → i ≤ n
    before i n l = omega arith

is_number : (x : Float) → is_finite x ≡ true → Finite x
is_number x h = finite x (and_left (lt x (inf false)) (lt (inf true) x) h) (and_right (lt x (inf false)) (lt (inf true) x) h)

all-numbers : (n : ℕ) (v : List Float) → are_finite n v ≡ true → (i : ℕ) → i < n → Finite (at v i)
unfolding are_finite
all-numbers n v h i l = is_number (at v i) (all-at n _ h i l)

positive-finite : (x : Float) → is_positive x ≡ true → Finite x
unfolding lt
positive-finite nan h = absurd (false≢true h)
positive-finite (inf true) h = absurd (false≢true h)
positive-finite (inf false) h = absurd (false≢true h)
positive-finite (fin s m e) h = tt

positive-value : (x : Float) → is_positive x ≡ true → whole 0 <ℚ value x
positive-value x h = above_zero x (positive-finite x h) (and_left (lt +0 x) (lt x (inf false)) h)

-- ---- the whole
module _ (n m p : ℕ) (values spreads balances limits least x y z : List Float) where
  abbrev d : Day
  d = read n m p values spreads balances limits least

  abbrev f : Float
  f = fit_up n m p values spreads balances limits x y z

  abbrev o : Float
  o = open_up n m balances x y

  abbrev s : Float
  s = slack_up n p limits least x z

  abbrev R : Float
  R = reach_up n m p values spreads balances limits least x y z

  fits_bound : AtMost (Σℚ n (λ i. terms.fit_term (exactly x i) (exactly values i) (exactly spreads i) (terms.pulled n m p i balances limits y z))) f
  unfolding fit_up
  fits_bound = up-bounds n _ _ (λ i. fit-bounds (at x i) (at values i) (at spreads i) (pull_within n m p i balances limits y z) (terms.pulled n m p i balances limits y z) (pull-holds n m p i balances limits y z))

  open-bound : AtMost (Σℚ m (λ j. terms.open_term (exactly y j) (terms.row_times n j balances x))) o
  unfolding open_up
  open-bound = up-bounds m _ _ (λ j. open_bounds (at y j) (row_within n j balances x) (terms.row_times n j balances x) (row-holds n j balances x))

  slack-bound : AtMost (Σℚ p (λ k. terms.slack_term (exactly z k) (exactly least k) (terms.row_times n k limits x))) s
  unfolding slack_up
  slack-bound = up-bounds p _ _ (λ k. slack-bounds (at z k) (at least k) (row_within n k limits x) (terms.row_times n k limits x) (row-holds n k limits x))

  -- the four tests
  abbrev Tested : Bool
  Tested = are_positive n spreads && none_negative p z && day_finite n m p values balances limits least && report_finite n m p x y z

  told : (b : Bool) → Tested ≡ b → (Finite (cond b (fourfold f o s) (inf false)) → b ≡ true)
  told true e h = refl
  told false e h = absurd h

  reached : AtMost (reach d (report x y z)) R
  unfolding reach_up fourfold
  reached = go Tested
    where
      go : (b : Bool) → AtMost (reach d (report x y z)) (cond b (fourfold f o s) (inf false))
      go true =
          let t = add_up o o in
          let g = add_up t s in
          let q = add_up f g in
          let h = add_up q q in
          terms.reach-at-most n m p values spreads balances limits least x y z f o s t g q h (add_up h h) fits_bound open-bound slack-bound (adds o o) (adds t s) (adds f g) (adds q q) (adds h h)
      go false = tt

  tested : Finite R → Tested ≡ true
  unfolding reach_up
  tested h = told Tested refl h

  sound : Finite R → Sound d (report x y z)
  unfolding are_positive none_negative
  sound h =
      let a = are_positive n spreads in
      let b = none_negative p z in
      let c = day_finite n m p values balances limits least in
      let first = and_left (a && b) c (and_left (a && b && c) (report_finite n m p x y z) (tested h)) in
      record {
        spreads = λ i l. positive-value (at spreads i) (all-at n _ (and_left a b first) i l);
        witnesses = λ k l. terms.zero-value (at z k) (all-at p _ (and_right a b first) k l);
      }

  numbers : Finite R → AllFinite n m p values spreads balances limits least x y z
  unfolding are_positive day_finite report_finite
  numbers h =
      let a = are_positive n spreads in
      let b = none_negative p z in
      let v = are_finite n values in
      let c = are_finite (m * n) balances in
      let l = are_finite (p * n) limits in
      let e = are_finite p least in
      let u = are_finite n x in
      let w = are_finite m y in
      let t = are_finite p z in
      let first = and_left (a && b && (v && c && l && e)) (u && w && t) (tested h) in
      let day = and_right (a && b) (v && c && l && e) first in
      let rep = and_right (a && b && (v && c && l && e)) (u && w && t) (tested h) in
      record {
        values_finite = all-numbers n values (and_left v c (and_left (v && c) l (and_left (v && c && l) e day)));
        spreads_finite = λ i k. positive-finite (at spreads i) (all-at n _ (and_left a b (and_left (a && b) (v && c && l && e) first)) i k);
        balances_finite = all-numbers (m * n) balances (and_right v c (and_left (v && c) l (and_left (v && c && l) e day)));
        limits_finite = all-numbers (p * n) limits (and_right (v && c) l (and_left (v && c && l) e day));
        least_finite = all-numbers p least (and_right (v && c && l) e day);
        x_finite = all-numbers n x (and_left u w (and_left (u && w) t rep));
        y_finite = all-numbers m y (and_right u w (and_left (u && w) t rep));
        z_finite = all-numbers p z (and_right (u && w) t rep);
      }

  reach-fits : T (fits binary64 R)
  unfolding reach_up fourfold
  reach-fits =
      let q = add_up f (add_up (add_up o o) s) in
      let h = add_up q q in
      cond-fits binary64 Tested (add_up h h) (inf false) (up_is (h ⊕ h) (add-fits binary64 h h)).f64 (inf-fits binary64 false)

  within : Finite R → (x' : ℕ → ℚ) → AsGood d (exactly x) x' → apart d (exactly x) x' ≤ℚ value R
  within h x' good = laws.le_trans (apart d (exactly x) x') (reach d (report x y z)) (value R) (none_farther d (report x y z) (sound h) x' good) (finite-at-most (reach d (report x y z)) R h reached)

pub reach-is-bounded : ReachIsBounded
reach-is-bounded n m p values spreads balances limits least x y z = (
  reached n m p values spreads balances limits least x y z,
  sound n m p values spreads balances limits least x y z,
  numbers n m p values spreads balances limits least x y z,
)

pub within-bound : WithinBound
within-bound = within

-- a root that is finite is that of a finite number
finite-root : (r : Float) → Finite (next_up (sqrt_of r)) → Finite r
unfolding next_up sqrt_of
finite-root nan f = f
finite-root (inf false) f = f
finite-root (inf true) f = f
finite-root (fin s m e) f = tt

square-of : (q b : ℚ) → q ≤ℚ b *ℚ b → q ≤ℚ squared b
unfolding squared
square-of q b h = h

pub bound-is-enough : BoundIsEnough
unfolding bound
bound-is-enough n m p values spreads balances limits least x y z g =
    let r = reach (read n m p values spreads balances limits least) (report x y z) in
    let R = reach_up n m p values spreads balances limits least x y z in
    let B = next_up (sqrt_of R) in
    let root = roots R (reach-fits n m p values spreads balances limits least x y z) in
    (sound n m p values spreads balances limits least x y z (finite-root R g), root.positive g, square-of r (value B) (root.square r (reached n m p values spreads balances limits least x y z) g))

pub no-meter-beyond : NoMeterBeyond
no-meter-beyond n m p values spreads balances limits least x y z g x' good i l =
    let e = bound-is-enough n m p values spreads balances limits least x y z g in
    no_meter_farther (read n m p values spreads balances limits least) (report x y z) e.0 (value (bound n m p values spreads balances limits least x y z)) e.1 e.2 x' good i l

pub bound-is-of-numbers : BoundIsOfNumbers
unfolding bound
bound-is-of-numbers n m p values spreads balances limits least x y z g = numbers n m p values spreads balances limits least x y z (finite-root (reach_up n m p values spreads balances limits least x y z) g)

-- ---- kept

-- what is at most a float that is at most t
at-most-le : (q : ℚ) (x t : Float) → Finite t → le x t ≡ true → AtMost q x → q ≤ℚ value t
unfolding le
at-most-le q nan t f l h = absurd (false≢true l)
at-most-le q (inf true) t f l h = absurd h
at-most-le q (inf false) nan f l h = absurd f
at-most-le q (inf false) (inf s) f l h = absurd f
at-most-le q (inf false) (fin s m e) f l h = absurd (false≢true l)
at-most-le q (fin s m e) nan f l h = absurd f
at-most-le q (fin s m e) (inf u) f l h = absurd f
at-most-le q (fin s m e) (fin u k d) f l h =
    laws.le_trans q (value (fin s m e)) (value (fin u k d)) h ((at-most-is-at-most (fin s m e) (fin u k d) tt tt).0 l)

-- a - b ≤ t says a - t ≤ b
taken : (a b t : ℚ) → a -ℚ b ≤ℚ t → a -ℚ t ≤ℚ b
unfolding ◌≤ℚ◌ ◌+ℚ◌ negℚ
taken a b t h = go a.plus a.minus a.den b.plus b.minus b.den t.plus t.minus t.den h
  where
    go : (p m d q n e r o f : ℕ) → (p * e + n * d) * f + o * (d * e) ≤ r * (d * e) + (m * e + q * d) * f → (p * f + o * d) * e + n * (d * f) ≤ q * (d * f) + (m * f + r * d) * e
    go p m d q n e r o f h = omega arith

module _ (n m p : ℕ) (values spreads balances limits least x : List Float) (t : Float) (f : Finite t) where
  abbrev Within : Type 0
  Within = WithinTolerance (read n m p values spreads balances limits least) (exactly x) (value t)

  closed : (j : ℕ) → closes n j balances x t ≡ true → absℚ (balanced (read n m p values spreads balances limits least) j (exactly x)) ≤ℚ value t
  unfolding closes balanced terms.row_times
  closed j h =
      at-most-le (absℚ (terms.row_times n j balances x)) (magnitude (row_within n j balances x)) t f h (magnitude-bounds (row_within n j balances x) (terms.row_times n j balances x) (row-holds n j balances x))

  not-missed : (k : ℕ) → keeps n k limits least x t ≡ true → exactly least k -ℚ value t ≤ℚ limited (read n m p values spreads balances limits least) k (exactly x)
  unfolding keeps limited terms.row_times
  not-missed k h =
      let a = row_within n k limits x in
      let q = terms.row_times n k limits x in
      taken (exactly least k) q (value t)
      (at-most-le (exactly least k -ℚ q) (minus (point (at least k)) a).hi t f h (minus-holds (point (at least k)) a (exactly least k) q (point-holds (at least k)) (row-holds n k limits x)).high)

  is_within : kept n m p balances limits least x t ≡ true → Within
  unfolding kept
  is_within h = record {
    closes = λ j l. closed j (all-at m _ (and_left (all_below m (λ j. closes n j balances x t)) (all_below p (λ k. keeps n k limits least x t)) h) j l);
    keeps = λ k l. not-missed k (all-at p _ (and_right (all_below m (λ j. closes n j balances x t)) (all_below p (λ k. keeps n k limits least x t)) h) k l);
  }

pub kept-is-within : KeptIsWithin
kept-is-within n m p values spreads balances limits least x t f h = is_within n m p values spreads balances limits least x t f h

-- what is above some float is not -infinity
not-lowest : (x r : Float) → Higher x r → r ≡ inf true → ⊥
unfolding lt
not-lowest x r (inl h) e = two-sides (sym h ∙ e)
  where
    two-sides : inf false ≡ inf true → ⊥
    two-sides q = subst (λ (v : Float). T (lt v (inf false))) (sym q) tt
not-lowest x r (inr h) e = none x (subst (λ (v : Float). T (lt x v)) e h)
  where
    none : (x : Float) → T (lt x (inf true)) → ⊥
    none nan k = k
    none (inf true) k = k
    none (inf false) k = k
    none (fin s m e) k = k

-- so at most a finite float it is finite
at-most-finite : (r t : Float) → (r ≡ inf true → ⊥) → Finite t → le r t ≡ true → Finite r
unfolding le
at-most-finite (fin s m e) t n f h = tt
at-most-finite (inf true) t n f h = absurd (n refl)
at-most-finite (inf false) (fin s m e) n f h = absurd (false≢true h)
at-most-finite nan t n f h = absurd (false≢true h)
at-most-finite (inf false) (inf s) n f h = absurd f
at-most-finite (inf false) nan n f h = absurd f

pub small-is-finite : SmallIsFinite
unfolding bound
small-is-finite n m p values spreads balances limits least x y z t f h =
    let R = reach_up n m p values spreads balances limits least x y z in
    at-most-finite (next_up (sqrt_of R)) t (not-lowest (sqrt_of R) (next_up (sqrt_of R)) (up_is (sqrt_of R) (root-fits R (reach-fits n m p values spreads balances limits least x y z))).higher) f h
