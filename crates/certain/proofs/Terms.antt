-- The terms of the reach in exact numbers, and bounds of them and of their sum from bounds of their parts. Assumes nothing.
use mathlib.Core.Path.{◌≡◌, refl, sym, subst}
use mathlib.Core.Bool.{Bool, true, false, cond, ◌&&◌, ◌||◌, false≢true}
use mathlib.Core.List.{List}
use Prim.Native.Nat.{ℕ, ◌+◌, ◌*◌}
use native.Mathlib.Omega.{arith}
use lib.Dec.{T, eqb, eqb→eq}
use lib.Ieee.{Float, nan, inf, fin, up, down, le}
use lib.Ieee.Fits.{and_l, and_r}
use Rattle.numbers.specs.Numbers.{+0}
use Rattle.exact.specs.Exact.{ℚ, ◌≤ℚ◌, whole, negℚ, ◌+ℚ◌, ◌-ℚ◌, ◌*ℚ◌, ◌/ℚ◌, leℚ, maxℚ, absℚ, squared, Σℚ, value, signed}
use Rattle.exact.proofs.Laws as laws
use Rattle.exact.proofs.Monotone.{sum_mono}
use Rattle.interval.specs.Held.{AtMost}
use Rattle.interval.proofs.Bounds.{at-most-through}
use Rattle.interval.proofs.Containment.{nothing}
use Rattle.interval.proofs.Ends.{Larger}
use Rattle.certain.specs.Day.{exactly, read, report, balanced, limited, pull, unexplained, gap, reach}

-- what the balances and the limits ask of volume i
unfoldable pub pulled : (n m p i : ℕ) (balances limits y z : List Float) → ℚ
pulled n m p i balances limits y z = Σℚ m (λ j. exactly balances (j * n + i) *ℚ exactly y j) +ℚ Σℚ p (λ k. exactly limits (k * n + i) *ℚ exactly z k)

-- what of a volume's correction is unexplained, in spreads, squared
unfoldable pub fit_term : (x v s g : ℚ) → ℚ
fit_term x v s g = squared (((x -ℚ v) -ℚ squared s *ℚ g) /ℚ s)

-- row j of a matrix of n columns times x
unfoldable pub row_times : (n j : ℕ) (rows x : List Float) → ℚ
row_times n j rows x = Σℚ n (λ i. exactly rows (j * n + i) *ℚ exactly x i)

-- |y| |c|, and z max (a - b) 0
unfoldable pub open_term : (y c : ℚ) → ℚ
open_term y c = absℚ y *ℚ absℚ c

unfoldable pub slack_term : (z b a : ℚ) → ℚ
slack_term z b a = z *ℚ maxℚ (a -ℚ b) (whole 0)

-- ---- the terms
square-neg : (w : ℚ) → w *ℚ w ≤ℚ negℚ w *ℚ negℚ w
unfolding ◌≤ℚ◌ ◌*ℚ◌ negℚ
square-neg w = omega arith

square-size : (w : ℚ) → w *ℚ w ≤ℚ absℚ w *ℚ absℚ w
unfolding absℚ maxℚ
square-size w = go (leℚ w (negℚ w))
  where
    go : (b : Bool) → w *ℚ w ≤ℚ cond b (negℚ w) w *ℚ cond b (negℚ w) w
    go true = square-neg w
    go false = laws.le_refl (w *ℚ w)

pub fit-term-up : (x v s q : ℚ) (u r : Float) → AtMost (absℚ (((x -ℚ v) -ℚ s *ℚ s *ℚ q) /ℚ s)) u
    → ((a b : ℚ) → whole 0 ≤ℚ a → whole 0 ≤ℚ b → AtMost a u → AtMost b u → AtMost (a *ℚ b) r) → AtMost (fit_term x v s q) r
unfolding fit_term squared
fit-term-up x v s q u r h mul =
    let w = ((x -ℚ v) -ℚ s *ℚ s *ℚ q) /ℚ s in
    at-most-through (w *ℚ w) (absℚ w *ℚ absℚ w) r (square-size w) (mul (absℚ w) (absℚ w) (laws.abs-nonneg w) (laws.abs-nonneg w) h h)

pub open-term-up : (y c : ℚ) (u v r : Float) → AtMost (absℚ y) u → AtMost (absℚ c) v → ((a b : ℚ) → whole 0 ≤ℚ a → whole 0 ≤ℚ b → AtMost a u → AtMost b v → AtMost (a *ℚ b) r) → AtMost (open_term y c) r
unfolding open_term
open-term-up y c u v r h k mul = mul (absℚ y) (absℚ c) (laws.abs-nonneg y) (laws.abs-nonneg c) h k

-- a witness that is not below zero
pub zero-value : (z : Float) → le +0 z ≡ true → whole 0 ≤ℚ value z
unfolding le ◌≤ℚ◌ value signed negℚ
zero-value nan h = absurd (false≢true h)
zero-value (inf true) h = absurd (false≢true h)
zero-value (inf false) h = omega arith
zero-value (fin false n d) h = omega arith
zero-value (fin true n d) h = let e = zero-size (0 * down d) (n * up d * 1) (subst T (sym h) tt) in omega arith
  where
    zero-size : (a b : ℕ) → T (eqb a b && (false || eqb a 0)) → (a ≡ b) × (a ≡ 0)
    zero-size a b t = (eqb→eq a b (and_l (eqb a b) (eqb a 0) t), eqb→eq a 0 (and_r (eqb a b) (eqb a 0) t))

own : (z : Float) → le +0 z ≡ true → AtMost (value z) z
unfolding le
own nan h = tt
own (inf true) h = absurd (false≢true h)
own (inf false) h = tt
own (fin s n d) h = laws.le_refl (value (fin s n d))

max-at-most : (a b : ℚ) (x : Float) → AtMost a x → AtMost b x → AtMost (maxℚ a b) x
max-at-most a b nan h k = tt
max-at-most a b (inf true) h k = h
max-at-most a b (inf false) h k = tt
max-at-most a b (fin s m e) h k = laws.max-le a b (value (fin s m e)) h k

pub slack-term-up : (z : Float) (b q : ℚ) (hi M r : Float) → le +0 z ≡ true → AtMost (q -ℚ b) hi → Larger hi +0 M
    → ((a c : ℚ) → whole 0 ≤ℚ a → whole 0 ≤ℚ c → AtMost a z → AtMost c M → AtMost (a *ℚ c) r) → AtMost (slack_term (value z) b q) r
unfolding slack_term
slack-term-up z b q hi M r t h l mul =
    mul (value z) (maxℚ (q -ℚ b) (whole 0)) (zero-value z t) (laws.le_max_right (q -ℚ b) (whole 0)) (own z t)
    (max-at-most (q -ℚ b) (whole 0) M (l.bounds-left (q -ℚ b) h) (l.bounds-right (whole 0) nothing))

-- ---- the reach
doubled : (a : ℚ) → whole 2 *ℚ a ≤ℚ a +ℚ a
unfolding ◌≤ℚ◌ ◌*ℚ◌ ◌+ℚ◌
doubled a = omega arith

four-fold : (a : ℚ) → whole 4 *ℚ a ≤ℚ a +ℚ a +ℚ (a +ℚ a)
unfolding ◌≤ℚ◌ ◌*ℚ◌ ◌+ℚ◌
four-fold a = omega arith

four-up : (f o s : ℚ) → let q = f +ℚ (o +ℚ o +ℚ s) in whole 4 *ℚ (f +ℚ (whole 2 *ℚ o +ℚ s)) ≤ℚ q +ℚ q +ℚ (q +ℚ q)
four-up f o s =
    let q = f +ℚ (o +ℚ o +ℚ s) in
    let p = f +ℚ (whole 2 *ℚ o +ℚ s) in
    let h : p ≤ℚ q = sum_mono f f (whole 2 *ℚ o +ℚ s) (o +ℚ o +ℚ s) (laws.le_refl f) (sum_mono (whole 2 *ℚ o) (o +ℚ o) s s (doubled o) (laws.le_refl s)) in
    let k : p +ℚ p ≤ℚ q +ℚ q = sum_mono p q p q h h in
    laws.le_trans (whole 4 *ℚ p) (p +ℚ p +ℚ (p +ℚ p)) (q +ℚ q +ℚ (q +ℚ q)) (four-fold p) (sum_mono (p +ℚ p) (q +ℚ q) (p +ℚ p) (q +ℚ q) k k)

reach-is : (n m p : ℕ) (values spreads balances limits least x y z : List Float)
    → reach (read n m p values spreads balances limits least) (report x y z)
    ≡ whole 4 *ℚ (Σℚ n (λ i. fit_term (exactly x i) (exactly values i) (exactly spreads i) (pulled n m p i balances limits y z))
    +ℚ (whole 2 *ℚ Σℚ m (λ j. open_term (exactly y j) (row_times n j balances x)) +ℚ Σℚ p (λ k. slack_term (exactly z k) (exactly least k) (row_times n k limits x))))
unfolding reach gap unexplained pull balanced limited pulled fit_term row_times open_term slack_term
reach-is n m p values spreads balances limits least x y z = refl

abbrev Adds : Float → Float → Float → Type 0
Adds x y r = (q t : ℚ) → AtMost q x → AtMost t y → AtMost (q +ℚ t) r

pub reach-at-most : (n m p : ℕ) (values spreads balances limits least x y z : List Float) (squares opened slack twice gap quarter half r : Float)
    → AtMost (Σℚ n (λ i. fit_term (exactly x i) (exactly values i) (exactly spreads i) (pulled n m p i balances limits y z))) squares
    → AtMost (Σℚ m (λ j. open_term (exactly y j) (row_times n j balances x))) opened
    → AtMost (Σℚ p (λ k. slack_term (exactly z k) (exactly least k) (row_times n k limits x))) slack
    → Adds opened opened twice → Adds twice slack gap → Adds squares gap quarter → Adds quarter quarter half → Adds half half r
    → AtMost (reach (read n m p values spreads balances limits least) (report x y z)) r
reach-at-most n m p values spreads balances limits least x y z squares opened slack twice gap quarter half r hf ho hs a b c d e =
    let f = Σℚ n (λ i. fit_term (exactly x i) (exactly values i) (exactly spreads i) (pulled n m p i balances limits y z)) in
    let o = Σℚ m (λ j. open_term (exactly y j) (row_times n j balances x)) in
    let s = Σℚ p (λ k. slack_term (exactly z k) (exactly least k) (row_times n k limits x)) in
    let q = f +ℚ (o +ℚ o +ℚ s) in
    let g : AtMost q quarter = c f (o +ℚ o +ℚ s) hf (b (o +ℚ o) s (a o o ho ho) hs) in
    let k : AtMost (q +ℚ q) half = d q q g g in
    subst (λ (w : ℚ). AtMost w r) (sym (reach-is n m p values spreads balances limits least x y z))
    (at-most-through (whole 4 *ℚ (f +ℚ (whole 2 *ℚ o +ℚ s))) (q +ℚ q +ℚ (q +ℚ q)) r (four-up f o s) (e (q +ℚ q) (q +ℚ q) k k))
