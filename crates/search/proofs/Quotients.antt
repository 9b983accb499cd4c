-- Slopes by difference are the difference quotients, for both schemes and all sizes.
use Prim.Native.Nat.{ℕ, zero, suc, ◌+◌, ◌-◌, ◌≤◌, ◌<◌}
use mathlib.Core.Path.{◌≡◌, refl, sym, ap, ap₂, ◌∙◌, subst}
use mathlib.Core.Bool.{Bool, true, false, cond, ◌&&◌}
use mathlib.Core.List.{List, [], ◌∷◌, ◌++◌, append_assoc, append-nil}
use native.Mathlib.Omega.{arith}
use lib.ListN.{set, get_or}
use lib.Ieee.{Float, nan}
use Rattle.numbers.specs.Numbers.{at, tab, rows, grid}
use Rattle.numbers.proofs.Lists.{get_d-tab}
use Rattle.step_rows.specs.Problem.{each}
use Rattle.search.specs.Setup.{Setup, Scheme, told, forward, central, Point, Report, Question, single, nonfinite, is_finite, are_finite}
use Rattle.search.specs.Turn.{point_of, raise, lower, quotient}
use Rattle.search.specs.Written.{Script, due, pay, sound, reach, row_done, value_at, lower_at, row_at, rows_at, slopes_by, slopes_at, Transcript, play}
use Rattle.search.specs.Written as Written
use Rattle.search.specs.Differences.{low, difference, differences, questions_at, questions_for, cost, answers_of, asking_all, numbers_at, numbers_for, Passes, out_of_budget, not_finite, passes, IsDifference, ByDifferences}

-- ---- lists

set_same : (x : List Float) (i : ℕ) → set x i (get_or x i nan) ≡ x
set_same [] i = refl
set_same (v ∷ vs) zero = refl
set_same (v ∷ vs) (suc i) = ap (λ t. v ∷ t) (set_same vs i)

each_same : {A : Type 0} (n : ℕ) (f g : ℕ → List A) → ((i : ℕ) → i < n → f i ≡ g i) → each n f ≡ each n g
unfolding each
each_same zero f g h = refl
each_same (suc n) f g h = ap₂ (λ s t. s ++ t) (h zero (omega arith)) (each_same n _ _ (λ i l. h (suc i) (omega arith)))

tab-each : {A : Type 0} (n : ℕ) (f : ℕ → A) → tab n f ≡ each n (λ i. f i ∷ [])
unfolding tab each
tab-each zero f = refl
tab-each (suc n) f = ap (λ t. f zero ∷ t) (tab-each n (λ i. f (suc i)))

rows-each : (m : ℕ) (f : ℕ → List Float) → rows m f ≡ each m f
unfolding rows each
rows-each zero f = refl
rows-each (suc m) f = ap (λ t. f zero ++ t) (rows-each m (λ i. f (suc i)))

-- f (n - c), .., f (n - 1), as the loops count
tail : {A : Type 0} (n c : ℕ) → (ℕ → List A) → List A
tail n zero f = []
tail n (suc c) f = f (n - suc c) ++ tail n c f

tail-each : {A : Type 0} (n c : ℕ) (f : ℕ → List A) → c ≤ n → tail n c f ≡ each c (λ i. f (n - c + i))
unfolding tail each
tail-each n zero f l = refl
tail-each {A} n (suc c) f l =
    ap₂ (λ s t. s ++ t) (ap f (let e : n - suc c ≡ n - suc c + zero = omega arith in e))
    (tail-each n c f (omega arith) ∙ each_same c _ _ (λ i h. ap f (let e : n - c + i ≡ n - suc c + suc i = omega arith in e)))

tail-whole : {A : Type 0} (n : ℕ) (f : ℕ → List A) → tail n n f ≡ each n f
tail-whole n f = tail-each n n f (omega arith) ∙ each_same n _ _ (λ i h. ap f (let e : n - n + i ≡ i = omega arith in e))

-- ---- finite numbers

finite-append : (xs ys : List Float) → are_finite (xs ++ ys) ≡ (are_finite xs && are_finite ys)
unfolding are_finite
finite-append [] ys = refl
finite-append (x ∷ xs) ys = rw (finite-append xs ys) (assoc (is_finite x) (are_finite xs) (are_finite ys))
  where
    assoc : (a b c : Bool) → (a && (b && c)) ≡ ((a && b) && c)
    assoc true b c = refl
    assoc false b c = refl

-- in front or behind
bad-front : (xs ys : List Float) → are_finite xs ≡ false → are_finite (xs ++ ys) ≡ false
bad-front xs ys h = finite-append xs ys ∙ rw h refl

bad-behind : (xs ys : List Float) → are_finite ys ≡ false → are_finite (xs ++ ys) ≡ false
bad-behind xs ys h = finite-append xs ys ∙ rw h (none (are_finite xs))
  where
    none : (b : Bool) → (b && false) ≡ false
    none true = refl
    none false = refl

bad-each : (n : ℕ) (f : ℕ → List Float) (i : ℕ) → i < n → are_finite (f i) ≡ false → are_finite (each n f) ≡ false
unfolding each
bad-each zero f i l h = absurd (omega arith)
bad-each (suc n) f zero l h = bad-front (f zero) (each n (λ i. f (suc i))) h
bad-each (suc n) f (suc i) l h = bad-behind (f zero) (each n (λ i. f (suc i))) (bad-each n (λ i. f (suc i)) i (omega arith) h)

-- where one of some lists is not finite, one of others is
bad-among : (n : ℕ) (f g : ℕ → List Float) → ((i : ℕ) → i < n → are_finite (f i) ≡ false → are_finite (g i) ≡ false) → are_finite (each n f) ≡ false → are_finite (each n g) ≡ false
unfolding each are_finite
bad-among zero f g h e = e
bad-among (suc n) f g h e = go (are_finite (f zero)) refl (bad-among n (λ i. f (suc i)) (λ i. g (suc i)) (λ i l. h (suc i) (omega arith)))
  where
    go : (t : Bool) → are_finite (f zero) ≡ t → (are_finite (each n (λ i. f (suc i))) ≡ false → are_finite (each n (λ i. g (suc i))) ≡ false) → are_finite (g zero ++ each n (λ i. g (suc i))) ≡ false
    go false d k = bad-front (g zero) (each n (λ i. g (suc i))) (h zero (omega arith) d)
    go true d k = bad-behind (g zero) (each n (λ i. g (suc i))) (k (sym (finite-append (f zero) (each n (λ i. f (suc i))) ∙ rw d refl) ∙ e))

-- ---- runs one after the other

module _ (a : Question → List Float) (r : Report) (Bad : Type 0) where
  -- where nothing is asked
  at_once : (b : ℕ) (k : ℕ → Script) → Passes a r zero [] Bad b k (play a (k b))
  at_once b k = passes b (omega arith) refl

  one_more : (q : Question) (price b : ℕ) (qs : List Question) (k : ℕ → Script) (t : Transcript) → Passes a r price qs Bad b k t → Passes a r price (q ∷ qs) Bad b k (Written.asking q t)
  one_more q price b qs k t (out_of_budget e i l) = out_of_budget e i l
  one_more q price b qs k t (not_finite e i h) = not_finite e i h
  one_more q price b qs k t (passes c e f) = passes c e (ap (Written.asking q) f)

  -- one run, and then another
  after : (p₁ p₂ b : ℕ) (q₁ q₂ : List Question) (k l : ℕ → Script) (t : Transcript)
      → Passes a r p₁ q₁ Bad b k t → ((c : ℕ) → Passes a r p₂ q₂ Bad c l (play a (k c))) → Passes a r (p₁ + p₂) (q₁ ++ q₂) Bad b l t
  after p₁ p₂ b q₁ q₂ k l t (out_of_budget e i h) g = out_of_budget e i (omega (arith, h))
  after p₁ p₂ b q₁ q₂ k l t (not_finite e i h) g = not_finite e i h
  after p₁ p₂ b q₁ q₂ k l t (passes c e f) g = onto (g c)
    where
      onto : Passes a r p₂ q₂ Bad c l (play a (k c)) → Passes a r (p₁ + p₂) (q₁ ++ q₂) Bad b l t
      onto (out_of_budget i j h) = out_of_budget (ap (λ (u : Transcript). u.ending) f ∙ i) (ap (λ (u : Transcript). u.report) f ∙ j) (omega (arith, e, h))
      onto (not_finite i j h) = not_finite (ap (λ (u : Transcript). u.ending) f ∙ i) (ap (λ (u : Transcript). u.report) f ∙ j) h
      onto (passes d i j) = passes d (let x : b ≡ p₁ + p₂ + d = omega arith in x)
          (f ∙ ap (asking_all q₁) j ∙ ap (λ (w : List Question). record { asked = w; ending = (play a (l d)).ending; report = (play a (l d)).report }) (sym (append_assoc q₁ q₂ (play a (l d)).asked)))

  -- tests on the way
  tested : (t : Bool) → (t ≡ false → Bad) → (price : ℕ) (qs : List Question) (b : ℕ) (k : ℕ → Script) (s : Script) → Passes a r price qs Bad b k (play a s)
      → Passes a r price qs Bad b k (play a (cond t s (Written.ends nonfinite r)))
  unfolding play
  tested true bad price qs b k s h = h
  tested false bad price qs b k s h = not_finite refl refl (bad refl)

-- what one value of function w costs
price : ℕ → ℕ
price zero = 1
price (suc w) = 0

paid : (a : Question → List Float) (r : Report) (Bad : Type 0) (w b : ℕ) (qs : List Question) (k l : ℕ → Script) → ((c : ℕ) → Passes a r zero qs Bad c k (play a (l c)))
    → Passes a r (price w) qs Bad b k (play a (pay Written.ends w b r l))
unfolding price play
paid a r Bad zero zero qs k l h = out_of_budget refl refl (omega arith)
paid a r Bad zero (suc b) qs k l h = further (h b)
  where
    further : Passes a r zero qs Bad b k (play a (l b)) → Passes a r 1 qs Bad (suc b) k (play a (l b))
    further (out_of_budget e i g) = absurd (let y : ⊥ = omega (arith, g) in y)
    further (not_finite e i g) = not_finite e i g
    further (passes c e f) = passes c (omega arith) f
paid a r Bad (suc w) b qs k l h = h b

module _ (p : Setup) (F : ℕ → List Float → Float) (S : List Float → List Float) (x : List Float) (r : Report) where
  a : Question → List Float
  a = answers_of p.m F S

  q : Point
  q = point_of x (tab (suc p.m) (λ w. F w x))

  -- one of the numbers looked at is not finite
  abbrev Bad : Type 0
  Bad = are_finite (numbers_for p.scheme p.n p.m F x) ≡ false

  value_passes : (rows cols b : ℕ) (y : Float) (k : ℕ → Float → Script)
      → let w = p.m - rows in let z = set x (p.n - suc cols) y in
      (is_finite y ≡ false → Bad) → (are_finite (F w z ∷ []) ≡ false → Bad) → Passes a r (price w) (single w z ∷ []) Bad b (λ c. k c (F w z)) (play a (value_at p b r rows x cols y k))
  unfolding a value_at play
  value_passes rows cols b y k moved valued =
      let w = p.m - rows in let z = set x (p.n - suc cols) y in
      tested a r Bad (is_finite y) moved _ _ b _ (pay Written.ends w b r (λ c. Written.asks (single w z) (λ v. sound Written.ends v r (k c (at v 0)))))
      (paid a r Bad w b _ _ (λ c. Written.asks (single w z) (λ v. sound Written.ends v r (k c (at v 0)))) (λ c.
      one_more a r Bad (single w z) zero c [] _ _ (tested a r Bad (are_finite (F w z ∷ [])) valued zero [] c _ (k c (F w z)) (at_once a r Bad c (λ d. k d (F w z))))))

-- ---- what a slope costs

price_at : Scheme → ℕ → ℕ
price_at told w = price w + 0
price_at forward w = price w + 0
price_at central w = price w + price w

costs : ℕ → ℕ → ℕ
costs zero c = 0
costs (suc n) c = c + costs n c

rows_cost : Scheme → (n m rows : ℕ) → ℕ
rows_cost s n m zero = costs n (price_at s (m - zero)) + 0
rows_cost s n m (suc rows) = costs n (price_at s (m - suc rows)) + rows_cost s n m rows

price-free : (s : Scheme) (w : ℕ) → 0 < w → price_at s w ≡ 0
unfolding price_at price
price-free s zero h = absurd (omega arith)
price-free told (suc w) h = refl
price-free forward (suc w) h = refl
price-free central (suc w) h = refl

costs-free : (n : ℕ) → costs n 0 ≡ 0
unfolding costs
costs-free zero = refl
costs-free (suc n) = let e = costs-free n in omega arith

rest-free : (s : Scheme) (n m rows : ℕ) → rows < m → rows_cost s n m rows ≡ 0
unfolding rows_cost
rest-free s n m zero h =
    let e : costs n (price_at s (m - zero)) ≡ 0 = ap (costs n) (price-free s (m - zero) (omega arith)) ∙ costs-free n in omega arith
rest-free s n m (suc rows) h =
    let e : costs n (price_at s (m - suc rows)) ≡ 0 = ap (costs n) (price-free s (m - suc rows) (omega arith)) ∙ costs-free n in
    let f = rest-free s n m rows (omega arith) in omega arith

ones : (n : ℕ) → costs n 1 ≡ n
unfolding costs
ones zero = refl
ones (suc n) = let e = ones n in omega arith

twos : (n : ℕ) → costs n 2 ≡ n + n
unfolding costs
twos zero = refl
twos (suc n) = let e = twos n in omega arith

first-cost : (s : Scheme) (n : ℕ) → costs n (price_at s 0) ≡ cost s n
unfolding price_at price
first-cost told n = ones n
first-cost forward n = ones n
first-cost central n = twos n

whole-cost : (s : Scheme) (n m : ℕ) → rows_cost s n m m ≡ cost s n
unfolding rows_cost
whole-cost s n zero = let e = first-cost s n in omega arith
whole-cost s n (suc m) =
    let z : suc m - suc m ≡ 0 = omega arith in
    let e : costs n (price_at s (suc m - suc m)) ≡ cost s n = ap (λ w. costs n (price_at s w)) z ∙ first-cost s n in
    let f = rest-free s n (suc m) m (omega arith) in omega arith

-- ---- what all rows ask and give

rows_of : {A : Type 0} (m rows : ℕ) → (ℕ → List A) → List A
rows_of m zero f = f (m - zero) ++ []
rows_of m (suc rows) f = f (m - suc rows) ++ rows_of m rows f

rows-tail : {A : Type 0} (m rows : ℕ) (f : ℕ → List A) → rows_of m rows f ≡ tail (suc m) (suc rows) f
unfolding rows_of tail
rows-tail m zero f = ap (λ w. f w ++ []) (let e : m - zero ≡ suc m - suc zero = omega arith in e)
rows-tail m (suc rows) f = ap₂ (λ s t. s ++ t) (ap f (let e : m - suc rows ≡ suc m - suc (suc rows) = omega arith in e)) (rows-tail m rows f)

rows_whole : {A : Type 0} (m n : ℕ) (f : ℕ → ℕ → List A) → rows_of m m (λ w. tail n n (f w)) ≡ each (suc m) (λ w. each n (f w))
rows_whole m n f = rows-tail m m _ ∙ tail-whole (suc m) _ ∙ each_same (suc m) _ _ (λ w h. tail-whole n (f w))

module _ (p : Setup) (F : ℕ → List Float → Float) (S : List Float → List Float) (x : List Float) (r : Report) where
  own : (rows i : ℕ) → at (q p F S x r).values (p.m - rows) ≡ F (p.m - rows) (set x i (at x i))
  unfolding q
  own rows i =
      get_d-tab (suc p.m) (λ w. F w x) nan (p.m - rows) (omega arith) ∙ ap (F (p.m - rows)) (sym (set_same x i))

  low_questions : Scheme → (w i : ℕ) → List Question
  low_questions told w i = []
  low_questions forward w i = []
  low_questions central w i = single w (set x i (lower (at x i))) ∷ []

  low_price : Scheme → ℕ → ℕ
  low_price told w = 0
  low_price forward w = 0
  low_price central w = price w

  abbrev Met : Type 0
  Met = Bad p F S x r

  -- one at a coordinate of a function is
  bad-at : (w i : ℕ) → w < suc p.m → i < p.n → are_finite (numbers_at p.scheme F x w i) ≡ false → Met
  unfolding numbers_for
  bad-at w i l k e = bad-each (suc p.m) (λ w. each p.n (λ i. numbers_at p.scheme F x w i)) w l (bad-each p.n (λ i. numbers_at p.scheme F x w i) i k e)

  -- a moved coordinate, what is told there, and the slope
  and_none : (b : Bool) → (b && false) ≡ false
  and_none true = refl
  and_none false = refl

  bad-raised : (s : Scheme) (w i : ℕ) → is_finite (raise (at x i)) ≡ false → are_finite (numbers_at s F x w i) ≡ false
  unfolding are_finite
  bad-raised told w i e = rw e refl
  bad-raised forward w i e = rw e refl
  bad-raised central w i e = rw e refl

  bad-value : (s : Scheme) (w i : ℕ) → are_finite (F w (set x i (raise (at x i))) ∷ []) ≡ false → are_finite (numbers_at s F x w i) ≡ false
  bad-value told w i e = bad-behind (raise (at x i) ∷ []) _ (bad-front (F w (set x i (raise (at x i))) ∷ []) _ e)
  bad-value forward w i e = bad-behind (raise (at x i) ∷ []) _ (bad-front (F w (set x i (raise (at x i))) ∷ []) _ e)
  bad-value central w i e = bad-behind (raise (at x i) ∷ []) _ (bad-front (F w (set x i (raise (at x i))) ∷ []) _ e)

  bad-lowered : (w i : ℕ) → is_finite (lower (at x i)) ≡ false → are_finite (numbers_at central F x w i) ≡ false
  unfolding are_finite
  bad-lowered w i e =
      bad-behind (raise (at x i) ∷ F w (set x i (raise (at x i))) ∷ []) (lower (at x i) ∷ F w (set x i (lower (at x i))) ∷ difference central F x w i ∷ []) (rw e refl)

  bad-lower-value : (w i : ℕ) → are_finite (F w (set x i (lower (at x i))) ∷ []) ≡ false → are_finite (numbers_at central F x w i) ≡ false
  bad-lower-value w i e =
      bad-behind (raise (at x i) ∷ F w (set x i (raise (at x i))) ∷ lower (at x i) ∷ []) _ (bad-front (F w (set x i (lower (at x i))) ∷ []) _ e)

  bad-slope : (s : Scheme) (w i : ℕ) → are_finite (difference s F x w i ∷ []) ≡ false → are_finite (numbers_at s F x w i) ≡ false
  bad-slope told w i e = bad-behind (raise (at x i) ∷ F w (set x i (raise (at x i))) ∷ []) _ e
  bad-slope forward w i e = bad-behind (raise (at x i) ∷ F w (set x i (raise (at x i))) ∷ []) _ e
  bad-slope central w i e = bad-behind (raise (at x i) ∷ F w (set x i (raise (at x i))) ∷ lower (at x i) ∷ F w (set x i (lower (at x i))) ∷ []) _ e

  point-own : (rows cols b : ℕ) (k : ℕ → Float → Float → Script)
      → let w = p.m - rows in let i = p.n - suc cols in
      Passes (a p F S x r) r 0 [] Met b (λ c. k c (F w (set x i (at x i))) (at x i)) (play (a p F S x r) (k b (at (q p F S x r).values w) (at x i)))
  point-own rows cols b k =
      let w = p.m - rows in let i = p.n - suc cols in
      subst (λ (v : Float). Passes (a p F S x r) r 0 [] Met b (λ c. k c (F w (set x i (at x i))) (at x i)) (play (a p F S x r) (k b v (at x i)))) (sym (own rows i))
      (at_once (a p F S x r) r Met b (λ c. k c (F w (set x i (at x i))) (at x i)))

  low-passes : (s : Scheme) → s ≡ p.scheme → (rows cols b : ℕ) → suc cols ≤ p.n → (k : ℕ → Float → Float → Script)
      → let w = p.m - rows in let i = p.n - suc cols in
      Passes (a p F S x r) r (low_price s w) (low_questions s w i) Met b (λ c. k c (F w (set x i (low s (at x i)))) (low s (at x i))) (play (a p F S x r) (lower_at s p b r rows (q p F S x r) cols k))
  unfolding low_questions low_price q
  low-passes told e rows cols b l k = point-own rows cols b k
  low-passes forward e rows cols b l k = point-own rows cols b k
  low-passes central e rows cols b l k =
      let w = p.m - rows in let i = p.n - suc cols in
      let bad : are_finite (numbers_at central F x w i) ≡ false → Met = λ h. bad-at w i (omega arith) (omega (arith, l)) (subst (λ (s : Scheme). are_finite (numbers_at s F x w i) ≡ false) e h) in
      value_passes p F S x r rows cols b (lower (at x i)) (λ c u. k c u (lower (at x i))) (λ h. bad (bad-lowered w i h)) (λ h. bad (bad-lower-value w i h))

  -- one slope
  slope_script : (rows cols b : ℕ) → (ℕ → Float → Script) → Script
  slope_script rows cols b k =
      let y = raise (at x (p.n - suc cols)) in
      value_at p b r rows x cols y (λ c v. lower_at p.scheme p c r rows (q p F S x r) cols (λ c u z. k c (quotient v u y z)))

  scheme-asks : (s : Scheme) (w i : ℕ) → (single w (set x i (raise (at x i))) ∷ []) ++ low_questions s w i ≡ questions_at s x w i
  unfolding low_questions
  scheme-asks told w i = refl
  scheme-asks forward w i = refl
  scheme-asks central w i = refl

  scheme-price : (s : Scheme) (w : ℕ) → price w + low_price s w ≡ price_at s w
  unfolding low_price price_at
  scheme-price told w = refl
  scheme-price forward w = refl
  scheme-price central w = refl

  slope-passes : (rows cols b : ℕ) → suc cols ≤ p.n → (k : ℕ → Float → Script)
      → let w = p.m - rows in let i = p.n - suc cols in
      Passes (a p F S x r) r (price_at p.scheme w) (questions_at p.scheme x w i) Met b (λ c. k c (difference p.scheme F x w i)) (play (a p F S x r) (slope_script rows cols b k))
  unfolding slope_script difference
  slope-passes rows cols b l k =
      let w = p.m - rows in let i = p.n - suc cols in let y = raise (at x i) in
      let bad : are_finite (numbers_at p.scheme F x w i) ≡ false → Met = bad-at w i (omega arith) (omega (arith, l)) in
      subst (λ (c : ℕ). Passes (a p F S x r) r c (questions_at p.scheme x w i) Met b (λ c. k c (difference p.scheme F x w i)) (play (a p F S x r) (slope_script rows cols b k))) (scheme-price p.scheme w)
      (subst (λ (qs : List Question). Passes (a p F S x r) r (price w + low_price p.scheme w) qs Met b (λ c. k c (difference p.scheme F x w i)) (play (a p F S x r) (slope_script rows cols b k))) (scheme-asks p.scheme w i)
      (after (a p F S x r) r Met (price w) (low_price p.scheme w) b (single w (set x i y) ∷ []) (low_questions p.scheme w i) _ _ _
      (value_passes p F S x r rows cols b y (λ c v. lower_at p.scheme p c r rows (q p F S x r) cols (λ c u z. k c (quotient v u y z))) (λ h. bad (bad-raised p.scheme w i h)) (λ h. bad (bad-value p.scheme w i h)))
      (λ c. low-passes p.scheme refl rows cols c l (λ c u z. k c (quotient (F w (set x i y)) u y z)))))

  -- a row of slopes
  slopes_in : (w cols : ℕ) → List Float
  slopes_in w cols = tail p.n cols (λ i. difference p.scheme F x w i ∷ [])

  row-passes : (rows cols b : ℕ) → cols ≤ p.n → (g : List Float) (k : ℕ → List Float → Script)
      → let w = p.m - rows in
      Passes (a p F S x r) r (costs cols (price_at p.scheme w)) (tail p.n cols (questions_at p.scheme x w)) Met b (λ c. k c (g ++ slopes_in w cols)) (play (a p F S x r) (row_at p r rows (q p F S x r) cols b g k))
  unfolding costs tail slopes_in row_at slope_script q
  row-passes rows zero b l g k =
      subst (λ (h : List Float). Passes (a p F S x r) r 0 [] Met b (λ c. k c h) (play (a p F S x r) (k b g))) (sym (append-nil g)) (at_once (a p F S x r) r Met b (λ c. k c g))
  row-passes rows (suc cols) b l g k =
      let w = p.m - rows in let i = p.n - suc cols in let d = difference p.scheme F x w i in
      subst (λ (h : List Float). Passes (a p F S x r) r (costs (suc cols) (price_at p.scheme w)) (tail p.n (suc cols) (questions_at p.scheme x w)) Met b (λ c. k c h) (play (a p F S x r) (row_at p r rows (q p F S x r) (suc cols) b g k)))
      (append_assoc g (d ∷ []) (slopes_in w cols))
      (after (a p F S x r) r Met (price_at p.scheme w) (costs cols (price_at p.scheme w)) b (questions_at p.scheme x w i) (tail p.n cols (questions_at p.scheme x w)) _ _ _
      (slope-passes rows cols b l (λ c v. row_at p r rows (q p F S x r) cols c (g ++ (v ∷ [])) k))
      (λ c. row-passes rows cols c (omega (arith, l)) (g ++ (d ∷ [])) k))

  -- all rows
  row_done_lem : (w : ℕ) (g : List Float) → (are_finite g ≡ false → Met) → (price : ℕ) (qs : List Question) (b : ℕ) (k : ℕ → Script) (s : Script)
      → Passes (a p F S x r) r price qs Met b k (play (a p F S x r) s) → Passes (a p F S x r) r price qs Met b k (play (a p F S x r) (row_done Written.ends w g r s))
  row_done_lem zero g bad price qs b k s h = tested (a p F S x r) r Met (are_finite g) bad price qs b k s h
  row_done_lem (suc w) g bad price qs b k s h = h

  rows-passes : (rows b : ℕ) (g : List Float) → (are_finite (g ++ rows_of p.m rows (λ w. slopes_in w p.n)) ≡ false → Met) → (k : ℕ → List Float → Script)
      → Passes (a p F S x r) r (rows_cost p.scheme p.n p.m rows) (rows_of p.m rows (λ w. tail p.n p.n (questions_at p.scheme x w))) Met b
      (λ c. k c (g ++ rows_of p.m rows (λ w. slopes_in w p.n))) (play (a p F S x r) (rows_at p r rows (q p F S x r) b g k))
  unfolding rows_cost rows_of rows_at
  rows-passes zero b g bad k =
      let w = p.m - zero in let h = g ++ slopes_in w p.n in
      let last : are_finite h ≡ false → Met = λ e. bad (subst (λ (t : List Float). are_finite (g ++ t) ≡ false) (sym (append-nil (slopes_in w p.n))) e) in
      subst (λ (t : List Float). Passes (a p F S x r) r (rows_cost p.scheme p.n p.m zero) (rows_of p.m zero (λ w. tail p.n p.n (questions_at p.scheme x w))) Met b (λ c. k c (g ++ t)) (play (a p F S x r) (rows_at p r zero (q p F S x r) b g k)))
      (sym (append-nil (slopes_in w p.n)))
      (after (a p F S x r) r Met _ 0 b _ [] _ _ _
      (row-passes zero p.n b (omega arith) g (λ c h. sound Written.ends h r (k c h)))
      (λ c. tested (a p F S x r) r Met (are_finite h) last 0 [] c (λ c. k c h) (k c h) (at_once (a p F S x r) r Met c (λ c. k c h))))
  rows-passes (suc rows) b g bad k =
      let w = p.m - suc rows in let h = g ++ slopes_in w p.n in
      let rest = rows_of p.m rows (λ w. slopes_in w p.n) in
      let later : are_finite (h ++ rest) ≡ false → Met = λ e. bad (subst (λ (t : List Float). are_finite t ≡ false) (append_assoc g (slopes_in w p.n) rest) e) in
      subst (λ (t : List Float). Passes (a p F S x r) r (rows_cost p.scheme p.n p.m (suc rows)) (rows_of p.m (suc rows) (λ w. tail p.n p.n (questions_at p.scheme x w))) Met b (λ c. k c t) (play (a p F S x r) (rows_at p r (suc rows) (q p F S x r) b g k)))
      (append_assoc g (slopes_in w p.n) rest)
      (after (a p F S x r) r Met _ _ b _ _ _ _ _
      (row-passes (suc rows) p.n b (omega arith) g (λ c h. row_done Written.ends w h r (rows_at p r rows (q p F S x r) c h k)))
      (λ c. row_done_lem w h (λ e. later (bad-front h rest e)) _ _ c _ _ (rows-passes rows c h later k)))

  whole-slopes : rows_of p.m p.m (λ w. slopes_in w p.n) ≡ differences p.scheme p.n p.m F x
  unfolding slopes_in differences grid
  whole-slopes =
      rows_whole p.m p.n (λ w i. difference p.scheme F x w i ∷ [])
      ∙ sym (rows-each (suc p.m) (λ w. tab p.n (λ i. difference p.scheme F x w i)) ∙ each_same (suc p.m) _ _ (λ w h. tab-each p.n (λ i. difference p.scheme F x w i)))

  whole-questions : rows_of p.m p.m (λ w. tail p.n p.n (questions_at p.scheme x w)) ≡ questions_for p.scheme p.n p.m x
  unfolding questions_for
  whole-questions = rows_whole p.m p.n (λ w i. questions_at p.scheme x w i)

  -- a slope that is not finite is one of the numbers
  bad-slopes : are_finite ([] ++ rows_of p.m p.m (λ w. slopes_in w p.n)) ≡ false → Met
  unfolding slopes_in numbers_for
  bad-slopes e =
      bad-among (suc p.m) (λ w. each p.n (λ i. difference p.scheme F x w i ∷ [])) (λ w. each p.n (λ i. numbers_at p.scheme F x w i))
      (λ w l. bad-among p.n (λ i. difference p.scheme F x w i ∷ []) (λ i. numbers_at p.scheme F x w i) (λ i h. bad-slope p.scheme w i))
      (subst (λ (t : List Float). are_finite t ≡ false) (rows_whole p.m p.n (λ w i. difference p.scheme F x w i ∷ [])) e)

  all_pass : (b : ℕ) (k : ℕ → List Float → Script)
      → Passes (a p F S x r) r (cost p.scheme p.n) (questions_for p.scheme p.n p.m x) Met b (λ c. k c (differences p.scheme p.n p.m F x))
      (play (a p F S x r) (rows_at p r p.m (q p F S x r) b [] k))
  all_pass b k =
      subst (λ (c : ℕ). Passes (a p F S x r) r c (questions_for p.scheme p.n p.m x) Met b (λ c. k c (differences p.scheme p.n p.m F x)) (play (a p F S x r) (rows_at p r p.m (q p F S x r) b [] k)))
      (whole-cost p.scheme p.n p.m)
      (subst (λ (qs : List Question). Passes (a p F S x r) r (rows_cost p.scheme p.n p.m p.m) qs Met b (λ c. k c (differences p.scheme p.n p.m F x)) (play (a p F S x r) (rows_at p r p.m (q p F S x r) b [] k)))
      whole-questions
      (subst (λ (g : List Float). Passes (a p F S x r) r (rows_cost p.scheme p.n p.m p.m) (rows_of p.m p.m (λ w. tail p.n p.n (questions_at p.scheme x w))) Met b (λ c. k c g) (play (a p F S x r) (rows_at p r p.m (q p F S x r) b [] k)))
      whole-slopes
      (rows-passes p.m b [] bad-slopes k)))

by-scheme : (s : Scheme) (p : Setup) → IsDifference s → (b : ℕ) (r : Report) (t : Point) (k : ℕ → List Float → Script) → slopes_by s p b r t k ≡ rows_at p r p.m t b [] k
by-scheme told p h b r t k = absurd h
by-scheme forward p h b r t k = refl
by-scheme central p h b r t k = refl

pub by-differences : ByDifferences
unfolding a q
by-differences p h F S x r b k =
    subst (λ (s : Script). Passes (answers_of p.m F S) r (cost p.scheme p.n) (questions_for p.scheme p.n p.m x) (Bad p F S x r) b (λ c. k c (differences p.scheme p.n p.m F x)) (play (answers_of p.m F S) s))
    (sym (by-scheme p.scheme p h b r (q p F S x r) k)) (all_pass p F S x r b k)
