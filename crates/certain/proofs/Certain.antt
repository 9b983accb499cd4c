-- The claims of `specs/Claims.antt`. Every fraction is taken to its number, where Core.antt's mathematics is, and the order is taken back. Assumes nothing.
use Prim.Native.Nat.{ℕ, ◌<◌}
use mathlib.Core.Path.{◌≡◌, sym, ap, ◌∙◌, subst}
use mathlib.Core.Logic.{◌⊎◌, inl, inr}
use native.Mathlib.Omega.{arith}
use Rattle.exact.specs.Exact.{ℚ, ◌≤ℚ◌, ◌<ℚ◌, whole, ◌+ℚ◌, negℚ, ◌-ℚ◌, ◌*ℚ◌, inverse, ◌/ℚ◌, maxℚ, minℚ, absℚ, squared, Σℚ, value}
use Rattle.exact.proofs.Laws as laws
use Rattle.exact.proofs.Numbers.{Number, of, ◌⊞◌, ◌⊠◌, ⊟, 𝟘, ◌≼◌, of-add, of-mul, of-neg, of_zero, of-twice, of_four, of-squared, of_le, le_of, mul-inverse, add_comm, mul_comm, mul-one, le_trans, le-add}
use Rattle.exact.proofs.Ring.{twice, mul_left, neg-mul, neg-mul-neg, mul-le, le-both, le_add_left, neg-le, less-down, square-nonneg, le-plus, Σ, of-Σ, Σ-same, Σ-nonneg, Σ-one}
use Rattle.certain.specs.Day.{Day, Reported, Sound, KeepsAsWell, Feasible, balanced, limited, apart, misfit, pull, unexplained, gap, reach, read, report}
use Rattle.certain.specs.Claims.{NoneFarther, NoMeterFarther, BestWithin, FartherFitsWorse, NoneFitsBetter, NoReachIsBest, BestOfDayNear, BestOfDayWithin, NoneFartherOfFloats, NoMeterFartherOfFloats}
use Rattle.certain.proofs.Core.{split, product, meter, meters, open-balance, witnesses, together, fitting}

-- ---- the definitions' numbers

of-less : (a b : ℚ) → of (a -ℚ b) ≡ of a ⊞ ⊟ (of b)
of-less a b = of-add a (negℚ b) ∙ ap (λ c. of a ⊞ c) (of-neg b)

of_row : (n : ℕ) (c x : ℕ → ℚ) → of (Σℚ n (λ i. c i *ℚ x i)) ≡ Σ n (λ i. of (c i) ⊠ of (x i))
of_row n c x = of-Σ n (λ i. c i *ℚ x i) ∙ Σ-same n (λ i. of (c i *ℚ x i)) (λ i. of (c i) ⊠ of (x i)) (λ i l. of-mul (c i) (x i))

-- a difference in spreads
abbrev steps : (a b s : ℚ) → Number
steps a b s = (of a ⊞ ⊟ (of b)) ⊠ of (inverse s)

of_steps : (a b s : ℚ) → of (squared ((a -ℚ b) /ℚ s)) ≡ steps a b s ⊠ steps a b s
of_steps a b s = of-squared ((a -ℚ b) /ℚ s) ∙ ap (λ c. c ⊠ c) (of-mul (a -ℚ b) (inverse s) ∙ ap (λ c. c ⊠ of (inverse s)) (of-less a b))

of-apart : (d : Day) (x x' : ℕ → ℚ) → of (apart d x x') ≡ Σ d.n (λ i. steps (x i) (x' i) (d.spread i) ⊠ steps (x i) (x' i) (d.spread i))
unfolding apart
of-apart d x x' =
    of-Σ d.n (λ i. squared ((x i -ℚ x' i) /ℚ d.spread i))
    ∙ Σ-same d.n (λ i. of (squared ((x i -ℚ x' i) /ℚ d.spread i))) (λ i. steps (x i) (x' i) (d.spread i) ⊠ steps (x i) (x' i) (d.spread i)) (λ i l. of_steps (x i) (x' i) (d.spread i))

module _ (d : Day) (r : Reported) where
  -- g
  pulled : ℕ → Number
  pulled i = Σ d.m (λ j. of (d.balance j i) ⊠ of (r.y j)) ⊞ Σ d.p (λ k. of (d.limit k i) ⊠ of (r.z k))

  of-pull : (i : ℕ) → of (pull d r i) ≡ pulled i
  unfolding pull pulled
  of-pull i =
      of-add (Σℚ d.m (λ j. d.balance j i *ℚ r.y j)) (Σℚ d.p (λ k. d.limit k i *ℚ r.z k))
      ∙ ap (λ c. c ⊞ of (Σℚ d.p (λ k. d.limit k i *ℚ r.z k))) (of_row d.m (λ j. d.balance j i) r.y)
      ∙ ap (λ c. Σ d.m (λ j. of (d.balance j i) ⊠ of (r.y j)) ⊞ c) (of_row d.p (λ k. d.limit k i) r.z)

  -- t / s
  left : ℕ → Number
  left i = (of (r.x i) ⊞ ⊟ (of (d.volume i)) ⊞ ⊟ (of (d.spread i) ⊠ of (d.spread i) ⊠ pulled i)) ⊠ of (inverse (d.spread i))

  of_left : (i : ℕ) → of (squared (unexplained d r i /ℚ d.spread i)) ≡ left i ⊠ left i
  unfolding unexplained left
  of_left i =
      of-squared (unexplained d r i /ℚ d.spread i)
      ∙ ap (λ c. c ⊠ c)
      (of-mul (unexplained d r i) (inverse (d.spread i))
      ∙ ap (λ c. c ⊠ of (inverse (d.spread i)))
      (of-less (r.x i -ℚ d.volume i) (squared (d.spread i) *ℚ pull d r i)
      ∙ ap (λ c. c ⊞ ⊟ (of (squared (d.spread i) *ℚ pull d r i))) (of-less (r.x i) (d.volume i))
      ∙ ap (λ c. of (r.x i) ⊞ ⊟ (of (d.volume i)) ⊞ ⊟ c)
      (of-mul (squared (d.spread i)) (pull d r i) ∙ ap (λ c. c ⊠ of (pull d r i)) (of-squared (d.spread i)) ∙ ap (λ c. of (d.spread i) ⊠ of (d.spread i) ⊠ c) (of-pull i))))

  over-floor : ℕ → ℚ
  over-floor k = maxℚ (limited d k r.x -ℚ d.floor k) (whole 0)

  of-gap : of (gap d r) ≡ twice (Σ d.m (λ j. of (absℚ (r.y j)) ⊠ of (absℚ (balanced d j r.x)))) ⊞ Σ d.p (λ k. of (r.z k) ⊠ of (over-floor k))
  unfolding gap over-floor
  of-gap =
      let f : ℕ → ℚ = λ j. absℚ (r.y j) *ℚ absℚ (balanced d j r.x) in
      let g : ℕ → ℚ = λ k. r.z k *ℚ over-floor k in
      of-add (whole 2 *ℚ Σℚ d.m f) (Σℚ d.p g)
      ∙ ap (λ c. c ⊞ of (Σℚ d.p g)) (of-twice (Σℚ d.m f) ∙ ap twice (of_row d.m (λ j. absℚ (r.y j)) (λ j. absℚ (balanced d j r.x))))
      ∙ ap (λ c. twice (Σ d.m (λ j. of (absℚ (r.y j)) ⊠ of (absℚ (balanced d j r.x)))) ⊞ c) (of_row d.p r.z over-floor)

  of-reach : of (reach d r) ≡ twice (twice (Σ d.n (λ i. left i ⊠ left i) ⊞ of (gap d r)))
  unfolding reach
  of-reach =
      let f : ℕ → ℚ = λ i. squared (unexplained d r i /ℚ d.spread i) in
      of_four (Σℚ d.n f +ℚ gap d r)
      ∙ ap (λ c. twice (twice c)) (of-add (Σℚ d.n f) (gap d r) ∙ ap (λ c. c ⊞ of (gap d r)) (of-Σ d.n f ∙ Σ-same d.n (λ i. of (f i)) (λ i. left i ⊠ left i) (λ i l. of_left i)))

  -- ---- other volumes
  module _ (x' : ℕ → ℚ) (sound : Sound d r) where
    -- one meter
    of-meter : (i : ℕ) → i < d.n
        → steps (r.x i) (x' i) (d.spread i) ⊠ steps (r.x i) (x' i) (d.spread i) ⊞ twice (steps (r.x i) (d.volume i) (d.spread i) ⊠ steps (r.x i) (d.volume i) (d.spread i))
        ≼ twice (steps (x' i) (d.volume i) (d.spread i) ⊠ steps (x' i) (d.volume i) (d.spread i)) ⊞ (twice (twice (left i ⊠ left i)) ⊞ twice (twice (pulled i ⊠ (of (r.x i) ⊞ ⊟ (of (x' i))))))
    unfolding left
    of-meter i l =
        meter (steps (r.x i) (d.volume i) (d.spread i)) (steps (x' i) (d.volume i) (d.spread i)) (steps (r.x i) (x' i) (d.spread i)) (left i) (pulled i ⊠ (of (r.x i) ⊞ ⊟ (of (x' i))))
        (split (of (r.x i)) (of (x' i)) (of (d.volume i)) (of (inverse (d.spread i))))
        (product (of (r.x i) ⊞ ⊟ (of (d.volume i))) (of (d.spread i)) (of (inverse (d.spread i))) (pulled i) (of (r.x i) ⊞ ⊟ (of (x' i))) (mul-inverse (d.spread i) (sound.spreads i l)))

    module _ (kept : KeepsAsWell d r.x x') where
      -- one balance
      of-balance : (j : ℕ) → j < d.m
          → of (r.y j) ⊠ (Σ d.n (λ i. of (d.balance j i) ⊠ of (r.x i)) ⊞ ⊟ (Σ d.n (λ i. of (d.balance j i) ⊠ of (x' i))))
          ≼ twice (of (absℚ (r.y j)) ⊠ of (absℚ (balanced d j r.x)))
      unfolding balanced
      of-balance j l =
          let y = r.y j in
          let c = balanced d j r.x in
          let c' = balanced d j x' in
          let size : (a b : ℚ) → absℚ a ≤ℚ b → (of a ≼ of b) × (⊟ (of a) ≼ of b) = λ a b h. (
            of_le a b (laws.le_trans a (absℚ a) b (laws.abs-up a) h),
            subst (λ e. e ≼ of b) (of-neg a) (of_le (negℚ a) b (laws.le_trans (negℚ a) (absℚ a) b (laws.abs-down a) h)),
          ) in
          let ys = size y (absℚ y) (laws.le_refl (absℚ y)) in
          let cs = size c (absℚ c) (laws.le_refl (absℚ c)) in
          let cs' = size c' (absℚ c) (kept.closes j l) in
          subst (λ e. of y ⊠ (e ⊞ ⊟ (Σ d.n (λ i. of (d.balance j i) ⊠ of (x' i)))) ≼ twice (of (absℚ y) ⊠ of (absℚ c))) (of_row d.n (d.balance j) r.x)
          (subst (λ e. of y ⊠ (of c ⊞ ⊟ e) ≼ twice (of (absℚ y) ⊠ of (absℚ c))) (of_row d.n (d.balance j) x')
          (open-balance (of y) (of c) (of c') (of (absℚ y)) (of (absℚ c)) ys.0 ys.1 cs.0 cs.1 cs'.0 cs'.1))

      -- one limit
      of-limit : (k : ℕ) → k < d.p
          → of (r.z k) ⊠ (Σ d.n (λ i. of (d.limit k i) ⊠ of (r.x i)) ⊞ ⊟ (Σ d.n (λ i. of (d.limit k i) ⊠ of (x' i))))
          ≼ of (r.z k) ⊠ of (over-floor k)
      unfolding limited over-floor
      of-limit k l =
          let a = limited d k r.x in
          let a' = limited d k x' in
          let b = d.floor k in
          let go : (b ≤ℚ a') ⊎ (a ≤ℚ a') → of a ⊞ ⊟ (of a') ≼ of (over-floor k) = elim [
            | inl h ↦ le_trans (of a ⊞ ⊟ (of a')) (of a ⊞ ⊟ (of b)) (of (over-floor k)) (le_add_left (of a) (⊟ (of a')) (⊟ (of b)) (neg-le (of b) (of a') (of_le b a' h)))
                (subst (λ e. e ≼ of (over-floor k)) (of-less a b) (of_le (a -ℚ b) (over-floor k) (laws.le_max_left (a -ℚ b) (whole 0))))
            | inr h ↦ le_trans (of a ⊞ ⊟ (of a')) 𝟘 (of (over-floor k)) (less-down (of a) (of a') (of_le a a' h))
                (subst (λ e. e ≼ of (over-floor k)) of_zero (of_le (whole 0) (over-floor k) (laws.le_max_right (a -ℚ b) (whole 0))))
          ] in
          subst (λ e. of (r.z k) ⊠ (e ⊞ ⊟ (Σ d.n (λ i. of (d.limit k i) ⊠ of (x' i)))) ≼ of (r.z k) ⊠ of (over-floor k)) (of_row d.n (d.limit k) r.x)
          (subst (λ e. of (r.z k) ⊠ (of a ⊞ ⊟ e) ≼ of (r.z k) ⊠ of (over-floor k)) (of_row d.n (d.limit k) x')
          (mul-le (of (r.z k)) (of a ⊞ ⊟ (of a')) (of (over-floor k)) (subst (λ e. e ≼ of (r.z k)) of_zero (of_le (whole 0) (r.z k) (sound.witnesses k l))) (go (laws.min-either b a a' (kept.keeps k l)))))

      -- all
      of-all : of (apart d r.x x') ⊞ twice (of (misfit d r.x)) ≼ twice (of (misfit d x')) ⊞ of (reach d r)
      unfolding pulled
      of-all =
          rw (of-apart d r.x x', of-apart d r.x d.volume, of-apart d x' d.volume, of-reach)
          (together
          (Σ d.n (λ i. steps (r.x i) (x' i) (d.spread i) ⊠ steps (r.x i) (x' i) (d.spread i)))
          (Σ d.n (λ i. steps (r.x i) (d.volume i) (d.spread i) ⊠ steps (r.x i) (d.volume i) (d.spread i)))
          (Σ d.n (λ i. steps (x' i) (d.volume i) (d.spread i) ⊠ steps (x' i) (d.volume i) (d.spread i)))
          (Σ d.n (λ i. left i ⊠ left i))
          (Σ d.n (λ i. pulled i ⊠ (of (r.x i) ⊞ ⊟ (of (x' i)))))
          (of (gap d r))
          (meters d.n
          (λ i. steps (r.x i) (d.volume i) (d.spread i) ⊠ steps (r.x i) (d.volume i) (d.spread i))
          (λ i. steps (x' i) (d.volume i) (d.spread i) ⊠ steps (x' i) (d.volume i) (d.spread i))
          (λ i. steps (r.x i) (x' i) (d.spread i) ⊠ steps (r.x i) (x' i) (d.spread i))
          (λ i. left i ⊠ left i)
          (λ i. pulled i ⊠ (of (r.x i) ⊞ ⊟ (of (x' i))))
          of-meter)
          (subst (λ e. Σ d.n (λ i. pulled i ⊠ (of (r.x i) ⊞ ⊟ (of (x' i)))) ≼ e) (sym of-gap)
          (witnesses d.n d.m d.p (λ j i. of (d.balance j i)) (λ k i. of (d.limit k i)) (λ j. of (r.y j)) (λ k. of (r.z k)) (λ i. of (r.x i)) (λ i. of (x' i))
          (λ j. of (absℚ (r.y j))) (λ j. of (absℚ (balanced d j r.x))) (λ k. of (over-floor k)) of-balance of-limit)))

-- ---- the claims

pub farther-fits-worse : FartherFitsWorse
farther-fits-worse d r sound x' kept =
    le_of (apart d r.x x' +ℚ whole 2 *ℚ misfit d r.x) (whole 2 *ℚ misfit d x' +ℚ reach d r)
    (rw (of-add (apart d r.x x') (whole 2 *ℚ misfit d r.x), of-add (whole 2 *ℚ misfit d x') (reach d r), of-twice (misfit d r.x), of-twice (misfit d x')) (of-all d r x' sound kept))

pub none_farther : NoneFarther
none_farther d r sound x' good =
    le_of (apart d r.x x') (reach d r)
    (fitting (of (apart d r.x x')) (of (misfit d r.x)) (of (misfit d x')) (of (reach d r)) (of-all d r x' sound good.keeps_as_well) (of_le (misfit d x') (misfit d r.x) good.fits))

-- x keeps as well as x, so the best fits at least as well as x
pub best-within : BestWithin
best-within d r sound x' best =
    none_farther d r sound x' record {
      keeps_as_well = best.keeps_as_well;
      fits = best.fits_best r.x record {
        closes = λ j l. laws.le_refl (absℚ (balanced d j r.x));
        keeps = λ k l. laws.min_le_right (d.floor k) (limited d k r.x);
      };
    }

-- one meter: a number whose square, in spreads, is at most B's is at most B spreads in size
one_side : (a s B : ℚ) → whole 0 <ℚ s → whole 0 ≤ℚ B → of (squared (a /ℚ s)) ≼ of (squared B) → a ≤ℚ B *ℚ s
unfolding squared
one_side a s B ps p_b h =
    le_of a (B *ℚ s)
    (subst (λ e. of a ≼ e) (mul_comm (of s) (of B) ∙ sym (of-mul B s))
    (subst (λ e. e ≼ of s ⊠ of B) back
    (mul-le (of s) (of (a /ℚ s)) (of B) (subst (λ e. e ≼ of s) of_zero (of_le (whole 0) s (laws.lt-le (whole 0) s ps)))
    (of_le (a /ℚ s) B (laws.square_le (a /ℚ s) B p_b (le_of (squared (a /ℚ s)) (squared B) h))))))
  where
    back : of s ⊠ of (a /ℚ s) ≡ of a
    back =
        ap (λ e. of s ⊠ e) (of-mul a (inverse s)) ∙ mul_left (of s) (of a) (of (inverse s)) ∙ ap (λ e. of a ⊠ e) (mul_comm (of s) (of (inverse s)) ∙ mul-inverse s ps)
        ∙ mul-one (of a)

both-sides : (a s B : ℚ) → whole 0 <ℚ s → whole 0 ≤ℚ B → of (squared (a /ℚ s)) ≼ of (squared B) → absℚ a ≤ℚ B *ℚ s
both-sides a s B ps p_b h = laws.abs-le a (B *ℚ s) (one_side a s B ps p_b h) (one_side (negℚ a) s B ps p_b (subst (λ e. e ≼ of (squared B)) turned h))
  where
    turned : of (squared (a /ℚ s)) ≡ of (squared (negℚ a /ℚ s))
    turned =
        of-squared (a /ℚ s) ∙ ap (λ e. e ⊠ e) (of-mul a (inverse s)) ∙ sym (neg-mul-neg (of a ⊠ of (inverse s)) (of a ⊠ of (inverse s)))
        ∙ ap (λ e. e ⊠ e) (sym (neg-mul (of a) (of (inverse s))) ∙ ap (λ e. e ⊠ of (inverse s)) (sym (of-neg a)) ∙ sym (of-mul (negℚ a) (inverse s))) ∙ sym (of-squared (negℚ a /ℚ s))

pub no_meter_farther : NoMeterFarther
unfolding apart
no_meter_farther d r sound B p_b enough x' good i l =
    both-sides (r.x i -ℚ x' i) (d.spread i) B (sound.spreads i l) p_b
    (le_trans (of (f i)) (Σ d.n (λ i. of (f i))) (of (squared B))
    (Σ-one d.n (λ i. of (f i)) (λ i. subst (λ e. 𝟘 ≼ e) (sym (of-squared ((r.x i -ℚ x' i) /ℚ d.spread i))) (square-nonneg (of ((r.x i -ℚ x' i) /ℚ d.spread i)))) i l)
    (subst (λ e. e ≼ of (squared B)) (of-Σ d.n f) (of_le (apart d r.x x') (squared B) (laws.le_trans (apart d r.x x') (reach d r) (squared B) (none_farther d r sound x' good) enough))))
  where
    f : ℕ → ℚ
    f i = squared ((r.x i -ℚ x' i) /ℚ d.spread i)

-- the day's best
feasible-keeps : (d : Day) (x x' : ℕ → ℚ) → Feasible d x' → KeepsAsWell d x x'
feasible-keeps d x x' h = record {
  closes = λ j l. laws.abs-zero (balanced d j x') (absℚ (balanced d j x)) (h.closed j l) (laws.abs-nonneg (balanced d j x));
  keeps = λ k l. laws.le_trans (minℚ (d.floor k) (limited d k x)) (d.floor k) (limited d k x') (laws.min_le_left (d.floor k) (limited d k x)) (h.within k l);
}

pub best_of_day_near : BestOfDayNear
best_of_day_near d r sound x' best k kept =
    laws.le_trans (apart d r.x x' +ℚ whole 2 *ℚ misfit d r.x) (whole 2 *ℚ misfit d x' +ℚ reach d r) (whole 2 *ℚ misfit d k +ℚ reach d r)
    (farther-fits-worse d r sound x' (feasible-keeps d r.x x' best.feasible))
    (le_of (whole 2 *ℚ misfit d x' +ℚ reach d r) (whole 2 *ℚ misfit d k +ℚ reach d r)
    (rw (of-add (whole 2 *ℚ misfit d x') (reach d r), of-add (whole 2 *ℚ misfit d k) (reach d r), of-twice (misfit d x'), of-twice (misfit d k))
    (le-add (twice (of (misfit d x'))) (twice (of (misfit d k))) (of (reach d r)) (le-both (of (misfit d x')) (of (misfit d k)) (of (misfit d x')) (of (misfit d k)) fits fits))))
  where
    fits : of (misfit d x') ≼ of (misfit d k)
    fits = of_le (misfit d x') (misfit d k) (best.fits_best k kept)

pub best-of-day-within : BestOfDayWithin
best-of-day-within d r sound kept x' best = none_farther d r sound x' record { keeps_as_well = feasible-keeps d r.x x' best.feasible; fits = best.fits_best r.x kept }

apart-up : (d : Day) (x x' : ℕ → ℚ) → 𝟘 ≼ of (apart d x x')
apart-up d x x' = rw (of-apart d x x') (Σ-nonneg d.n (λ i. steps (x i) (x' i) (d.spread i) ⊠ steps (x i) (x' i) (d.spread i)) (λ i. square-nonneg (steps (x i) (x' i) (d.spread i))))

pub none-fits-better : NoneFitsBetter
none-fits-better d r sound x' kept =
    le_of (whole 2 *ℚ misfit d r.x) (whole 2 *ℚ misfit d x' +ℚ reach d r)
    (rw (of-add (whole 2 *ℚ misfit d x') (reach d r), of-twice (misfit d r.x), of-twice (misfit d x'))
    (le_trans (twice (of (misfit d r.x))) (of (apart d r.x x') ⊞ twice (of (misfit d r.x))) (twice (of (misfit d x')) ⊞ of (reach d r))
    (rw (add_comm (of (apart d r.x x')) (twice (of (misfit d r.x)))) (le-plus (twice (of (misfit d r.x))) (of (apart d r.x x')) (apart-up d r.x x')))
    (of-all d r x' sound kept)))

halved : (a b : ℚ) → whole 2 *ℚ a ≤ℚ whole 2 *ℚ b → a ≤ℚ b
unfolding ◌≤ℚ◌ ◌*ℚ◌
halved a b h = omega arith

no_more : (a b c : ℚ) → a ≤ℚ b +ℚ c → c ≤ℚ whole 0 → a ≤ℚ b
no_more a b c h k =
    laws.le_trans a (b +ℚ c) b h (laws.le_right (b +ℚ c) (b +ℚ whole 0) b (laws.add-zero b)
    (le_of (b +ℚ c) (b +ℚ whole 0) (rw (of-add b c, of-add b (whole 0)) (le_add_left (of b) (of c) (of (whole 0)) (of_le c (whole 0) k)))))

pub no-reach-is-best : NoReachIsBest
no-reach-is-best d r sound kept none = record {
  feasible = kept;
  fits_best = λ x' k. halved (misfit d r.x) (misfit d x') (no_more (whole 2 *ℚ misfit d r.x) (whole 2 *ℚ misfit d x') (reach d r) (none-fits-better d r sound x' (feasible-keeps d r.x x' k)) none);
}

-- ---- of floats

pub none-farther-of-floats : NoneFartherOfFloats
none-farther-of-floats n m p values spreads balances limits least x y z = none_farther (read n m p values spreads balances limits least) (report x y z)

pub no-meter-farther-of-floats : NoMeterFartherOfFloats
no-meter-farther-of-floats n m p values spreads balances limits least x y z B sound = no_meter_farther (read n m p values spreads balances limits least) (report x y z) sound (value B)
