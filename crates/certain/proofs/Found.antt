-- What a program has to find out: the last two claims of `specs/Claims.antt`. Assumes nothing.
use Prim.Native.Nat.{ℕ, ◌<◌}
use mathlib.Core.Path.{subst}
use Rattle.numbers.specs.Numbers.{at}
use Rattle.exact.specs.Exact.{ℚ, ◌≤ℚ◌, whole, ◌+ℚ◌, negℚ, ◌-ℚ◌, ◌*ℚ◌, ◌/ℚ◌, maxℚ, absℚ, squared, Σℚ}
use Rattle.exact.proofs.Laws as laws
use Rattle.exact.proofs.Monotone.{sum_mono}
use Rattle.exact.proofs.Values.{above_zero, not-below-zero}
use Rattle.exact.proofs.Numbers.{of, ⊟, ◌≼◌, of-mul, of-neg, of_zero, of-twice, of_four, of-squared, of_le, le_of}
use Rattle.exact.proofs.Ring.{twice, le-both, mul-le, mul-sizes, of-Σ, Σ-le}
use Rattle.certain.specs.Day.{balanced, limited, unexplained, gap, reach}
use Rattle.certain.specs.Claims.{SoundIsTested, ReachBounded}

pub sound-is-tested : SoundIsTested
sound-is-tested n m p values spreads balances limits least x y z hs hz = record {
  spreads = λ i l. above_zero (at spreads i) (hs i l).0 (hs i l).1;
  witnesses = λ k l. not-below-zero (at z k) (hz k l).0 (hz k l).1;
}

-- ---- from parts to sums

sums-le : (n : ℕ) (f g : ℕ → ℚ) → ((i : ℕ) → i < n → f i ≤ℚ g i) → Σℚ n f ≤ℚ Σℚ n g
sums-le n f g h = le_of (Σℚ n f) (Σℚ n g) (rw (of-Σ n f, of-Σ n g) (Σ-le n (λ i. of (f i)) (λ i. of (g i)) (λ i l. of_le (f i) (g i) (h i l))))

twice-le : (a b : ℚ) → a ≤ℚ b → whole 2 *ℚ a ≤ℚ whole 2 *ℚ b
twice-le a b h = le_of (whole 2 *ℚ a) (whole 2 *ℚ b) (rw (of-twice a, of-twice b) (le-both (of a) (of b) (of a) (of b) (of_le a b h) (of_le a b h)))

four-le : (a b : ℚ) → a ≤ℚ b → whole 4 *ℚ a ≤ℚ whole 4 *ℚ b
four-le a b h =
    le_of (whole 4 *ℚ a) (whole 4 *ℚ b)
    (rw (of_four a, of_four b) (le-both (twice (of a)) (twice (of b)) (twice (of a)) (twice (of b)) (le-both (of a) (of b) (of a) (of b) k k) (le-both (of a) (of b) (of a) (of b) k k)))
  where
    k : of a ≼ of b
    k = of_le a b h

times-le : (c a b : ℚ) → whole 0 ≤ℚ c → a ≤ℚ b → c *ℚ a ≤ℚ c *ℚ b
times-le c a b p h = le_of (c *ℚ a) (c *ℚ b) (rw (of-mul c a, of-mul c b) (mul-le (of c) (of a) (of b) (subst (λ e. e ≼ of c) of_zero (of_le (whole 0) c p)) (of_le a b h)))

square-of-size : (a b : ℚ) → absℚ a ≤ℚ b → squared a ≤ℚ squared b
square-of-size a b h = le_of (squared a) (squared b) (rw (of-squared a, of-squared b) (mul-sizes (of a) (of a) (of b) (of b) up down up down))
  where
    up : of a ≼ of b
    up = of_le a b (laws.le_trans a (absℚ a) b (laws.abs-up a) h)

    down : ⊟ (of a) ≼ of b
    down = subst (λ e. e ≼ of b) (of-neg a) (of_le (negℚ a) b (laws.le_trans (negℚ a) (absℚ a) b (laws.abs-down a) h))

pub reach-bounded : ReachBounded
unfolding reach gap
reach-bounded d r sound T K M ht hk hm =
    four-le (Σℚ d.n (λ i. squared (unexplained d r i /ℚ d.spread i)) +ℚ gap d r) (Σℚ d.n (λ i. squared (T i)) +ℚ (whole 2 *ℚ Σℚ d.m (λ j. absℚ (r.y j) *ℚ K j) +ℚ Σℚ d.p (λ k. r.z k *ℚ M k)))
    (sum_mono (Σℚ d.n (λ i. squared (unexplained d r i /ℚ d.spread i))) (Σℚ d.n (λ i. squared (T i))) (gap d r) (whole 2 *ℚ Σℚ d.m (λ j. absℚ (r.y j) *ℚ K j) +ℚ Σℚ d.p (λ k. r.z k *ℚ M k))
    (sums-le d.n (λ i. squared (unexplained d r i /ℚ d.spread i)) (λ i. squared (T i)) (λ i l. square-of-size (unexplained d r i /ℚ d.spread i) (T i) (ht i l)))
    (sum_mono (whole 2 *ℚ Σℚ d.m f) (whole 2 *ℚ Σℚ d.m (λ j. absℚ (r.y j) *ℚ K j)) (Σℚ d.p g) (Σℚ d.p (λ k. r.z k *ℚ M k))
    (twice-le (Σℚ d.m f) (Σℚ d.m (λ j. absℚ (r.y j) *ℚ K j)) (sums-le d.m f (λ j. absℚ (r.y j) *ℚ K j) (λ j l. times-le (absℚ (r.y j)) (absℚ (balanced d j r.x)) (K j) (laws.abs-nonneg (r.y j)) (hk j l))))
    (sums-le d.p g (λ k. r.z k *ℚ M k) (λ k l. times-le (r.z k) (maxℚ (limited d k r.x -ℚ d.floor k) (whole 0)) (M k) (sound.witnesses k l) (hm k l)))))
  where
    f : ℕ → ℚ
    f j = absℚ (r.y j) *ℚ absℚ (balanced d j r.x)

    g : ℕ → ℚ
    g k = r.z k *ℚ maxℚ (limited d k r.x -ℚ d.floor k) (whole 0)
