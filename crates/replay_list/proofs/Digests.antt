-- Laws of the digest: a step, and what a loop over a slice needs.
use mathlib.Core.Path.{◌≡◌, refl, sym, ap, ◌∙◌}
use mathlib.Core.Bool.{false, true}
use Prim.Native.Nat.{ℕ, ◌+◌, ◌*◌, ◌/◌, ◌%◌, ◌≤◌, ◌<◌}
use native.Mathlib.Nat.{le_antisymm, mod-lt}
use native.Mathlib.Numerals.{add-one}
use native.Mathlib.Omega.{arith}
use lib.Ieee.{Float, binary64, ne, to_bits}
use Rattle.replay_list.specs.Digest.{lane, mix, over, pattern_of}

pub lane-is : (h x : ℕ) → (h * 1664525 + x) % 4294967291 ≡ lane h x
unfolding lane
lane-is h x = refl

pub lane_below : (h x : ℕ) → (h * 1664525 + x) % 4294967291 < 4294967291
lane_below h x = mod-lt (h * 1664525 + x) (omega arith)

pub mix-is : (d x p q : ℕ) → p ≡ lane (d / 4294967296) (x / 4294967291) → q ≡ lane (d % 4294967296) (x % 4294967291)
    → p * 4294967296 + q ≡ mix d x
unfolding mix
mix-is d x p q e f = rw (e, f)

pub over_none : (d : ℕ) (f : ℕ → ℕ) → d ≡ over 0 d f
unfolding over
over_none d f = refl

-- the code's `n + 1` is `suc n`
pub over-suc : (n d : ℕ) (f : ℕ → ℕ) → over (n + 1) d f ≡ mix (over n d f) (f n)
unfolding over
over-suc n d f = rw add-one

pub over-more : (i d : ℕ) (f : ℕ → ℕ) (acc next : ℕ) → acc ≡ over i d f → next ≡ mix acc (f i) → next ≡ over (i + 1) d f
over-more i d f acc next e g = g ∙ ap (λ (a : ℕ). mix a (f i)) e ∙ sym (over-suc i d f)

pub over_done : (i n d : ℕ) (f : ℕ → ℕ) (acc : ℕ) → i ≤ n → n ≤ i → acc ≡ over i d f → acc ≡ over n d f
over_done i n d f acc h k e = e ∙ ap (λ (m : ℕ). over m d f) (le_antisymm h k)

pub pattern-nan : (x : Float) → ne x x ≡ true → 9221120237041090560 ≡ pattern_of x
unfolding pattern_of
pattern-nan x d = rw d

pub pattern-bits : (x : Float) → ne x x ≡ false → to_bits binary64 x ≡ pattern_of x
unfolding pattern_of
pattern-bits x d = rw d
