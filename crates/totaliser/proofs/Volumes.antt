-- The claims on volumes, by the two cases of a reading below the one before it and one that is not.
use Prim.Native.Nat.{ℕ, ◌+◌, ◌-◌, ◌%◌, ◌<◌, ◌≤◌}
use mathlib.Core.Path.{◌≡◌, refl}
use mathlib.Core.Logic.{◌⊎◌, inl, inr, ⊎_elim}
use mathlib.Core.Bool.{Bool, true, false, cond}
use lib.Dec.{ltb}
use native.Mathlib.Omega.{arith}
use borrow.Author.Tests.{lt-ltb, le-ltb, ltb-true, ltb-false}
use Rattle.totaliser.specs.Volume.{volume}
use Rattle.totaliser.specs.Claims.{Bounded, Difference, RolledOver, Closes, Only}

pub difference : Difference
unfolding volume
difference old new h = rw (le-ltb new old h) refl

pub rolled-over : RolledOver
unfolding volume
rolled-over old new h k = rw (lt-ltb new old k) (omega arith)

-- a reading below the one before it, or one that is not
cases : (old new : ℕ) → ((new < old) × (volume old new ≡ new + 1000000 - old)) ⊎ ((old ≤ new) × (volume old new ≡ new - old))
unfolding volume
cases old new = go (ltb new old) refl
  where
    go : (b : Bool) → ltb new old ≡ b → ((new < old) × (cond b (new + 1000000 - old) (new - old) ≡ new + 1000000 - old)) ⊎ ((old ≤ new) × (cond b (new + 1000000 - old) (new - old) ≡ new - old))
    go true e = inl (ltb-true new old e, refl)
    go false e = inr (ltb-false new old e, refl)

pub bounded : Bounded
bounded old new h k = ⊎_elim (λ p. omega (arith, p.0, p.1)) (λ p. omega (arith, p.0, p.1)) (cases old new)

pub closes : Closes
closes old new h k = ⊎_elim (λ p. omega (arith, p.0, p.1)) (λ p. omega (arith, p.0, p.1)) (cases old new)

pub only : Only
only old new v h k l e = ⊎_elim (λ p. omega (arith, p.0, p.1)) (λ p. omega (arith, p.0, p.1)) (cases old new)
