-- The call, by what its tests found.
use mathlib.Core.Path.{◌≡◌, refl}
use mathlib.Core.Bool.{Bool, true, false, ◌&&◌}
use mathlib.Core.List.{List}
use Prim.Native.Nat.{ℕ, ◌*◌}
use lib.Dec.{eqb}
use lib.Ieee.{Float}
use borrow.Author.Tests.{eqb-true}
use Rattle.workspace.specs.Tables.{done, is_dimension, is_constraints, is_room, is_tolerance, has}
use Rattle.workspace.specs.declared.Refusal.TheVariants.{Size, Length, Room, Kind, Width, Tolerance}
use Rattle.workspace.proofs.Tests.{and-true}
use Rattle.step_rows.specs.Problem.{Problem}
use Rattle.step_call.specs.Promise.{are_kinds, are_widths, are_lengths}
use Rattle.step_call.proofs.Calls.{lengths-bad, lengths-good, lengths-rest}
use Rattle.step_check.specs.Check.{Pasted, verdict}
use Rattle.std.specs.Prelude.{Err}
use Rattle.step_check_call.specs.Promise.{check_call, Outcome, Checks}

pub sides-are : (n a b : ℕ) → (eqb a n && eqb b n) ≡ true → (a ≡ n) × (b ≡ n)
sides-are n a b h = let p = and-true (eqb a n) (eqb b n) h in (eqb-true a n p.0, eqb-true b n p.1)

module _ (p : Problem) (s : Pasted) (tol : Float) (w : List Float) (iw : List ℕ) where
  abbrev sizes : Bool
  sizes = is_dimension p.n && is_constraints p.m

  -- the twelve lengths in three tests
  abbrev first : Bool
  first = has p.factor (p.n * p.n) && has p.gradient p.n && has p.kinds p.m && has p.values p.m && has p.jacobian (p.m * p.n)

  abbrev second : Bool
  second = has p.widths p.m && has p.lower p.n && has p.upper p.n && has s.d p.n && has s.multipliers p.m

  abbrev third : Bool
  third = has s.lowers p.n && has s.uppers p.n

  both : first ≡ true → second ≡ true → are_lengths p s.d s.multipliers ≡ true
  both a b = lengths-good first (has p.widths p.m) (has p.lower p.n) (has p.upper p.n) (has s.d p.n) (has s.multipliers p.m) a b

  pub size-refused : sizes ≡ false → Checks (check_call p s tol w iw) (Err Size) w w iw iw
  size-refused e = rw e (record { the_outcome = refl; the_floats = refl; the_words = refl })

  lengths-refused : sizes ≡ true → (are_lengths p s.d s.multipliers && third) ≡ false → Checks (check_call p s tol w iw) (Err Length) w w iw iw
  lengths-refused e f = rw (e, f) (record { the_outcome = refl; the_floats = refl; the_words = refl })

  pub first-refused : sizes ≡ true → first ≡ false → Checks (check_call p s tol w iw) (Err Length) w w iw iw
  first-refused e a =
      lengths-refused e
      (rw (lengths-bad first (has p.widths p.m) (has p.lower p.n) (has p.upper p.n) (has s.d p.n) (has s.multipliers p.m) a))

  pub second-refused : sizes ≡ true → first ≡ true → second ≡ false → Checks (check_call p s tol w iw) (Err Length) w w iw iw
  second-refused e a b =
      lengths-refused e
      (rw (lengths-rest first (has p.widths p.m) (has p.lower p.n) (has p.upper p.n) (has s.d p.n) (has s.multipliers p.m) a b))

  pub third-refused : sizes ≡ true → first ≡ true → second ≡ true → third ≡ false → Checks (check_call p s tol w iw) (Err Length) w w iw iw
  third-refused e a b c = lengths-refused e (rw (both a b) c)

  module _ (e : sizes ≡ true) (a : first ≡ true) (b : second ≡ true) (c : third ≡ true) where
    pub room-refused : is_room w iw ≡ false → Checks (check_call p s tol w iw) (Err Room) w w iw iw
    room-refused f = rw (e, both a b, c, f) (record { the_outcome = refl; the_floats = refl; the_words = refl })

    module _ (f : is_room w iw ≡ true) where
      pub kind-refused : are_kinds p.kinds ≡ false → Checks (check_call p s tol w iw) (Err Kind) w w iw iw
      kind-refused g = rw (e, both a b, c, f, g) (record { the_outcome = refl; the_floats = refl; the_words = refl })

      pub width-refused : are_kinds p.kinds ≡ true → are_widths p.kinds p.widths p.m ≡ false → Checks (check_call p s tol w iw) (Err Width) w w iw iw
      width-refused g h = rw (e, both a b, c, f, g, h) (record { the_outcome = refl; the_floats = refl; the_words = refl })

      pub tolerance-refused : are_kinds p.kinds ≡ true → are_widths p.kinds p.widths p.m ≡ true → is_tolerance tol ≡ false → Checks (check_call p s tol w iw) (Err Tolerance) w w iw iw
      tolerance-refused g h i = rw (e, both a b, c, f, g, h, i) (record { the_outcome = refl; the_floats = refl; the_words = refl })

      pub all-passed : are_kinds p.kinds ≡ true → are_widths p.kinds p.widths p.m ≡ true → is_tolerance tol ≡ true → (o : Outcome) (w' : List Float) (iw' : List ℕ)
          → Checks (done (verdict p s tol)) o w w' iw iw' → Checks (check_call p s tol w iw) o w w' iw iw'
      all-passed g h i o w' iw' k = rw (e, both a b, c, f, g, h, i) k
