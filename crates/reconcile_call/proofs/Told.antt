-- What a call tells and leaves: the lowest meter that is not sound, and the marks.
use mathlib.Core.Path.{◌≡◌, refl, subst, ◌∙◌}
use mathlib.Core.Bool.{Bool, true, false}
use mathlib.Core.List.{List}
use mathlib.Core.Logic.{◌⊎◌, ◌↔◌}
use Prim.Native.Nat.{ℕ, ◌<◌}
use lib.Ieee.{Float, nan, lt}
use Rattle.numbers.specs.Numbers.{+0, at, nth}
use Rattle.workspace.specs.Tables.{Answer, done, refused, call, is_late, is_room}
use Rattle.workspace.specs.declared.Refusal.{Refusal}
use Rattle.workspace.specs.declared.Refusal.TheVariants.{Reading, Spread}
use Rattle.workspace.specs.Tables.{Outcome}
use Rattle.std.specs.Prelude.{Ok, Err}
use Rattle.lsei.specs.Lsei.{Solution}
use Rattle.reconcile.specs.Day.{Day, corrected}
use Rattle.reconcile.proofs.Names.{named-is, else-not}
use Rattle.reconcile_call.specs.Promise.{are_sizes, are_lengths, meters, day_call, Reconciles}
use Rattle.reconcile_call.specs.Claims.{Lowest, all_sound, wrong_reading, wrong_spread, Untouched, LowestTold, every_sound, reading_told, spread_told, CallLowestFirst, CallNamedIs}
use Rattle.reconcile_call.proofs.Lowest.{lowest-first}

-- ---- the lowest meter

module _ (d : Day) (o : Outcome) (x x' : List Float) (marks marks' : List ℕ) (w w' : List Float) (iw iw' : List ℕ) where
  abbrev Left : Answer Solution → Type 0
  Left c = Reconciles d.n c o x x' marks marks' w w' iw iw'

  -- a refusal before the arithmetic
  early : (r : Refusal) → is_late r ≡ false → Left (refused r) → (o ≡ Err r) × Untouched x x' marks marks' w w' iw iw'
  early r l q = (q.the_outcome, (q.the_volumes, q.the_marks, q.the_floats ∙ rw l refl, q.the_words ∙ rw l refl))

  told : (c : Answer Solution) → Lowest d.before d.after d.spreads d.n (corrected d).answer c → Left c → LowestTold d o x x' marks marks' w w' iw iw'
  told c (all_sound h e) q = every_sound h (subst Left e q)
  told c (wrong_reading i l h f e) q = let t = early (Reading i) refl (subst Left e q) in reading_told i l h f t.0 t.1
  told c (wrong_spread i l h r f e) q = let t = early (Spread i) refl (subst Left e q) in spread_told i l h r f t.0 t.1

  no-test-refuses : (s t r : Bool) (a : Answer Solution) → s ≡ true → t ≡ true → r ≡ true → call s t r true a ≡ a
  no-test-refuses s t r a hs ht hr = rw (hs, ht, hr) refl

  past : are_sizes d ≡ true → are_lengths d x marks ≡ true → is_room w iw ≡ true
      → Left (day_call d x marks w iw) → Left (meters d.before d.after d.spreads d.n 0 (corrected d).answer)
  past s t r q =
      subst Left (no-test-refuses (are_sizes d) (are_lengths d x marks) (is_room w iw) (meters d.before d.after d.spreads d.n 0 (corrected d).answer) s t r) q

pub call-lowest-first : CallLowestFirst
call-lowest-first d o x x' marks marks' w w' iw iw' s t r q =
    told d o x x' marks marks' w w' iw iw' (meters d.before d.after d.spreads d.n 0 (corrected d).answer)
    (lowest-first Solution d.before d.after d.spreads d.n (corrected d).answer) (past d o x x' marks marks' w w' iw iw' s t r q)

-- ---- the marks

module _ (n : ℕ) (x x' : List Float) (marks marks' : List ℕ) (w w' : List Float) (iw iw' : List ℕ) (i : ℕ) (h : i < n) where
  marked : (c : Answer Solution) → Reconciles n c (Ok tt) x x' marks marks' w w' iw iw'
      → ((nth marks' i ≡ 1) ↔ ((lt (at x' i) +0 ≡ true) ⊎ (at x' i ≡ nan))) × ((nth marks' i ≡ 0) ⊎ (nth marks' i ≡ 1))
  marked (refused r) q = let e : ◌≡◌ {A = Outcome} (Ok tt) (Err r) = q.the_outcome in absurd (let y : ⊥ = cc in y)
  marked (done s) q = rw (q.the_volumes, q.the_marks) (named-is n s.x i h, else-not n s.x i h)

pub call-named-is : CallNamedIs
call-named-is d x x' marks marks' w w' iw iw' q i h = marked d.n x x' marks marks' w w' iw iw' i h (day_call d x marks w iw) q
