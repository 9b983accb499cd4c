-- What a call of the day's reconciliation answers and leaves. Definitions only.
use Rattle.std.specs.Prelude.{ℕ, zero, suc, ◌*◌, ◌≡◌, Bool, true, false, ◌&&◌, List, leb, Float}
use Rattle.std.specs.Float.{inf}
use Rattle.std.specs.Float.Ieee.{lt}
use Rattle.numbers.specs.Numbers.{+0, at, nth}
use Rattle.workspace.specs.Tables.{Answer, call, test, outcome_of, output, floats, words, is_equalities, is_room, has}
use Rattle.workspace.specs.declared.Refusal.TheVariants.{Reading, Spread}
use Rattle.workspace.specs.Tables.{Outcome}
use Rattle.totaliser.specs.Volume.{largest}
use Rattle.lsei.specs.Lsei.{Solution}
use Rattle.reconcile.specs.Day.{Day, corrected, named}

-- ---- tests

-- 0 to 16 meters, 0 to 16 balances
abbrev pub is_meters : ℕ → Bool
is_meters n = leb n 16

abbrev pub are_sizes : Day → Bool
are_sizes d = is_meters d.n && is_equalities d.m

abbrev pub are_lengths : Day → (volumes : List Float) (marks : List ℕ) → Bool
are_lengths d x marks =
    has d.before d.n && has d.after d.n && has d.spreads d.n && has d.balances (d.m * d.n) && has x d.n && has marks d.n

-- a reading from 0 to 999,999
abbrev pub is_reading : ℕ → Bool
is_reading r = leb r largest

-- a spread that is finite and positive
abbrev pub is_spread : Float → Bool
is_spread s = lt +0 s && lt s (inf false)

-- the tests of one meter: its readings, then its spread
abbrev pub meter : {A : Type 0} → (before after : List ℕ) → List Float → ℕ → Answer A → Answer A
meter before after spreads i a =
    test (is_reading (nth before i) && is_reading (nth after i)) (Reading i) (test (is_spread (at spreads i)) (Spread i) a)

-- those of n meters from meter i on, the lowest first
unfoldable pub meters : {A : Type 0} → (before after : List ℕ) → List Float → (n i : ℕ) → Answer A → Answer A
meters before after spreads zero i a = a
meters before after spreads (suc n) i a = meter before after spreads i (meters before after spreads n (suc i) a)

-- ---- the whole call: LSEI's refusals pass through

abbrev pub day_call : Day → (volumes : List Float) (marks : List ℕ) (w : List Float) (iw : List ℕ) → Answer Solution
day_call d x marks w iw =
    call (are_sizes d) (are_lengths d x marks) (is_room w iw) true (meters d.before d.after d.spreads d.n 0 (corrected d).answer)

-- From its answer c, for n meters: the outcome o, and what the volumes x, the marks and the workspaces hold before and, primed, afterwards. The volumes are LSEI's x as it is, never clipped.
pub record Reconciles (n : ℕ) (c : Answer Solution) (o : Outcome) (x x' : List Float) (marks marks' : List ℕ) (w w' : List Float) (iw iw' : List ℕ) : Type 0 where
  pub the_outcome : o ≡ outcome_of c
  pub the_volumes : x' ≡ output c (λ s. s.x) x
  pub the_marks : marks' ≡ output c (λ s. named n s.x) marks
  pub the_floats : w' ≡ floats c w
  pub the_words : iw' ≡ words c iw
