-- What a call of the tests of meters answers and leaves. Definitions only.
use Rattle.std.specs.Prelude.{ℕ, zero, suc, ◌*◌, ◌≡◌, Bool, true, ◌&&◌, List, [], ◌++◌, Float}
use Rattle.numbers.specs.Numbers.{at}
use Rattle.workspace.specs.Tables.{Answer, done, refused, call, test, output, floats, words, is_equalities, is_room, has}
use Rattle.workspace.specs.declared.Refusal.{Refusal}
use Rattle.workspace.specs.declared.Refusal.TheVariants.{Reading, Spread}
use Rattle.reconcile_call.specs.Promise.{is_meters, is_spread}
use Rattle.suspect.specs.declared.Finding.{Finding}
use Rattle.suspect.specs.Suspect.{is_finite, Tests, suspect}
use Rattle.std.specs.Prelude.{Result, Ok, Err}

-- ---- tests

abbrev pub are_inputs : (n m : ℕ) (v s c : List Float) (z : List ℕ) → Bool
are_inputs n m v s c z = has v n && has s n && has c (m * n) && has z n

abbrev pub are_outputs : (n : ℕ) → List Float → (groups marks : List ℕ) → Bool
are_outputs n x groups marks = has x (3 * n) && has groups n && has marks n

-- the tests of one meter: its value, then its spread
abbrev pub meter : {A : Type 0} → (v s : List Float) → ℕ → Answer A → Answer A
meter v s i a = test (is_finite (at v i)) (Reading i) (test (is_spread (at s i)) (Spread i) a)

-- those of n meters from meter i on, the lowest first
unfoldable pub meters : {A : Type 0} → (v s : List Float) → (n i : ℕ) → Answer A → Answer A
meters v s zero i a = a
meters v s (suc n) i a = meter v s i (meters v s n (suc i) a)

-- ---- the whole call

abbrev pub suspect_call : (n m : ℕ) (v s c : List Float) (z : List ℕ) (x : List Float) (groups marks : List ℕ) (w : List Float) (iw : List ℕ) → Answer Tests
suspect_call n m v s c z x groups marks w iw =
    call (is_meters n && is_equalities m) (are_inputs n m v s c z && are_outputs n x groups marks) (is_room w iw) true (meters v s n 0 (done (suspect n m v s c z)))

-- what is told
abbrev pub Tested : Type 0
Tested = Result Finding Refusal

abbrev pub tested_of : Answer Tests → Tested
tested_of (done t) = Ok t.finding
tested_of (refused r) = Err r

-- the shares, the new spreads and the tests, one after the other
abbrev pub numbers_of : Tests → List Float
numbers_of t = t.shares ++ (t.new_spreads ++ (t.tests ++ []))

-- From its answer c: what is told, o, and what the numbers x, the groups, the marks and the workspaces hold before and, primed, afterwards.
pub record Suspects (c : Answer Tests) (o : Tested) (x x' : List Float) (groups groups' marks marks' : List ℕ) (w w' : List Float) (iw iw' : List ℕ) : Type 0 where
  pub the_answer : o ≡ tested_of c
  pub the_numbers : x' ≡ output c numbers_of x
  pub the_groups : groups' ≡ output c (λ t. t.groups) groups
  pub the_marks : marks' ≡ output c (λ t. t.marks) marks
  pub the_floats : w' ≡ floats c w
  pub the_words : iw' ≡ words c iw
