-- What is shown of calls of the tests of meters: the lowest meter is told, and the promise allows one answer only. Definitions only.
use Rattle.std.specs.Prelude.{◌≡◌, List, true, false, ℕ, ◌<◌, Float}
use Rattle.numbers.specs.Numbers.{at}
use Rattle.workspace.specs.Tables.{Answer, refused}
use Rattle.workspace.specs.declared.Refusal.TheVariants.{Reading, Spread}
use Rattle.reconcile_call.specs.Promise.{is_spread}
use Rattle.suspect.specs.Suspect.{is_finite, Tests}
use Rattle.suspect_call.specs.Promise.{Tested}
use Rattle.suspect_call.specs.Promise.{meters, Suspects}

-- ---- the tests of the meters

-- the value of meter i is finite, and its spread is finite and positive
abbrev pub Sound : (v s : List Float) → ℕ → Type 0
Sound v s i = (is_finite (at v i) ≡ true) × (is_spread (at s i) ≡ true)

-- every meter is sound, and what follows the tests answers; or here is the lowest that is not, told by 12 where its value is wrong, else by 13
pub data Lowest {A : Type 0} (v s : List Float) (n : ℕ) (a c : Answer A) : Type 0 where
  all_sound : ((i : ℕ) → i < n → Sound v s i) → c ≡ a → Lowest v s n a c
  wrong_value : (i : ℕ) → i < n → ((j : ℕ) → j < i → Sound v s j) → is_finite (at v i) ≡ false → c ≡ refused (Reading i) → Lowest v s n a c
  wrong_spread : (i : ℕ) → i < n → ((j : ℕ) → j < i → Sound v s j) → is_finite (at v i) ≡ true → is_spread (at s i) ≡ false → c ≡ refused (Spread i) → Lowest v s n a c

abbrev pub LowestFirst : Type 1
LowestFirst = (A : Type 0) (v s : List Float) (n : ℕ) (a : Answer A) → Lowest {A = A} v s n a (meters v s n 0 a)

-- ---- one answer only

-- whatever the answer c, what is told and all that is left are fixed by what was there before
abbrev pub OneAnswer : Type 0
OneAnswer = (c : Answer Tests) (o p : Tested) (x x' x'' : List Float) (g g' g'' k k' k'' : List ℕ) (w w' w'' : List Float) (iw iw' iw'' : List ℕ)
    → Suspects c o x x' g g' k k' w w' iw iw' → Suspects c p x x'' g g'' k k'' w w'' iw iw''
    → (o ≡ p) × (x' ≡ x'') × (g' ≡ g'') × (k' ≡ k'') × (w' ≡ w'') × (iw' ≡ iw'')
