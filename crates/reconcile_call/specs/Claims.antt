-- What is shown of calls of the day's reconciliation: the lowest meter is told, the marks name what is below zero or NaN, and the promise allows one answer only. Definitions only.
use Rattle.std.specs.Prelude.{ℕ, ◌<◌, ◌≡◌, true, false, ◌&&◌, List, ◌⊎◌, ◌↔◌, Float}
use Rattle.std.specs.Float.{nan}
use Rattle.std.specs.Float.Ieee.{lt}
use Rattle.numbers.specs.Numbers.{+0, at, nth}
use Rattle.workspace.specs.Tables.{Answer, refused, is_room}
use Rattle.workspace.specs.declared.Refusal.TheVariants.{Reading, Spread}
use Rattle.workspace.specs.Tables.{Outcome}
use Rattle.std.specs.Prelude.{Ok, Err}
use Rattle.lsei.specs.Lsei.{Solution}
use Rattle.reconcile.specs.Day.{Day, corrected}
use Rattle.reconcile_call.specs.Promise.{are_sizes, are_lengths, is_reading, is_spread, meters, day_call, Reconciles}

-- ---- the tests of the meters

-- both readings of meter i are from 0 to 999,999
abbrev pub Read : (before after : List ℕ) → ℕ → Type 0
Read before after i = (is_reading (nth before i) && is_reading (nth after i)) ≡ true

-- and its spread is finite and positive
abbrev pub Sound : (before after : List ℕ) → List Float → ℕ → Type 0
Sound before after spreads i = Read before after i × (is_spread (at spreads i) ≡ true)

-- every meter is sound, and what follows the tests answers; or here is the lowest that is not, told by 12 where a reading is wrong, else by 13
pub data Lowest {A : Type 0} (before after : List ℕ) (spreads : List Float) (n : ℕ) (a c : Answer A) : Type 0 where
  all_sound : ((i : ℕ) → i < n → Sound before after spreads i) → c ≡ a → Lowest before after spreads n a c
  wrong_reading : (i : ℕ) → i < n → ((j : ℕ) → j < i → Sound before after spreads j) → (is_reading (nth before i) && is_reading (nth after i)) ≡ false → c ≡ refused (Reading i)
      → Lowest before after spreads n a c
  wrong_spread : (i : ℕ) → i < n → ((j : ℕ) → j < i → Sound before after spreads j) → Read before after i → is_spread (at spreads i) ≡ false → c ≡ refused (Spread i)
      → Lowest before after spreads n a c

abbrev pub LowestFirst : Type 1
LowestFirst = (A : Type 0) (before after : List ℕ) (spreads : List Float) (n : ℕ) (a : Answer A) → Lowest {A = A} before after spreads n a (meters before after spreads n 0 a)

-- nothing that a call is lent has changed
abbrev pub Untouched : (x x' : List Float) (marks marks' : List ℕ) (w w' : List Float) (iw iw' : List ℕ) → Type 0
Untouched x x' marks marks' w w' iw iw' = (x' ≡ x) × (marks' ≡ marks) × (w' ≡ w) × (iw' ≡ iw)

-- Of a call's outcome o and what it leaves: every meter is sound, and both are LSEI's; or it is refused of the lowest that is not, by 12 where a reading is wrong, else by 13, and nothing has changed.
pub data LowestTold (d : Day) (o : Outcome) (x x' : List Float) (marks marks' : List ℕ) (w w' : List Float) (iw iw' : List ℕ) : Type 0 where
  every_sound : ((i : ℕ) → i < d.n → Sound d.before d.after d.spreads i) → Reconciles d.n (corrected d).answer o x x' marks marks' w w' iw iw'
      → LowestTold d o x x' marks marks' w w' iw iw'
  reading_told : (i : ℕ) → i < d.n → ((j : ℕ) → j < i → Sound d.before d.after d.spreads j) → (is_reading (nth d.before i) && is_reading (nth d.after i)) ≡ false → o ≡ Err (Reading i)
      → Untouched x x' marks marks' w w' iw iw' → LowestTold d o x x' marks marks' w w' iw iw'
  spread_told : (i : ℕ) → i < d.n → ((j : ℕ) → j < i → Sound d.before d.after d.spreads j) → Read d.before d.after i → is_spread (at d.spreads i) ≡ false → o ≡ Err (Spread i)
      → Untouched x x' marks marks' w w' iw iw' → LowestTold d o x x' marks marks' w w' iw iw'

-- where sizes, lengths and workspaces are right
abbrev pub CallLowestFirst : Type 0
CallLowestFirst = (d : Day) (o : Outcome) (x x' : List Float) (marks marks' : List ℕ) (w w' : List Float) (iw iw' : List ℕ)
    → are_sizes d ≡ true → are_lengths d x marks ≡ true → is_room w iw ≡ true → Reconciles d.n (day_call d x marks w iw) o x x' marks marks' w w' iw iw'
    → LowestTold d o x x' marks marks' w w' iw iw'

-- ---- the marks

-- where a call is done, the mark of each meter is 1 exactly where the volume that it leaves is below zero or NaN, and else 0
abbrev pub CallNamedIs : Type 0
CallNamedIs = (d : Day) (x x' : List Float) (marks marks' : List ℕ) (w w' : List Float) (iw iw' : List ℕ) → Reconciles d.n (day_call d x marks w iw) (Ok tt) x x' marks marks' w w' iw iw'
    → (i : ℕ) → i < d.n → ((nth marks' i ≡ 1) ↔ ((lt (at x' i) +0 ≡ true) ⊎ (at x' i ≡ nan))) × ((nth marks' i ≡ 0) ⊎ (nth marks' i ≡ 1))

-- ---- one answer only

-- whatever the answer c, the outcome and all that is left are fixed by what was there before
abbrev pub OneAnswer : Type 0
OneAnswer = (n : ℕ) (c : Answer Solution) (o p : Outcome) (x x' x'' : List Float) (marks marks' marks'' : List ℕ) (w w' w'' : List Float) (iw iw' iw'' : List ℕ)
    → Reconciles n c o x x' marks marks' w w' iw iw' → Reconciles n c p x x'' marks marks'' w w'' iw iw''
    → (o ≡ p) × (x' ≡ x'') × (marks' ≡ marks'') × (w' ≡ w'') × (iw' ≡ iw'')
