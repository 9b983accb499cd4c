-- What the functions behind the search's two operations are handed and leave. Definitions only.
use Rattle.std.specs.Prelude.{ℕ, suc, ◌≡◌, Bool, true, cond, ◌&&◌, List, leb, eqb, length, set, replicate, Float}
use Rattle.std.specs.Float.{nan}
use Rattle.numbers.specs.Numbers.{at, nth, tab}
use Rattle.workspace.specs.declared.Refusal.TheVariants.{Nonfinite}
use Rattle.workspace.specs.Tables.{Outcome}
use Rattle.std.specs.Prelude.{Ok, Err}
use Rattle.search.specs.Places.{PHASE_LOWERED, PHASE_NONE, PHASE_NONFINITE, PHASE_START, SEARCH_ASKED, SEARCH_LEFT, SEARCH_MACHINE, SEARCH_NEW_X, SEARCH_POINT, SEARCH_VALUES, SEARCH_WORDS, SEARCH_X}
use Rattle.search.specs.Setup.{Setup}
use Rattle.search.specs.Turn.{clip}
use Rattle.search.specs.Machine.{begin}
use Rattle.search.specs.Layout.{setup_floats, setup_words, machine_floats, machine_words, laid, Posed, are_words}
use Rattle.search.specs.Promise.{state_outcome}
use Rattle.search_next.specs.inner.Next.{wanted_at}

-- ---- beginning

-- x clipped into the bounds
abbrev pub clipped_in : (n : ℕ) → (lower upper x : List Float) → List Float
clipped_in n l u x = tab n (λ i. clip (at l i) (at u i) (at x i))

-- a problem that can begin, with its start, and slices for its machine
pub record Begins (p : Setup) (x f : List Float) (u : List ℕ) : Type 0 where
  pub posed : Posed p
  pub start : length x ≡ p.n
  pub floats : length f ≡ SEARCH_MACHINE
  pub words : length u ≡ SEARCH_WORDS

-- the clipped start with values that are not known
abbrev pub unknown_floats : (m : ℕ) → (y f : List Float) → List Float
unknown_floats m y f = laid SEARCH_X y (laid SEARCH_VALUES (replicate (suc m) nan) f)

-- the run is over before a value was told; k is the number of how
pub record Unknown (k n m : ℕ) (y : List Float) (f f' : List Float) (u u' : List ℕ) : Type 0 where
  pub floats : f' ≡ unknown_floats m y f
  pub words : u' ≡ set u SEARCH_ASKED k

-- the values at y are asked for, with b left
pub record Asks (b m : ℕ) (y : List Float) (f f' : List Float) (u u' : List ℕ) : Type 0 where
  pub floats : f' ≡ laid SEARCH_POINT y (laid SEARCH_NEW_X y (unknown_floats m y f))
  pub words : u' ≡ set (set u SEARCH_ASKED PHASE_START) SEARCH_LEFT b

-- the search of p from x with a budget of b has begun
pub record Started (p : Setup) (x : List Float) (b : ℕ) (r : Outcome) (f' : List Float) (u' : List ℕ) : Type 0 where
  pub outcome : r ≡ state_outcome (begin p x b)
  pub floats : f' ≡ machine_floats p (begin p x b) (setup_floats p)
  pub words : u' ≡ machine_words (begin p x b) (setup_words p)

-- ---- telling

-- the phase of the question that stands, or PHASE_NONE
abbrev pub question_in : List ℕ → ℕ
question_in u = cond (are_words u && leb (nth u SEARCH_ASKED) PHASE_LOWERED) (nth u SEARCH_ASKED) PHASE_NONE

abbrev pub is_told : (phase n m told : ℕ) → Bool
is_told k n m t = cond (eqb k PHASE_NONE) true (eqb t (wanted_at k n m))

-- the outcome of a state whose first word is k
abbrev pub outcome_in : ℕ → Outcome
outcome_in k = cond (eqb k PHASE_NONFINITE) (Err Nonfinite) (Ok tt)
