-- What the inner functions of the search are handed and leave: it serves their contracts alone. Definitions only.
use Rattle.std.specs.Prelude.{ℕ, ◌≤◌, ◌≡◌, Bool, true, List, [], ◌∷◌, length, Float}
use Rattle.numbers.specs.Numbers.{one, nth}
use Rattle.workspace.specs.Readings.{nums}
use Rattle.search.specs.Places.{SEARCH_ALPHA, SEARCH_CONSTRAINTS, SEARCH_D, SEARCH_FRESH, SEARCH_KINDS, SEARCH_MACHINE, SEARCH_VARIABLES, SEARCH_WORDS}
use Rattle.search.specs.Setup.{Setup, are_kinds}
use Rattle.search.specs.Turn.{Opened, stop, go}
use Rattle.search.specs.Machine.{Machine}
use Rattle.search.specs.Layout.{laid, bit, iterate_floats, machine_floats, machine_words}

-- ---- what is handed

-- the machine's slices, with n variables and m constraints
pub record Ready (n m : ℕ) (f : List Float) (u : List ℕ) : Type 0 where
  pub floats : length f ≡ SEARCH_MACHINE
  pub words : length u ≡ SEARCH_WORDS
  pub some : 1 ≤ n
  pub few : n ≤ 16
  pub constraints : m ≤ 16
  pub variables : nth u SEARCH_VARIABLES ≡ n
  pub functions : nth u SEARCH_CONSTRAINTS ≡ m
  pub kinds : are_kinds (nums SEARCH_KINDS m u) ≡ true
  pub fresh : nth u SEARCH_FRESH ≤ 1

-- ---- what is left

-- the iterate s stands in the slices
abbrev pub fresh_words : Bool → List ℕ → List ℕ
fresh_words t u = laid SEARCH_FRESH (bit t ∷ []) u

-- what a turn has opened: the iterate, and its line with alpha at one
abbrev pub opened_floats : Opened → List Float → List Float
opened_floats (stop e s) f = iterate_floats s f
opened_floats (go s line) f = laid SEARCH_ALPHA (one ∷ line.merit ∷ line.slope ∷ []) (laid SEARCH_D line.d (iterate_floats s f))

abbrev pub opened_words : Opened → List ℕ → List ℕ
opened_words (stop e s) u = fresh_words s.fresh u
opened_words (go s line) u = fresh_words s.fresh u

-- the machine M of the problem p
pub record Turned (p : Setup) (M : Machine) (f f' : List Float) (u u' : List ℕ) : Type 0 where
  pub floats : f' ≡ machine_floats p M f
  pub words : u' ≡ machine_words M u
