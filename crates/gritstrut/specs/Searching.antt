-- The promises of the search's C functions, and that they allow one answer only. Definitions only.
use Rattle.std.specs.Prelude.{◌≡◌, Bool, true, List, ℕ, Float}
use Rattle.workspace.specs.Tables.{Answer, outcome_number}
use Rattle.search.specs.Setup.{Setup}
use Rattle.search.specs.Machine.{Machine}
use Rattle.search.specs.Promise.{call_outcome, Runs}
use Rattle.gritstrut.specs.Interface.{place_left}

-- the number, and all that the operation's own promise says
pub record RunLeaves (first : Bool) (p : Setup) (c : Answer Machine) (k : ℕ) (f f' : List Float) (u u' : List ℕ) (w w' : List Float) (iw iw' : List ℕ) : Type 0 where
  pub the_number : k ≡ outcome_number (call_outcome c)
  pub the_call : Runs first p c (call_outcome c) f f' u u' w w' iw iw'

-- and with it the variable of a bound that is refused
pub record BeginLeaves (p : Setup) (c : Answer Machine) (k place place' : ℕ) (f f' : List Float) (u u' : List ℕ) (w w' : List Float) (iw iw' : List ℕ) : Type 0 where
  pub the_run : RunLeaves true p c k f f' u u' w w' iw iw'
  pub the_place : place' ≡ place_left (call_outcome c) place

abbrev pub OneRun : Type 0
OneRun = (first : Bool) (p : Setup) (c : Answer Machine) (k m : ℕ) (f f' f'' : List Float) (u u' u'' : List ℕ) (w w' w'' : List Float) (iw iw' iw'' : List ℕ)
    → RunLeaves first p c k f f' u u' w w' iw iw' → RunLeaves first p c m f f'' u u'' w w'' iw iw''
    → (k ≡ m) × (f' ≡ f'') × (u' ≡ u'') × (w' ≡ w'') × (iw' ≡ iw'')

abbrev pub OneBeginning : Type 0
OneBeginning = (p : Setup) (c : Answer Machine) (k m place place' place'' : ℕ) (f f' f'' : List Float) (u u' u'' : List ℕ) (w w' w'' : List Float) (iw iw' iw'' : List ℕ)
    → BeginLeaves p c k place place' f f' u u' w w' iw iw' → BeginLeaves p c m place place'' f f'' u u'' w w'' iw iw''
    → (k ≡ m) × (place' ≡ place'') × (f' ≡ f'') × (u' ≡ u'') × (w' ≡ w'') × (iw' ≡ iw'')
