-- The promise of the C function of the tests of meters, and that it allows one answer only. Definitions only.
use Rattle.std.specs.Prelude.{◌≡◌, Bool, cond, List, [], ◌∷◌, ℕ, Float}
use Rattle.workspace.specs.Tables.{Answer, number, number_of, output, outcome_of}
use Rattle.std.specs.Prelude.{Ok, Err}
use Rattle.suspect.specs.Suspect.{Tests}
use Rattle.suspect.specs.declared.Finding.{Finding}
use Rattle.suspect_call.specs.Promise.{tested_of, Suspects}
use Rattle.suspect_call.specs.Promise.{Tested}
use Rattle.std.specs.Prelude.{Ok, Err}
use Rattle.gritstrut.specs.Interface.{place_left}

-- 1 for yes
abbrev pub word : Bool → ℕ
word b = cond b 1 0

-- the entries of a finding: freedom, first, agree and explained
abbrev pub finding_entries : Finding → List ℕ
finding_entries d = d.freedom ∷ d.first ∷ word d.agree ∷ word d.explained ∷ []

-- from what is told: the number; misfit and finding, which are written where it is done; the place, which is where it is not
abbrev pub number_told : Tested → ℕ
number_told (Ok d) = 0
number_told (Err r) = number_of r

abbrev pub misfit_left : Tested → Float → Float
misfit_left (Ok d) old = d.misfit
misfit_left (Err r) old = old

abbrev pub finding_left : Tested → List ℕ → List ℕ
finding_left (Ok d) old = finding_entries d
finding_left (Err r) old = old

abbrev pub told_place : Tested → ℕ → ℕ
told_place (Ok d) old = old
told_place (Err r) old = place_left (Err r) old

pub record FindingTold (t : Tested) (k : ℕ) (misfit misfit' : Float) (finding finding' : List ℕ) (place place' : ℕ) : Type 0 where
  pub the_number : k ≡ number_told t
  pub the_misfit : misfit' ≡ misfit_left t misfit
  pub the_finding : finding' ≡ finding_left t finding
  pub the_place : place' ≡ told_place t place

pub record SuspectLeaves (c : Answer Tests) (k : ℕ) (misfit misfit' : Float) (finding finding' : List ℕ) (place place' : ℕ) (x x' : List Float) (groups groups' marks marks' : List ℕ) (w w' : List Float) (iw iw' : List ℕ) : Type 0 where
  pub the_number : k ≡ number c
  pub the_call : Suspects c (tested_of c) x x' groups groups' marks marks' w w' iw iw'
  pub the_misfit : misfit' ≡ output c (λ t. t.finding.misfit) misfit
  pub the_finding : finding' ≡ output c (λ t. finding_entries t.finding) finding
  pub the_place : place' ≡ place_left (outcome_of c) place

abbrev pub OneSuspect : Type 0
OneSuspect = (c : Answer Tests) (k l : ℕ) (misfit misfit' misfit'' : Float) (f f' f'' : List ℕ) (place place' place'' : ℕ) (x x' x'' : List Float) (g g' g'' a a' a'' : List ℕ) (w w' w'' : List Float) (iw iw' iw'' : List ℕ)
    → SuspectLeaves c k misfit misfit' f f' place place' x x' g g' a a' w w' iw iw' → SuspectLeaves c l misfit misfit'' f f'' place place'' x x'' g g'' a a'' w w'' iw iw''
    → (k ≡ l) × (misfit' ≡ misfit'') × (f' ≡ f'') × (place' ≡ place'') × (x' ≡ x'') × (g' ≡ g'') × (a' ≡ a'') × (w' ≡ w'') × (iw' ≡ iw'')
