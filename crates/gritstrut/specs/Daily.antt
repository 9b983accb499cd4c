-- The promise of the day's C function, and that it allows one answer only. Definitions only.
use Rattle.std.specs.Prelude.{◌≡◌, List, ℕ, Float}
use Rattle.workspace.specs.Tables.{Answer, number, outcome_of}
use Rattle.lsei.specs.Lsei.{Solution}
use Rattle.reconcile_call.specs.Promise.{Reconciles}
use Rattle.gritstrut.specs.Interface.{place_left}

pub record DayLeaves (n : ℕ) (c : Answer Solution) (k place place' : ℕ) (x x' : List Float) (marks marks' : List ℕ) (w w' : List Float) (iw iw' : List ℕ) : Type 0 where
  pub the_number : k ≡ number c
  pub the_call : Reconciles n c (outcome_of c) x x' marks marks' w w' iw iw'
  pub the_place : place' ≡ place_left (outcome_of c) place

abbrev pub OneDay : Type 0
OneDay = (n : ℕ) (c : Answer Solution) (k m place place' place'' : ℕ) (x x' x'' : List Float) (marks marks' marks'' : List ℕ) (w w' w'' : List Float) (iw iw' iw'' : List ℕ)
    → DayLeaves n c k place place' x x' marks marks' w w' iw iw' → DayLeaves n c m place place'' x x'' marks marks'' w w'' iw iw''
    → (k ≡ m) × (place' ≡ place'') × (x' ≡ x'') × (marks' ≡ marks'') × (w' ≡ w'') × (iw' ≡ iw'')
