-- What the C function that writes a problem file promises, and that it allows one answer only. Definitions only.
use Rattle.std.specs.Prelude.{◌≡◌, List, ℕ, length, Float}
use Rattle.workspace.specs.Tables.{Answer, number, output}
use Rattle.workspace.specs.Tables as Tables
use Rattle.problem_write_call.specs.Promise.{outcome_of, WritesFile}
use Rattle.gritstrut.specs.Interface.{place_left}

pub record FileLeaves (c : Answer (List ℕ)) (k bytes bytes' place place' : ℕ) (out out' : List ℕ) (w w' : List Float) (iw iw' : List ℕ) : Type 0 where
  pub the_number : k ≡ number c
  pub the_call : WritesFile c (outcome_of c) out out' w w' iw iw'
  pub the_bytes : bytes' ≡ output c (λ f. length f) bytes
  pub the_place : place' ≡ place_left (Tables.outcome_of c) place

abbrev pub OneFile : Type 0
OneFile = (c : Answer (List ℕ)) (k l n n' n'' place place' place'' : ℕ) (out out' out'' : List ℕ) (w w' w'' : List Float) (iw iw' iw'' : List ℕ)
    → FileLeaves c k n n' place place' out out' w w' iw iw' → FileLeaves c l n n'' place place'' out out'' w w'' iw iw''
    → (k ≡ l) × (n' ≡ n'') × (place' ≡ place'') × (out' ≡ out'') × (w' ≡ w'') × (iw' ≡ iw'')
