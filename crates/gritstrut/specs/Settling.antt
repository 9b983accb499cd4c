-- The promises of the C functions that settle and certify a day's volumes, and that they allow one answer only. Definitions only.
use Rattle.std.specs.Prelude.{◌≡◌, List, ℕ, Float}
use Rattle.workspace.specs.Tables.{Answer, number, number_of, output, outcome_of}
use Rattle.std.specs.Prelude.{Ok, Err}
use Rattle.settle.specs.Settle.{Settled}
use Rattle.settle_call.specs.Promise.{bound_of, Settles, Certifies}
use Rattle.settle_call.specs.Promise.{Bounded}
use Rattle.std.specs.Prelude.{Ok, Err}
use Rattle.gritstrut.specs.Interface.{place_left}

-- from what is told: the number; the bound, which is written where it is done; the place, which is where it is not
abbrev pub number_told : Bounded → ℕ
number_told (Ok far) = 0
number_told (Err r) = number_of r

abbrev pub bound_left : Bounded → Float → Float
bound_left (Ok far) old = far
bound_left (Err r) old = old

abbrev pub told_place : Bounded → ℕ → ℕ
told_place (Ok far) old = old
told_place (Err r) old = place_left (Err r) old

pub record BoundTold (b : Bounded) (k : ℕ) (bound bound' : Float) (place place' : ℕ) : Type 0 where
  pub the_number : k ≡ number_told b
  pub the_bound : bound' ≡ bound_left b bound
  pub the_place : place' ≡ told_place b place

-- from the answer c of the whole call: the number, and what is left
pub record SettleLeaves (c : Answer Settled) (k : ℕ) (bound bound' : Float) (place place' : ℕ) (x x' mu mu' w w' : List Float) (iw iw' : List ℕ) : Type 0 where
  pub the_number : k ≡ number c
  pub the_call : Settles c (bound_of (λ s. s.far) c) x x' mu mu' w w' iw iw'
  pub the_bound : bound' ≡ output c (λ s. s.far) bound
  pub the_place : place' ≡ place_left (outcome_of c) place

pub record CertifyLeaves (c : Answer Settled) (k : ℕ) (bound bound' : Float) (place place' : ℕ) (w w' : List Float) (iw iw' : List ℕ) : Type 0 where
  pub the_number : k ≡ number c
  pub the_call : Certifies c (bound_of (λ s. s.far) c) w w' iw iw'
  pub the_bound : bound' ≡ output c (λ s. s.far) bound
  pub the_place : place' ≡ place_left (outcome_of c) place

abbrev pub OneSettled : Type 0
OneSettled = (c : Answer Settled) (k l : ℕ) (bound bound' bound'' : Float) (place place' place'' : ℕ) (x x' x'' mu mu' mu'' w w' w'' : List Float) (iw iw' iw'' : List ℕ)
    → SettleLeaves c k bound bound' place place' x x' mu mu' w w' iw iw' → SettleLeaves c l bound bound'' place place'' x x'' mu mu'' w w'' iw iw''
    → (k ≡ l) × (bound' ≡ bound'') × (place' ≡ place'') × (x' ≡ x'') × (mu' ≡ mu'') × (w' ≡ w'') × (iw' ≡ iw'')

abbrev pub OneCertified : Type 0
OneCertified = (c : Answer Settled) (k l : ℕ) (bound bound' bound'' : Float) (place place' place'' : ℕ) (w w' w'' : List Float) (iw iw' iw'' : List ℕ)
    → CertifyLeaves c k bound bound' place place' w w' iw iw' → CertifyLeaves c l bound bound'' place place'' w w'' iw iw''
    → (k ≡ l) × (bound' ≡ bound'') × (place' ≡ place'') × (w' ≡ w'') × (iw' ≡ iw'')
