-- From the promises of settling and certifying to those of their C functions, which allow one answer only.
use mathlib.Core.Path.{◌≡◌, refl, sym, ap, ◌∙◌}
use mathlib.Core.List.{List}
use Prim.Native.Nat.{ℕ}
use lib.Ieee.{Float}
use Rattle.workspace.specs.declared.Refusal.{Refusal}
use Rattle.std.specs.Prelude.{Ok, Err}
use Rattle.workspace.specs.Tables.{Answer, done, refused, number, outcome_number, outcome_of, output}
use Rattle.settle.specs.Settle.{Settled}
use Rattle.settle_call.specs.Promise.{bound_of, Settles, Certifies}
use Rattle.settle_call.specs.Promise.{Bounded}
use Rattle.std.specs.Prelude.{Ok, Err}
use Rattle.gritstrut.specs.Interface.{place_left}
use Rattle.gritstrut.specs.Settling.{number_told, bound_left, told_place, BoundTold, SettleLeaves, CertifyLeaves, OneSettled, OneCertified}

-- ---- what is told

pub done-tells : (b : Bounded) (far bound : Float) (place : ℕ) → b ≡ Ok far → BoundTold b 0 bound far place place
done-tells b far bound place q = rw q (record { the_number = refl; the_bound = refl; the_place = refl })

pub refused-tells : (b : Bounded) (why : Refusal) (k : ℕ) (bound : Float) (place place' : ℕ) → b ≡ Err why → (k ≡ outcome_number (Err why)) × (place' ≡ place_left (Err why) place)
    → BoundTold b k bound bound place place'
refused-tells b why k bound place place' q h = rw q (record { the_number = h.0; the_bound = refl; the_place = h.1 })

-- ---- the calls

abbrev told : Answer Settled → Bounded
told c = bound_of (λ s. s.far) c

number-told : (c : Answer Settled) → number_told (told c) ≡ number c
number-told (done v) = refl
number-told (refused r) = refl

bound-left : (c : Answer Settled) (x : Float) → bound_left (told c) x ≡ output c (λ s. s.far) x
bound-left (done v) x = refl
bound-left (refused r) x = refl

told-place : (c : Answer Settled) (p : ℕ) → told_place (told c) p ≡ place_left (outcome_of c) p
told-place (done v) p = refl
told-place (refused r) p = refl

pub settle-leaves : (c : Answer Settled) (b : Bounded) (k : ℕ) (bound bound' : Float) (place place' : ℕ) (x x' mu mu' w w' : List Float) (iw iw' : List ℕ) → Settles c b x x' mu mu' w w' iw iw'
    → BoundTold b k bound bound' place place' → SettleLeaves c k bound bound' place place' x x' mu mu' w w' iw iw'
settle-leaves c b k bound bound' place place' x x' mu mu' w w' iw iw' p q =
    let e = p.the_outcome in
    record {
      the_number = q.the_number ∙ ap number_told e ∙ number-told c;
      the_call = record { the_outcome = refl; the_volumes = p.the_volumes; the_multipliers = p.the_multipliers; the_floats = p.the_floats; the_words = p.the_words };
      the_bound = q.the_bound ∙ ap (λ (u : Bounded). bound_left u bound) e ∙ bound-left c bound;
      the_place = q.the_place ∙ ap (λ (u : Bounded). told_place u place) e ∙ told-place c place;
    }

pub certify-leaves : (c : Answer Settled) (b : Bounded) (k : ℕ) (bound bound' : Float) (place place' : ℕ) (w w' : List Float) (iw iw' : List ℕ) → Certifies c b w w' iw iw'
    → BoundTold b k bound bound' place place' → CertifyLeaves c k bound bound' place place' w w' iw iw'
certify-leaves c b k bound bound' place place' w w' iw iw' p q =
    let e = p.the_outcome in
    record {
      the_number = q.the_number ∙ ap number_told e ∙ number-told c;
      the_call = record { the_outcome = refl; the_floats = p.the_floats; the_words = p.the_words };
      the_bound = q.the_bound ∙ ap (λ (u : Bounded). bound_left u bound) e ∙ bound-left c bound;
      the_place = q.the_place ∙ ap (λ (u : Bounded). told_place u place) e ∙ told-place c place;
    }

-- ---- one answer only

pub one-settled : OneSettled
one-settled c k l bound bound' bound'' place place' place'' x x' x'' mu mu' mu'' w w' w'' iw iw' iw'' s t =
    let p = s.the_call in
    let q = t.the_call in (
      s.the_number ∙ sym t.the_number,
      s.the_bound ∙ sym t.the_bound,
      s.the_place ∙ sym t.the_place,
      p.the_volumes ∙ sym q.the_volumes,
      p.the_multipliers ∙ sym q.the_multipliers,
      p.the_floats ∙ sym q.the_floats,
      p.the_words ∙ sym q.the_words,
    )

pub one-certified : OneCertified
one-certified c k l bound bound' bound'' place place' place'' w w' w'' iw iw' iw'' s t =
    let p = s.the_call in
    let q = t.the_call in (
      s.the_number ∙ sym t.the_number,
      s.the_bound ∙ sym t.the_bound,
      s.the_place ∙ sym t.the_place,
      p.the_floats ∙ sym q.the_floats,
      p.the_words ∙ sym q.the_words,
    )
