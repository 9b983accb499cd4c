-- From the search's promise to those of its C functions, which allow one answer only.
use mathlib.Core.Path.{◌≡◌, refl, sym, ap, ◌∙◌}
use mathlib.Core.Bool.{Bool, true}
use mathlib.Core.List.{List}
use Prim.Native.Nat.{ℕ}
use lib.Ieee.{Float}
use Rattle.workspace.specs.Tables.{Answer, outcome_number}
use Rattle.workspace.specs.Tables.{Outcome}
use Rattle.search.specs.Setup.{Setup}
use Rattle.search.specs.Machine.{Machine}
use Rattle.search.specs.Promise.{Runs}
use Rattle.gritstrut.specs.Interface.{place_left}
use Rattle.gritstrut.specs.Searching.{RunLeaves, BeginLeaves, OneRun, OneBeginning}

pub run-leaves : (first : Bool) (p : Setup) (c : Answer Machine) (o : Outcome) (k : ℕ) (f f' : List Float) (u u' : List ℕ) (w w' : List Float) (iw iw' : List ℕ)
    → Runs first p c o f f' u u' w w' iw iw' → k ≡ outcome_number o → RunLeaves first p c k f f' u u' w w' iw iw'
run-leaves first p c o k f f' u u' w w' iw iw' r e = record {
  the_number = e ∙ ap outcome_number r.the_outcome;
  the_call = record { the_outcome = refl; the_machine = r.the_machine; the_state = r.the_state; the_floats = r.the_floats; the_words = r.the_words };
}

pub begin-leaves : (p : Setup) (c : Answer Machine) (o : Outcome) (k place place' : ℕ) (f f' : List Float) (u u' : List ℕ) (w w' : List Float) (iw iw' : List ℕ)
    → Runs true p c o f f' u u' w w' iw iw' → (k ≡ outcome_number o) × (place' ≡ place_left o place) → BeginLeaves p c k place place' f f' u u' w w' iw iw'
begin-leaves p c o k place place' f f' u u' w w' iw iw' r e = record {
  the_run = run-leaves true p c o k f f' u u' w w' iw iw' r e.0;
  the_place = e.1 ∙ ap (λ (q : Outcome). place_left q place) r.the_outcome;
}

pub one-run : OneRun
one-run first p c k m f f' f'' u u' u'' w w' w'' iw iw' iw'' a b = (
  a.the_number ∙ sym b.the_number,
  a.the_call.the_machine ∙ sym b.the_call.the_machine,
  a.the_call.the_state ∙ sym b.the_call.the_state,
  a.the_call.the_floats ∙ sym b.the_call.the_floats,
  a.the_call.the_words ∙ sym b.the_call.the_words,
)

pub one-beginning : OneBeginning
one-beginning p c k m place place' place'' f f' f'' u u' u'' w w' w'' iw iw' iw'' a b =
    let r = one-run true p c k m f f' f'' u u' u'' w w' w'' iw iw' iw'' a.the_run b.the_run in
    (r.0, a.the_place ∙ sym b.the_place, r.1, r.2, r.3, r.4)
