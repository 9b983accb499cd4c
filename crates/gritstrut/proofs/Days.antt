-- From the reconciliation's promise to that of its C function, which allows one answer only.
use mathlib.Core.Path.{◌≡◌, refl, sym, ap, ◌∙◌}
use mathlib.Core.List.{List}
use Prim.Native.Nat.{ℕ}
use lib.Ieee.{Float}
use Rattle.workspace.specs.Tables.{Answer, outcome_number}
use Rattle.workspace.specs.Tables.{Outcome}
use Rattle.lsei.specs.Lsei.{Solution}
use Rattle.reconcile_call.specs.Promise.{Reconciles}
use Rattle.gritstrut.specs.Interface.{place_left}
use Rattle.gritstrut.specs.Daily.{DayLeaves, OneDay}
use Rattle.gritstrut.proofs.Leaves.{number-told}

pub day-leaves : (n : ℕ) (c : Answer Solution) (o : Outcome) (k place place' : ℕ) (x x' : List Float) (marks marks' : List ℕ) (w w' : List Float) (iw iw' : List ℕ)
    → Reconciles n c o x x' marks marks' w w' iw iw' → (k ≡ outcome_number o) × (place' ≡ place_left o place) → DayLeaves n c k place place' x x' marks marks' w w' iw iw'
day-leaves n c o k place place' x x' marks marks' w w' iw iw' p e = record {
  the_number = e.0 ∙ ap outcome_number p.the_outcome ∙ number-told c;
  the_call = record { the_outcome = refl; the_volumes = p.the_volumes; the_marks = p.the_marks; the_floats = p.the_floats; the_words = p.the_words };
  the_place = e.1 ∙ ap (λ (q : Outcome). place_left q place) p.the_outcome;
}

pub one-day : OneDay
one-day n c k m place place' place'' x x' x'' marks marks' marks'' w w' w'' iw iw' iw'' s t =
    let p = s.the_call in
    let q = t.the_call in (
      s.the_number ∙ sym t.the_number,
      s.the_place ∙ sym t.the_place,
      p.the_volumes ∙ sym q.the_volumes,
      p.the_marks ∙ sym q.the_marks,
      p.the_floats ∙ sym q.the_floats,
      p.the_words ∙ sym q.the_words,
    )
