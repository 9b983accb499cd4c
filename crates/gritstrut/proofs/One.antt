-- The promises of the C interface allow one answer only.
use mathlib.Core.Path.{sym, ap, ◌∙◌}
use mathlib.Core.List.{List}
use Prim.Native.Nat.{ℕ}
use Rattle.householder_call.specs.Promise.{Factored}
use Rattle.nnls_call.specs.Promise.{Nnls}
use Rattle.lsei_call.specs.Promise.{Solves}
use Rattle.hessian_call.specs.Promise.{Writes}
use Rattle.step_call.specs.Promise as Step
use Rattle.gritstrut.specs.Interface.{QrLeaves, NnlsLeaves, SolveLeaves, PlaceLeaves, WriteLeaves, tally_left, StepLeaves}
use Rattle.gritstrut.specs.Claims.{OneQr, OneNnls, OneSolve, OnePlace, OneWrite, OneStep}

pub one-qr : OneQr
one-qr c k l rank rank' rank'' r r' r'' perm perm' perm'' u u' u'' b b' b'' w w' w'' iw iw' iw'' s t =
    let p = s.the_call in
    let q = t.the_call in (
      s.the_number ∙ sym t.the_number,
      s.the_rank ∙ sym t.the_rank,
      p.the_r ∙ sym q.the_r,
      p.the_perm ∙ sym q.the_perm,
      p.the_u ∙ sym q.the_u,
      p.the_b ∙ sym q.the_b,
      p.the_floats ∙ sym q.the_floats,
      p.the_words ∙ sym q.the_words,
    )

pub one-nnls : OneNnls
one-nnls c k l rounds rounds' rounds'' factorings factorings' factorings'' x x' x'' w w' w'' iw iw' iw'' s t =
    let p = s.the_call in
    let q = t.the_call in (
      s.the_number ∙ sym t.the_number,
      s.the_rounds ∙ sym t.the_rounds,
      s.the_factorings ∙ sym t.the_factorings,
      p.the_x ∙ sym q.the_x,
      p.the_floats ∙ sym q.the_floats,
      p.the_words ∙ sym q.the_words,
    )

pub one-solve : OneSolve
one-solve c k m x x' x'' l l' l'' w w' w'' iw iw' iw'' s t =
    let p = s.the_call in
    let q = t.the_call in (
      s.the_number ∙ sym t.the_number,
      p.the_x ∙ sym q.the_x,
      p.the_multipliers ∙ sym q.the_multipliers,
      p.the_floats ∙ sym q.the_floats,
      p.the_words ∙ sym q.the_words,
    )

pub one_place : OnePlace
one_place c k m place place' place'' x x' x'' l l' l'' w w' w'' iw iw' iw'' s t =
    let p = s.the_call in
    let q = t.the_call in (
      s.the_number ∙ sym t.the_number,
      s.the_place ∙ sym t.the_place,
      p.the_x ∙ sym q.the_x,
      p.the_multipliers ∙ sym q.the_multipliers,
      p.the_floats ∙ sym q.the_floats,
      p.the_words ∙ sym q.the_words,
    )

pub one-write : OneWrite
one-write c k m out out' out'' w w' w'' iw iw' iw'' s t =
    let p = s.the_call in
    let q = t.the_call in
    (s.the_number ∙ sym t.the_number, p.the_output ∙ sym q.the_output, p.the_floats ∙ sym q.the_floats, p.the_words ∙ sym q.the_words)

pub one-step : OneStep
one-step c v k m relaxation relaxation' relaxation'' r r' r'' y y' z z' d d' d'' l l' l'' w w' w'' iw iw' iw'' s t =
    let p = s.the_call in
    let q = t.the_call in
    let a = s.told in
    let b = t.told in (
      a.the_number ∙ sym b.the_number,
      a.the_relaxation ∙ sym b.the_relaxation,
      a.the_report ∙ sym b.the_report,
      λ e. a.the_tally ∙ ap (λ (x : List ℕ). tally_left (Step.outcome_of c v) x) e ∙ sym b.the_tally,
      p.the_d ∙ sym q.the_d,
      p.the_multipliers ∙ sym q.the_multipliers,
      p.the_floats ∙ sym q.the_floats,
      p.the_words ∙ sym q.the_words,
    )
