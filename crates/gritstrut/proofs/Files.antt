-- What writing a problem file leaves in C.
use mathlib.Core.Path.{◌≡◌, refl, sym, ap, ◌∙◌}
use mathlib.Core.List.{List}
use Prim.Native.Nat.{ℕ}
use native.Mathlib.Omega.{arith}
use lib.ListN.{length}
use lib.Ieee.{Float}
use Rattle.workspace.specs.Tables.{Answer, done, refused, number, outcome_number, output}
use Rattle.workspace.specs.Tables as Tables
use Rattle.workspace.specs.declared.Refusal.{Refusal}
use Rattle.workspace.specs.Tables.{Outcome}
use Rattle.std.specs.Prelude.{Result, Ok, Err}
use Rattle.problem_write_call.specs.Promise.{outcome_of, WritesFile}
use Rattle.gritstrut.specs.Interface.{place_left}
use Rattle.gritstrut.specs.Writing.{FileLeaves, OneFile}

pub one-file : OneFile
one-file c k l n n' n'' place place' place'' out out' out'' w w' w'' iw iw' iw'' x y =
    let p = x.the_call in
    let q = y.the_call in (
      x.the_number ∙ sym y.the_number,
      x.the_bytes ∙ sym y.the_bytes,
      x.the_place ∙ sym y.the_place,
      p.the_output ∙ sym q.the_output,
      p.the_floats ∙ sym q.the_floats,
      p.the_words ∙ sym q.the_words,
    )

done-is : (c : Answer (List ℕ)) (r n place : ℕ) → Ok r ≡ outcome_of c → (0 ≡ number c) × (r ≡ output c (λ f. length f) n) × (place ≡ place_left (Tables.outcome_of c) place)
done-is (done f) r n place e = let z : r ≡ length f = cc in (refl, z, refl)
done-is (refused q) r n place e = let z : ◌≡◌ {A = ℕ} 0 1 = cc in absurd (let y : ⊥ = omega arith in y)

refused-is : (c : Answer (List ℕ)) (r : Refusal) (n : ℕ) → Err r ≡ outcome_of c → (Err r ≡ Tables.outcome_of c) × (outcome_number (Err r) ≡ number c) × (n ≡ output c (λ f. length f) n)
refused-is (done f) r n e = let z : ◌≡◌ {A = ℕ} 0 1 = cc in absurd (let y : ⊥ = omega arith in y)
refused-is (refused q) r n e = let z : r ≡ q = cc in (ap (λ (s : Refusal). Err s) z, ap (λ (s : Refusal). outcome_number (Err s)) z, refl)

module _ (c : Answer (List ℕ)) (out out' : List ℕ) (w w' : List Float) (iw iw' : List ℕ) where
  same-call : (r : Result ℕ Refusal) → WritesFile c r out out' w w' iw iw' → WritesFile c (outcome_of c) out out' w w' iw iw'
  same-call r p = record { the_outcome = refl; the_output = p.the_output; the_floats = p.the_floats; the_words = p.the_words }

  pub file-leaves : (r n place : ℕ) → WritesFile c (Ok r) out out' w w' iw iw' → FileLeaves c 0 n r place place out out' w w' iw iw'
  file-leaves r n place p =
      let d = done-is c r n place p.the_outcome in
      record { the_number = d.0; the_call = same-call (Ok r) p; the_bytes = d.1; the_place = d.2 }

  pub file-keeps : (r : Refusal) (k n place place' : ℕ) → WritesFile c (Err r) out out' w w' iw iw'
      → (k ≡ outcome_number (Err r)) × (place' ≡ place_left (Err r) place) → FileLeaves c k n n place place' out out' w w' iw iw'
  file-keeps r k n place place' p e =
      let d = refused-is c r n p.the_outcome in
      record { the_number = e.0 ∙ d.1; the_call = same-call (Err r) p; the_bytes = d.2; the_place = e.1 ∙ ap (λ (o : Outcome). place_left o place) d.0 }
