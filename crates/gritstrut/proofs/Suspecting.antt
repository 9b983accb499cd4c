-- From the promise of the tests of meters to that of their C function, which allows one answer only.
use mathlib.Core.Path.{◌≡◌, refl, sym, ap, ◌∙◌, subst}
use mathlib.Core.Bool.{Bool}
use mathlib.Core.List.{List, [], ◌∷◌}
use Prim.Native.Nat.{ℕ}
use lib.Ieee.{Float}
use Rattle.workspace.specs.declared.Refusal.{Refusal}
use Rattle.std.specs.Prelude.{Ok, Err}
use Rattle.workspace.specs.Tables.{Answer, done, refused, number, outcome_number, outcome_of, output}
use Rattle.suspect.specs.Suspect.{Tests}
use Rattle.suspect.specs.declared.Finding.{Finding}
use Rattle.suspect_call.specs.Promise.{tested_of, Suspects}
use Rattle.suspect_call.specs.Promise.{Tested}
use Rattle.std.specs.Prelude.{Ok, Err}
use Rattle.gritstrut.specs.Interface.{place_left}
use Rattle.gritstrut.specs.Suspecting.{word, finding_entries, number_told, misfit_left, finding_left, told_place, FindingTold, SuspectLeaves, OneSuspect}

-- ---- what is told

pub done-tells : (t : Tested) (d : Finding) (a e : ℕ) (misfit : Float) (finding : List ℕ) (place : ℕ) → t ≡ Ok d → a ≡ word d.agree → e ≡ word d.explained
    → FindingTold t 0 misfit d.misfit finding (d.freedom ∷ d.first ∷ a ∷ e ∷ []) place place
done-tells t d a e misfit finding place q ea ee = rw (q, ea, ee) (record { the_number = refl; the_misfit = refl; the_finding = refl; the_place = refl })

pub refused-tells : (t : Tested) (why : Refusal) (k : ℕ) (misfit : Float) (finding : List ℕ) (place place' : ℕ) → t ≡ Err why
    → (k ≡ outcome_number (Err why)) × (place' ≡ place_left (Err why) place) → FindingTold t k misfit misfit finding finding place place'
refused-tells t why k misfit finding place place' q h = rw q (record { the_number = h.0; the_misfit = refl; the_finding = refl; the_place = h.1 })

-- ---- the call

number-told : (c : Answer Tests) → number_told (tested_of c) ≡ number c
number-told (done v) = refl
number-told (refused r) = refl

misfit-left : (c : Answer Tests) (x : Float) → misfit_left (tested_of c) x ≡ output c (λ t. t.finding.misfit) x
misfit-left (done v) x = refl
misfit-left (refused r) x = refl

finding-left : (c : Answer Tests) (f : List ℕ) → finding_left (tested_of c) f ≡ output c (λ t. finding_entries t.finding) f
finding-left (done v) f = refl
finding-left (refused r) f = refl

told-place : (c : Answer Tests) (p : ℕ) → told_place (tested_of c) p ≡ place_left (outcome_of c) p
told-place (done v) p = refl
told-place (refused r) p = refl

pub suspect-leaves : (c : Answer Tests) (t : Tested) (k : ℕ) (misfit misfit' : Float) (f f' : List ℕ) (place place' : ℕ) (x x' : List Float) (g g' a a' : List ℕ) (w w' : List Float) (iw iw' : List ℕ)
    → Suspects c t x x' g g' a a' w w' iw iw' → FindingTold t k misfit misfit' f f' place place' → SuspectLeaves c k misfit misfit' f f' place place' x x' g g' a a' w w' iw iw'
suspect-leaves c t k misfit misfit' f f' place place' x x' g g' a a' w w' iw iw' p q =
    let e = p.the_answer in
    record {
      the_number = q.the_number ∙ ap number_told e ∙ number-told c;
      the_call = record { the_answer = refl; the_numbers = p.the_numbers; the_groups = p.the_groups; the_marks = p.the_marks; the_floats = p.the_floats; the_words = p.the_words };
      the_misfit = q.the_misfit ∙ ap (λ (u : Tested). misfit_left u misfit) e ∙ misfit-left c misfit;
      the_finding = q.the_finding ∙ ap (λ (u : Tested). finding_left u f) e ∙ finding-left c f;
      the_place = q.the_place ∙ ap (λ (u : Tested). told_place u place) e ∙ told-place c place;
    }

pub one-suspect : OneSuspect
one-suspect c k l misfit misfit' misfit'' f f' f'' place place' place'' x x' x'' g g' g'' a a' a'' w w' w'' iw iw' iw'' s t =
    let p = s.the_call in
    let q = t.the_call in (
      s.the_number ∙ sym t.the_number,
      s.the_misfit ∙ sym t.the_misfit,
      s.the_finding ∙ sym t.the_finding,
      s.the_place ∙ sym t.the_place,
      p.the_numbers ∙ sym q.the_numbers,
      p.the_groups ∙ sym q.the_groups,
      p.the_marks ∙ sym q.the_marks,
      p.the_floats ∙ sym q.the_floats,
      p.the_words ∙ sym q.the_words,
    )
