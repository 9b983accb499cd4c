-- From the check's promise to that of its C function, which allows one answer only.
use mathlib.Core.Path.{◌≡◌, refl, sym, ap, ◌∙◌, subst}
use mathlib.Core.Bool.{Bool, true, false, ◌&&◌}
use mathlib.Core.List.{List, [], ◌∷◌}
use Prim.Native.Nat.{ℕ}
use native.Mathlib.Omega.{arith}
use lib.Dec.{eqb}
use lib.ListN.{length, set}
use lib.Ieee.{Float}
use borrow.Author.Tests.{eq-eqb}
use Rattle.workspace.specs.declared.Refusal.{Refusal}
use Rattle.workspace.specs.declared.Refusal.TheVariants.{Length, Width, Tolerance}
use Rattle.workspace.specs.Tables.{Answer, done, refused, number, number_of, output, call, test, is_dimension, is_constraints, is_room, is_tolerance}
use Rattle.step_rows.specs.Problem.{Problem}
use Rattle.step_call.specs.Promise.{are_kinds, are_widths}
use Rattle.step_check.specs.Check.{Pasted, Verdict, verdict, test_told, part_told, index_told}
use Rattle.step_check_call.specs.Promise.{are_pasted, check_call, Outcome, outcome_of, Checks}
use Rattle.std.specs.Prelude.{Ok, Err}
use Rattle.gritstrut.specs.Checking.{verdict_entries, check_verdict_call, number_told, entries_left, VerdictTold, CheckLeaves, OneCheck}
use Rattle.gritstrut.proofs.Leaves.{reported}

-- ---- the entries

three : (l : List ℕ) (a b c : ℕ) → length l ≡ 3 → set (set (set l 0 a) 1 b) 2 c ≡ a ∷ b ∷ c ∷ []
three [] a b c h = absurd (omega arith)
three (x ∷ []) a b c h = absurd (omega arith)
three (x ∷ y ∷ []) a b c h = absurd (omega arith)
three (x ∷ y ∷ z ∷ []) a b c h = refl
three (x ∷ y ∷ z ∷ u ∷ l) a b c h = absurd (omega arith)

pub verdict-written : (v : Verdict) (l : List ℕ) (a b c : ℕ) → length l ≡ 3 → a ≡ test_told v → b ≡ part_told v → c ≡ index_told v → set (set (set l 0 a) 1 b) 2 c ≡ verdict_entries v
verdict-written v l a b c h ea eb ec = three l a b c h ∙ rw (ea, eb, ec)

pub done-tells : (o : Outcome) (v : Verdict) (r r' : List ℕ) → o ≡ Ok v → r' ≡ verdict_entries v → VerdictTold o 0 r r'
done-tells o v r r' e f = rw e (record { the_number = refl; the_entries = f })

pub refused-tells : (o : Outcome) (why : Refusal) (k : ℕ) (r : List ℕ) → o ≡ Err why → k ≡ number_of why → VerdictTold o k r r
refused-tells o why k r e h = rw e (record { the_number = h; the_entries = refl })

-- ---- the call

number-told : (c : Answer Verdict) → number_told (outcome_of c) ≡ number c
number-told (done v) = refl
number-told (refused r) = refl

entries-left : (c : Answer Verdict) (r : List ℕ) → entries_left (outcome_of c) r ≡ output c verdict_entries r
entries-left (done v) r = refl
entries-left (refused q) r = refl

module _ (p : Problem) (s : Pasted) (tol : Float) (r : List ℕ) (w : List Float) (iw : List ℕ) where
  abbrev sizes : Bool
  sizes = is_dimension p.n && is_constraints p.m

  abbrev rest : Answer Verdict
  rest = test (are_widths p.kinds p.widths p.m) Width (test (is_tolerance tol) Tolerance (done (verdict p s tol)))

  pub check-leaves : length r ≡ 3 → (o : Outcome) (k : ℕ) (r' : List ℕ) (w' : List Float) (iw' : List ℕ) → Checks (check_call p s tol w iw) o w w' iw iw' → VerdictTold o k r r'
      → CheckLeaves (check_verdict_call p s tol r w iw) k r r' w w' iw iw'
  check-leaves h o k r' w' iw' q t =
      let same : check_call p s tol w iw ≡ check_verdict_call p s tol r w iw = sym (reported sizes (are_pasted p s) (is_room w iw) (are_kinds p.kinds) rest)
      ∙ ap (λ (b : Bool). call sizes (are_pasted p s && b) (is_room w iw) (are_kinds p.kinds) rest) (sym (eq-eqb (length r) 3 h)) in
      let c = check_verdict_call p s tol r w iw in
      let v = subst (λ (a : Answer Verdict). Checks a o w w' iw iw') same q in
      record {
        the_number = t.the_number ∙ ap number_told v.the_outcome ∙ number-told c;
        the_call = record { the_outcome = refl; the_floats = v.the_floats; the_words = v.the_words };
        the_verdict = t.the_entries ∙ ap (λ (u : Outcome). entries_left u r) v.the_outcome ∙ entries-left c r;
      }

  -- entries of another length
  shut : (e l m k : Bool) (a : Answer Verdict) → e ≡ true → call e (l && false) m k a ≡ refused Length
  shut e true m k a h = rw h
  shut e false m k a h = rw h

  pub no-entries : eqb (length r) 3 ≡ false → sizes ≡ true → (k : ℕ) → k ≡ 2 → CheckLeaves (check_verdict_call p s tol r w iw) k r r w w iw iw
  no-entries other e k h =
      rw (other, h, shut sizes (are_pasted p s) (is_room w iw) (are_kinds p.kinds) rest e)
      (record { the_number = refl; the_call = record { the_outcome = refl; the_floats = refl; the_words = refl }; the_verdict = refl })

  pub no_size : sizes ≡ false → (k : ℕ) → k ≡ 1 → CheckLeaves (check_verdict_call p s tol r w iw) k r r w w iw iw
  no_size e k h = rw (e, h) (record { the_number = refl; the_call = record { the_outcome = refl; the_floats = refl; the_words = refl }; the_verdict = refl })

pub one-check : OneCheck
one-check c k m r r' r'' w w' w'' iw iw' iw'' s t = (
  s.the_number ∙ sym t.the_number,
  s.the_verdict ∙ sym t.the_verdict,
  s.the_call.the_floats ∙ sym t.the_call.the_floats,
  s.the_call.the_words ∙ sym t.the_call.the_words,
)
