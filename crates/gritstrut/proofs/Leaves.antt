-- From an operation's promise to that of its C function.
use mathlib.Core.Path.{◌≡◌, refl, sym, ap, ◌∙◌, subst}
use mathlib.Core.Bool.{Bool, true, false, cond, ◌&&◌}
use mathlib.Core.List.{List, [], ◌∷◌}
use Prim.Native.Nat.{ℕ, ◌+◌, ◌*◌, ◌^◌, ◌≤◌, ◌<◌, min}
use native.Mathlib.Nat.{mul-le-mul_right}
use native.Mathlib.Omega.{arith}
use lib.Dec.{leb, eqb}
use lib.ListN.{length, set}
use lib.Ieee.{Float}
use borrow.Author.Tests.{leb-true, eq-eqb}
use Rattle.workspace.specs.Tables.{Answer, done, refused, call, test, number, number_of, place_of, nowhere, outcome_of, outcome_number, output, is_matrix, is_dimension, is_constraints, is_room, has}
use Rattle.workspace.specs.declared.Refusal.TheVariants.{Size, Length, Width}
use Rattle.workspace.specs.declared.Refusal.{Refusal}
use Rattle.workspace.specs.Tables.{Outcome}
use Rattle.std.specs.Prelude.{Ok, Err}
use Rattle.workspace.proofs.Tests.{and-true, matrix-le}
use Rattle.householder.specs.Qr.{Factors, factor}
use Rattle.householder.proofs.Rank.{factor-rank}
use Rattle.householder_call.specs.Promise as Qr
use Rattle.nnls.specs.Nnls.{nnls}
use Rattle.nnls_call.specs.Promise as Nnls
use Rattle.nnls_call.specs.Claims.{SoundCall}
use Rattle.nnls.specs.declared.memory.Counts.{Counts}
use Rattle.nnls_call.proofs.Calls.{call-sound}
use Rattle.lsei.specs.Lsei.{Solution}
use Rattle.lsei_call.specs.Promise.{Solves}
use Rattle.hessian_call.specs.Promise.{Writes}
use Rattle.step_rows.specs.Problem.{Problem}
use Rattle.nnls.specs.Counted.{Counted}
use Rattle.step.specs.Step.{Step, report_of, stage_number, stage_place}
use Rattle.step.specs.declared.Report.{Report}
use Rattle.step.specs.declared.Stepped.{Stepped}
use Rattle.step_call.specs.Promise as Step
use Rattle.gritstrut.specs.Interface.{QrLeaves, NnlsLeaves, SolveLeaves, place_left, PlaceLeaves, WriteLeaves, entries_of, bound_entries, raised_counts, Tells, report_call, StepLeaves}

-- ---- operations that tell nothing beside their outputs

pub number-told : {A : Type 0} (c : Answer A) → outcome_number (outcome_of c) ≡ number c
number-told (done v) = refl
number-told (refused r) = refl

pub solve-leaves : (c : Answer Solution) (o : Outcome) (k : ℕ) (x x' l l' w w' : List Float) (iw iw' : List ℕ)
    → Solves c o x x' l l' w w' iw iw' → k ≡ outcome_number o → SolveLeaves c k x x' l l' w w' iw iw'
solve-leaves c o k x x' l l' w w' iw iw' p e = record {
  the_number = e ∙ ap outcome_number p.the_outcome ∙ number-told c;
  the_call = record { the_outcome = refl; the_x = p.the_x; the_multipliers = p.the_multipliers; the_floats = p.the_floats; the_words = p.the_words };
}

pub place-leaves : (c : Answer Solution) (o : Outcome) (k place place' : ℕ) (x x' l l' w w' : List Float) (iw iw' : List ℕ)
    → Solves c o x x' l l' w w' iw iw' → (k ≡ outcome_number o) × (place' ≡ place_left o place) → PlaceLeaves c k place place' x x' l l' w w' iw iw'
place-leaves c o k place place' x x' l l' w w' iw iw' p e = record {
  the_number = e.0 ∙ ap outcome_number p.the_outcome ∙ number-told c;
  the_call = record { the_outcome = refl; the_x = p.the_x; the_multipliers = p.the_multipliers; the_floats = p.the_floats; the_words = p.the_words };
  the_place = e.1 ∙ ap (λ (q : Outcome). place_left q place) p.the_outcome;
}

pub write-leaves : (c : Answer (List Float)) (o : Outcome) (k : ℕ) (out out' w w' : List Float) (iw iw' : List ℕ)
    → Writes c o out out' w w' iw iw' → k ≡ outcome_number o → WriteLeaves c k out out' w w' iw iw'
write-leaves c o k out out' w w' iw iw' p e = record {
  the_number = e ∙ ap outcome_number p.the_outcome ∙ number-told c;
  the_call = record { the_outcome = refl; the_output = p.the_output; the_floats = p.the_floats; the_words = p.the_words };
}

-- ---- QR

qr-done : (c : Answer Factors) (rank old : ℕ) → Ok rank ≡ Qr.outcome_of c → (0 ≡ number c) × (rank ≡ output c (λ f. f.rank) old)
qr-done (done f) rank old e = (refl, cc)
qr-done (refused r) rank old e = let z : ◌≡◌ {A = ℕ} 0 1 = cc in absurd (let y : ⊥ = omega arith in y)

qr-refused : (c : Answer Factors) (r : Refusal) (old : ℕ) → Err r ≡ Qr.outcome_of c → (number_of r ≡ number c) × (old ≡ output c (λ f. f.rank) old)
qr-refused (done f) r old e = let z : ◌≡◌ {A = ℕ} 0 1 = cc in absurd (let y : ⊥ = omega arith in y)
qr-refused (refused q) r old e = (let z : r ≡ q = cc in ap (λ (s : Refusal). number_of s) z, refl)

module _ (c : Answer Factors) (r r' : List Float) (perm perm' : List ℕ) (u u' b b' w w' : List Float) (iw iw' : List ℕ) where
  pub qr-leaves : (rank old : ℕ) → Qr.Factored c (Ok rank) r r' perm perm' u u' b b' w w' iw iw' → QrLeaves c 0 old rank r r' perm perm' u u' b b' w w' iw iw'
  qr-leaves rank old p = record {
    the_number = (qr-done c rank old p.the_outcome).0;
    the_call = record { the_outcome = refl; the_r = p.the_r; the_perm = p.the_perm; the_u = p.the_u; the_b = p.the_b; the_floats = p.the_floats; the_words = p.the_words };
    the_rank = (qr-done c rank old p.the_outcome).1;
  }

  pub qr-keeps : (q : Refusal) (k old : ℕ) → Qr.Factored c (Err q) r r' perm perm' u u' b b' w w' iw iw' → k ≡ number_of q
      → QrLeaves c k old old r r' perm perm' u u' b b' w w' iw iw'
  qr-keeps q k old p e = record {
    the_number = e ∙ (qr-refused c q old p.the_outcome).0;
    the_call = record { the_outcome = refl; the_r = p.the_r; the_perm = p.the_perm; the_u = p.the_u; the_b = p.the_b; the_floats = p.the_floats; the_words = p.the_words };
    the_rank = (qr-refused c q old p.the_outcome).1;
  }

-- a done call has passed the test of its sizes, and its rank is that of the factors
passed : (s l r : Bool) (f : Factors) (k : ℕ) → Ok k ≡ Qr.outcome_of (call s l r true (done f)) → (s ≡ true) × (k ≡ f.rank)
passed true true true f k e = (refl, cc)
passed true true false f k e = let z : ◌≡◌ {A = ℕ} 0 1 = cc in absurd (let y : ⊥ = omega arith in y)
passed true false r f k e = let z : ◌≡◌ {A = ℕ} 0 1 = cc in absurd (let y : ⊥ = omega arith in y)
passed false l r f k e = let z : ◌≡◌ {A = ℕ} 0 1 = cc in absurd (let y : ⊥ = omega arith in y)

pub rank-fits : (m n : ℕ) (a r r' : List Float) (perm perm' : List ℕ) (u u' b b' w w' : List Float) (iw iw' : List ℕ) (k : ℕ)
    → Qr.Factored (Qr.qr_call m n a r perm u b w iw) (Ok k) r r' perm perm' u u' b b' w w' iw iw' → k < 2 ^ 32
rank-fits m n a r r' perm perm' u u' b b' w w' iw iw' k p =
    let e = passed (is_matrix m n) (has a (m * n) && has r (m * n) && has perm n && has u (min m n * m) && has b (min m n)) (is_room w iw) (factor m n a) k p.the_outcome in
    let h = matrix-le m n e.0 in
    omega (arith, h.0, e.1, factor-rank m n a)

-- ---- NNLS

nnls-done : (c : Answer Nnls.Told) (s : Counts) (oldr oldf : ℕ) → Ok s ≡ Nnls.outcome_of c
    → (0 ≡ number c) × (s.past ≡ output c (λ t. t.rounds) oldr) × (s.factorings ≡ output c (λ t. t.factorings) oldf)
nnls-done (done t) s oldr oldf e = let z : s ≡ record { past = t.rounds; factorings = t.factorings } = cc in (refl, ap (λ (x : Counts). x.past) z, ap (λ (x : Counts). x.factorings) z)
nnls-done (refused q) s oldr oldf e = let z : ◌≡◌ {A = ℕ} 0 1 = cc in absurd (let y : ⊥ = omega arith in y)

nnls-refused : (c : Answer Nnls.Told) (r : Refusal) (oldr oldf : ℕ) → Err r ≡ Nnls.outcome_of c
    → (number_of r ≡ number c) × (oldr ≡ output c (λ t. t.rounds) oldr) × (oldf ≡ output c (λ t. t.factorings) oldf)
nnls-refused (done t) r oldr oldf e = let z : ◌≡◌ {A = ℕ} 0 1 = cc in absurd (let y : ⊥ = omega arith in y)
nnls-refused (refused q) r oldr oldf e = (let z : r ≡ q = cc in ap (λ (s : Refusal). number_of s) z, refl, refl)

module _ (c : Answer Nnls.Told) (x x' w w' : List Float) (iw iw' : List ℕ) (oldr oldf : ℕ) where
  pub nnls-leaves : (s : Counts) → Nnls.Nnls c (Ok s) x x' w w' iw iw' → NnlsLeaves c 0 oldr s.past oldf s.factorings x x' w w' iw iw'
  nnls-leaves s p =
      let d = nnls-done c s oldr oldf p.the_outcome in
      record {
        the_number = d.0;
        the_call = record { the_outcome = refl; the_x = p.the_x; the_floats = p.the_floats; the_words = p.the_words };
        the_rounds = d.1;
        the_factorings = d.2;
      }

  pub nnls-keeps : (q : Refusal) (k : ℕ) → Nnls.Nnls c (Err q) x x' w w' iw iw' → k ≡ number_of q → NnlsLeaves c k oldr oldr oldf oldf x x' w w' iw iw'
  nnls-keeps q k p e =
      let d = nnls-refused c q oldr oldf p.the_outcome in
      record {
        the_number = e ∙ d.0;
        the_call = record { the_outcome = refl; the_x = p.the_x; the_floats = p.the_floats; the_words = p.the_words };
        the_rounds = d.1;
        the_factorings = d.2;
      }

-- n(k + 1) + k with n at most 66 and k at most 3n
few : (n k f : ℕ) → n ≤ 66 → k ≤ 198 → f ≤ n * (k + 1) + k → f ≤ 13332
few n k f hn hk h = let p : n * (k + 1) ≤ 66 * (k + 1) = mul-le-mul_right (k + 1) hn in omega (arith, p, h)

sized : (s l r : Bool) (a : Answer Nnls.Told) (i : Counts) → Ok i ≡ Nnls.outcome_of (call s l r true a) → s ≡ true
sized true l r a i e = refl
sized false l r a i e = let z : ◌≡◌ {A = ℕ} 0 1 = cc in absurd (let y : ⊥ = omega arith in y)

pub counts-fit : (m n k : ℕ) (a b x x' w w' : List Float) (iw iw' : List ℕ) (s : Counts)
    → Nnls.Nnls (Nnls.nnls_call m n k a b x w iw) (Ok s) x x' w w' iw iw' → (s.past < 2 ^ 32) × (s.factorings < 2 ^ 32)
counts-fit m n k a b x x' w w' iw iw' s p =
    let t = and-true (is_matrix m n) (leb k (3 * n)) (sized (is_matrix m n && leb k (3 * n)) (has a (m * n) && has b m && has x n) (is_room w iw) (Nnls.tell (nnls m n a b k)) s p.the_outcome) in
    let hn : n ≤ 66 = (matrix-le m n t.0).1 in
    let hk : k ≤ 198 = (let q = leb-true k (3 * n) t.1 in omega (arith, q, hn)) in
    let q = call-sound m n k a b x x' w w' iw iw' s.past s.factorings p in
    let hr : s.past ≤ k = q.rounds_most in
    let hf : s.factorings ≤ 13332 = few n k s.factorings hn hk q.factorings_most in
    (omega arith, omega arith)

-- ---- a place, and a report

pub some-place : (why : Refusal) (o : Outcome) (at old : ℕ) → o ≡ Err why → at ≡ place_of why → eqb at nowhere ≡ false → at ≡ place_left o old
some-place why o at old q e h = rw (q, ← e, h)

pub no_place : (why : Refusal) (o : Outcome) (at old : ℕ) → o ≡ Err why → at ≡ place_of why → eqb at nowhere ≡ true → old ≡ place_left o old
no_place why o at old q e h = rw (q, ← e, h)

pub six : (l : List ℕ) (a b c d e f : ℕ) → length l ≡ 6 → set (set (set (set (set (set l 0 a) 1 b) 2 c) 3 d) 4 e) 5 f ≡ a ∷ b ∷ c ∷ d ∷ e ∷ f ∷ []
six [] a b c d e f h = absurd (omega arith)
six (x ∷ []) a b c d e f h = absurd (omega arith)
six (x ∷ y ∷ []) a b c d e f h = absurd (omega arith)
six (x ∷ y ∷ z ∷ []) a b c d e f h = absurd (omega arith)
six (x ∷ y ∷ z ∷ u ∷ []) a b c d e f h = absurd (omega arith)
six (x ∷ y ∷ z ∷ u ∷ v ∷ []) a b c d e f h = absurd (omega arith)
six (x ∷ y ∷ z ∷ u ∷ v ∷ w ∷ []) a b c d e f h = refl
six (x ∷ y ∷ z ∷ u ∷ v ∷ w ∷ s ∷ l) a b c d e f h = absurd (omega arith)

-- ---- the step

-- what is told of a step that was tried, and of a refusal before it
pub stepped-done : (s : Stepped) (delta old : Float) (r r' y y' : List ℕ) → s.relaxation ≡ Ok delta → r' ≡ entries_of s.report → y' ≡ raised_counts y s.report.rounds s.report.factorings
    → Tells (Ok s) 0 old delta r r' y y'
stepped-done s delta old r r' y y' e f g = record { the_number = rw e refl; the_relaxation = rw e refl; the_report = f; the_tally = g }

pub stepped-failed : (s : Stepped) (why : Refusal) (k : ℕ) (old : Float) (r r' y y' : List ℕ) → s.relaxation ≡ Err why → k ≡ number_of why → r' ≡ entries_of s.report
    → y' ≡ raised_counts y s.report.rounds s.report.factorings → Tells (Ok s) k old old r r' y y'
stepped-failed s why k old r r' y y' e h f g = record { the_number = rw e h; the_relaxation = rw e refl; the_report = f; the_tally = g }

pub refused-tells : (o : Step.Outcome) (why : Refusal) (k : ℕ) (old : Float) (r r' y : List ℕ) → o ≡ Err why → k ≡ number_of why → r' ≡ bound_entries why r → Tells o k old old r r' y y
refused-tells o why k old r r' y e h f = rw e (record { the_number = h; the_relaxation = refl; the_report = f; the_tally = refl })

-- a test that names a variable
pub bound-written : (why : Refusal) (l r : List ℕ) (a b : ℕ) → a ≡ number_of why → b ≡ place_of why → eqb b nowhere ≡ false → r ≡ a ∷ b ∷ 0 ∷ nowhere ∷ 0 ∷ 0 ∷ [] → r ≡ bound_entries why l
bound-written why l r a b ea eb e h = h ∙ rw (← ea, ← eb, e)

pub bound-left : (why : Refusal) (l : List ℕ) (b : ℕ) → b ≡ place_of why → eqb b nowhere ≡ true → l ≡ bound_entries why l
bound-left why l b eb e = rw (← eb, e)

-- the call with a further length among its tests, that of the report
pub reported : {A : Type 0} (s l r k : Bool) (a : Answer A) → call s (l && true) r k a ≡ call s l r k a
reported s true r k a = refl
reported true false r k a = refl
reported false false r k a = refl

-- the tests of a call, and what follows them
abbrev tested : Problem → (d l w : List Float) (iw : List ℕ) → Answer Step → Answer Step
tested p d l w iw a = call (is_dimension p.n && is_constraints p.m) (Step.are_lengths p d l) (is_room w iw) (Step.are_kinds p.kinds) (test (Step.are_widths p.kinds p.widths p.m) Width a)

module _ (p : Problem) (a : Answer Step) (d d' l l' : List Float) (r : List ℕ) (w w' : List Float) (iw iw' : List ℕ) (old : Float) (entries : length r ≡ 6) where
  same : tested p d l w iw a ≡ report_call p d l r w iw a
  same =
      sym (reported (is_dimension p.n && is_constraints p.m) (Step.are_lengths p d l) (is_room w iw) (Step.are_kinds p.kinds) (test (Step.are_widths p.kinds p.widths p.m) Width a))
      ∙ ap (λ (b : Bool). call (is_dimension p.n && is_constraints p.m) (Step.are_lengths p d l && b) (is_room w iw) (Step.are_kinds p.kinds) (test (Step.are_widths p.kinds p.widths p.m) Width a))
      (sym (eq-eqb (length r) 6 entries))

  pub step-leaves : (o : Step.Outcome) (k : ℕ) (x : Float) (r' y y' : List ℕ) → Step.Steps (tested p d l w iw a) (report_of p) o d d' l l' w w' iw iw'
      → Tells o k old x r r' y y' → StepLeaves (report_call p d l r w iw a) (report_of p) k old x r r' y y' d d' l l' w w' iw iw'
  step-leaves o k x r' y y' q t =
      let v = subst (λ (b : Answer Step). Step.Steps b (report_of p) o d d' l l' w w' iw iw') same q in
      record {
        the_call = record { the_outcome = refl; the_d = v.the_d; the_multipliers = v.the_multipliers; the_floats = v.the_floats; the_words = v.the_words };
        told = subst (λ (b : Step.Outcome). Tells b k old x r r' y y') v.the_outcome t;
      }

-- a report of another length
module _ (p : Problem) (a : Answer Step) (d l : List Float) (r : List ℕ) (w : List Float) (iw : List ℕ) (old : Float) (other : eqb (length r) 6 ≡ false) where
  shut : (s b k m : Bool) → call s (b && false) m k (test (Step.are_widths p.kinds p.widths p.m) Width a) ≡ refused (cond s Length Size)
  shut true true k m = refl
  shut true false k m = refl
  shut false b k m = refl

  untold : (s : Bool) (k : ℕ) (y : List ℕ) → k ≡ cond s 2 1 → StepLeaves (refused (cond s Length Size)) (report_of p) k old old r r y y d d l l w w iw iw
  untold true k y h =
      record {
        the_call = record { the_outcome = refl; the_d = refl; the_multipliers = refl; the_floats = refl; the_words = refl };
        told = record { the_number = h; the_relaxation = refl; the_report = refl; the_tally = refl };
      }
  untold false k y h =
      record {
        the_call = record { the_outcome = refl; the_d = refl; the_multipliers = refl; the_floats = refl; the_words = refl };
        told = record { the_number = h; the_relaxation = refl; the_report = refl; the_tally = refl };
      }

  pub no-report : (k : ℕ) (y : List ℕ) → k ≡ cond (is_dimension p.n && is_constraints p.m) 2 1 → StepLeaves (report_call p d l r w iw a) (report_of p) k old old r r y y d d l l w w iw iw
  no-report k y h =
      rw (other, shut (is_dimension p.n && is_constraints p.m) (Step.are_lengths p d l) (Step.are_kinds p.kinds) (is_room w iw)) (untold (is_dimension p.n && is_constraints p.m) k y h)
