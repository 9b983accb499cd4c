-- Tests before whatever follows: where all pass it answers, and where one fails nothing else counts.
use mathlib.Core.Path.{◌≡◌, refl, sym, ap, ◌∙◌}
use mathlib.Core.Bool.{Bool, true, false, ◌&&◌}
use mathlib.Core.List.{List, map}
use Prim.Native.Nat.{ℕ, zero, suc, ◌*◌, ◌<◌, ◌≤◌}
use native.Mathlib.Omega.{arith}
use lib.Dec.{leb}
use lib.ListN.{length}
use lib.Ieee.{Float}
use borrow.Author.Tests.{leb-true, le-leb, lt-leb}
use Rattle.workspace.specs.Tables.{Answer, done, refused, call, test, outcome_of, is_late, is_dimension, is_constraints, has}
use Rattle.workspace.specs.declared.Refusal.{Refusal}
use Rattle.workspace.specs.declared.Refusal.TheVariants.{Size, Length, Room, Kind, Width, Bound, Output, Triangle}
use Rattle.workspace.specs.Tables.{Outcome}
use Rattle.std.specs.Prelude.{Ok, Err}
use Rattle.workspace.proofs.Tests.{and-true}
use Rattle.step_call.specs.Promise.{are_kinds, are_widths}
use Rattle.step_call.specs.Strict.{is_bounded, bounds}
use Rattle.problem_read.specs.Bits.{number}
use Rattle.problem_write.specs.File.{records_of, file}
use Rattle.problem_write.specs.Lent.{Lent, problem_in}
use Rattle.problem_write.specs.inner.Work.{Sized}
use Rattle.problem_write.proofs.Few.{file-length, few-records}
use Rattle.problem_write_call.specs.Promise.{are_lengths, are_clear}
use Rattle.problem_write_call.specs.inner.Work.{strict_tests, strict_told, file_tests, file_told, call_told}
use Rattle.problem_write_call.proofs.Told.{are_first, sized}

pub never : {A : Type 0} (r : Refusal) → ◌≡◌ {A = Outcome} (Err r) (Ok tt) → A
never r e = let z : ◌≡◌ {A = ℕ} 0 1 = cc in absurd (let y : ⊥ = omega arith in y)

same-refusal : (r k : Refusal) → ◌≡◌ {A = Outcome} (Err r) (Err k) → r ≡ k
same-refusal r k e = cc

-- refused, before the arithmetic
abbrev pub Stops : {A : Type 0} → Answer A → Refusal → Type 0
Stops a k = (a ≡ refused k) × (is_late k ≡ false)

-- ---- one test

test-passed : (p : Bool) (r : Refusal) (x : Answer Unit) → outcome_of (test p r x) ≡ Ok tt → (p ≡ true) × (outcome_of x ≡ Ok tt)
test-passed true r x e = (refl, e)
test-passed false r x e = never r e

test-stopped : {A : Type 0} (p : Bool) (r k : Refusal) (x : Answer Unit) (a : Answer A) → is_late r ≡ false → (outcome_of x ≡ Err k → Stops a k) → outcome_of (test p r x) ≡ Err k → Stops (test p r a) k
test-stopped true r k x a l h e = h e
test-stopped false r k x a l h e = let z = same-refusal r k e in (ap refused z, ap is_late (sym z) ∙ l)

-- ---- bounds

module _ (l u : List Float) where
  bounds-passed : (n i : ℕ) (x : Answer Unit) → outcome_of (bounds l u n i x) ≡ Ok tt → outcome_of x ≡ Ok tt
  unfolding bounds
  bounds-passed zero i x e = e
  bounds-passed (suc n) i x e = bounds-passed n (suc i) x (test-passed (is_bounded l u i) (Bound i) (bounds l u n (suc i) x) e).1

  bounds-pass : {A : Type 0} (n i : ℕ) (x : Answer Unit) (a : Answer A) → outcome_of (bounds l u n i x) ≡ Ok tt → bounds l u n i a ≡ a
  unfolding bounds
  bounds-pass zero i x a e = refl
  bounds-pass (suc n) i x a e =
      let q = test-passed (is_bounded l u i) (Bound i) (bounds l u n (suc i) x) e in
      rw q.0 (bounds-pass n (suc i) x a q.1)

  bounds-stopped : {A : Type 0} (n i : ℕ) (k : Refusal) (x : Answer Unit) (a : Answer A) → (outcome_of x ≡ Err k → Stops a k) → outcome_of (bounds l u n i x) ≡ Err k → Stops (bounds l u n i a) k
  unfolding bounds
  bounds-stopped zero i k x a h e = h e
  bounds-stopped (suc n) i k x a h e =
      test-stopped (is_bounded l u i) (Bound i) k (bounds l u n (suc i) x) (bounds l u n (suc i) a) refl (bounds-stopped n (suc i) k x a h) e

-- ---- the first four

record CallPassed (s l r k : Bool) (x : Answer Unit) : Type 0 where
  sizes : s ≡ true
  lengths : l ≡ true
  room : r ≡ true
  kinds : k ≡ true
  rest : outcome_of x ≡ Ok tt

call-passed : (s l r k : Bool) (x : Answer Unit) → outcome_of (call s l r k x) ≡ Ok tt → CallPassed s l r k x
call-passed false l r k x e = never Size e
call-passed true false r k x e = never Length e
call-passed true true false k x e = never Room e
call-passed true true true false x e = never Kind e
call-passed true true true true x e = record { sizes = refl; lengths = refl; room = refl; kinds = refl; rest = e }

call-stopped : {A : Type 0} (s l r k : Bool) (q : Refusal) (x : Answer Unit) (a : Answer A) → (outcome_of x ≡ Err q → Stops a q) → outcome_of (call s l r k x) ≡ Err q → Stops (call s l r k a) q
call-stopped false l r k q x a h e = let z = same-refusal Size q e in (ap refused z, ap is_late (sym z))
call-stopped true false r k q x a h e = let z = same-refusal Length q e in (ap refused z, ap is_late (sym z))
call-stopped true true false k q x a h e = let z = same-refusal Room q e in (ap refused z, ap is_late (sym z))
call-stopped true true true false q x a h e = let z = same-refusal Kind q e in (ap refused z, ap is_late (sym z))
call-stopped true true true true q x a h e = h e

-- ---- all of the strict step's

lengths-split : (a b c d : Bool) → (a && b && c && d) ≡ true → (a ≡ true) × ((b && c && d) ≡ true)
lengths-split true b c d h = (refl, h)
lengths-split false b c d h = let z : ◌≡◌ {A = ℕ} 0 1 = cc in absurd (omega arith)

module _ (p : Lent) (w v : ℕ) where
  abbrev are_sizes : Bool
  are_sizes = is_dimension p.n && is_constraints p.m

  abbrev is_roomy : Bool
  is_roomy = leb 8192 w && leb 512 v

  abbrev are_wide : Bool
  are_wide = are_widths p.kinds (map number p.widths) p.m

  abbrev bounded : {A : Type 0} → Answer A → Answer A
  bounded a = bounds (map number p.lower) (map number p.upper) p.n 0 a

  pub record StrictPassed (x : Answer Unit) : Type 1 where
    pub the_sizes : Sized p
    pub the_floats : 8192 ≤ w
    pub the_words : 512 ≤ v
    pub the_rest : outcome_of x ≡ Ok tt
    pub the_answer : (A : Type 0) (a : Answer A) → strict_tests p w v a ≡ a

  pub strict-passed : (x : Answer Unit) → outcome_of (strict_tests p w v x) ≡ Ok tt → StrictPassed x
  strict-passed x e =
      let c = call-passed are_sizes (are_lengths p) is_roomy (are_kinds p.kinds) (test are_wide Width (bounded x)) e in
      let t = test-passed are_wide Width (bounded x) c.rest in
      let l = lengths-split (are_first p) (has p.widths p.m) (has p.lower p.n) (has p.upper p.n) c.lengths in
      let r = and-true (leb 8192 w) (leb 512 v) c.room in
      record {
        the_sizes = sized p c.sizes l.0 l.1;
        the_floats = leb-true 8192 w r.0;
        the_words = leb-true 512 v r.1;
        the_rest = bounds-passed (map number p.lower) (map number p.upper) p.n 0 x t.1;
        the_answer = λ A a. rw (c.sizes, c.lengths, c.room, c.kinds, t.0) (bounds-pass (map number p.lower) (map number p.upper) p.n 0 x a t.1);
      }

  pub strict-stopped : {A : Type 0} (k : Refusal) (x : Answer Unit) (a : Answer A) → (outcome_of x ≡ Err k → Stops a k) → outcome_of (strict_tests p w v x) ≡ Err k → Stops (strict_tests p w v a) k
  strict-stopped k x a h e =
      call-stopped are_sizes (are_lengths p) is_roomy (are_kinds p.kinds) k (test are_wide Width (bounded x)) (test are_wide Width (bounded a))
      (test-stopped are_wide Width k (bounded x) (bounded a) refl (bounds-stopped (map number p.lower) (map number p.upper) p.n 0 k x a h)) e

-- ---- the file's

module _ (p : Lent) (out : ℕ) where
  abbrev size : ℕ
  size = length (file (problem_in p))

  pub size-most : Sized p → size ≤ 7568
  unfolding problem_in
  size-most s = few-records (problem_in p) s.variables s.constraints

  pub told-triangle : are_clear p.n p.factor ≡ false → Err Triangle ≡ file_told p out
  told-triangle h = rw h refl

  module _ (records : ℕ) (e : records ≡ length (records_of (problem_in p))) where
    bytes-are : 16 * records ≡ size
    bytes-are = ap (λ (x : ℕ). 16 * x) e ∙ sym (file-length (problem_in p))

    pub told-output : are_clear p.n p.factor ≡ true → out < 16 * records → Err Output ≡ file_told p out
    told-output h l = let q = bytes-are in rw (h, lt-leb size out (omega (arith, q))) refl

    pub told-file : are_clear p.n p.factor ≡ true → 16 * records ≤ out → (Ok tt) ≡ file_told p out
    told-file h l = let q = bytes-are in rw (h, le-leb size out (omega (arith, q))) refl

    pub records-fit : Sized p → 16 * records ≤ 7568
    records-fit s = let q = bytes-are in let f = size-most s in omega (arith, q, f)

  file-passed : outcome_of {A = Unit} (file_tests p out (done tt)) ≡ Ok tt → (are_clear p.n p.factor ≡ true) × (size ≤ out)
  file-passed e =
      let a = test-passed (are_clear p.n p.factor) Triangle (test (leb size out) Output (done tt)) e in
      let b = test-passed (leb size out) Output (done tt) a.1 in
      (a.0, leb-true size out b.0)

  file-stopped : (f : List ℕ) (k : Refusal) → outcome_of {A = Unit} (file_tests p out (done tt)) ≡ Err k → Stops (file_tests p out (done f)) k
  file-stopped f k e =
      test-stopped (are_clear p.n p.factor) Triangle k (test (leb size out) Output (done tt)) (test (leb size out) Output (done f)) refl
      (test-stopped (leb size out) Output k (done tt) (done f) refl (λ q. never k (sym q))) e

-- ---- the whole call

module _ (p : Lent) (out w v : ℕ) where
  pub told-strict : strict_told p w v ≡ Ok tt → file_told p out ≡ call_told p out w v
  told-strict e = sym (ap outcome_of ((strict-passed p w v (done tt) e).the_answer Unit (file_tests p out (done tt))))

  pub told-stopped : (k : Refusal) → strict_told p w v ≡ Err k → Err k ≡ call_told p out w v
  told-stopped k e = sym (ap outcome_of (strict-stopped p w v k (done tt) (file_tests p out (done tt)) (λ q. never k (sym q)) e).0)

  pub record CallDone : Type 0 where
    pub the_sizes : Sized p
    pub the_floats : 8192 ≤ w
    pub the_words : 512 ≤ v
    pub the_factor : are_clear p.n p.factor ≡ true
    pub the_room : length (file (problem_in p)) ≤ out
    pub the_answer : strict_tests p w v (file_tests p out (done (file (problem_in p)))) ≡ done (file (problem_in p))

  pub call-done : call_told p out w v ≡ Ok tt → CallDone
  call-done e =
      let s = strict-passed p w v (file_tests p out (done tt)) e in
      let f = file-passed p out s.the_rest in
      let g = le-leb (length (file (problem_in p))) out f.1 in
      record {
        the_sizes = s.the_sizes;
        the_floats = s.the_floats;
        the_words = s.the_words;
        the_factor = f.0;
        the_room = f.1;
        the_answer = s.the_answer (List ℕ) (file_tests p out (done (file (problem_in p)))) ∙ rw (f.0, g) refl;
      }

  pub call-refused : (k : Refusal) → call_told p out w v ≡ Err k → Stops (strict_tests p w v (file_tests p out (done (file (problem_in p))))) k
  call-refused k e = strict-stopped p w v k (file_tests p out (done tt)) (file_tests p out (done (file (problem_in p)))) (file-stopped p out (file (problem_in p)) k) e
