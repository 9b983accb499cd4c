-- What is shown of calls.
use mathlib.Core.Path.{◌≡◌, refl, sym, ap, ◌∙◌, subst}
use mathlib.Core.Bool.{Bool, true, false, ◌&&◌}
use mathlib.Core.List.{List}
use mathlib.Core.Logic.{⊎_elim}
use Prim.Native.Nat.{ℕ, zero, suc, ◌^◌, ◌<◌, ◌≤◌}
use native.Mathlib.Omega.{arith}
use lib.Dec.{leb}
use lib.ListN.{length, take, drop, get_or-eq_default, length-map}
use lib.Seq.{take_at}
use lib.Ieee.{Float}
use borrow.Author.Tests.{le-leb}
use Rattle.numbers.specs.Numbers.{nth, tab}
use Rattle.numbers.proofs.Lists.{length-tab, get_d-tab}
use Rattle.numbers.proofs.Cases.{lt-or-ge}
use Rattle.workspace.specs.Tables.{Answer, done, refused, call, test, output, is_dimension, is_constraints, is_room, has}
use Rattle.workspace.specs.declared.Refusal.{Refusal}
use Rattle.workspace.specs.declared.Refusal.TheVariants.{Width, Triangle, Output}
use Rattle.workspace.specs.Tables as Told
use Rattle.std.specs.Prelude.{Ok, Err}
use Rattle.step.specs.Step.{step}
use Rattle.step_call.specs.Promise as Step
use Rattle.step_call.specs.Promise.{are_kinds, are_widths}
use Rattle.step_call.specs.Strict.{bounds}
use Rattle.problem_read.specs.Bits.{ConstraintBits, equality}
use Rattle.problem_read.specs.Input.{decode, in_numbers, read_numbers}
use Rattle.problem_write.specs.File.{constraint_at, file}
use Rattle.problem_write.specs.Lent.{Lent, constraint_in, problem_in}
use Rattle.problem_write.specs.Claims.{Pattern, Writable}
use Rattle.problem_write.specs.inner.Work.{Sized}
use Rattle.problem_write.proofs.Trip.{round_trip, same-files}
use Rattle.problem_write_call.specs.Promise.{numbers_in, are_lengths, are_clear, write_call, WritesFile}
use Rattle.problem_write_call.specs.Claims.{SameTests, AllPatterns, WritesWritable, Rereads, SameCalls, RoomSuffices, OneAnswer}
use Rattle.problem_write_call.specs.inner.Work.{strict_tests, strict_told, file_tests, call_told}
use Rattle.problem_write_call.proofs.Testing.{above-is-clear}
use Rattle.problem_write_call.proofs.Passed.{never, strict-passed, strict-stopped, size-most, CallDone, call-done, call-refused}
use Rattle.std.specs.Prelude.{Ok, Err, Result}

pub one_answer : OneAnswer
one_answer c o p out out' out'' w w' w'' iw iw' iw'' s t =
    (s.the_outcome ∙ sym t.the_outcome, s.the_output ∙ sym t.the_output, s.the_floats ∙ sym t.the_floats, s.the_words ∙ sym t.the_words)

-- ---- the strict step's tests

last-two : (a b c : Bool) → b ≡ true → c ≡ true → (a && b && c) ≡ a
last-two true b c h k = rw (h, k) refl
last-two false b c h k = refl

lengths-same : (p : Lent) (d l : List Float) → has d p.n ≡ true → has l p.m ≡ true → Step.are_lengths (numbers_in p) d l ≡ are_lengths p
lengths-same p d l h k = simp length-map (last-two (are_lengths p) (has d p.n) (has l p.m) h k)

pub same_tests : SameTests
same_tests p d l w iw h k =
    let q = numbers_in p in
    ap
    (λ (b : Bool). call (is_dimension q.n && is_constraints q.m) b (is_room w iw) (are_kinds q.kinds)
    (test (are_widths q.kinds q.widths q.m) Width (bounds q.lower q.upper q.n 0 (step q).answer)))
    (lengths-same p d l h k)

-- ---- a call that is done has passed every test

not-refused : {A : Type 0} (k : Refusal) (f : List ℕ) → ◌≡◌ {A = Answer (List ℕ)} (refused k) (done f) → A
not-refused k f e = let z : ◌≡◌ {A = ℕ} 0 1 = cc in absurd (let y : ⊥ = omega arith in y)

same_file : (f g : List ℕ) → ◌≡◌ {A = Answer (List ℕ)} (done f) (done g) → f ≡ g
same_file f g e = cc

module _ (p : Lent) (out : List ℕ) (w : List Float) (iw : List ℕ) (f : List ℕ) (e : write_call p out w iw ≡ done f) where
  passed : CallDone p (length out) (length w) (length iw)
  passed = go (call_told p (length out) (length w) (length iw)) refl
    where
      go : (o : Told.Outcome) → call_told p (length out) (length w) (length iw) ≡ o → CallDone p (length out) (length w) (length iw)
      go (Ok tt) h = call-done p (length out) (length w) (length iw) h
      go (Err k) h = not-refused k f (sym (call-refused p (length out) (length w) (length iw) k h).0 ∙ e)

  the_file : f ≡ file (problem_in p)
  the_file = same_file f (file (problem_in p)) (sym e ∙ passed.the_answer)

-- ---- what was lent can be read back

kind-pattern : (k v w : ℕ) → v < 2 ^ 64 → w < 2 ^ 64 → Pattern (constraint_in k v w)
kind-pattern zero v w h l = h
kind-pattern (suc zero) v w h l = h
kind-pattern (suc (suc k)) v w h l = (h, l)

constraint-pattern : (p : Lent) → AllPatterns p → (i : ℕ) → Pattern (constraint_at (problem_in p) i)
unfolding problem_in
constraint-pattern p h i =
    let f : ℕ → ConstraintBits = λ j. constraint_in (nth p.kinds j) (nth p.values j) (nth p.widths j) in
    ⊎_elim (λ (l : i < p.m). subst Pattern (sym (get_d-tab p.m f (equality 0) i l)) (kind-pattern (nth p.kinds i) (nth p.values i) (nth p.widths i) (h.value_bits i) (h.width_bits i)))
    (λ (l : p.m ≤ i). let e = length-tab p.m f in let none : Pattern (equality 0) = omega arith in subst Pattern (sym (get_or-eq_default (tab p.m f) (equality 0) {n = i} (omega (arith, e)))) none)
    (lt-or-ge i p.m)

writable : (p : Lent) → AllPatterns p → Sized p → are_clear p.n p.factor ≡ true → Writable (problem_in p)
unfolding problem_in
writable p h s c = record {
  some_variables = s.some_variables;
  variables = s.variables;
  some_constraints = s.constraints;
  the_factor = s.the_factor;
  the_gradient = s.the_gradient;
  the_constraints = length-tab p.m (λ j. constraint_in (nth p.kinds j) (nth p.values j) (nth p.widths j));
  the_jacobian = s.the_jacobian;
  the_lower = s.the_lower;
  the_upper = s.the_upper;
  factor_bits = h.factor_bits;
  gradient_bits = h.gradient_bits;
  constraint_bits = constraint-pattern p h;
  jacobian_bits = h.jacobian_bits;
  lower_bits = h.lower_bits;
  upper_bits = h.upper_bits;
  above = above-is-clear p.n p.factor c;
}

pub writes-writable : WritesWritable
writes-writable p out w iw f h e = let d = passed p out w iw f e in (writable p h d.the_sizes d.the_factor, the_file p out w iw f e)

pub same-calls : SameCalls
same-calls p q out out₁ w w₁ iw iw₁ f g h k d e =
    let a = writes-writable p out w iw f h d in
    let b = writes-writable q out₁ w₁ iw₁ g k e in
    let s = same-files (problem_in p) (problem_in q) a.0 b.0 in
    (λ z. a.1 ∙ s.0 z ∙ sym b.1, λ z. s.1 (sym a.1 ∙ z ∙ b.1))

-- ---- the bytes that a call tells

-- done with k bytes
record Told-bytes (c : Answer (List ℕ)) (k : ℕ) (out out' : List ℕ) : Type 0 where
  bytes : List ℕ
  is-done : c ≡ done bytes
  are-first : take k out' ≡ bytes

not_done : {A : Type 0} (k : ℕ) (r : Refusal) → ◌≡◌ {A = Result ℕ Refusal} (Ok k) (Err r) → A
not_done k r e = let z : ◌≡◌ {A = ℕ} 0 1 = cc in absurd (let y : ⊥ = omega arith in y)

same_count : (k n : ℕ) → ◌≡◌ {A = Result ℕ Refusal} (Ok k) (Ok n) → k ≡ n
same_count k n e = cc

told-bytes : (c : Answer (List ℕ)) (k : ℕ) (out out' : List ℕ) (w w' : List Float) (iw iw' : List ℕ) → WritesFile c (Ok k) out out' w w' iw iw' → Told-bytes c k out out'
told-bytes (done f) k out out' w w' iw iw' h = record {
  bytes = f;
  is-done = refl;
  are-first = ap (take k) h.the_output ∙ take_at f (drop (length f) out) k (sym (same_count k (length f) h.the_outcome));
}
told-bytes (refused r) k out out' w w' iw iw' h = not_done k r h.the_outcome

pub rereads : Rereads
unfolding read_numbers
rereads p k out out' w w' iw iw' h s =
    let t = told-bytes (write_call p out w iw) k out out' w w' iw iw' s in
    let a = writes-writable p out w iw t.bytes h t.is-done in
    let e = ap decode (t.are-first ∙ a.1) ∙ round_trip (problem_in p) a.0 in
    (e, ap in_numbers e)

-- ---- room that always suffices

pub room-suffices : RoomSuffices
room-suffices p out w iw h = go (strict_told p (length w) (length iw)) refl
  where
    go : (o : Told.Outcome) → strict_told p (length w) (length iw) ≡ o
        → strict_tests p (length w) (length iw) (file_tests p (length out) (done (file (problem_in p)))) ≡ strict_tests p (length w) (length iw) (test (are_clear p.n p.factor) Triangle (done (file (problem_in p))))
    go (Ok tt) e =
        let s = strict-passed p (length w) (length iw) (done tt) e in
        let m = size-most p (length out) s.the_sizes in
        let q : leb (length (file (problem_in p))) (length out) ≡ true = le-leb (length (file (problem_in p))) (length out) (omega (arith, m, h)) in
        ap (λ (b : Bool). strict_tests p (length w) (length iw) (test (are_clear p.n p.factor) Triangle (test b Output (done (file (problem_in p)))))) q
    go (Err k) e =
        (strict-stopped p (length w) (length iw) k (done tt) (file_tests p (length out) (done (file (problem_in p)))) (λ z. never k (sym z)) e).0
        ∙ sym (strict-stopped p (length w) (length iw) k (done tt) (test (are_clear p.n p.factor) Triangle (done (file (problem_in p)))) (λ z. never k (sym z)) e).0
