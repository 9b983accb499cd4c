-- The slices hold the machine over all calls.
use Prim.Native.Nat.{ℕ, zero, suc, ◌-◌, ◌≤◌, ◌<◌}
use native.Mathlib.Omega.{arith}
use mathlib.Core.Path.{◌≡◌, refl, sym, ap, ◌∙◌, subst}
use mathlib.Core.Bool.{Bool, true, false, cond, ◌&&◌, not, true≢false}
use mathlib.Core.List.{List, [], ◌∷◌, map}
use mathlib.Core.Option.{Option, none, some}
use mathlib.Core.Logic.{⊎_elim}
use lib.Dec.{T, leb, eqb, eqb_refl}
use lib.ListN.{length, take, set, length-set}
use lib.Ieee.{Float, lt}
use borrow.Author.Tests.{leb-true, eqb-true, not-true}
use Rattle.numbers.specs.Numbers.{at}
use Rattle.numbers.proofs.Lists.{length-tab}
use Rattle.numbers.proofs.Cases.{last-or-before}
use Rattle.workspace.specs.Readings.{vec}
use Rattle.workspace.proofs.Tests.{and-true}
use Rattle.workspace.specs.Tables.{Answer, done, refused, number, outcome_number, call, test, floats, words, is_dimension, is_constraints, is_room, is_tolerance, has}
use Rattle.workspace.specs.Tables.{Outcome}
use Rattle.std.specs.Prelude.{Ok, Err}
use Rattle.nnls.proofs.Signs.{T→true}
use Rattle.workspace.specs.declared.Refusal.{Refusal}
use Rattle.workspace.specs.declared.Refusal.TheVariants.{Size, Length, Room, Kind, Tolerance, Bound, Crossed, Unasked}
use Rattle.step_call.specs.Strict.{is_bounded, bounds}
use Rattle.step_call.specs.Claims.{LowestBound, all_bounded, wrong_bound}
use Rattle.step_call.proofs.Strictly.{lowest-variable}
use Rattle.search.specs.Setup.{Setup, is_budget, is_scheme, are_kinds, Question}
use Rattle.search.specs.Written.{Script, ends, asks, Standing, over, waits, written, stands, follow, play}
use Rattle.search.specs.Turn.{along, raise, lower}
use Rattle.search.specs.Machine.{Machine, ended, starting, trying, sloping, raised, lowered, begin, tell, tell_all, standing}
use Rattle.search.specs.Layout.{setup_in, machine_in, laid, setup_floats, setup_words, machine_floats, machine_words, Fits, Posed, Holds}
use Rattle.search.specs.Promise.{are_ordered, heard, tell_in, tell_call, is_wanted, is_waiting, floats_of, words_of, wanted, call_outcome, Runs}
use Rattle.search.specs.Calls.{hears, hears_all, Slices, told_once, told_all, ReadsPoint, BeginsDone, Sound, BegunSound, OverCalls, Stands, CallsAnswered, is_silent, NoQuestion, OneAnswer, BoundsFirst}
use Rattle.search.proofs.Machines.{script, told-alike, stands_alike, begins-alike}
use Rattle.search.proofs.Answers.{answered}
use Rattle.search.proofs.Laying.{length-laid, vec_laid}
use Rattle.search.proofs.Layouts.{written-first, written-again}
use Rattle.search.proofs.Sizes.{fit-tell, fit-begin}

-- a machine that is held, and fits
pub record Kept (p : Setup) (M : Machine) (s : Slices) : Type 0 where
  pub holds : Holds p M s.numbers s.state
  pub fits : Fits p.n p.m M
  pub reads : ReadsPoint p (standing p M) s.numbers

long : (p : Setup) (M : Machine) (f : List Float) (u : List ℕ) → Holds p M f u → (has f 1024 && has u 32) ≡ true
long p M f u h = rw (h.floats, h.words) refl

-- what becomes of the slices, by whether a question stands and the answer has its length
slices : Setup → Answer Machine → Slices → Slices
slices p c s = record { numbers = floats_of false p c s.numbers; state = words_of false p c s.state }

-- the point of the question is laid last
point-read : (n : ℕ) (x f : List Float) → n ≤ 16 → length x ≡ n → length (laid 976 x f) ≡ 1024 → vec 976 n (laid 976 x f) ≡ x
point-read n x f l h g = vec_laid 976 n x f 1024 h (sym (length-laid 976 x f) ∙ g) (omega (arith, l))

asked-read : (p : Setup) (M : Machine) (f : List Float) → Posed p → Fits p.n p.m M → length (machine_floats p M f) ≡ 1024 → ReadsPoint p (standing p M) (machine_floats p M f)
unfolding machine_floats along
asked-read p (ended e r) f h g l = tt
asked-read p (starting b x) f h g l = point-read p.n x _ h.few g.0 l
asked-read p (trying b s line α again) f h g l = point-read p.n (along p s line α) _ h.few (length-tab p.n _) l
asked-read p (sloping b goal q) f h g l = point-read p.n q.x _ h.few g.1.x l
asked-read p (raised b goal q rows cols y) f h g l =
    let i = p.n - suc cols in point-read p.n (set q.x i (raise (at q.x i))) _ h.few (length-set q.x i (raise (at q.x i)) ∙ g.1.x) l
asked-read p (lowered b goal q rows cols y v) f h g l =
    let i = p.n - suc cols in point-read p.n (set q.x i (lower (at q.x i))) _ h.few (length-set q.x i (lower (at q.x i)) ∙ g.1.x) l

heard-kept : (p : Setup) (M : Machine) (s : Slices) (v : List Float) (t w : Bool) → Posed p → Kept p M s → is_waiting (standing p M) ≡ t → is_wanted p (standing p M) v ≡ w
    → Kept p (cond (t && w) (tell p M v) M) (slices p (heard (true && w) true t (tell p M v)) s)
unfolding slices
heard-kept p M s v false false h k e e' = record { holds = k.holds; fits = k.fits; reads = k.reads }
heard-kept p M s v false true h k e e' = record { holds = k.holds; fits = k.fits; reads = k.reads }
heard-kept p M s v true false h k e e' = record { holds = k.holds; fits = k.fits; reads = k.reads }
heard-kept p M s v true true h k e e' =
    let g = fit-tell p M v k.fits (subst T (sym e') tt) in
    let o = written-again p M (tell p M v) s.numbers s.state h g k.holds in
    record { holds = o; fits = g; reads = asked-read p (tell p M v) s.numbers h g o.floats }

once : (p : Setup) (M : Machine) (s : Slices) (v : List Float) → Posed p → Kept p M s → Kept p (hears p M v) (told_once v s)
unfolding slices
once p M s v h k =
    rw (k.holds.problem, k.holds.machine, long p M s.numbers s.state k.holds)
    (heard-kept p M s v (is_waiting (standing p M)) (is_wanted p (standing p M) v) h k refl refl)

all : (vs : List (List Float)) (p : Setup) (M : Machine) (s : Slices) → Posed p → Kept p M s → Kept p (hears_all p M vs) (told_all vs s)
unfolding hears_all told_all
all [] p M s h k = k
all (v ∷ vs) p M s h k = all vs p (hears p M v) (told_once v s) h (once p M s v h k)

-- ---- a beginning that is done

never-refused : {A : Type 0} (k : Refusal) → ◌≡◌ {A = Outcome} (Ok tt) (Err k) → A
never-refused k e = absurd (let y : ⊥ = cc in y)

record Tested (p : Setup) (s l k : Bool) (o : Bool) (m : Machine) (c : Answer Machine) : Type 0 where
  sizes : s ≡ true
  lengths : l ≡ true
  kinds : k ≡ true
  bounded : (i : ℕ) → i < p.n → is_bounded p.lower p.upper i ≡ true
  ordered : o ≡ true
  answers : c ≡ done m

module _ (p : Setup) (m : Machine) where
  last-test : (k o : Bool) (c : Answer Machine) → k ≡ true → LowestBound p.lower p.upper p.n (test o Crossed (done m)) c → (Ok tt) ≡ call_outcome c → Tested p true true k o m c
  last-test k false c h (all_bounded b e) d = never-refused Crossed (d ∙ ap call_outcome e)
  last-test k true c h (all_bounded b e) d = record { sizes = refl; lengths = refl; kinds = h; bounded = b; ordered = refl; answers = e }
  last-test k o c h (wrong_bound i l b f e) d = never-refused (Bound i) (d ∙ ap call_outcome e)

  tests-pass : (s l r k t o : Bool) (c : Answer Machine) → LowestBound p.lower p.upper p.n (test o Crossed (done m)) c → (Ok tt) ≡ call_outcome (call s l r k (test t Tolerance c))
      → Tested p s l k o m (call s l r k (test t Tolerance c))
  tests-pass false l r k t o c b d = never-refused Size d
  tests-pass true false r k t o c b d = never-refused Length d
  tests-pass true true false k t o c b d = never-refused Room d
  tests-pass true true true false t o c b d = never-refused Kind d
  tests-pass true true true true false o c b d = never-refused Tolerance d
  tests-pass true true true true true o c b d = last-test true o c refl b d

-- every bound of those in order
in_order : (n : ℕ) (l u : List Float) → are_ordered n l u ≡ true → (i : ℕ) → i < n → lt (at u i) (at l i) ≡ false
unfolding are_ordered
in_order zero l u h i k = absurd (omega arith)
in_order (suc n) l u h i k =
    let z = and-true (are_ordered n l u) (not (lt (at u n) (at l n))) h in
    ⊎_elim (λ (e : i ≡ n). rw e (not-true (lt (at u n) (at l n)) z.1)) (λ (q : i < n). in_order n l u z.0 i q) (last-or-before n i k)

record Begun (p : Setup) (x : List Float) (b : ℕ) (f : List Float) (u : List ℕ) : Type 0 where
  sound : Sound p b
  the_floats : f ≡ machine_floats p (begin p x b) (setup_floats p)
  the_words : u ≡ machine_words (begin p x b) (setup_words p)

begun : (p : Setup) (scheme : ℕ) (x : List Float) (b : ℕ) (f : List Float) (u : List ℕ) → BeginsDone p scheme x b f u → Begun p x b f u
begun p scheme x b f u d =
    let f₀ = d.0 in
    let u₀ = d.1 in
    let r = d.6 in
    let m = begin p x b in
    let o = are_ordered p.n p.lower p.upper in
    let size = is_dimension p.n && is_constraints p.m && is_budget b && is_scheme scheme in
    let long = has p.kinds p.m && has p.lower p.n && has p.upper p.n && has x p.n && has f₀ 1024 && has u₀ 32 in
    let t = tests-pass p m size long (is_room d.2 d.4) (are_kinds p.kinds) (is_tolerance p.ftol) o (bounds p.lower p.upper p.n 0 (test o Crossed (done m)))
    (lowest-variable Machine p.lower p.upper p.n (test o Crossed (done m))) r.the_outcome in
    let s3 = and-true (is_dimension p.n && is_constraints p.m && is_budget b) (is_scheme scheme) t.sizes in
    let s2 = and-true (is_dimension p.n && is_constraints p.m) (is_budget b) s3.0 in
    let s1 = and-true (is_dimension p.n) (is_constraints p.m) s2.0 in
    let n1 = and-true (leb 1 p.n) (leb p.n 16) s1.0 in
    let l5 = and-true (has p.kinds p.m && has p.lower p.n && has p.upper p.n && has x p.n && has f₀ 1024) (has u₀ 32) t.lengths in
    let l4 = and-true (has p.kinds p.m && has p.lower p.n && has p.upper p.n && has x p.n) (has f₀ 1024) l5.0 in
    let l3 = and-true (has p.kinds p.m && has p.lower p.n && has p.upper p.n) (has x p.n) l4.0 in
    let l2 = and-true (has p.kinds p.m && has p.lower p.n) (has p.upper p.n) l3.0 in
    let l1 = and-true (has p.kinds p.m) (has p.lower p.n) l2.0 in
    record {
      sound = record {
        posed = record {
          some = leb-true 1 p.n n1.0;
          few = leb-true p.n 16 n1.1;
          constraints = leb-true p.m 16 s1.1;
          kinds = eqb-true (length p.kinds) p.m l1.0;
          two = t.kinds;
          lower = eqb-true (length p.lower) p.n l1.1;
          upper = eqb-true (length p.upper) p.n l2.1;
        };
        budget = leb-true b 10000 s2.1;
        bounded = t.bounded;
        ordered = in_order p.n p.lower p.upper t.ordered;
      };
      the_floats = r.the_machine ∙ ap (λ (c : Answer Machine). floats_of true p c f₀) t.answers;
      the_words = r.the_state ∙ ap (λ (c : Answer Machine). words_of true p c u₀) t.answers;
    }

pub begun-sound : BegunSound
begun-sound p scheme x b f u d = (begun p scheme x b f u d).sound

pub kept-all : (p : Setup) (scheme : ℕ) (x : List Float) (b : ℕ) (f : List Float) (u : List ℕ) → BeginsDone p scheme x b f u → (vs : List (List Float))
    → Kept p (hears_all p (begin p x b) vs) (told_all vs (record { numbers = f; state = u }))
kept-all p scheme x b f u d vs =
    let s = begun p scheme x b f u d in
    let h = s.sound.posed in
    let m = begin p x b in
    let g = fit-begin p x b s.sound.budget in
    let o = written-first p m h g in
    let k : Kept p m (record { numbers = f; state = u }) = rw (s.the_floats, s.the_words) (record { holds = o; fits = g; reads = asked-read p m (setup_floats p) h g o.floats }) in
    all vs p m (record { numbers = f; state = u }) h k

pub over-calls : OverCalls
over-calls p scheme x b f u d vs = let k = kept-all p scheme x b f u d vs in (k.holds, k.reads)

-- ---- an answerer who gives as many numbers as are wanted

has-true : (v : List Float) (k : ℕ) → length v ≡ k → has v k ≡ true
has-true v k e = rw e (T→true (eqb k k) (eqb_refl k))

hears-one : (p : Setup) (M : Machine) (q : Question) (v : List Float) → standing p M ≡ waits q → length v ≡ wanted p q → hears p M v ≡ tell p M v
hears-one p M q v e h = rw (e, has-true v (wanted p q) h) refl

-- it hears all that it is told, i answers of them
hears-told : (p : Setup) (a : Question → List Float) → ((q : Question) → length (a q) ≡ wanted p q) → (s : Script) (i : ℕ) (M : Machine) → script p M ≡ s
    → hears_all p M (take i (map a (play a s).asked)) ≡ tell_all p M (take i (map a (play a s).asked))
unfolding play hears_all tell_all
hears-told p a h (ends e r) zero M k = refl
hears-told p a h (ends e r) (suc i) M k = refl
hears-told p a h (asks q l) zero M k = refl
hears-told p a h (asks q l) (suc i) M k =
    ap (λ (N : Machine). hears_all p N (take i (map a (play a (l (a q))).asked))) (hears-one p M q (a q) (stands_alike p M ∙ ap stands k) (h q))
    ∙ hears-told p a h (l (a q)) i (tell p M (a q)) (told-alike p M (a q) ∙ ap (λ (t : Script). follow t (a q)) k)

hears-whole : (p : Setup) (a : Question → List Float) → ((q : Question) → length (a q) ≡ wanted p q) → (s : Script) (M : Machine) → script p M ≡ s
    → hears_all p M (map a (play a s).asked) ≡ tell_all p M (map a (play a s).asked)
unfolding play hears_all tell_all
hears-whole p a h (ends e r) M k = refl
hears-whole p a h (asks q l) M k =
    ap (λ (N : Machine). hears_all p N (map a (play a (l (a q))).asked)) (hears-one p M q (a q) (stands_alike p M ∙ ap stands k) (h q))
    ∙ hears-whole p a h (l (a q)) (tell p M (a q)) (told-alike p M (a q) ∙ ap (λ (t : Script). follow t (a q)) k)

-- what stands after some answers
stand : (p : Setup) (M : Machine) (s : Slices) (w : Standing) → Kept p M s → standing p M ≡ w → Stands p s w
stand p M s w k e = record { machine = M; holds = k.holds; stands = e; reads = subst (λ (t : Standing). ReadsPoint p t s.numbers) e k.reads }

pub calls-answered : CallsAnswered
calls-answered p scheme x b f u d a n =
    let g = answered p x b a in
    let t = play a (written p x b) in
    let s : Slices = record { numbers = f; state = u } in (
      λ i q e.
          stand p (hears_all p (begin p x b) (take i (map a t.asked))) (told_all (take i (map a t.asked)) s) (waits q) (kept-all p scheme x b f u d (take i (map a t.asked)))
          (ap (λ (M : Machine). standing p M) (hears-told p a n (written p x b) i (begin p x b) (begins-alike p x b)) ∙ g.0 i q e),
      stand p (hears_all p (begin p x b) (map a t.asked)) (told_all (map a t.asked) s) (over t.ending t.report) (kept-all p scheme x b f u d (map a t.asked))
          (ap (λ (M : Machine). standing p M) (hears-whole p a n (written p x b) (begin p x b) (begins-alike p x b)) ∙ g.1),
    )

-- ---- no question stands

silent-at : (p : Setup) (v : List Float) (M : Machine) (s : Standing) → not (is_waiting s) ≡ true → heard (true && is_wanted p s v) true (is_waiting s) M ≡ refused Unasked
silent-at p v M (over e r) h = refl
silent-at p v M (waits q) h = absurd (true≢false (sym h))

silent-in : (p : Setup) (o : Option Machine) (v : List Float) → is_silent p o ≡ true → tell_in p o true v true ≡ refused Unasked
silent-in p none v h = refl
silent-in p (some M) v h = silent-at p v (tell p M v) (standing p M) h

-- what a refusal by 18 leaves
unasked : (p : Setup) (c : Answer Machine) (o : Outcome) (f f' : List Float) (u u' : List ℕ) (w w' : List Float) (iw iw' : List ℕ) → c ≡ refused Unasked
    → Runs false p c o f f' u u' w w' iw iw' → (o ≡ Err Unasked) × (outcome_number o ≡ 18) × (f' ≡ f) × (u' ≡ u) × (w' ≡ w) × (iw' ≡ iw)
unasked p c o f f' u u' w w' iw iw' e r = (
  r.the_outcome ∙ ap call_outcome e,
  ap outcome_number (r.the_outcome ∙ ap call_outcome e),
  r.the_machine ∙ ap (λ (t : Answer Machine). floats_of false p t f) e,
  r.the_state ∙ ap (λ (t : Answer Machine). words_of false p t u) e,
  r.the_floats ∙ ap (λ (t : Answer Machine). floats t w) e,
  r.the_words ∙ ap (λ (t : Answer Machine). words t iw) e,
)

pub no-question : NoQuestion
no-question v f f' u u' w w' iw iw' o lf lu room silent r =
    unasked (setup_in f u) (tell_call v f u w iw) o f f' u u' w w' iw iw' (rw (lf, lu, room) (silent-in (setup_in f u) (machine_in f u) v silent)) r

pub one_answer : OneAnswer
one_answer first p c r r' f f' f'' u u' u'' w w' w'' iw iw' iw'' a b = (
  a.the_outcome ∙ sym b.the_outcome,
  a.the_machine ∙ sym b.the_machine,
  a.the_state ∙ sym b.the_state,
  a.the_floats ∙ sym b.the_floats,
  a.the_words ∙ sym b.the_words,
)

-- ---- 15 before 16

module _ (p : Setup) (i : ℕ) (h : i < p.n) where
  bounded : (a c : Answer Machine) → LowestBound p.lower p.upper p.n a c → c ≡ refused Crossed → is_bounded p.lower p.upper i ≡ true
  bounded a c (all_bounded k e) q = k i h
  bounded a c (wrong_bound j l k b e) q = let z : ◌≡◌ {A = ℕ} 15 16 = ap number (sym e ∙ q) in absurd (let y : ⊥ = omega arith in y)

  tested : (s l r k t : Bool) (a c : Answer Machine) → LowestBound p.lower p.upper p.n a c → call s l r k (test t Tolerance c) ≡ refused Crossed → is_bounded p.lower p.upper i ≡ true
  tested false l r k t a c d e = let z : ◌≡◌ {A = ℕ} 1 16 = ap number e in absurd (let y : ⊥ = omega arith in y)
  tested true false r k t a c d e = let z : ◌≡◌ {A = ℕ} 2 16 = ap number e in absurd (let y : ⊥ = omega arith in y)
  tested true true false k t a c d e = let z : ◌≡◌ {A = ℕ} 3 16 = ap number e in absurd (let y : ⊥ = omega arith in y)
  tested true true true false t a c d e = let z : ◌≡◌ {A = ℕ} 4 16 = ap number e in absurd (let y : ⊥ = omega arith in y)
  tested true true true true false a c d e = let z : ◌≡◌ {A = ℕ} 10 16 = ap number e in absurd (let y : ⊥ = omega arith in y)
  tested true true true true true a c d e = bounded a c d e

pub bounds-first : BoundsFirst
bounds-first p scheme x b f u w iw e i h =
    tested p i h (is_dimension p.n && is_constraints p.m && is_budget b && is_scheme scheme)
    (has p.kinds p.m && has p.lower p.n && has p.upper p.n && has x p.n && has f 1024 && has u 32) (is_room w iw) (are_kinds p.kinds) (is_tolerance p.ftol)
    (test (are_ordered p.n p.lower p.upper) Crossed (done (begin p x b))) _
    (lowest-variable Machine p.lower p.upper p.n (test (are_ordered p.n p.lower p.upper) Crossed (done (begin p x b)))) e
