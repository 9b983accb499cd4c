-- The tests of the call, and what it leaves by its answer.
use mathlib.Core.Path.{◌≡◌, refl, sym, ap, ◌∙◌}
use mathlib.Core.Bool.{Bool, true, false, ◌&&◌}
use mathlib.Core.List.{List, [], ◌∷◌, ◌++◌}
use Prim.Native.Nat.{ℕ, zero, suc, ◌*◌, ◌≤◌, ◌<◌}
use native.Mathlib.Omega.{arith}
use lib.Dec.{eqb, leb}
use lib.ListN.{length, drop, length-append}
use lib.Ieee.{Float}
use borrow.Author.Tests.{le-leb, lt-leb, eqb-true}
use Rattle.numbers.specs.Numbers.{+0}
use Rattle.workspace.specs.Tables.{Answer, refused, is_late, call, test, is_dimension, is_constraints}
use Rattle.workspace.specs.declared.Refusal.{Refusal}
use Rattle.workspace.specs.declared.Refusal.TheVariants.{Size, Length, Room, Kind, Width}
use Rattle.workspace.proofs.Parts.{vec-front, front-cleared}
use Rattle.workspace.proofs.Tests.{and-true, dimension-le, constraints-le}
use Rattle.step_rows.specs.Problem.{Problem}
use Rattle.step.specs.Step.{Step, step, report_of}
use Rattle.step_call.specs.Promise.{are_kinds, Outcome, stepped, refused_by, Steps}
use Rattle.step.specs.inner.Work.{EndsStep}
use Rattle.step.specs.declared.Report.{Report}
use Rattle.step_call.specs.inner.Work.{StepGiven}
use Rattle.std.specs.Prelude.{Result, Ok, Err, MatchBool}
use Rattle.std.specs.List.{AllWithin, HoldsAt}

-- ---- the tests

pub sizes-le : (n m : ℕ) → (is_dimension n && is_constraints m) ≡ true → (n ≤ 16) × (m ≤ 16)
sizes-le n m h = let p = and-true (is_dimension n) (is_constraints m) h in (dimension-le n p.0, constraints-le m p.1)

pub lengths-are : (n m a b c d e : ℕ) → (eqb a (n * n) && eqb b n && eqb c m && eqb d m && eqb e (m * n)) ≡ true
    → (a ≡ n * n) × (b ≡ n) × (c ≡ m) × (d ≡ m) × (e ≡ m * n)
lengths-are n m a b c d e h =
    let p = and-true (eqb a (n * n) && eqb b n && eqb c m && eqb d m) (eqb e (m * n)) h in
    let q = and-true (eqb a (n * n) && eqb b n && eqb c m) (eqb d m) p.0 in
    let r = and-true (eqb a (n * n) && eqb b n) (eqb c m) q.0 in
    let s = and-true (eqb a (n * n)) (eqb b n) r.0 in
    (eqb-true a (n * n) s.0, eqb-true b n s.1, eqb-true c m r.1, eqb-true d m q.1, eqb-true e (m * n) p.1)

pub others-are : (n m x a b c d : ℕ) → (eqb x m && eqb a n && eqb b n && eqb c n && eqb d m) ≡ true → (x ≡ m) × (a ≡ n) × (b ≡ n) × (c ≡ n) × (d ≡ m)
others-are n m x a b c d h =
    let p = and-true (eqb x m && eqb a n && eqb b n && eqb c n) (eqb d m) h in
    let q = and-true (eqb x m && eqb a n && eqb b n) (eqb c n) p.0 in
    let r = and-true (eqb x m && eqb a n) (eqb b n) q.0 in
    let s = and-true (eqb x m) (eqb a n) r.0 in
    (eqb-true x m s.0, eqb-true a n s.1, eqb-true b n r.1, eqb-true c n q.1, eqb-true d m p.1)

-- the kinds, by what `all` tells of them
and-false : (b : Bool) → false ≡ (b && false)
and-false true = refl
and-false false = refl

pub kinds-told : (ks : List ℕ) (r : Bool) → MatchBool r (AllWithin (λ k. k ≤ 2) ks 0 (length ks)) ((j : ℕ) × (j < length ks) × HoldsAt (λ k. 2 < k) ks j) → r ≡ are_kinds ks
unfolding are_kinds
kinds-told [] true h = refl
kinds-told [] false (j, l, q) = absurd (omega arith)
kinds-told (k ∷ ks) true h = let z : k ≤ 2 = h 0 0 (omega arith) (omega arith) in rw (le-leb k 2 z) (kinds-told ks true (λ j d m l. h (suc j) d (omega arith) (omega arith)))
kinds-told (k ∷ ks) false (zero, l, q) = let z : 2 < k = q 0 in rw (lt-leb k 2 z)
kinds-told (k ∷ ks) false (suc j, l, q) = and-false (leb k 2) ∙ ap (λ (b : Bool). leb k 2 && b) (kinds-told ks false (j, omega arith, q))

-- ---- the call, by what its tests found

module _ (a : Answer Step) (t : Report) (s l r k : Bool) (d x w : List Float) (iw : List ℕ) where
  pub size-refused : s ≡ false → Steps (call s l r k a) t (Err Size) d d x x w w iw iw
  size-refused e = rw e (record { the_outcome = refl; the_d = refl; the_multipliers = refl; the_floats = refl; the_words = refl })

  pub length-refused : s ≡ true → l ≡ false → Steps (call s l r k a) t (Err Length) d d x x w w iw iw
  length-refused e f = rw (e, f) (record { the_outcome = refl; the_d = refl; the_multipliers = refl; the_floats = refl; the_words = refl })

  pub room-refused : s ≡ true → l ≡ true → r ≡ false → Steps (call s l r k a) t (Err Room) d d x x w w iw iw
  room-refused e f g = rw (e, f, g) (record { the_outcome = refl; the_d = refl; the_multipliers = refl; the_floats = refl; the_words = refl })

  pub kind-refused : s ≡ true → l ≡ true → r ≡ true → k ≡ false → Steps (call s l r k a) t (Err Kind) d d x x w w iw iw
  kind-refused e f g h = rw (e, f, g, h) (record { the_outcome = refl; the_d = refl; the_multipliers = refl; the_floats = refl; the_words = refl })

pub width-refused : (a : Answer Step) (t : Report) (s l r k v : Bool) (d x w : List Float) (iw : List ℕ)
    → s ≡ true → l ≡ true → r ≡ true → k ≡ true → v ≡ false → Steps (call s l r k (test v Width a)) t (Err Width) d d x x w w iw iw
width-refused a t s l r k v d x w iw e f g h i = rw (e, f, g, h, i) (record { the_outcome = refl; the_d = refl; the_multipliers = refl; the_floats = refl; the_words = refl })

-- a bound is refused, and nothing is written
pub bound-refused : (a : Answer Step) (t : Report) (s l r k v : Bool) (q : Refusal) (d x w : List Float) (iw : List ℕ)
    → s ≡ true → l ≡ true → r ≡ true → k ≡ true → v ≡ true → (a ≡ refused q) × (is_late q ≡ false) → Steps (call s l r k (test v Width a)) t (Err q) d d x x w w iw iw
bound-refused a t s l r k v q d x w iw e f g h i j =
    rw (e, f, g, h, i, j.0) (record { the_outcome = rw j.1 refl; the_d = refl; the_multipliers = refl; the_floats = rw j.1 refl; the_words = rw j.1 refl })

pub call-answered : (a b : Answer Step) (y : Report) (s l r k v : Bool) (o : Outcome) (d d' x x' w w' : List Float) (iw iw' : List ℕ)
    → s ≡ true → l ≡ true → r ≡ true → k ≡ true → v ≡ true → a ≡ b → Steps b y o d d' x x' w w' iw iw' → Steps (call s l r k (test v Width a)) y o d d' x x' w w' iw iw'
call-answered a b y s l r k v o d d' x x' w w' iw iw' e f g h i j t = rw (e, f, g, h, i, j) t

-- the ten lengths in two tests
pub lengths-bad : (a b c d e f : Bool) → a ≡ false → (a && b && c && d && e && f) ≡ false
lengths-bad a b c d e f h = rw h

pub lengths-good : (a b c d e f : Bool) → a ≡ true → (b && c && d && e && f) ≡ true → (a && b && c && d && e && f) ≡ true
lengths-good a b c d e f h k = rw h k

pub lengths-rest : (a b c d e f : Bool) → a ≡ true → (b && c && d && e && f) ≡ false → (a && b && c && d && e && f) ≡ false
lengths-rest a b c d e f h k = rw h k

-- ---- the answer: v and u are what the step left of the workspaces' parts

pub step_given : (n m : ℕ) (p : Problem) (x : Result Float Refusal) (t : Report) (d d' l l' v w w' : List Float) (u iw iw' : List ℕ) → n ≤ 16 → m ≤ 16 → length v ≡ 8192 → length u ≡ 512
    → EndsStep n m (stepped x t) v p → StepGiven n m (stepped x t) d d' l l' (v ++ drop 8192 w) w' (u ++ drop 512 iw) iw' → Steps (step p).answer (report_of p) (Ok (stepped x t)) d d' l l' w w' iw iw'
step_given n m p (Ok delta) t d d' l l' v w w' u iw iw' hn hm lv lu e g =
    rw (← e.the_answer, ← e.the_report)
    (record {
      the_outcome = refl;
      the_d = g.the_d ∙ vec-front v (drop 8192 w) 18 n (omega arith);
      the_multipliers = g.the_multipliers ∙ vec-front v (drop 8192 w) 36 m (omega arith);
      the_floats = g.both.floats ∙ front-cleared +0 8192 v w lv;
      the_words = g.both.words ∙ front-cleared 0 512 u iw lu;
    })
step_given n m p (Err k) t d d' l l' v w w' u iw iw' hn hm lv lu e g =
    let late : is_late k ≡ true = e.late in
    rw (← e.the_answer, ← e.the_report)
    (record {
      the_outcome = sym (ap (λ (b : Bool). refused_by b k t) late);
      the_d = g.the_d;
      the_multipliers = g.the_multipliers;
      the_floats = rw late (g.both.floats ∙ front-cleared +0 8192 v w lv);
      the_words = rw late (g.both.words ∙ front-cleared 0 512 u iw lu);
    })

-- the first k entries came back as v, and the whole is at least as long
pub front_long : {A : Type 0} (k : ℕ) (v w : List A) → length v ≡ k → k ≤ length (v ++ drop k w)
front_long k v w e = omega (arith, length-append v (drop k w))
