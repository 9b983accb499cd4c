-- Without bands every answer is as before.
use mathlib.Core.Path.{◌≡◌, refl, ap, ap₂, sym, ◌∙◌, fun_ext}
use mathlib.Core.Bool.{Bool, true, false, cond, ◌&&◌}
use mathlib.Core.List.{List, [], ◌∷◌, ◌++◌}
use mathlib.Core.Logic.{⊎_elim}
use Prim.Native.Nat.{ℕ, zero, suc, ◌+◌, ◌*◌, ◌≤◌, ◌<◌}
use native.Mathlib.Numerals.{add-one}
use native.Mathlib.Omega.{arith}
use lib.Dec.{leb, eqb}
use lib.ListN.{length, take}
use lib.Ieee.{Float, neg}
use borrow.Author.Tests.{leb-true, le-leb, lt-leb}
use Rattle.numbers.specs.Numbers.{+0, at, nth, row, transposed, ◌⊖◌}
use Rattle.numbers.proofs.Cases.{lt-or-ge}
use Rattle.workspace.specs.Tables.{Answer, done, call, test, is_dimension, is_constraints, is_room, has}
use Rattle.workspace.specs.declared.Refusal.TheVariants.{Width}
use Rattle.workspace.proofs.Tests.{and-true}
use Rattle.nnls.specs.Counted.{Counted, and_then}
use Rattle.lsei.specs.Lsei.{Solution, lsi, lsei}
use Rattle.step_rows.specs.Problem.{Problem, Row, row_of, constraint_of, matrix_of, sides_of, each, bound_rows, equation_of, floors_of, relaxed_of, equality_rows, inequality_rows, relaxed_rows}
use Rattle.step.specs.Step.{Step, target, in_order, exact_step, exact, root_weight, relaxed_matrix, paired, clamped, relaxed_step, relaxed, step, report_of}
use Rattle.step.specs.declared.Report.{Report}
use Rattle.step_call.specs.Promise.{are_kinds, is_width, are_widths, are_lengths, outcome_of}
use Rattle.step_call.specs.NoBands as NoBands
use Rattle.step_call.specs.Claims.{with_widths, AsBefore, CallsAsBefore}

-- ---- kinds of before

kinds-le : (ks : List ℕ) → NoBands.are_kinds ks ≡ true → (j : ℕ) → nth ks j ≤ 1
unfolding NoBands.are_kinds
kinds-le [] h j = omega arith
kinds-le (k ∷ ks) h zero = leb-true k 1 (and-true (leb k 1) (NoBands.are_kinds ks) h).0
kinds-le (k ∷ ks) h (suc j) = kinds-le ks (and-true (leb k 1) (NoBands.are_kinds ks) h).1 j

kinds-rest : (k : ℕ) (ks : List ℕ) → NoBands.are_kinds (k ∷ ks) ≡ true → (k ≤ 1) × (NoBands.are_kinds ks ≡ true)
unfolding NoBands.are_kinds
kinds-rest k ks h = let p = and-true (leb k 1) (NoBands.are_kinds ks) h in (leb-true k 1 p.0, p.1)

-- ---- rows

each_same : (n : ℕ) (f g : ℕ → List Row) → ((j : ℕ) → f j ≡ g j) → each n f ≡ each n g
unfolding each
each_same zero f g h = refl
each_same (suc n) f g h = rw (h zero, each_same n (λ i. f (suc i)) (λ i. g (suc i)) (λ j. h (suc j)))

equation-same : (k : ℕ) (w : Float) (a : List Float) (c : Float) → k ≤ 1 → equation_of (constraint_of k w) a c ≡ cond (eqb k 0) (row_of a (neg c) ∷ []) []
equation-same zero w a c h = refl
equation-same (suc zero) w a c h = refl
equation-same (suc (suc k)) w a c h = absurd (omega arith)

floors-same : (k : ℕ) (w : Float) (a : List Float) (c : Float) → k ≤ 1 → floors_of (constraint_of k w) a c ≡ cond (eqb k 0) [] (row_of a (neg c) ∷ [])
floors-same zero w a c h = refl
floors-same (suc zero) w a c h = refl
floors-same (suc (suc k)) w a c h = absurd (omega arith)

loosened-same : (k : ℕ) (w : Float) (a : List Float) (c : Float) → k ≤ 1 → relaxed_of (constraint_of k w) a c ≡ NoBands.relaxed_of (eqb k 0) a c
loosened-same zero w a c h = refl
loosened-same (suc zero) w a c h = refl
loosened-same (suc (suc k)) w a c h = absurd (omega arith)

module _ (p : Problem) (ws : List Float) (h : NoBands.are_kinds p.kinds ≡ true) where
  equalities-same : equality_rows (with_widths p ws) ≡ NoBands.equality_rows p
  unfolding equality_rows NoBands.equality_rows
  equalities-same =
      each_same p.m (λ j. equation_of (constraint_of (nth p.kinds j) (at ws j)) (row p.n j p.jacobian) (at p.values j)) (λ j. cond (NoBands.is_equality p j) (NoBands.exact_row p j ∷ []) [])
      (λ j. equation-same (nth p.kinds j) (at ws j) (row p.n j p.jacobian) (at p.values j) (kinds-le p.kinds h j))

  bounds-same : (cols : ℕ) → bound_rows cols (with_widths p ws) ≡ bound_rows cols p
  unfolding bound_rows
  bounds-same cols = refl

  inequalities-same : inequality_rows (with_widths p ws) ≡ NoBands.inequality_rows p
  unfolding inequality_rows NoBands.inequality_rows
  inequalities-same =
      ap₂ (λ (a b : List Row). a ++ b)
      (each_same p.m (λ j. floors_of (constraint_of (nth p.kinds j) (at ws j)) (row p.n j p.jacobian) (at p.values j)) (λ j. cond (NoBands.is_equality p j) [] (NoBands.exact_row p j ∷ []))
      (λ j. floors-same (nth p.kinds j) (at ws j) (row p.n j p.jacobian) (at p.values j) (kinds-le p.kinds h j)))
      (bounds-same p.n)

  relaxed-rows-same : relaxed_rows (with_widths p ws) ≡ NoBands.relaxed_rows p
  unfolding relaxed_rows NoBands.relaxed_rows
  relaxed-rows-same =
      rw (
        bounds-same (p.n + 1),
        each_same p.m (λ j. relaxed_of (constraint_of (nth p.kinds j) (at ws j)) (row p.n j p.jacobian) (at p.values j)) (λ j. NoBands.relaxed_of (NoBands.is_equality p j) (row p.n j p.jacobian) (at p.values j))
            (λ j. loosened-same (nth p.kinds j) (at ws j) (row p.n j p.jacobian) (at p.values j) (kinds-le p.kinds h j)),
      )

-- ---- multipliers

order_same : (ks : List ℕ) (e i : ℕ) (l : List Float) → NoBands.are_kinds ks ≡ true → in_order ks e i l ≡ NoBands.in_order ks e i l
unfolding in_order NoBands.in_order
order_same [] e i l h = refl
order_same (zero ∷ ks) e i l h = ap (λ (v : List Float). at l e ∷ v) (order_same ks (e + 1) i l (kinds-rest zero ks h).1 ∙ ap (λ (x : ℕ). NoBands.in_order ks x i l) (add-one e))
order_same (suc zero ∷ ks) e i l h = ap (λ (v : List Float). at l i ∷ v) (order_same ks e (i + 1) l (kinds-rest 1 ks h).1 ∙ ap (λ (x : ℕ). NoBands.in_order ks e x l) (add-one i))
order_same (suc (suc k) ∷ ks) e i l h = let z = (kinds-rest (suc (suc k)) ks h).0 in absurd (omega (arith, z))

paired_same : (ks : List ℕ) (next : ℕ) (l : List Float) → NoBands.are_kinds ks ≡ true → paired ks next l ≡ NoBands.paired ks next l
unfolding paired NoBands.paired
paired_same [] next l h = refl
paired_same (zero ∷ ks) next l h = ap (λ (v : List Float). (at l next ⊖ at l (next + 1)) ∷ v) (paired_same ks (next + 2) l (kinds-rest zero ks h).1)
paired_same (suc zero ∷ ks) next l h = ap (λ (v : List Float). at l next ∷ v) (paired_same ks (next + 1) l (kinds-rest 1 ks h).1)
paired_same (suc (suc k) ∷ ks) next l h = let z = (kinds-rest (suc (suc k)) ks h).0 in absurd (omega (arith, z))

-- ---- the two problems, and the step

-- what a solution is made into is the same, so the answer is
made-same : (c : Counted Solution) (f g : Solution → Step) → ((s : Solution) → f s ≡ g s) → and_then c (λ s. done (f s)) ≡ and_then c (λ s. done (g s))
made-same c f g h = ap (λ (k : Solution → Step). and_then c (λ s. done (k s))) (fun_ext h)

module _ (p : Problem) (ws : List Float) (h : NoBands.are_kinds p.kinds ≡ true) where
  exact-step-same : (c : ℕ) (s : Solution) → exact_step (with_widths p ws) c s ≡ NoBands.exact_step p c s
  unfolding exact_step NoBands.exact_step
  exact-step-same c s = ap (λ (v : List Float). record { d = s.x; multipliers = v; relaxation = +0 }) (order_same p.kinds 0 c s.multipliers h)

  exact_same : (f : List Float) → exact (with_widths p ws) f ≡ NoBands.exact p f
  unfolding exact NoBands.exact
  exact_same f =
      let eqs = NoBands.equality_rows p in
      let ineqs = NoBands.inequality_rows p in
      rw (equalities-same p ws h, inequalities-same p ws h)
      (made-same (lsei p.n (length eqs) p.n (length ineqs) (matrix_of eqs) (sides_of eqs) (transposed p.n p.n p.factor) f (matrix_of ineqs) (sides_of ineqs)) (exact_step (with_widths p ws) (length eqs)) (NoBands.exact_step p (length eqs)) (exact-step-same (length eqs)))

  relaxed-step-same : (s : Solution) → relaxed_step (with_widths p ws) s ≡ NoBands.relaxed_step p s
  unfolding relaxed_step NoBands.relaxed_step
  relaxed-step-same s = ap (λ (v : List Float). record { d = take p.n s.x; multipliers = v; relaxation = clamped (at s.x p.n) }) (paired_same p.kinds 0 s.multipliers h)

  relaxed-same : (f : List Float) → relaxed (with_widths p ws) f ≡ NoBands.relaxed p f
  unfolding relaxed NoBands.relaxed
  relaxed-same f =
      let rs = NoBands.relaxed_rows p in
      rw (relaxed-rows-same p ws h)
      (made-same (lsi (p.n + 1) (p.n + 1) (length rs) (relaxed_matrix p.n root_weight p.factor) (f ++ (+0 ∷ [])) (matrix_of rs) (sides_of rs)) (relaxed_step (with_widths p ws)) (NoBands.relaxed_step p) relaxed-step-same)

  target-same : target (with_widths p ws) ≡ target p
  unfolding target
  target-same = refl

  step_same : step (with_widths p ws) ≡ NoBands.step p
  unfolding step NoBands.step
  step_same = rw (target-same, exact_same (target p), relaxed-same (target p)) refl

  report-same : report_of (with_widths p ws) ≡ NoBands.report_of p
  unfolding report_of NoBands.report_of
  report-same = rw (target-same, exact_same (target p), relaxed-same (target p)) refl

pub as_before : AsBefore
as_before p ws h = (step_same p ws h, report-same p ws h)

-- ---- calls

one-kind : (k : ℕ) → (k ≡ 2 → ⊥) → leb k 2 ≡ leb k 1
one-kind k h =
    ⊎_elim (λ (l : k < 2). le-leb k 2 (omega arith) ∙ sym (le-leb k 1 (omega arith)))
    (λ (l : 2 ≤ k). ⊎_elim (λ (g : k < 3). absurd (h (omega arith))) (λ (g : 3 ≤ k). lt-leb k 2 (omega arith) ∙ sym (lt-leb k 1 (omega arith))) (lt-or-ge k 3))
    (lt-or-ge k 2)

kinds-same : (ks : List ℕ) → ((j : ℕ) → nth ks j ≡ 2 → ⊥) → are_kinds ks ≡ NoBands.are_kinds ks
unfolding are_kinds NoBands.are_kinds
kinds-same [] h = refl
kinds-same (k ∷ ks) h = rw (one-kind k (h zero), kinds-same ks (λ j. h (suc j)))

-- kinds of before are kinds
pub kinds-true : (ks : List ℕ) → NoBands.are_kinds ks ≡ true → are_kinds ks ≡ true
unfolding are_kinds
kinds-true [] h = refl
kinds-true (k ∷ ks) h =
    let p = kinds-rest k ks h in
    rw (le-leb k 2 (let q = p.0 in omega (arith, q)), kinds-true ks p.1)

width-true : (k : ℕ) (w : Float) → k ≤ 1 → is_width (constraint_of k w) ≡ true
width-true zero w h = refl
width-true (suc zero) w h = refl
width-true (suc (suc k)) w h = absurd (omega arith)

pub widths-true : (ks : List ℕ) (ws : List Float) → NoBands.are_kinds ks ≡ true → (j : ℕ) → are_widths ks ws j ≡ true
unfolding are_widths
widths-true ks ws h zero = refl
widths-true ks ws h (suc j) = rw (widths-true ks ws h j, width-true (nth ks j) (at ws j) (kinds-le ks h j))

and_right : (a : Bool) → (a && true) ≡ a
and_right true = refl
and_right false = refl

lengths-same : (p : Problem) (ws d l : List Float) → has ws p.m ≡ true → are_lengths (with_widths p ws) d l ≡ NoBands.are_lengths p d l
lengths-same p ws d l h =
    rw h
    (ap (λ (b : Bool). b && has p.lower p.n && has p.upper p.n && has d p.n && has l p.m)
    (and_right (has p.factor (p.n * p.n) && has p.gradient p.n && has p.kinds p.m && has p.values p.m && has p.jacobian (p.m * p.n))))

-- an answer and a report, by what the tests found
module _ (sizes lengths room kinds widths : Bool) (a b : Answer Step) (t u : Report) (h : kinds ≡ true → widths ≡ true) (e : kinds ≡ true → a ≡ b) (f : kinds ≡ true → t ≡ u) where
  abbrev new : Answer Step
  new = call sizes lengths room kinds (test widths Width a)

  abbrev old : Answer Step
  old = call sizes lengths room kinds b

  same-call : (new ≡ old) × (outcome_of new t ≡ outcome_of old u)
  same-call = go sizes lengths room kinds refl
    where
      go : (s l r k : Bool) → kinds ≡ k
          → (call s l r k (test widths Width a) ≡ call s l r k b) × (outcome_of (call s l r k (test widths Width a)) t ≡ outcome_of (call s l r k b) u)
      go false l r k q = (refl, refl)
      go true false r k q = (refl, refl)
      go true true false k q = (refl, refl)
      go true true true false q = (refl, refl)
      go true true true true q = rw (h q, e q, f q) (refl, refl)

pub calls-as-before : CallsAsBefore
calls-as-before p ws d l w iw hw nk =
    rw (lengths-same p ws d l hw, kinds-same p.kinds nk)
    (same-call (is_dimension p.n && is_constraints p.m) (NoBands.are_lengths p d l) (is_room w iw) (NoBands.are_kinds p.kinds) (are_widths p.kinds ws p.m)
    (step (with_widths p ws)).answer (NoBands.step p).answer (report_of (with_widths p ws)) (NoBands.report_of p)
    (λ h. widths-true p.kinds ws h p.m) (λ h. ap (λ (c : Counted Step). c.answer) (step_same p ws h)) (report-same p ws))
