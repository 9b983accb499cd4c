-- How many QR factorings a step takes at most, refused or not.
use mathlib.Core.Path.{◌≡◌, refl, sym, subst}
use mathlib.Core.Bool.{Bool, true, false, ◌&&◌}
use mathlib.Core.List.{List, [], ◌∷◌, ◌++◌}
use mathlib.Core.Logic.{inl, inr}
use Prim.Native.Nat.{ℕ, ◌+◌, ◌*◌, ◌≤◌}
use native.Mathlib.Nat.{mul-le-mul}
use native.Mathlib.Omega.{arith}
use lib.ListN.{length}
use lib.Ieee.{Float}
use Rattle.numbers.specs.Numbers.{+0, transposed}
use Rattle.workspace.specs.Tables.{Answer, done, refused, is_late, call, test, is_dimension, is_constraints, is_room}
use Rattle.workspace.specs.declared.Refusal.{Refusal}
use Rattle.workspace.specs.declared.Refusal.TheVariants.{Width}
use Rattle.workspace.proofs.Tests.{and-true, dimension-le, constraints-le}
use Rattle.nnls.specs.Counted.{Counted}
use Rattle.lsei.proofs.Costs.{lsi-most, lsei-most}
use Rattle.step_rows.specs.Problem.{Problem, matrix_of, sides_of, equality_rows, inequality_rows, relaxed_rows}
use Rattle.step_rows.proofs.Fit.{rows_fit}
use Rattle.step.specs.Step.{Step, target, exact, root_weight, relaxed_matrix, relaxed, step, reported, report_of}
use Rattle.step.specs.declared.Report.{Report}
use Rattle.step_call.specs.Promise.{Outcome, are_kinds, are_widths, are_lengths, refused_by, outcome_of}
use Rattle.step_call.specs.Strict.{bounds}
use Rattle.step_call.specs.Claims.{EitherSteps, most, cost_bound, factorings_told, CostBound, CostMost}

-- ---- of the report

either-most : (a : Answer Step) (first second : Counted Step) (m n : ℕ) → first.factorings ≤ m → second.factorings ≤ n → (reported a first second).factorings ≤ m + n
either-most (done s) first second m n p q = omega arith
either-most (refused k) first second m n p q = omega arith

pub report-most : (p : Problem) → (report_of p).factorings ≤ cost_bound p
unfolding report_of exact relaxed
report-most p =
    let n = p.n in
    let f = target p in
    let eqs = equality_rows p in
    let ineqs = inequality_rows p in
    let rs = relaxed_rows p in
    let a = either-most (exact p f).answer (exact p f) (relaxed p f) (2 + most (length ineqs)) (1 + most (length rs))
    (lsei-most n (length eqs) n (length ineqs) (matrix_of eqs) (sides_of eqs) (transposed n n p.factor) f (matrix_of ineqs) (sides_of ineqs))
    (lsi-most (n + 1) (n + 1) (length rs) (relaxed_matrix n root_weight p.factor) (f ++ (+0 ∷ [])) (matrix_of rs) (sides_of rs)) in
    omega (arith, a)

-- ---- of calls

refused-told : (b : Bool) (r : Refusal) (t : Report) (x : ℕ) → t.factorings ≤ x → factorings_told (refused_by b r t) ≤ x
refused-told true r t x h = h
refused-told false r t x h = omega arith

answer-told : (a : Answer Step) (t : Report) (x : ℕ) → t.factorings ≤ x → factorings_told (outcome_of a t) ≤ x
answer-told (done s) t x h = h
answer-told (refused r) t x h = refused-told (is_late r) r t x h

-- the sizes are tested before anything is spent
call-told : (s l r k : Bool) (a : Answer Step) (t : Report) (x : ℕ) → (s ≡ true → t.factorings ≤ x) → factorings_told (outcome_of (call s l r k a) t) ≤ x
call-told false l r k a t x h = omega arith
call-told true false r k a t x h = omega arith
call-told true true false k a t x h = omega arith
call-told true true true false a t x h = omega arith
call-told true true true true a t x h = answer-told a t x (h refl)

module _ (p : Problem) (o : Outcome) (d d' l l' w w' : List Float) (iw iw' : List ℕ) where
  of-tests : (a : Answer Step) (x : ℕ) → (is_dimension p.n && is_constraints p.m ≡ true → (report_of p).factorings ≤ x)
      → o ≡ outcome_of (call (is_dimension p.n && is_constraints p.m) (are_lengths p d l) (is_room w iw) (are_kinds p.kinds) (test (are_widths p.kinds p.widths p.m) Width a)) (report_of p)
      → factorings_told o ≤ x
  of-tests a x h e =
      subst (λ (q : Outcome). factorings_told q ≤ x) (sym e)
      (call-told (is_dimension p.n && is_constraints p.m) (are_lengths p d l) (is_room w iw) (are_kinds p.kinds) (test (are_widths p.kinds p.widths p.m) Width a) (report_of p) x h)

  of-call : EitherSteps p o d d' l l' w w' iw iw' → (x : ℕ) → (is_dimension p.n && is_constraints p.m ≡ true → (report_of p).factorings ≤ x) → factorings_told o ≤ x
  of-call (inl c) x h = of-tests (step p).answer x h c.the_outcome
  of-call (inr c) x h = of-tests (bounds p.lower p.upper p.n 0 (step p).answer) x h c.the_outcome

pub cost-bound : CostBound
cost-bound p o d d' l l' w w' iw iw' c = of-call p o d d' l l' w w' iw iw' c (cost_bound p) (λ s. report-most p)

-- the bound with as many rows as fit
fitted : (m n p q c : ℕ) → n ≤ 16 → m ≤ 16 → p ≤ 2 * m + 2 * n → q ≤ 2 * m + 2 * n + 2 → c ≤ 3 + most p + most q → c ≤ 25879
fitted m n p q c hn hm hp hq h =
    let p' : p ≤ 64 = omega arith in
    let q' : q ≤ 66 = omega arith in
    let a : p * p ≤ 64 * 64 = mul-le-mul p' p' in
    let b : q * q ≤ 66 * 66 = mul-le-mul q' q' in
    omega arith

pub cost-most : CostMost
cost-most p o d d' l l' w w' iw iw' c =
    of-call p o d d' l l' w w' iw iw' c 25879
    (λ s.
    let t = and-true (is_dimension p.n) (is_constraints p.m) s in
    let r = rows_fit p in
    fitted p.m p.n (length (inequality_rows p)) (length (relaxed_rows p)) (report_of p).factorings (dimension-le p.n t.0) (constraints-le p.m t.1) r.0 r.1 (report-most p))
