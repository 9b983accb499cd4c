-- A call: the state in the slices, and what it becomes.
use Prim.Native.Nat.{ℕ, zero, suc, ◌*◌, ◌≤◌, ◌<◌}
use mathlib.Core.Path.{◌≡◌, refl, sym, ap, ap₂, ◌∙◌, subst}
use mathlib.Core.Bool.{Bool, true, false, cond, ◌&&◌}
use mathlib.Core.List.{List}
use mathlib.Core.Option.{Option, none, some}
use native.Mathlib.Omega.{arith}
use borrow.Author.Tests.{eq-eqb, ne_eqb}
use lib.Dec.{T, leb, eqb, leb→le}
use lib.ListN.{length}
use lib.Ieee.{Float}
use Rattle.numbers.specs.Numbers.{at, nth}
use Rattle.workspace.specs.Tables.{is_dimension, is_constraints}
use Rattle.workspace.specs.Readings.{vec, nums}
use Rattle.search.specs.Setup.{is_budget, is_scheme, are_kinds, nonfinite, are_finite}
use Rattle.search.specs.Turn.{backtracks, report_of}
use Rattle.search.specs.Written.{report_for}
use Rattle.search.specs.Machine.{Machine, ended, starting, trying, sloping, raised, lowered, tell}
use Rattle.search.specs.Layout.{setup_in, new_in, iterate_in, line_in, goal_in, known, state_in, are_words, machine_in}
use Rattle.search.specs.inner.Work.{Ready, Turned}
use Rattle.search_next.specs.inner.Next.{begun_in, judged_in, arrived_in, raised_in, second_in, single_in, resumed_in, broken_in, wanted_at, Heard, Told}

-- ---- the words are good

and_first : (a b : Bool) → (a && b) ≡ true → a ≡ true
and_first true b h = refl
and_first false b h = h

and-rest : (a b : Bool) → (a && b) ≡ true → b ≡ true
and-rest true b h = h
and-rest false b h = absurd (subst T (sym h) tt)

below : (a b : ℕ) → leb a b ≡ true → a ≤ b
below a b h = leb→le a b (subst T (sym h) tt)

record Good (u : List ℕ) : Type 0 where
  some : 1 ≤ nth u 8
  few : nth u 8 ≤ 16
  constraints : nth u 9 ≤ 16
  fresh : nth u 3 ≤ 1
  rows : nth u 5 ≤ nth u 9
  cols : nth u 6 < nth u 8
  kinds : are_kinds (nums 16 (nth u 9) u) ≡ true

split : (a b c d e f g h i j : Bool) → (a && b && c && d && e && f && g && h && i && j) ≡ true → (a ≡ true) × (b ≡ true) × (f ≡ true) × (h ≡ true) × (i ≡ true) × (j ≡ true)
split false b c d e f g h i j z = absurd (subst T (sym z) tt)
split true false c d e f g h i j z = absurd (subst T (sym z) tt)
split true true false d e f g h i j z = absurd (subst T (sym z) tt)
split true true true false e f g h i j z = absurd (subst T (sym z) tt)
split true true true true false f g h i j z = absurd (subst T (sym z) tt)
split true true true true true false g h i j z = absurd (subst T (sym z) tt)
split true true true true true true false h i j z = absurd (subst T (sym z) tt)
split true true true true true true true false i j z = absurd (subst T (sym z) tt)
split true true true true true true true true false j z = absurd (subst T (sym z) tt)
split true true true true true true true true true false z = absurd (subst T (sym z) tt)
split true true true true true true true true true true z = (refl, refl, refl, refl, refl, refl)

good-words : (u : List ℕ) → are_words u ≡ true → Good u
good-words u h =
    let s = split (is_dimension (nth u 8)) (is_constraints (nth u 9)) (is_scheme (nth u 10)) (is_budget (nth u 1)) (leb (nth u 2) backtracks) (leb (nth u 3) 1) (leb (nth u 4) 1) (leb (nth u 5) (nth u 9)) (leb (suc (nth u 6)) (nth u 8)) (are_kinds (nums 16 (nth u 9) u)) h in
    record {
      some = below 1 (nth u 8) (and_first (leb 1 (nth u 8)) (leb (nth u 8) 16) s.0);
      few = below (nth u 8) 16 (and-rest (leb 1 (nth u 8)) (leb (nth u 8) 16) s.0);
      constraints = below (nth u 9) 16 s.1;
      fresh = below (nth u 3) 1 s.2;
      rows = below (nth u 5) (nth u 9) s.3;
      cols = below (suc (nth u 6)) (nth u 8) s.4;
      kinds = s.5;
    }

pub heard-ready : (n m : ℕ) (v f : List Float) (u : List ℕ) → Heard v f u → n ≡ nth u 8 → m ≡ nth u 9 → Ready n m f u
heard-ready n m v f u h en em =
    let g = good-words u h.good in
    record {
      floats = h.floats;
      words = h.words;
      some = omega (arith, g.some);
      few = omega (arith, g.few);
      constraints = omega (arith, g.constraints);
      variables = sym en;
      functions = sym em;
      kinds = ap (λ (t : ℕ). are_kinds (nums 16 t u)) em ∙ g.kinds;
      fresh = g.fresh;
    }

pub heard-rows : (n m : ℕ) (v f : List Float) (u : List ℕ) → Heard v f u → Ready n m f u → (nth u 5 ≤ m) × (nth u 6 < n)
heard-rows n m v f u h r = let g = good-words u h.good in (omega (arith, g.rows, r.functions), omega (arith, g.cols, r.variables))

-- ---- as long as it is to be

pub told-values : (n m k : ℕ) (v f : List Float) (u : List ℕ) → Heard v f u → Ready n m f u → nth u 0 ≡ k → 1 ≤ k → k ≤ 2 → length v ≡ suc m
told-values n m zero v f u h r e o l = absurd (omega arith)
told-values n m (suc zero) v f u h r e o l = h.told ∙ ap (λ (k : ℕ). wanted_at k (nth u 8) (nth u 9)) e ∙ ap suc r.functions
told-values n m (suc (suc zero)) v f u h r e o l = h.told ∙ ap (λ (k : ℕ). wanted_at k (nth u 8) (nth u 9)) e ∙ ap suc r.functions
told-values n m (suc (suc (suc k))) v f u h r e o l = absurd (omega arith)

pub told-slopes : (n m : ℕ) (v f : List Float) (u : List ℕ) → Heard v f u → Ready n m f u → nth u 0 ≡ 3 → length v ≡ suc m * n
told-slopes n m v f u h r e = h.told ∙ ap (λ (k : ℕ). wanted_at k (nth u 8) (nth u 9)) e ∙ ap₂ (λ (a b : ℕ). suc a * b) r.functions r.variables

pub told-single : (k : ℕ) (v f : List Float) (u : List ℕ) → Heard v f u → nth u 0 ≡ k → 4 ≤ k → length v ≡ 1
told-single zero v f u h e l = absurd (omega arith)
told-single (suc zero) v f u h e l = absurd (omega arith)
told-single (suc (suc zero)) v f u h e l = absurd (omega arith)
told-single (suc (suc (suc zero))) v f u h e l = absurd (omega arith)
told-single (suc (suc (suc (suc k)))) v f u h e l = h.told ∙ ap (λ (k : ℕ). wanted_at k (nth u 8) (nth u 9)) e

-- ---- the state that hears

abbrev given : Option Machine → Machine → Machine
given none M = M
given (some M) N = M

some_is : (M N : Machine) → some M ≡ some N → M ≡ N
some_is M N h = ap (λ (t : Option Machine). given t M) h

machine-is : (k : ℕ) (v f : List Float) (u : List ℕ) → Heard v f u → nth u 0 ≡ k → machine_in f u ≡ state_in k (nth u 8) (nth u 9) f u
unfolding machine_in
machine-is k v f u h e = rw h.good (ap (λ (t : ℕ). state_in t (nth u 8) (nth u 9) f u) e)

-- at the start
start_is : (v f : List Float) (u : List ℕ) (M : Machine) → state_in 1 (nth u 8) (nth u 9) f u ≡ some M → begun_in (nth u 8) (nth u 9) f u v ≡ tell (setup_in f u) M v
unfolding state_in tell
start_is v f u M h = ap (λ (t : Machine). tell (setup_in f u) t v) (some_is (starting (nth u 1) (vec 112 (nth u 8) f)) M h)

pub hear-start : (n m : ℕ) (v f f' : List Float) (u u' : List ℕ) → Heard v f u → n ≡ nth u 8 → m ≡ nth u 9 → nth u 0 ≡ 1 → Turned (setup_in f u) (begun_in n m f u v) f f' u u' → Told v f f' u u'
hear-start n m v f f' u u' h en em e t M q =
    subst (λ (N : Machine). Turned (setup_in f u) N f f' u u') (ap₂ (λ (a b : ℕ). begun_in a b f u v) en em ∙ start_is v f u M (sym (machine-is 1 v f u h e) ∙ q)) t

-- behind it, by the phase
abbrev broken_by : (k n m : ℕ) (f : List Float) (u : List ℕ) → Machine
broken_by k n m f u = ended nonfinite (cond (eqb k 2) (report_of (iterate_in n m f u)) (report_for (setup_in f u) (goal_in n m f u) (new_in n m f)))

broken-is : (k : ℕ) (v f : List Float) (u : List ℕ) (M : Machine) → 2 ≤ k → k ≤ 5 → are_finite v ≡ false → state_in k (nth u 8) (nth u 9) f u ≡ some M → broken_by k (nth u 8) (nth u 9) f u ≡ tell (setup_in f u) M v
unfolding state_in tell
broken-is zero v f u M o l e h = absurd (omega arith)
broken-is (suc zero) v f u M o l e h = absurd (omega arith)
broken-is (suc (suc zero)) v f u M o l e h =
    let N = trying (nth u 1) (iterate_in (nth u 8) (nth u 9) f u) (line_in (nth u 8) f) (at f 1) (nth u 2) in
    (let a : ended nonfinite (report_of (iterate_in (nth u 8) (nth u 9) f u)) ≡ tell (setup_in f u) N v = rw e refl in a) ∙ ap (λ (t : Machine). tell (setup_in f u) t v) (some_is N M h)
broken-is (suc (suc (suc zero))) v f u M o l e h =
    let N = sloping (nth u 1) (goal_in (nth u 8) (nth u 9) f u) (new_in (nth u 8) (nth u 9) f) in
    (let a : broken_by 3 (nth u 8) (nth u 9) f u ≡ tell (setup_in f u) N v = rw e refl in a) ∙ ap (λ (t : Machine). tell (setup_in f u) t v) (some_is N M h)
broken-is (suc (suc (suc (suc zero)))) v f u M o l e h =
    let N = raised (nth u 1) (goal_in (nth u 8) (nth u 9) f u) (new_in (nth u 8) (nth u 9) f) (nth u 5) (nth u 6) (vec 448 (known (nth u 8) (nth u 9) (nth u 5) (nth u 6)) f) in
    (let a : broken_by 4 (nth u 8) (nth u 9) f u ≡ tell (setup_in f u) N v = rw e refl in a) ∙ ap (λ (t : Machine). tell (setup_in f u) t v) (some_is N M h)
broken-is (suc (suc (suc (suc (suc zero))))) v f u M o l e h =
    let N = lowered (nth u 1) (goal_in (nth u 8) (nth u 9) f u) (new_in (nth u 8) (nth u 9) f) (nth u 5) (nth u 6) (vec 448 (known (nth u 8) (nth u 9) (nth u 5) (nth u 6)) f) (at f 4) in
    (let a : broken_by 5 (nth u 8) (nth u 9) f u ≡ tell (setup_in f u) N v = rw e refl in a) ∙ ap (λ (t : Machine). tell (setup_in f u) t v) (some_is N M h)
broken-is (suc (suc (suc (suc (suc (suc k)))))) v f u M o l e h = absurd (omega arith)

pub hear-broken : (n m : ℕ) (v f f' : List Float) (u u' : List ℕ) → Heard v f u → n ≡ nth u 8 → m ≡ nth u 9 → (nth u 0 ≡ 1 → ⊥) → are_finite v ≡ false → Turned (setup_in f u) (broken_in n m f u) f f' u u' → Told v f f' u u'
hear-broken n m v f f' u u' h en em e b t M q =
    let o = h.asked in
    subst (λ (N : Machine). Turned (setup_in f u) N f f' u u')
    (ap₂ (λ (x y : ℕ). broken_in x y f u) en em ∙ broken-is (nth u 0) v f u M (behind-start (nth u 0) o e) h.waiting b (sym (machine-is (nth u 0) v f u h refl) ∙ q)) t
  where
    behind-start : (k : ℕ) → 1 ≤ k → (k ≡ 1 → ⊥) → 2 ≤ k
    behind-start zero o e = absurd (omega arith)
    behind-start (suc zero) o e = absurd (e refl)
    behind-start (suc (suc k)) o e = omega arith

abbrev resumed_by : (k n m : ℕ) (f : List Float) (u : List ℕ) → (v : List Float) → Machine
resumed_by k n m f u v = cond (eqb k 2) (judged_in n m f u v) (cond (eqb k 3) (arrived_in n m f u v) (cond (eqb k 4) (raised_in n m f u (nth u 5) (nth u 6) (at v 0)) (second_in n m f u (nth u 5) (nth u 6) (at v 0))))

resumed-is : (k : ℕ) (v f : List Float) (u : List ℕ) (M : Machine) → 2 ≤ k → k ≤ 5 → are_finite v ≡ true → state_in k (nth u 8) (nth u 9) f u ≡ some M → resumed_by k (nth u 8) (nth u 9) f u v ≡ tell (setup_in f u) M v
unfolding state_in tell
resumed-is zero v f u M o l e h = absurd (omega arith)
resumed-is (suc zero) v f u M o l e h = absurd (omega arith)
resumed-is (suc (suc zero)) v f u M o l e h =
    let N = trying (nth u 1) (iterate_in (nth u 8) (nth u 9) f u) (line_in (nth u 8) f) (at f 1) (nth u 2) in
    (let a : judged_in (nth u 8) (nth u 9) f u v ≡ tell (setup_in f u) N v = rw e refl in a) ∙ ap (λ (t : Machine). tell (setup_in f u) t v) (some_is N M h)
resumed-is (suc (suc (suc zero))) v f u M o l e h =
    let N = sloping (nth u 1) (goal_in (nth u 8) (nth u 9) f u) (new_in (nth u 8) (nth u 9) f) in
    (let a : arrived_in (nth u 8) (nth u 9) f u v ≡ tell (setup_in f u) N v = rw e refl in a) ∙ ap (λ (t : Machine). tell (setup_in f u) t v) (some_is N M h)
resumed-is (suc (suc (suc (suc zero)))) v f u M o l e h =
    let N = raised (nth u 1) (goal_in (nth u 8) (nth u 9) f u) (new_in (nth u 8) (nth u 9) f) (nth u 5) (nth u 6) (vec 448 (known (nth u 8) (nth u 9) (nth u 5) (nth u 6)) f) in
    (let a : raised_in (nth u 8) (nth u 9) f u (nth u 5) (nth u 6) (at v 0) ≡ tell (setup_in f u) N v = rw e refl in a) ∙ ap (λ (t : Machine). tell (setup_in f u) t v) (some_is N M h)
resumed-is (suc (suc (suc (suc (suc zero))))) v f u M o l e h =
    let N = lowered (nth u 1) (goal_in (nth u 8) (nth u 9) f u) (new_in (nth u 8) (nth u 9) f) (nth u 5) (nth u 6) (vec 448 (known (nth u 8) (nth u 9) (nth u 5) (nth u 6)) f) (at f 4) in
    (let a : second_in (nth u 8) (nth u 9) f u (nth u 5) (nth u 6) (at v 0) ≡ tell (setup_in f u) N v = rw e refl in a) ∙ ap (λ (t : Machine). tell (setup_in f u) t v) (some_is N M h)
resumed-is (suc (suc (suc (suc (suc (suc k)))))) v f u M o l e h = absurd (omega arith)

pub hear-resumed : (n m : ℕ) (v f f' : List Float) (u u' : List ℕ) → Heard v f u → n ≡ nth u 8 → m ≡ nth u 9 → 2 ≤ nth u 0 → are_finite v ≡ true → Turned (setup_in f u) (resumed_in n m f u v) f f' u u' → Told v f f' u u'
hear-resumed n m v f f' u u' h en em e b t M q =
    subst (λ (N : Machine). Turned (setup_in f u) N f f' u u')
    (ap₂ (λ (x y : ℕ). resumed_in x y f u v) en em ∙ resumed-is (nth u 0) v f u M e h.waiting b (sym (machine-is (nth u 0) v f u h refl) ∙ q)) t

-- ---- behind the start, with finite numbers

module _ (n m : ℕ) (v f f' : List Float) (u u' : List ℕ) where
  pub resume-trial : nth u 0 ≡ 2 → Turned (setup_in f u) (judged_in n m f u v) f f' u u' → Turned (setup_in f u) (resumed_in n m f u v) f f' u u'
  resume-trial e t = rw (eq-eqb (nth u 0) 2 e) t

  pub resume-slopes : (nth u 0 ≡ 2 → ⊥) → nth u 0 ≡ 3 → Turned (setup_in f u) (arrived_in n m f u v) f f' u u' → Turned (setup_in f u) (resumed_in n m f u v) f f' u u'
  resume-slopes a e t = rw (ne_eqb (nth u 0) 2 a, eq-eqb (nth u 0) 3 e) t

  pub resume-single : (nth u 0 ≡ 2 → ⊥) → (nth u 0 ≡ 3 → ⊥) → Turned (setup_in f u) (single_in n m f u (at v 0)) f f' u u' → Turned (setup_in f u) (resumed_in n m f u v) f f' u u'
  resume-single a b t = rw (ne_eqb (nth u 0) 2 a, ne_eqb (nth u 0) 3 b) t
