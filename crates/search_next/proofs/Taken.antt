-- A new point, with what its slopes are for.
use Prim.Native.Nat.{ℕ, zero, suc, ◌+◌, ◌*◌, ◌≤◌}
use mathlib.Core.Path.{◌≡◌, refl, sym, ap, ap₂, ◌∙◌, subst}
use mathlib.Core.Bool.{true, false, cond}
use mathlib.Core.List.{List, [], ◌∷◌}
use mathlib.Core.Logic.{inl, inr}
use native.Mathlib.Omega.{arith}
use borrow.Author.Tests.{ne_eqb}
use lib.Dec.{eqb}
use lib.ListN.{length}
use lib.Ieee.{Float, nan}
use Rattle.numbers.specs.Numbers.{at, nth, tab, ◌⊕◌, ◌⊗◌}
use Rattle.numbers.proofs.Lists.{length-tab, tab-of}
use Rattle.workspace.specs.Readings.{vec, Block}
use Rattle.workspace.proofs.Readings.{length-vec}
use Rattle.search.specs.Setup.{Setup, nonfinite, are_finite}
use Rattle.search.specs.Turn.{Iterate, point_of, blank, along, clip}
use Rattle.search.specs.Written.{Goal, begun, taken, report_for}
use Rattle.search.specs.Machine.{ended, sloping, raised, slopes_next}
use Rattle.search.specs.Layout.{laid, setup_in, new_in, iterate_in, line_in, goal_in, report_in, machine_floats, FitsPoint, FitsGoal}
use Rattle.search.specs.inner.Work.{Ready, Turned}
use Rattle.search.proofs.Laying.{size, laid_in, laid-below, vec-below, vec_laid, laid-again}
use Rattle.search.proofs.Layouts.{bounds}
use Rattle.search.proofs.Lent.{loaded-laid}
use Rattle.search.proofs.Sizes.{report-for, report-blank}
use Rattle.search.proofs.Turns.{FitsReport, covered, ended-new, sloping-new, raised-new, by-slopes}
use Rattle.search.proofs.Rereads.{words-over, words_same, words-laid, problem-same, problem-laid, setup-after, turned-after, iterate-apart, along-in}
use Rattle.search_next.specs.inner.Next.{Ends, sloped_in, taken_in, begun_in, broken_in, arrived_in}
use Rattle.search_next.proofs.Read.{fits-iterate, as_read}
use Rattle.search_next.proofs.Asked.{none-length}

-- ---- lists that are loaded

pub loaded_vec : (k : ℕ) (v w w' : List Float) → length v ≡ k → Block 0 k (λ t. at v t) w w' → vec 0 k w' ≡ v
unfolding vec
loaded_vec k v w w' e b = sym (tab-of k v _ nan e (λ i l. sym (b.inside i l)))

-- ---- slopes are due at a new point

absorb-new : (p : Setup) (goal : Goal) (b : ℕ) (x v f : List Float) → 1 ≤ p.n → p.n ≤ 16 → p.m ≤ 16 → FitsGoal p.n p.m goal → length x ≡ p.n → length v ≡ suc p.m →
    let M = slopes_next p.scheme p goal b (point_of x v) in
    machine_floats p M (laid 152 v (laid 112 x f)) ≡ machine_floats p M f
absorb-new p goal b x v f o l k g hx hv =
    let n = p.n in let m = p.m in
    let B = bounds n m l k in
    let q : FitsPoint n m (point_of x v) = record { x = hx; values = hv } in
    by-slopes (λ M. machine_floats p M (laid 152 v (laid 112 x f)) ≡ machine_floats p M f) (FitsReport n m)
    (λ e r t. let c = ended-new n m l k B.0 B.1 e r in covered p (ended e r) 152 (suc m) _ _ t hv c.0 ∙ covered p (ended e r) 112 n _ _ t hx c.1)
    p.scheme p goal b (point_of x v) o (report-for p goal (point_of x v) g q)
    (let M = sloping b goal (point_of x v) in let c = sloping-new n m b goal (point_of x v) in covered p M 152 (suc m) _ _ (g, q) hv c.0 ∙ covered p M 112 n _ _ (g, q) hx c.1)
    (λ a cols e.
    let M = raised a goal (point_of x v) m cols [] in let c = raised-new n m a goal (point_of x v) m cols [] in let t = none-length n m cols e in
    covered p M 152 (suc m) _ _ (g, q, t) hv c.0 ∙ covered p M 112 n _ _ (g, q, t) hx c.1)

new-read : (n m : ℕ) (x v f : List Float) → n ≤ 16 → m ≤ 16 → length x ≡ n → length v ≡ suc m → length f ≡ 1024 → new_in n m (laid 152 v (laid 112 x f)) ≡ point_of x v
new-read n m x v f l k hx hv z =
    let a : vec 112 n (laid 152 v (laid 112 x f)) ≡ x = vec-below 112 n 152 _ _ (omega arith) ∙ vec_laid 112 n _ _ 1024 hx z (omega arith) in
    let b : vec 152 (suc m) (laid 152 v (laid 112 x f)) ≡ v = vec_laid 152 (suc m) _ _ 1024 hv (size 112 x f 1024 z) (omega arith) in
    λ i. point_of (a i) (b i)

new-iterate : (n m j : ℕ) (x v f : List Float) (u : List ℕ) → n ≤ 16 → m ≤ 16 → length x ≡ n → length v ≡ suc m → iterate_in n m (laid 152 v (laid 112 x f)) (laid 4 (j ∷ []) u) ≡ iterate_in n m f u
new-iterate n m j x v f u l k hx hv =
    let B = bounds n m l k in
    iterate-apart n m 152 v (laid 112 x f) u (laid 4 (j ∷ []) u) (inl (omega arith)) (inl (omega arith)) (inr (omega arith)) (inr (omega arith)) (inl (omega arith)) (inl (omega arith)) (laid-below 4 (j ∷ []) u 3 0 (omega arith))
    ∙ iterate-apart n m 112 x f u u (inl (omega arith)) (inr (omega arith)) (inr (omega arith)) (inr (omega arith)) (inl (omega arith)) (inl (omega arith)) refl

-- the number of a goal that is none, and of the iterate's
abbrev goal_by : (j : ℕ) → Iterate → Goal
goal_by zero s = begun
goal_by (suc j) s = taken s

goal-is : (j : ℕ) (s : Iterate) → cond (eqb j 0) begun (taken s) ≡ goal_by j s
goal-is zero s = refl
goal-is (suc j) s = rw (ne_eqb (suc j) 0 (λ h. absurd (omega arith))) refl

goal-fits : (n m j : ℕ) (f : List Float) (u : List ℕ) → FitsGoal n m (goal_by j (iterate_in n m f u))
goal-fits n m zero f u = tt
goal-fits n m (suc j) f u = fits-iterate n m f u

slopes-after : (j : ℕ) (x v f f' f'' : List Float) (u u' u'' : List ℕ) → Ready (nth u 8) (nth u 9) f u → length x ≡ nth u 8 → length v ≡ suc (nth u 9) → f' ≡ laid 152 v (laid 112 x f) → u' ≡ laid 4 (j ∷ []) u
    → Turned (setup_in f' u') (sloped_in (nth u 8) (nth u 9) f' u') f' f'' u' u''
    → Turned (setup_in f u) (slopes_next (setup_in f u).scheme (setup_in f u) (goal_by j (iterate_in (nth u 8) (nth u 9) f u)) (nth u 1) (point_of x v)) f f'' u u''
slopes-after j x v f f' f'' u u' u'' r hx hv ef eu t =
    let n = nth u 8 in let m = nth u 9 in
    let p = setup_in f u in
    let F = laid 152 v (laid 112 x f) in let U = laid 4 (j ∷ []) u in
    let T : Turned (setup_in F U) (sloped_in n m F U) F f'' U u'' =
    subst (λ (y : List ℕ). Turned (setup_in F y) (sloped_in n m F y) F f'' y u'') eu (subst (λ (y : List Float). Turned (setup_in y u') (sloped_in n m y u') y f'' u' u'') ef t) in
    let goal = goal_by j (iterate_in n m f u) in
    let c₁ : nth U 1 ≡ nth u 1 = laid-below 4 (j ∷ []) u 1 0 (omega arith) in
    let c₄ : nth U 4 ≡ j = let z = r.words in laid_in 4 (j ∷ []) u 0 0 (omega arith) (omega arith) in
    let eg : goal_in n m F U ≡ goal = ap₂ (λ (a : ℕ) (s : Iterate). cond (eqb a 0) begun (taken s)) c₄ (new-iterate n m j x v f u r.few r.constraints hx hv) ∙ goal-is j (iterate_in n m f u) in
    let en = new-read n m x v f r.few r.constraints hx hv r.floats in
    let ep = setup-after f F u U r.few (problem-laid f _ 152 _ (omega arith) (problem-laid f _ 112 _ (omega arith) (problem-same f))) (words-laid 4 (j ∷ []) u (omega arith)) in
    let M = slopes_next p.scheme p goal (nth u 1) (point_of x v) in
    turned-after p (setup_in F U) M (sloped_in n m F U) f F f'' u U u'' T ep
    (λ i. slopes_next (ep i).scheme (ep i) (eg i) (c₁ i) (en i))
    (absorb-new p goal (nth u 1) x v f r.some r.few r.constraints (goal-fits n m j f u) hx hv)
    (words-over M u 4 _ (omega arith))

-- ---- a trial is taken

abbrev Takes : (n m : ℕ) (v f g f' f'' : List Float) (u u' u'' : List ℕ) → Type 0
Takes n m v f g f' f'' u u' u'' =
    length v ≡ suc m → g ≡ laid 112 (tab n (λ i. clip (at f (16 + i)) (at f (32 + i)) (at f (48 + i) ⊕ at f 1 ⊗ at f (64 + i)))) f → length f' ≡ length g → Block 152 (m + 1) (λ t. at v t) g f'
    → u' ≡ laid 4 (1 ∷ []) u → Turned (setup_in f' u') (sloped_in n m f' u') f' f'' u' u'' → Turned (setup_in f u) (taken_in n m f u v) f f'' u u''

takes-here : (v f g f' f'' : List Float) (u u' u'' : List ℕ) → Ready (nth u 8) (nth u 9) f u → Takes (nth u 8) (nth u 9) v f g f' f'' u u' u''
unfolding along
takes-here v f g f' f'' u u' u'' r hv eg z b eu t =
    let n = nth u 8 in let m = nth u 9 in
    let x = along (setup_in f u) (iterate_in n m f u) (line_in n f) (at f 1) in
    let ex : g ≡ laid 112 x f = eg ∙ ap (λ (y : List Float). laid 112 y f) (along-in n m f u (at f 1) refl) in
    let y : length g ≡ 1024 = ap length ex ∙ size 112 x f 1024 r.floats in
    slopes-after 1 x v f f' f'' u u' u'' r (length-tab n _) hv (let k = r.constraints in loaded-laid 152 (m + 1) v g f' (omega arith) z (omega arith) b ∙ ap (λ (k : List Float). laid 152 v k) ex) eu t

pub takes : (n m : ℕ) (v f g f' f'' : List Float) (u u' u'' : List ℕ) → Ready n m f u → Takes n m v f g f' f'' u u' u''
takes n m v f g f' f'' u u' u'' r = as_read (λ n m. Takes n m v f g f' f'' u u' u'') n m f u r (takes-here v f g f' f'' u u' u'')

-- ---- the values at the start

start-laid : (n m : ℕ) (v f f' : List Float) (u : List ℕ) → Ready n m f u → length v ≡ suc m → length f' ≡ length f → Block 152 (m + 1) (λ t. at v t) f f' → f' ≡ laid 152 v (laid 112 (vec 112 n f) f)
start-laid n m v f f' u r hv z b =
    let y = r.floats in let l = r.few in let k = r.constraints in
    loaded-laid 152 (m + 1) v f f' (omega arith) z (omega arith) b ∙ ap (λ (t : List Float). laid 152 v t) (sym (laid-again 112 n f (omega arith)))

abbrev StartGoes : (n m : ℕ) (v f f' f'' : List Float) (u u' u'' : List ℕ) → Type 0
StartGoes n m v f f' f'' u u' u'' =
    length v ≡ suc m → length f' ≡ length f → Block 152 (m + 1) (λ t. at v t) f f' → are_finite v ≡ true → u' ≡ laid 4 (0 ∷ []) u
    → Turned (setup_in f' u') (sloped_in n m f' u') f' f'' u' u'' → Turned (setup_in f u) (begun_in n m f u v) f f'' u u''

start-goes-here : (v f f' f'' : List Float) (u u' u'' : List ℕ) → Ready (nth u 8) (nth u 9) f u → StartGoes (nth u 8) (nth u 9) v f f' f'' u u' u''
start-goes-here v f f' f'' u u' u'' r hv z b h eu t =
    let n = nth u 8 in let m = nth u 9 in
    rw h (slopes-after 0 (vec 112 n f) v f f' f'' u u' u'' r (length-vec 112 n f) hv (start-laid n m v f f' u r hv z b) eu t)

pub start-goes : (n m : ℕ) (v f f' f'' : List Float) (u u' u'' : List ℕ) → Ready n m f u → StartGoes n m v f f' f'' u u' u''
start-goes n m v f f' f'' u u' u'' r = as_read (λ n m. StartGoes n m v f f' f'' u u' u'') n m f u r (start-goes-here v f f' f'' u u' u'')

abbrev StartEnds : (n m : ℕ) (v f f' f'' : List Float) (u u'' : List ℕ) → Type 0
StartEnds n m v f f' f'' u u'' =
    length v ≡ suc m → length f' ≡ length f → Block 152 (m + 1) (λ t. at v t) f f' → are_finite v ≡ false → Ends 9 (blank (setup_in f' u) (new_in n m f')) f' f'' u u''
    → Turned (setup_in f u) (begun_in n m f u v) f f'' u u''

start-ends-here : (v f f' f'' : List Float) (u u'' : List ℕ) → Ready (nth u 8) (nth u 9) f u → StartEnds (nth u 8) (nth u 9) v f f' f'' u u''
start-ends-here v f f' f'' u u'' r hv z b h E =
    let n = nth u 8 in let m = nth u 9 in
    let p = setup_in f u in
    let x = vec 112 n f in
    let hx = length-vec 112 n f in
    let F = laid 152 v (laid 112 x f) in
    let ef = start-laid n m v f f' u r hv z b in
    let T : Turned (setup_in F u) (ended nonfinite (blank (setup_in F u) (new_in n m F))) F f'' u u'' = subst (λ (y : List Float). Turned (setup_in y u) (ended nonfinite (blank (setup_in y u) (new_in n m y))) y f'' u u'') ef (E nonfinite refl) in
    let ep = setup-after f F u u r.few (problem-laid f _ 152 _ (omega arith) (problem-laid f _ 112 _ (omega arith) (problem-same f))) (words_same u) in
    let en = new-read n m x v f r.few r.constraints hx hv r.floats in
    let B = bounds n m r.few r.constraints in
    let R = blank p (point_of x v) in
    let q = report-blank p (point_of x v) (record { x = hx; values = hv }) in
    let c = ended-new n m r.few r.constraints B.0 B.1 nonfinite R in
    rw h (turned-after p (setup_in F u) (ended nonfinite R) _ f F f'' u u u'' T ep
    (λ i. ended nonfinite (blank (ep i) (en i)))
    (covered p (ended nonfinite R) 152 (suc m) _ _ q hv c.0 ∙ covered p (ended nonfinite R) 112 n _ _ q hx c.1)
    refl)

pub start-ends : (n m : ℕ) (v f f' f'' : List Float) (u u'' : List ℕ) → Ready n m f u → StartEnds n m v f f' f'' u u''
start-ends n m v f f' f'' u u'' r = as_read (λ n m. StartEnds n m v f f' f'' u u'') n m f u r (start-ends-here v f f' f'' u u'')

-- ---- what is told is not finite

pub broken-trial : (n m : ℕ) (f f' : List Float) (u u' : List ℕ) → Ready n m f u → eqb (nth u 0) 2 ≡ true → Ends 9 (report_in (nth u 8) (nth u 9) f) f f' u u' → Turned (setup_in f u) (broken_in n m f u) f f' u u'
broken-trial n m f f' u u' r e E = rw (e, ← r.variables, ← r.functions) (E nonfinite refl)

pub broken-goal : (n m : ℕ) (f f' : List Float) (u u' : List ℕ) → eqb (nth u 0) 2 ≡ false → Ends 9 (report_for (setup_in f u) (goal_in n m f u) (new_in n m f)) f f' u u' → Turned (setup_in f u) (broken_in n m f u) f f' u u'
broken-goal n m f f' u u' e E = rw e (E nonfinite refl)

-- ---- slopes that are told

pub told-arrives : (n m : ℕ) (v w w' f f' : List Float) (u u' : List ℕ) → length v ≡ suc m * n → Block 0 (length v) (λ t. at v t) w w' → Turned (setup_in f u) (arrived_in n m f u (vec 0 (suc m * n) w')) f f' u u'
    → Turned (setup_in f u) (arrived_in n m f u v) f f' u u'
told-arrives n m v w w' f f' u u' e b t =
    subst (λ (g : List Float). Turned (setup_in f u) (arrived_in n m f u g) f f' u u') (loaded_vec (suc m * n) v w w' e (subst (λ (k : ℕ). Block 0 k (λ t. at v t) w w') e b)) t
