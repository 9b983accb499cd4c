-- A slope more: it is kept, and what comes next is asked for.
use Prim.Native.Nat.{ℕ, zero, suc, ◌+◌, ◌-◌, ◌*◌, ◌≤◌, ◌<◌}
use mathlib.Core.Path.{◌≡◌, refl, sym, ap, ap₂, ◌∙◌, subst}
use mathlib.Core.Bool.{Bool, true, false, cond}
use mathlib.Core.List.{List, [], ◌∷◌, ◌++◌}
use mathlib.Core.Logic.{inl, inr}
use native.Mathlib.Nat.{suc-mul, mul-le-mul_right}
use native.Mathlib.Omega.{arith}
use borrow.Author.Tests.{eq-eqb, ne_eqb}
use lib.Dec.{eqb}
use lib.ListN.{length, set, take, length-append}
use lib.Seq.{get_or-set_same, get_or-set_other, get_or-take, length-take-le}
use lib.Ieee.{Float, nan}
use Rattle.numbers.specs.Numbers.{at, nth, tab, ◌⊕◌, ◌⊖◌}
use Rattle.numbers.proofs.Lists.{get_d-tab, tab-more, tab-same, tab-of}
use Rattle.workspace.specs.Readings.{vec, Block}
use Rattle.workspace.proofs.Readings.{length-vec}
use Rattle.search.specs.Setup.{Setup, Point, Report, nonfinite, are_finite}
use Rattle.search.specs.Turn.{move_of, raise, lower, quotient}
use Rattle.search.specs.Written.{Goal, report_for, row_done}
use Rattle.search.specs.Machine.{Machine, ended, raised, lowered, move_next, lower_next}
use Rattle.search.specs.Layout.{scheme_of, laid, setup_in, new_in, goal_in, known, machine_floats}
use Rattle.search.specs.inner.Work.{Ready, Turned}
use Rattle.search.proofs.Laying.{laid_in, vec-below, vec-apart}
use Rattle.search.proofs.Layouts.{bounds, known-few}
use Rattle.search.proofs.Lent.{set-laid}
use Rattle.search.proofs.Turns.{FitsReport, covered, ended-slope, ended-value, raised-slope, lowered-value, by-reach, by_row, by-ask, by_first}
use Rattle.search.proofs.Rereads.{words_same, problem-same, problem-laid, problem-low, setup-after, ready-after, turned-after, iterate-apart, goal-apart, new_apart}
use Rattle.search_next.specs.inner.Next.{Ends, ask_moved, asked_in, added_in, row_in, row_stands, raised_in, second_in, single_in, arrived_in}
use Rattle.search_next.proofs.Read.{fits-new, fits-goal, fits-report, as_read}
use Rattle.search_next.proofs.Asked.{coordinate, move_asks}

-- ---- the slopes that are known, and one more

vec-more : (o k : ℕ) (f : List Float) → vec o (suc k) f ≡ vec o k f ++ (at f (o + k) ∷ [])
unfolding vec
vec-more o k f = let e : suc k ≡ k + 1 = omega arith in ap (λ (t : ℕ). tab t (λ i. at f (o + i))) e ∙ tab-more k (λ i. at f (o + i))

kept_more : (k : ℕ) (c : Float) (f : List Float) → 448 + k < length f → vec 448 (suc k) (laid (448 + k) (c ∷ []) f) ≡ vec 448 k f ++ (c ∷ [])
kept_more k c f l =
    let a = vec-below 448 k (448 + k) (c ∷ []) f (omega arith) in
    let e : 448 + k ≡ 448 + k + 0 = omega arith in
    let b : at (laid (448 + k) (c ∷ []) f) (448 + k) ≡ c = ap (λ (t : ℕ). at (laid (448 + k) (c ∷ []) f) t) e ∙ laid_in (448 + k) (c ∷ []) f 0 nan (omega arith) (omega arith) in
    vec-more 448 k _ ∙ ap₂ (λ (g : List Float) (x : Float). g ++ (x ∷ [])) a b

pub lent-more : (k : ℕ) (c : Float) (f w w' : List Float) → k < length w' → Block 0 k (λ t. at f (448 + t * 1)) w w' → vec 0 (suc k) (set w' k c) ≡ vec 448 k f ++ (c ∷ [])
unfolding vec
lent-more k c f w w' l b =
    let z : 0 + k ≡ k = omega arith in
    let x : at (set w' k c) (0 + k) ≡ c = ap (λ (t : ℕ). at (set w' k c) t) z ∙ get_or-set_same w' k c nan l in
    let g : tab k (λ i. at (set w' k c) (0 + i)) ≡ tab k (λ i. at f (448 + i)) = tab-same k _ _ (λ i h.
    get_or-set_other w' k (0 + i) c nan (λ e. absurd (omega arith)) ∙ b.inside i h ∙ ap (λ (t : ℕ). at f (448 + t)) (let y : i * 1 ≡ i = omega arith in y)) in
    vec-more 0 k (set w' k c) ∙ ap₂ (λ (g : List Float) (x : Float). g ++ (x ∷ [])) g x

-- a part at the front
pub front-vec : (k : ℕ) (w : List Float) → k ≤ length w → take k w ≡ vec 0 k w
unfolding vec
front-vec k w l = tab-of k (take k w) (λ i. at w (0 + i)) nan (length-take-le k w l) (λ i h. rw (get_or-take) (let e : i ≡ 0 + i = omega arith in ap (λ (t : ℕ). at w t) e))

-- ---- the last one

last-known : (n m : ℕ) → known n m 0 0 ≡ m * n + (n - 1)
last-known n m = let a : (m - 0) * n ≡ m * n = ap (λ (t : ℕ). t * n) (let d : m - 0 ≡ m = omega arith in d) in omega arith

abbrev LastEnds : (n m k : ℕ) (c : Float) (w f f' : List Float) (u u' : List ℕ) → Type 0
LastEnds n m k c w f f' u u' =
    k ≡ m * n + (n - 1) → vec 0 (suc k) w ≡ vec 448 k f ++ (c ∷ []) → are_finite (vec 0 (suc k) w) ≡ false → Ends 9 (report_for (setup_in f u) (goal_in n m f u) (new_in n m f)) f f' u u'
    → Turned (setup_in f u) (added_in n m f u 0 0 c) f f' u u'

last-ends-here : (k : ℕ) (c : Float) (w f f' : List Float) (u u' : List ℕ) → Ready (nth u 8) (nth u 9) f u → LastEnds (nth u 8) (nth u 9) k c w f f' u u'
unfolding move_next
last-ends-here k c w f f' u u' r e g h E =
    let n = nth u 8 in let m = nth u 9 in
    let a : vec 448 (known n m 0 0) f ++ (c ∷ []) ≡ vec 0 (suc k) w = ap (λ (t : ℕ). vec 448 t f ++ (c ∷ [])) (last-known n m ∙ sym e) ∙ sym g in
    rw (a, h) (E nonfinite refl)

pub last-ends : (n m k : ℕ) (c : Float) (w f f' : List Float) (u u' : List ℕ) → Ready n m f u → LastEnds n m k c w f f' u u'
last-ends n m k c w f f' u u' r = as_read (λ n m. LastEnds n m k c w f f' u u') n m f u r (last-ends-here k c w f f' u u')

abbrev LastArrives : (n m k : ℕ) (c : Float) (w f f' : List Float) (u u' : List ℕ) → Type 0
LastArrives n m k c w f f' u u' =
    k ≡ m * n + (n - 1) → vec 0 (suc k) w ≡ vec 448 k f ++ (c ∷ []) → are_finite (vec 0 (suc k) w) ≡ true → Turned (setup_in f u) (arrived_in n m f u (vec 0 (suc m * n) w)) f f' u u'
    → Turned (setup_in f u) (added_in n m f u 0 0 c) f f' u u'

last-arrives-here : (k : ℕ) (c : Float) (w f f' : List Float) (u u' : List ℕ) → Ready (nth u 8) (nth u 9) f u → LastArrives (nth u 8) (nth u 9) k c w f f' u u'
unfolding move_next
last-arrives-here k c w f f' u u' r e g h t =
    let n = nth u 8 in let m = nth u 9 in
    let o = r.some in
    let s : suc m * n ≡ m * n + n = suc-mul m n in
    let j : suc m * n ≡ suc k = omega arith in
    let a : vec 448 (known n m 0 0) f ++ (c ∷ []) ≡ vec 0 (suc k) w = ap (λ (t : ℕ). vec 448 t f ++ (c ∷ [])) (last-known n m ∙ sym e) ∙ sym g in
    rw (a, h) (subst (λ (y : ℕ). Turned (setup_in f u) (arrived_in n m f u (vec 0 y w)) f f' u u') j t)

pub last-arrives : (n m k : ℕ) (c : Float) (w f f' : List Float) (u u' : List ℕ) → Ready n m f u → LastArrives n m k c w f f' u u'
last-arrives n m k c w f f' u u' r = as_read (λ n m. LastArrives n m k c w f f' u u') n m f u r (last-arrives-here k c w f f' u u')

-- ---- a row that is whole

pub row-looked : (n m rows : ℕ) (f g : List Float) (r : Bool) → eqb rows m ≡ true → r ≡ are_finite g → g ≡ vec 448 n f → r ≡ row_stands n m rows f
row-looked n m rows f g r e h k = rw e (h ∙ ap are_finite k)

pub row-passed : (n m rows : ℕ) (f : List Float) → eqb rows m ≡ false → true ≡ row_stands n m rows f
row-passed n m rows f e = rw e refl

row_done_lem : (w n m rows : ℕ) (f : List Float) (R : Report) (k : Machine) → m ≡ rows + w → row_done ended w (vec 448 (w * n + n) f) R k ≡ cond (row_stands n m rows f) k (ended nonfinite R)
row_done_lem zero n m rows f R k e =
    let h : rows ≡ m = omega arith in
    let z : zero * n + n ≡ n = omega arith in
    rw (eq-eqb rows m h) (ap (λ (t : ℕ). cond (are_finite (vec 448 t f)) k (ended nonfinite R)) z)
row_done_lem (suc w) n m rows f R k e = rw (ne_eqb rows m (λ h. absurd (omega arith))) refl

row_is : (p : Setup) (goal : Goal) (q : Point) (r b : ℕ) (f : List Float) → suc r ≤ p.m
    → move_next p goal q (suc r) 0 b (vec 448 ((p.m - suc r) * p.n + p.n) f)
    ≡ cond (row_stands p.n p.m (suc r) f) (move_next p goal q r p.n b (vec 448 ((p.m - suc r) * p.n + p.n) f)) (ended nonfinite (report_for p goal q))
unfolding move_next
row_is p goal q r b f l = row_done_lem (p.m - suc r) p.n p.m (suc r) f (report_for p goal q) _ (omega arith)

row-known : (n m r cols : ℕ) → suc r ≤ m → suc cols ≡ n → (m - suc r) * n + n ≡ known n m r cols
row-known n m r cols l e =
    let a : suc (m - suc r) * n ≡ (m - suc r) * n + n = suc-mul (m - suc r) n in
    let b : (m - r) * n ≡ suc (m - suc r) * n = ap (λ (t : ℕ). t * n) (let d : m - r ≡ suc (m - suc r) = omega arith in d) in
    omega arith

abbrev RowEnds : (n m r : ℕ) (f f' : List Float) (u u' : List ℕ) → Type 0
RowEnds n m r f f' u u' = suc r ≤ m → row_stands n m (suc r) f ≡ false → Ends 9 (report_for (setup_in f u) (goal_in n m f u) (new_in n m f)) f f' u u' → Turned (setup_in f u) (row_in n m f u (suc r)) f f' u u'

row-ends-here : (r : ℕ) (f f' : List Float) (u u' : List ℕ) → Ready (nth u 8) (nth u 9) f u → RowEnds (nth u 8) (nth u 9) r f f' u u'
row-ends-here r f f' u u' h l e E =
    let n = nth u 8 in let m = nth u 9 in
    subst (λ (M : Machine). Turned (setup_in f u) M f f' u u') (sym (row_is (setup_in f u) (goal_in n m f u) (new_in n m f) r (nth u 1) f l ∙ ap (λ (t : Bool). cond t (move_next (setup_in f u) (goal_in n m f u) (new_in n m f) r n (nth u 1) (vec 448 ((m - suc r) * n + n) f)) (ended nonfinite (report_for (setup_in f u) (goal_in n m f u) (new_in n m f)))) e)) (E nonfinite refl)

pub row_ends : (n m r : ℕ) (f f' : List Float) (u u' : List ℕ) → Ready n m f u → RowEnds n m r f f' u u'
row_ends n m r f f' u u' h = as_read (λ n m. RowEnds n m r f f' u u') n m f u h (row-ends-here r f f' u u')

abbrev RowGoes : (n m r cols : ℕ) (f f' : List Float) (u u' : List ℕ) → Type 0
RowGoes n m r cols f f' u u' =
    suc r ≤ m → suc cols ≡ n → row_stands n m (suc r) f ≡ true → Turned (setup_in f u) (asked_in n m f u false r cols) f f' u u' → Turned (setup_in f u) (row_in n m f u (suc r)) f f' u u'

row-goes-here : (r cols : ℕ) (f f' : List Float) (u u' : List ℕ) → Ready (nth u 8) (nth u 9) f u → RowGoes (nth u 8) (nth u 9) r cols f f' u u'
row-goes-here r cols f f' u u' h l c e t =
    let n = nth u 8 in let m = nth u 9 in
    let p = setup_in f u in let goal = goal_in n m f u in let q = new_in n m f in
    let g = vec 448 ((m - suc r) * n + n) f in
    let a : row_in n m f u (suc r) ≡ asked_in n m f u false r cols =
    row_is p goal q r (nth u 1) f l ∙ ap (λ (t : Bool). cond t (move_next p goal q r n (nth u 1) g) (ended nonfinite (report_for p goal q))) e
    ∙ ap (λ (k : ℕ). move_next p goal q r k (nth u 1) g) (sym c) ∙ move_asks p goal q r cols (nth u 1) g (at f 4)
    ∙ ap (λ (k : ℕ). ask_moved p false (nth u 1) goal q r cols (vec 448 k f) (at f 4)) (row-known n m r cols l c) in
    subst (λ (M : Machine). Turned p M f f' u u') (sym a) t

pub row_goes : (n m r cols : ℕ) (f f' : List Float) (u u' : List ℕ) → Ready n m f u → RowGoes n m r cols f f' u u'
row_goes n m r cols f f' u u' h = as_read (λ n m. RowGoes n m r cols f f' u u') n m f u h (row-goes-here r cols f f' u u')

-- ---- a slope is kept

-- what is read behind it
kept-goal : (n m k : ℕ) (c : Float) (f : List Float) (u : List ℕ) → n ≤ 16 → m ≤ 16 → k < 272 → goal_in n m (laid (448 + k) (c ∷ []) f) u ≡ goal_in n m f u
kept-goal n m k c f u l h e =
    let B = bounds n m l h in
    goal-apart n m f _ u u (iterate-apart n m (448 + k) (c ∷ []) f u u (inl (omega arith)) (inl (omega arith)) (inl (omega arith)) (inr (omega arith)) (inl (omega arith)) (inl (omega arith)) refl) refl

kept_new : (n m k : ℕ) (c : Float) (f : List Float) → n ≤ 16 → m ≤ 16 → new_in n m (laid (448 + k) (c ∷ []) f) ≡ new_in n m f
kept_new n m k c f l h = new_apart n m (448 + k) (c ∷ []) f (inl (omega arith)) (inl (omega arith))

kept-problem : (k : ℕ) (c : Float) (f : List Float) (u : List ℕ) → nth u 8 ≤ 16 → setup_in (laid (448 + k) (c ∷ []) f) u ≡ setup_in f u
kept-problem k c f u l = setup-after f _ u u l (problem-laid f f (448 + k) _ (omega arith) (problem-same f)) (words_same u)

more-length : (k : ℕ) (c : Float) (f : List Float) → length (vec 448 k f ++ (c ∷ [])) ≡ suc k
more-length k c f = let a = length-append (vec 448 k f) (c ∷ []) in let b = length-vec 448 k f in omega arith

-- the next coordinate of the function
abbrev AddNext : (n m rows cols : ℕ) (c : Float) (f f' f'' : List Float) (u u'' : List ℕ) → Type 0
AddNext n m rows cols c f f' f'' u u'' =
    rows ≤ m → suc cols < n → f' ≡ laid (448 + known n m rows (suc cols)) (c ∷ []) f → Turned (setup_in f' u) (asked_in n m f' u false rows cols) f' f'' u u''
    → Turned (setup_in f u) (added_in n m f u rows (suc cols) c) f f'' u u''

add-next-here : (rows cols : ℕ) (c : Float) (f f' f'' : List Float) (u u'' : List ℕ) → Ready (nth u 8) (nth u 9) f u → AddNext (nth u 8) (nth u 9) rows cols c f f' f'' u u''
add-next-here rows cols c f f' f'' u u'' r lr lc ef t =
    let n = nth u 8 in let m = nth u 9 in
    let p = setup_in f u in let goal = goal_in n m f u in let q = new_in n m f in
    let K = known n m rows (suc cols) in
    let z = r.floats in
    let B = bounds n m r.few r.constraints in
    let lk : suc K ≡ known n m rows cols = omega arith in
    let le = known-few n m rows cols B.0 in
    let F = laid (448 + K) (c ∷ []) f in
    let g = vec 448 K f ++ (c ∷ []) in
    let T : Turned (setup_in F u) (asked_in n m F u false rows cols) F f'' u u'' = subst (λ (y : List Float). Turned (setup_in y u) (asked_in n m y u false rows cols) y f'' u u'') ef t in
    let ep = kept-problem K c f u r.few in
    let eg = kept-goal n m K c f u r.few r.constraints (omega arith) in
    let en = kept_new n m K c f r.few r.constraints in
    let ev : vec 448 (known n m rows cols) F ≡ g = ap (λ (y : ℕ). vec 448 y F) (sym lk) ∙ kept_more K c f (omega arith) in
    let sg : length g ≡ known n m rows cols = more-length K c f ∙ lk in
    turned-after p (setup_in F u) (move_next p goal q rows (suc cols) (nth u 1) g) (asked_in n m F u false rows cols) f F f'' u u u'' T ep
    ((λ i. ask_moved (ep i) false (nth u 1) (eg i) (en i) rows cols (ev i) (at F 4)) ∙ sym (move_asks p goal q rows cols (nth u 1) g (at F 4)))
    (by-ask (λ M. machine_floats p M F ≡ machine_floats p M f) (FitsReport n m)
    (λ e R s. covered p (ended e R) (448 + K) 1 _ _ s refl (ended-slope n m r.few r.constraints B.0 B.1 K (omega arith) e R))
    p goal q rows cols (nth u 1) g (fits-report f u)
    (λ b. covered p (raised b goal q rows cols g) (448 + K) 1 _ _ (fits-goal n m f u, fits-new n m f, sg) refl (raised-slope n m b goal q rows cols g K (omega arith))))
    refl

pub add-next : (n m rows cols : ℕ) (c : Float) (f f' f'' : List Float) (u u'' : List ℕ) → Ready n m f u → AddNext n m rows cols c f f' f'' u u''
add-next n m rows cols c f f' f'' u u'' r = as_read (λ n m. AddNext n m rows cols c f f' f'' u u'') n m f u r (add-next-here rows cols c f f' f'' u u'')

-- the last coordinate of a function, and another comes
abbrev AddRow : (n m rows : ℕ) (c : Float) (f f' f'' : List Float) (u u'' : List ℕ) → Type 0
AddRow n m rows c f f' f'' u u'' =
    suc rows ≤ m → f' ≡ laid (448 + known n m (suc rows) 0) (c ∷ []) f → Turned (setup_in f' u) (row_in n m f' u (suc rows)) f' f'' u u'' → Turned (setup_in f u) (added_in n m f u (suc rows) 0 c) f f'' u u''

add-row-here : (rows : ℕ) (c : Float) (f f' f'' : List Float) (u u'' : List ℕ) → Ready (nth u 8) (nth u 9) f u → AddRow (nth u 8) (nth u 9) rows c f f' f'' u u''
unfolding move_next
add-row-here rows c f f' f'' u u'' r lr ef t =
    let n = nth u 8 in let m = nth u 9 in
    let p = setup_in f u in let goal = goal_in n m f u in let q = new_in n m f in
    let K = known n m (suc rows) 0 in
    let z = r.floats in let o = r.some in
    let B = bounds n m r.few r.constraints in
    let lk : suc K ≡ (m - suc rows) * n + n = omega arith in
    let le = known-few n m rows (n - 1) B.0 in
    let lw : (m - suc rows) * n + n ≡ known n m rows (n - 1) = row-known n m rows (n - 1) lr (omega arith) in
    let F = laid (448 + K) (c ∷ []) f in
    let g = vec 448 K f ++ (c ∷ []) in
    let T : Turned (setup_in F u) (row_in n m F u (suc rows)) F f'' u u'' = subst (λ (y : List Float). Turned (setup_in y u) (row_in n m y u (suc rows)) y f'' u u'') ef t in
    let ep = kept-problem K c f u r.few in
    let eg = kept-goal n m K c f u r.few r.constraints (omega arith) in
    let en = kept_new n m K c f r.few r.constraints in
    let ev : vec 448 ((m - suc rows) * n + n) F ≡ g = ap (λ (y : ℕ). vec 448 y F) (sym lk) ∙ kept_more K c f (omega arith) in
    let sg : length g ≡ suc K = more-length K c f in
    turned-after p (setup_in F u) (move_next p goal q (suc rows) 0 (nth u 1) g) (row_in n m F u (suc rows)) f F f'' u u u'' T ep
    (λ i. move_next (ep i) (eg i) (en i) (suc rows) 0 (nth u 1) (ev i))
    (by_row (λ M. machine_floats p M F ≡ machine_floats p M f) (FitsReport n m)
    (λ e R s. covered p (ended e R) (448 + K) 1 _ _ s refl (ended-slope n m r.few r.constraints B.0 B.1 K (omega arith) e R))
    (m - suc rows) g (report_for p goal q) (move_next p goal q rows n (nth u 1) g) (fits-report f u)
    (by_first (λ M. machine_floats p M F ≡ machine_floats p M f) (FitsReport n m)
    (λ e R s. covered p (ended e R) (448 + K) 1 _ _ s refl (ended-slope n m r.few r.constraints B.0 B.1 K (omega arith) e R))
    p goal q rows n (nth u 1) g r.some (fits-report f u)
    (λ b cols e. let y = row-known n m rows cols lr e in
    covered p (raised b goal q rows cols g) (448 + K) 1 _ _ (fits-goal n m f u, fits-new n m f, sg ∙ lk ∙ y) refl (raised-slope n m b goal q rows cols g K (omega arith)))))
    refl

pub add_row : (n m rows : ℕ) (c : Float) (f f' f'' : List Float) (u u'' : List ℕ) → Ready n m f u → AddRow n m rows c f f' f'' u u''
add_row n m rows c f f' f'' u u'' r = as_read (λ n m. AddRow n m rows c f f' f'' u u'') n m f u r (add-row-here rows c f f' f'' u u'')

-- ---- in the words of the code

pub last-few : (n m : ℕ) (f : List Float) (u : List ℕ) → Ready n m f u → m * n + (n - 1) < 272
last-few n m f u r = let B = bounds n m r.few r.constraints in let a = B.0 in let o = r.some in let s : suc m * n ≡ m * n + n = suc-mul m n in omega arith

pub front-finite : (k : ℕ) (w : List Float) (r : Bool) → suc k ≤ length w → r ≡ are_finite (take (k + 1) w) → r ≡ are_finite (vec 0 (suc k) w)
front-finite k w r l e = let h : k + 1 ≡ suc k = omega arith in e ∙ ap are_finite (front-vec (k + 1) w (omega arith) ∙ ap (λ (t : ℕ). vec 0 t w) h)

pub row-ended : (n m rows : ℕ) (f f' : List Float) (u u' : List ℕ) → Ready n m f u → 1 ≤ rows → rows ≤ m → row_stands n m rows f ≡ false → Ends 9 (report_for (setup_in f u) (goal_in n m f u) (new_in n m f)) f f' u u'
    → Turned (setup_in f u) (row_in n m f u rows) f f' u u'
row-ended n m zero f f' u u' h o l e E = absurd (omega arith)
row-ended n m (suc r) f f' u u' h o l e E = row_ends n m r f f' u u' h l e E

pub row-going : (n m rows : ℕ) (f f' : List Float) (u u' : List ℕ) → Ready n m f u → 1 ≤ rows → rows ≤ m → row_stands n m rows f ≡ true → Turned (setup_in f u) (asked_in n m f u false (rows - 1) (n - 1)) f f' u u'
    → Turned (setup_in f u) (row_in n m f u rows) f f' u u'
row-going n m zero f f' u u' h o l e t = absurd (omega arith)
row-going n m (suc r) f f' u u' h o l e t =
    let y = h.some in
    let z : suc r - 1 ≡ r = omega arith in
    row_goes n m r (n - 1) f f' u u' h l (omega arith) e (subst (λ (k : ℕ). Turned (setup_in f u) (asked_in n m f u false k (n - 1)) f f' u u') z t)

pub added_next : (n m rows cols : ℕ) (c : Float) (f f' f'' : List Float) (u u'' : List ℕ) → Ready n m f u → 0 < cols → rows ≤ m → cols < n → f' ≡ laid (448 + known n m rows cols) (c ∷ []) f
    → Turned (setup_in f' u) (asked_in n m f' u false rows (cols - 1)) f' f'' u u'' → Turned (setup_in f u) (added_in n m f u rows cols c) f f'' u u''
added_next n m rows zero c f f' f'' u u'' r o l k e t = absurd (omega arith)
added_next n m rows (suc cols) c f f' f'' u u'' r o l k e t =
    let z : suc cols - 1 ≡ cols = omega arith in
    add-next n m rows cols c f f' f'' u u'' r l k e (subst (λ (j : ℕ). Turned (setup_in f' u) (asked_in n m f' u false rows j) f' f'' u u'') z t)

pub added-row : (n m rows cols : ℕ) (c : Float) (f f' f'' : List Float) (u u'' : List ℕ) → Ready n m f u → cols ≡ 0 → 0 < rows → rows ≤ m → f' ≡ laid (448 + known n m rows cols) (c ∷ []) f
    → Turned (setup_in f' u) (row_in n m f' u rows) f' f'' u u'' → Turned (setup_in f u) (added_in n m f u rows cols c) f f'' u u''
added-row n m zero cols c f f' f'' u u'' r z o l e t = absurd (omega arith)
added-row n m (suc rows) zero c f f' f'' u u'' r z o l e t = add_row n m rows c f f' f'' u u'' r l e t
added-row n m (suc rows) (suc cols) c f f' f'' u u'' r z o l e t = absurd (omega arith)

pub added-last : (n m rows cols : ℕ) (c : Float) (f f' : List Float) (u u' : List ℕ) → rows ≡ 0 → cols ≡ 0 → Turned (setup_in f u) (added_in n m f u 0 0 c) f f' u u' → Turned (setup_in f u) (added_in n m f u rows cols c) f f' u u'
added-last n m rows cols c f f' u u' a b t = rw (a, b) t

pub kept_there : (n m rows cols k : ℕ) (c : Float) (f : List Float) → k ≡ 448 + known n m rows cols → set f k c ≡ laid (448 + known n m rows cols) (c ∷ []) f
kept_there n m rows cols k c f e = ap (λ (t : ℕ). set f t c) e ∙ set-laid (448 + known n m rows cols) c f

pub known-below : (n m rows cols : ℕ) → n ≤ 16 → m ≤ 16 → cols < n → (m - rows) * n + (n - suc cols) < 272
known-below n m rows cols l k h =
    let B = bounds n m l k in let b = B.0 in
    let a : (m - rows) * n ≤ m * n = mul-le-mul_right n (omega arith) in
    let s : suc m * n ≡ m * n + n = suc-mul m n in
    omega arith

-- ---- a value at a moved point is told

value-at : (m j rows : ℕ) (f : List Float) → j + rows ≡ m → at (vec 152 (suc m) f) (m - rows) ≡ at f (152 + j)
unfolding vec
value-at m j rows f h =
    let e : m - rows ≡ j = omega arith in
    ap (λ (t : ℕ). at (tab (suc m) (λ k. at f (152 + k))) t) e ∙ get_d-tab (suc m) (λ k. at f (152 + k)) nan j (omega arith)

raise-adds : (k : ℕ) (p : Setup) (b : ℕ) (goal : Goal) (q : Point) (rows cols : ℕ) (g : List Float) (v : Float) → k ≤ 1 →
    let x = at q.x (p.n - suc cols) in
    lower_next (scheme_of k) p b goal q rows cols g v ≡ move_next p goal q rows cols b (g ++ (quotient v (at q.values (p.m - rows)) (raise x) x ∷ []))
raise-adds zero p b goal q rows cols g v h = refl
raise-adds (suc zero) p b goal q rows cols g v h = refl
raise-adds (suc (suc k)) p b goal q rows cols g v h = absurd (omega arith)

lower-asks : (k : ℕ) (p : Setup) (b : ℕ) (goal : Goal) (q : Point) (rows cols : ℕ) (g : List Float) (v : Float) → 1 < k → lower_next (scheme_of k) p b goal q rows cols g v ≡ ask_moved p true b goal q rows cols g v
lower-asks zero p b goal q rows cols g v h = absurd (omega arith)
lower-asks (suc zero) p b goal q rows cols g v h = absurd (omega arith)
lower-asks (suc (suc k)) p b goal q rows cols g v h = refl

abbrev RaisedAdds : (n m rows cols i j : ℕ) (v t c : Float) (f f' : List Float) (u u' : List ℕ) → Type 0
RaisedAdds n m rows cols i j v t c f f' u u' =
    nth u 10 ≤ 1 → i + suc cols ≡ n → j + rows ≡ m → t ≡ move_of (at f (112 + i)) → c ≡ quotient v (at f (152 + j)) (at f (112 + i) ⊕ t) (at f (112 + i))
    → Turned (setup_in f u) (added_in n m f u rows cols c) f f' u u' → Turned (setup_in f u) (raised_in n m f u rows cols v) f f' u u'

raised-adds-here : (rows cols i j : ℕ) (v t c : Float) (f f' : List Float) (u u' : List ℕ) → Ready (nth u 8) (nth u 9) f u → RaisedAdds (nth u 8) (nth u 9) rows cols i j v t c f f' u u'
unfolding raise
raised-adds-here rows cols i j v t c f f' u u' r l hi hj et ec T =
    let n = nth u 8 in let m = nth u 9 in
    let p = setup_in f u in let goal = goal_in n m f u in let q = new_in n m f in
    let x = coordinate n i cols f hi in
    let y = value-at m j rows f hj in
    let X = at (vec 112 n f) (n - suc cols) in
    let e : c ≡ quotient v (at (vec 152 (suc m) f) (m - rows)) (raise X) X =
    ec ∙ (λ k. quotient v (sym y k) (at f (112 + i) ⊕ et k) (at f (112 + i))) ∙ (λ k. quotient v (at (vec 152 (suc m) f) (m - rows)) (raise (sym x k)) (sym x k)) in
    subst (λ (M : Machine). Turned p M f f' u u')
    (ap (λ (k : Float). move_next p goal q rows cols (nth u 1) (vec 448 (known n m rows cols) f ++ (k ∷ []))) e ∙ sym (raise-adds (nth u 10) p (nth u 1) goal q rows cols (vec 448 (known n m rows cols) f) v l)) T

pub raised-adds : (n m rows cols i j : ℕ) (v t c : Float) (f f' : List Float) (u u' : List ℕ) → Ready n m f u → RaisedAdds n m rows cols i j v t c f f' u u'
raised-adds n m rows cols i j v t c f f' u u' r = as_read (λ n m. RaisedAdds n m rows cols i j v t c f f' u u') n m f u r (raised-adds-here rows cols i j v t c f f' u u')

abbrev SecondAdds : (n m rows cols i : ℕ) (v t t' c : Float) (f f' : List Float) (u u' : List ℕ) → Type 0
SecondAdds n m rows cols i v t t' c f f' u u' =
    i + suc cols ≡ n → t ≡ move_of (at f (112 + i)) → t' ≡ move_of (at f (112 + i)) → c ≡ quotient (at f 4) v (at f (112 + i) ⊕ t) (at f (112 + i) ⊖ t')
    → Turned (setup_in f u) (added_in n m f u rows cols c) f f' u u' → Turned (setup_in f u) (second_in n m f u rows cols v) f f' u u'

second-adds-here : (rows cols i : ℕ) (v t t' c : Float) (f f' : List Float) (u u' : List ℕ) → Ready (nth u 8) (nth u 9) f u → SecondAdds (nth u 8) (nth u 9) rows cols i v t t' c f f' u u'
unfolding raise lower
second-adds-here rows cols i v t t' c f f' u u' r hi et es ec T =
    let n = nth u 8 in let m = nth u 9 in
    let x = coordinate n i cols f hi in
    let X = at (vec 112 n f) (n - suc cols) in
    let e : c ≡ quotient (at f 4) v (raise X) (lower X) =
    ec ∙ (λ k. quotient (at f 4) v (at f (112 + i) ⊕ et k) (at f (112 + i) ⊖ es k)) ∙ (λ k. quotient (at f 4) v (raise (sym x k)) (lower (sym x k))) in
    subst (λ (k : Float). Turned (setup_in f u) (added_in n m f u rows cols k) f f' u u') e T

pub second-adds : (n m rows cols i : ℕ) (v t t' c : Float) (f f' : List Float) (u u' : List ℕ) → Ready n m f u → SecondAdds n m rows cols i v t t' c f f' u u'
second-adds n m rows cols i v t t' c f f' u u' r = as_read (λ n m. SecondAdds n m rows cols i v t t' c f f' u u') n m f u r (second-adds-here rows cols i v t t' c f f' u u')

abbrev LowerAsks : (n m rows cols : ℕ) (v : Float) (f f' f'' : List Float) (u u'' : List ℕ) → Type 0
LowerAsks n m rows cols v f f' f'' u u'' =
    1 < nth u 10 → f' ≡ laid 4 (v ∷ []) f → Turned (setup_in f' u) (asked_in n m f' u true rows cols) f' f'' u u'' → Turned (setup_in f u) (raised_in n m f u rows cols v) f f'' u u''

lower-asks-here : (rows cols : ℕ) (v : Float) (f f' f'' : List Float) (u u'' : List ℕ) → Ready (nth u 8) (nth u 9) f u → LowerAsks (nth u 8) (nth u 9) rows cols v f f' f'' u u''
lower-asks-here rows cols v f f' f'' u u'' r l ef t =
    let n = nth u 8 in let m = nth u 9 in
    let p = setup_in f u in let goal = goal_in n m f u in let q = new_in n m f in
    let K = known n m rows cols in
    let g = vec 448 K f in
    let z = r.floats in
    let B = bounds n m r.few r.constraints in
    let F = laid 4 (v ∷ []) f in
    let T : Turned (setup_in F u) (asked_in n m F u true rows cols) F f'' u u'' = subst (λ (y : List Float). Turned (setup_in y u) (asked_in n m y u true rows cols) y f'' u u'') ef t in
    let ep = setup-after f F u u r.few (problem-low f f 4 _ (omega arith) (omega arith) (problem-same f)) (words_same u) in
    let eg : goal_in n m F u ≡ goal = goal-apart n m f F u u (iterate-apart n m 4 (v ∷ []) f u u (inr (omega arith)) (inr (omega arith)) (inr (omega arith)) (inr (omega arith)) (inr (omega arith)) (inr (omega arith)) refl) refl in
    let en : new_in n m F ≡ q = new_apart n m 4 (v ∷ []) f (inr (omega arith)) (inr (omega arith)) in
    let ev : vec 448 K F ≡ g = vec-apart 448 K 4 (v ∷ []) f (inr (omega arith)) in
    let e4 : at F 4 ≡ v = laid_in 4 (v ∷ []) f 0 nan (omega arith) (omega arith) in
    let M = ask_moved p true (nth u 1) goal q rows cols g v in
    subst (λ (M : Machine). Turned p M f f'' u u'') (sym (lower-asks (nth u 10) p (nth u 1) goal q rows cols g v l))
    (turned-after p (setup_in F u) M (asked_in n m F u true rows cols) f F f'' u u u'' T ep
    (λ i. ask_moved (ep i) true (nth u 1) (eg i) (en i) rows cols (ev i) (e4 i))
    (by-reach (λ M. machine_floats p M F ≡ machine_floats p M f) (FitsReport n m)
    (λ e R s. covered p (ended e R) 4 1 _ _ s refl (ended-value n m r.few r.constraints B.0 B.1 e R))
    (lower (at q.x (n - suc cols))) (m - rows) (nth u 1) (report_for p goal q) (λ c. lowered c goal q rows cols g v) (fits-report f u)
    (λ b. covered p (lowered b goal q rows cols g v) 4 1 _ _ (fits-goal n m f u, fits-new n m f, length-vec 448 K f) refl (lowered-value n m b goal q rows cols g v)))
    refl)

pub lowers : (n m rows cols : ℕ) (v : Float) (f f' f'' : List Float) (u u'' : List ℕ) → Ready n m f u → LowerAsks n m rows cols v f f' f'' u u''
lowers n m rows cols v f f' f'' u u'' r = as_read (λ n m. LowerAsks n m rows cols v f f' f'' u u'') n m f u r (lower-asks-here rows cols v f f' f'' u u'')

pub single-raised : (n m : ℕ) (v : Float) (f f' : List Float) (u u' : List ℕ) → eqb (nth u 0) 4 ≡ true → Turned (setup_in f u) (raised_in n m f u (nth u 5) (nth u 6) v) f f' u u' → Turned (setup_in f u) (single_in n m f u v) f f' u u'
single-raised n m v f f' u u' e t = rw e t

pub single-second : (n m : ℕ) (v : Float) (f f' : List Float) (u u' : List ℕ) → eqb (nth u 0) 4 ≡ false → Turned (setup_in f u) (second_in n m f u (nth u 5) (nth u 6) v) f f' u u' → Turned (setup_in f u) (single_in n m f u v) f f' u u'
single-second n m v f f' u u' e t = rw e t

pub kept-ready : (n m : ℕ) (f f' : List Float) (u : List ℕ) → Ready n m f u → length f' ≡ length f → Ready n m f' u
kept-ready n m f f' u r e = ready-after n m f f' u u r e (words_same u) r.fresh
