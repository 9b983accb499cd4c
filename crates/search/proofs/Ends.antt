-- What a run reports at its end: x is inside the bounds, and where it converged every violation is below the tolerance.
use Prim.Native.Nat.{ℕ, zero, suc, ◌-◌, ◌<◌}
use mathlib.Core.Path.{◌≡◌, refl, sym, ap, ◌∙◌, subst}
use mathlib.Core.Bool.{Bool, true, false, cond, ◌&&◌, not, true≢false}
use mathlib.Core.List.{List, [], ◌∷◌}
use mathlib.Core.Logic.{⊎_elim}
use mathlib.Core.Option.{some}
use native.Mathlib.Omega.{arith}
use lib.Dec.{T, eqb}
use lib.ListN.{length}
use lib.Ieee.{Float, nan, inf, fin, lt, le, eq, neg, is_nan}
use Rattle.numbers.specs.Numbers.{+0, one, ◌⊕◌, ◌⊖◌, at, nth, tab, dot}
use Rattle.numbers.proofs.Cases.{last-or-before}
use Rattle.numbers.proofs.Lists.{get_d-tab}
use Rattle.numbers.proofs.Order.{lt-between, lt-asym}
use Rattle.workspace.proofs.Tests.{and-true}
use Rattle.workspace.specs.Tables.{Answer, done, refused}
use Rattle.nnls.proofs.Signs.{T→true}
use Rattle.hessian.specs.Hessian.{identity, cholesky}
use Rattle.step.specs.Step.{Step, step}
use Rattle.search.specs.Setup.{Setup, Scheme, told, forward, central, Point, Report, Ending, converged, infeasible, exhausted, nonfinite, is_finite, are_finite}
use Rattle.search.specs.Turn.{Iterate, Line, Opened, stop, go, magnitude, larger, violation, violations, largest, max_violation, clipped, point_of, unknown, report_of, blank, first, reset, model_of, complementarity, full_relaxation, with_step, penalties, line_of, is_still, stepped, factored, opened, backtracks, along, merit, is_enough, shorter, moved, is_settled, raise, lower}
use Rattle.search.specs.Written.{Script, ends, asks, due, pay, values_at, value_at, lower_at, row_at, row_done, rows_at, slopes_by, taken, arrive, trials, onward, turn, body, turns, loop, written, over, stands, follow, follow_all}
use Rattle.search.specs.Machine.{Machine, ended, begin, tell, tell_all, standing}
use Rattle.search.specs.Layout.{ending_number, Fits}
use Rattle.search.specs.Claims.{IsInside}
use Rattle.search.specs.Promise.{is_wanted, is_waiting}
use Rattle.search.specs.Calls.{hears_all, EndsWell}
use Rattle.search.proofs.Machines.{step-for-step}
use Rattle.search.proofs.Inside.{stays-inside}
use Rattle.search.proofs.Calls.{begun-sound, kept-all}

-- ---- every end of a script

abbrev AllEnds : (Ending → Report → Type 0) → Script → Type 0
AllEnds Q (ends e r) = Q e r
AllEnds Q (asks q k) = (v : List Float) → AllEnds Q (k v)

module _ (Q : Ending → Report → Type 0) where
  follow-ends : (s : Script) (v : List Float) → AllEnds Q s → AllEnds Q (follow s v)
  follow-ends (ends e r) v h = h
  follow-ends (asks q k) v h = h v

  follow-all : (vs : List (List Float)) (s : Script) → AllEnds Q s → AllEnds Q (follow_all s vs)
  unfolding follow_all
  follow-all [] s h = h
  follow-all (v ∷ vs) s h = follow-all vs (follow s v) (follow-ends s v h)

  stands-end : (s : Script) (e : Ending) (r : Report) → AllEnds Q s → stands s ≡ over e r → Q e r
  stands-end (ends d t) e r h z =
      let same-ending : d ≡ e = cc in
      let same-report : t ≡ r = cc in
      subst (λ (x : Ending). Q x r) same-ending (subst (λ (x : Report). Q d x) same-report h)
  stands-end (asks q k) e r h z = let y : ◌≡◌ {A = ℕ} 1 0 = cc in absurd (let w : ⊥ = omega (arith, y) in w)

-- ---- of a problem whose bounds are in order

module _ (p : Setup) (ordered : (i : ℕ) → i < p.n → lt (at p.upper i) (at p.lower i) ≡ false) where
  abbrev Inside : List Float → Type 0
  Inside x = (i : ℕ) → i < p.n → IsInside p i (at x i)

  -- a point inside, with finite values
  record Good (q : Point) : Type 0 where
    inside : Inside q.x
    finite : are_finite q.values ≡ true

  record Well (e : Ending) (r : Report) : Type 0 where
    inside : Inside r.point.x
    within : e ≡ converged → (are_finite r.point.values ≡ true) × (lt (max_violation p r.point.values) p.ftol ≡ true)

  -- an end that has not converged
  elsewhere : (e : Ending) (r : Report) → (ending_number e ≡ 6 → ⊥) → Inside r.point.x → Well e r
  elsewhere e r n h = record { inside = h; within = λ z. absurd (n (ap ending_number z)) }

  spent-well : (r : Report) → Inside r.point.x → Well exhausted r
  spent-well r h = elsewhere exhausted r (λ z. omega (arith, z)) h

  met-well : (r : Report) → Inside r.point.x → Well nonfinite r
  met-well r h = elsewhere nonfinite r (λ z. omega (arith, z)) h

  abbrev Ends : Script → Type 0
  Ends s = AllEnds Well s

  -- ---- tests on the way

  module _ (r : Report) (h : Inside r.point.x) where
    finite-ends : (t : Bool) (s : Script) → (t ≡ true → Ends s) → Ends (cond t s (ends nonfinite r))
    finite-ends true s g = g refl
    finite-ends false s g = met-well r h

    due-ends : (b : ℕ) (k : ℕ → Script) → ((c : ℕ) → Ends (k c)) → Ends (due ends b r k)
    due-ends zero k g = spent-well r h
    due-ends (suc b) k g = g b

    pay-ends : (w b : ℕ) (k : ℕ → Script) → ((c : ℕ) → Ends (k c)) → Ends (pay ends w b r k)
    pay-ends zero b k g = due-ends b k g
    pay-ends (suc w) b k g = g b

    -- ---- slopes

    value-ends : (b rows : ℕ) (x : List Float) (cols : ℕ) (y : Float) (k : ℕ → Float → Script) → ((c : ℕ) (v : Float) → Ends (k c v)) → Ends (value_at p b r rows x cols y k)
    unfolding value_at
    value-ends b rows x cols y k g = finite-ends (is_finite y) _ (λ _. pay-ends (p.m - rows) b _ (λ c v. finite-ends (are_finite v) _ (λ _. g c (at v 0))))

    lower-ends : (s : Scheme) (b rows : ℕ) (q : Point) (cols : ℕ) (k : ℕ → Float → Float → Script) → ((c : ℕ) (u z : Float) → Ends (k c u z)) → Ends (lower_at s p b r rows q cols k)
    lower-ends told b rows q cols k g = g b _ _
    lower-ends forward b rows q cols k g = g b _ _
    lower-ends central b rows q cols k g = value-ends b rows q.x cols (lower (at q.x (p.n - suc cols))) _ (λ c u. g c u _)

    row_ends : (rows : ℕ) (q : Point) (cols b : ℕ) (g : List Float) (k : ℕ → List Float → Script) → ((c : ℕ) (g : List Float) → Ends (k c g)) → Ends (row_at p r rows q cols b g k)
    unfolding row_at
    row_ends rows q zero b g k f = f b g
    row_ends rows q (suc cols) b g k f =
        value-ends b rows q.x cols (raise (at q.x (p.n - suc cols))) _ (λ c v. lower-ends p.scheme c rows q cols _ (λ c u z. row_ends rows q cols c _ k f))

    done-ends : (w : ℕ) (g : List Float) (s : Script) → Ends s → Ends (row_done ends w g r s)
    done-ends zero g s e = finite-ends (are_finite g) s (λ _. e)
    done-ends (suc w) g s e = e

    rows-ends : (rows : ℕ) (q : Point) (b : ℕ) (g : List Float) (k : ℕ → List Float → Script) → ((c : ℕ) (g : List Float) → Ends (k c g)) → Ends (rows_at p r rows q b g k)
    unfolding rows_at
    rows-ends zero q b g k f = row_ends zero q p.n b g _ (λ c y. finite-ends (are_finite y) (k c y) (λ _. f c y))
    rows-ends (suc rows) q b g k f = row_ends (suc rows) q p.n b g _ (λ c y. done-ends (p.m - suc rows) y _ (rows-ends rows q c y k f))

    slopes-ends : (s : Scheme) (b : ℕ) (q : Point) (k : ℕ → List Float → Script) → ((c : ℕ) (g : List Float) → Ends (k c g)) → Ends (slopes_by s p b r q k)
    slopes-ends told b q k f = λ g. finite-ends (are_finite g) (k b g) (λ _. f b g)
    slopes-ends forward b q k f = rows-ends p.m q b [] k f
    slopes-ends central b q k f = rows-ends p.m q b [] k f

    values-ends : (b : ℕ) (x : List Float) (k : ℕ → Point → Script) → ((c : ℕ) (v : List Float) → are_finite v ≡ true → Ends (k c (point_of x v))) → Ends (values_at b r x k)
    unfolding values_at
    values-ends b x k g = due-ends b _ (λ c v. finite-ends (are_finite v) _ (λ e. g c v e))

  -- ---- a turn

  along-inside : (s : Iterate) (line : Line) (α : Float) → Inside (along p s line α)
  along-inside s line α i l = (stays-inside p i l (ordered i l)).1 s line α

  either-ends : (t : Bool) (s u : Script) → (t ≡ true → Ends s) → Ends u → Ends (cond t s u)
  either-ends true s u g h = g refl
  either-ends false s u g h = h

  trials-end : (count b : ℕ) (s : Iterate) (line : Line) (α : Float) (q : Point) (k : ℕ → Bool → Point → Script) → Inside s.point.x → (count ≡ 0 → Good q)
      → ((c : ℕ) (a : Bool) (t : Point) → Good t → Ends (k c a t)) → Ends (trials count p b s line α q k)
  unfolding trials
  trials-end zero b s line α q k i h g = g b false q (h refl)
  trials-end (suc count) b s line α q k i h g =
      values-ends (report_of s) i b (along p s line α) _
      (λ c v e.
      let t = point_of (along p s line α) v in
      let good : Good t = record { inside = along-inside s line α; finite = e } in
      either-ends (is_enough line α (merit p s.penalty v)) _ _ (λ _. g c true t good)
      (trials-end count c s line (shorter line α (merit p s.penalty v)) t k i (λ _. good) g))

  module _ (next : ℕ → Iterate → Script) (again : (b : ℕ) (s : Iterate) → Good s.point → Ends (next b s)) where
    arrive-ends : (s : Iterate) (b : ℕ) (q : Point) (g : List Float) → Good q → Ends (arrive ends next p (taken s) b q g)
    unfolding moved is_settled
    arrive-ends s b q g h =
        either-ends (is_settled p s q) _ _
        (λ e. record { inside = h.inside; within = λ _. (h.finite, (and-true (lt (magnitude (at q.values 0 ⊖ at s.point.values 0)) p.ftol) (lt (max_violation p q.values) p.ftol) e).1) })
        (again b (moved p s q g) h)

    onward-ends : (s : Iterate) (b : ℕ) (a : Bool) (q : Point) → Good s.point → Good q → Ends (onward next p s b a q)
    onward-ends s b a q i h =
        either-ends (not a && not s.fresh) _ _ (λ _. again b (reset p s) (record { inside = i.inside; finite = i.finite }))
        (slopes-ends (report_of s) i.inside p.scheme b q _ (λ c g. arrive-ends s c q g h))

    -- what a turn begins with
    record Opens (s : Iterate) (o : Opened) : Type 0 where
      stopped : (e : Ending) (t : Iterate) → o ≡ stop e t → (t.point ≡ s.point) × (e ≡ converged → lt (max_violation p s.point.values) p.ftol ≡ true)
      goes : (t : Iterate) (line : Line) → o ≡ go t line → t.point ≡ s.point

    turn-ends : (b : ℕ) (s : Iterate) (o : Opened) → Good s.point → Opens s o → Ends (turn next p b o)
    turn-ends b s (stop e t) h z =
        let y = z.stopped e t refl in
        record { inside = subst (λ (q : Point). Inside q.x) (sym y.0) h.inside; within = λ c. subst (λ (q : Point). (are_finite q.values ≡ true) × (lt (max_violation p q.values) p.ftol ≡ true)) (sym y.0) (h.finite, y.1 c) }
    turn-ends b s (go t line) h z =
        let good : Good t.point = subst Good (sym (z.goes t line refl)) h in
        trials-end (suc backtracks) b t line one (point_of [] []) (onward next p t) good.inside (λ e. absurd (let y : ⊥ = omega (arith, e) in y)) (λ c a q g. onward-ends t c a q good g)

    never-goes : {A : Type 0} (e : Ending) (s t : Iterate) (line : Line) → stop e s ≡ go t line → A
    never-goes e s t line z = let y : ◌≡◌ {A = ℕ} 0 1 = cc in absurd (let w : ⊥ = omega (arith, y) in w)

    infeasible-opens : (s u : Iterate) → u.point ≡ s.point → Opens s (stop infeasible u)
    infeasible-opens s u h = record {
      stopped = λ e t z. (ap (λ (o : Opened). point_in o) (sym z) ∙ h, λ c. absurd (let y = ap ending_number (ap end_in z ∙ c) in let w : ⊥ = omega (arith, y) in w));
      goes = λ t line z. never-goes infeasible u t line z;
    }
      where
        point_in : Opened → Point
        point_in (stop e t) = t.point
        point_in (go t line) = t.point

        end_in : Opened → Ending
        end_in (stop e t) = e
        end_in (go t line) = infeasible

    opened-opens : (s : Iterate) → Opens s (opened p s)
    unfolding opened factored stepped is_still
    opened-opens s = by-factor (cholesky p.n s.b)
      where
        point_in : Opened → Point
        point_in (stop e t) = t.point
        point_in (go t line) = t.point

        still : (u : Iterate) (t : Step) → u.point ≡ s.point → (c : Bool) → is_still p u t ≡ c → (v w : Iterate) (line : Line) → v.point ≡ s.point → w.point ≡ s.point → Opens s (cond c (stop converged v) (go w line))
        still u t h true e v w line i j = record {
          stopped = λ f x z. (ap point_in (sym z) ∙ i, λ _. subst (λ (q : Point). lt (max_violation p q.values) p.ftol ≡ true) h (and-true (lt (magnitude (dot p.n u.slopes t.d) ⊕ complementarity p.m t.multipliers u.point.values) p.ftol) (lt (max_violation p u.point.values) p.ftol) e).1);
          goes = λ x y z. never-goes converged v x y z;
        }
        still u t h false e v w line i j = record {
          stopped = λ f x z. never-goes f x w line (sym z);
          goes = λ x y z. ap point_in (sym z) ∙ j;
        }

        relaxes : (u : Iterate) → u.point ≡ s.point → (c : Bool) (o : Opened) → Opens s o → Opens s (cond c (stop infeasible u) o)
        relaxes u h true o g = infeasible-opens s u h
        relaxes u h false o g = g

        by-step : (u : Iterate) → u.point ≡ s.point → (a : Answer Step) → Opens s (stepped p u a)
        by-step u h (refused k) = infeasible-opens s u h
        by-step u h (done t) =
            let l = tab p.m (λ j. at t.multipliers j) in
            let w = with_step u (penalties p.m u.penalty l) l in
            relaxes u h (le full_relaxation t.relaxation) _ (still u t h (is_still p u t) refl (with_step u u.penalty l) w (line_of p w t) h h)

        by-factor : (a : Answer (List Float)) → Opens s (factored p s a)
        by-factor (done l) = by-step s refl (step (model_of p l s)).answer
        by-factor (refused k) = by-step (reset p s) refl (step (model_of p (identity p.n) (reset p s))).answer

    body-ends : (b : ℕ) (s : Iterate) → Good s.point → Ends (body next p b s)
    unfolding body
    body-ends b s h = turn-ends b s (opened p s) h (opened-opens s)

  turns-end : (fuel b : ℕ) (s : Iterate) → Good s.point → Ends (turns fuel p b s)
  unfolding turns
  turns-end zero b s h = body-ends (λ c t. ends exhausted (report_of t)) (λ c t g. spent-well (report_of t) g.inside) b s h
  turns-end (suc fuel) b s h = body-ends (turns fuel p) (λ c t g. turns-end fuel c t g) b s h

  written-ends : (x : List Float) (b : ℕ) → Ends (written p x b)
  unfolding written loop
  written-ends x b =
      let y = clipped p x in
      let h : Inside y = λ i l. (stays-inside p i l (ordered i l)).0 x in
      finite-ends (blank p (unknown p y)) h (are_finite x) _ (λ _.
      due-ends (blank p (unknown p y)) h b _ (λ c v.
      let q = point_of y v in
      finite-ends (blank p q) h (are_finite v) _ (λ e.
      slopes-ends (blank p q) h p.scheme c q _ (λ c g. turns-end c c (first p q g) (record { inside = h; finite = e })))))

-- ---- each violation

-- an entry of finite numbers is finite
finite-at : (v : List Float) (j : ℕ) → j < length v → are_finite v ≡ true → is_finite (at v j) ≡ true
unfolding are_finite
finite-at [] j l h = absurd (omega (arith, l))
finite-at (x ∷ v) zero l h = (and-true (is_finite x) (are_finite v) h).0
finite-at (x ∷ v) (suc j) l h = finite-at v j (omega (arith, l)) (and-true (is_finite x) (are_finite v) h).1

finite-not-nan : (x : Float) → is_finite x ≡ true → x ≡ nan → ⊥
finite-not-nan x h e = true≢false (sym h ∙ ap is_finite e)

finite-neg : (c : Float) → is_finite c ≡ true → is_finite (neg c) ≡ true
unfolding neg
finite-neg nan h = h
finite-neg (inf s) h = h
finite-neg (fin s m k) h = refl

-- so is its violation
finite-violation : (equality : Bool) (c : Float) → is_finite c ≡ true → is_finite (violation equality c) ≡ true
unfolding magnitude
finite-violation true c h = go (lt c +0) (eq c +0)
  where
    go : (a b : Bool) → is_finite (cond a (neg c) (cond b +0 c)) ≡ true
    go true b = finite-neg c h
    go false true = refl
    go false false = h
finite-violation false c h = go (lt c +0)
  where
    go : (a : Bool) → is_finite (cond a (neg c) +0) ≡ true
    go true = finite-neg c h
    go false = refl

not-nan : (x : Float) → (x ≡ nan → ⊥) → is_nan x ≡ false
unfolding is_nan
not-nan nan h = absurd (h refl)
not-nan (inf s) h = refl
not-nan (fin s m k) h = refl

-- the larger of two numbers
larger-number : (x y : Float) → (x ≡ nan → ⊥) → (y ≡ nan → ⊥) → larger x y ≡ nan → ⊥
unfolding larger
larger-number x y h g = go (is_nan x) (lt x y)
  where
    go : (a b : Bool) → cond a y (cond b y x) ≡ nan → ⊥
    go true b e = g e
    go false true e = g e
    go false false e = h e

lt-through : (x y t : Float) → (x ≡ nan → ⊥) → lt x y ≡ true → lt y t ≡ true → lt x t ≡ true
lt-through x y t h e f =
    ⊎_elim (λ (z : T (lt y x)). absurd (true≢false (sym (T→true (lt y x) z) ∙ lt-asym x y (subst T (sym e) tt)))) (λ (z : T (lt x t)). T→true (lt x t) z) (lt-between y x t h (subst T (sym f) tt))

lt-beside : (x y t : Float) → (y ≡ nan → ⊥) → lt x y ≡ false → lt x t ≡ true → lt y t ≡ true
lt-beside x y t h e f =
    ⊎_elim (λ (z : T (lt x y)). absurd (true≢false (sym (T→true (lt x y) z) ∙ e))) (λ (z : T (lt y t)). T→true (lt y t) z) (lt-between x y t h (subst T (sym f) tt))

below_both : (x y t : Float) → (x ≡ nan → ⊥) → (y ≡ nan → ⊥) → lt (larger x y) t ≡ true → (lt x t ≡ true) × (lt y t ≡ true)
unfolding larger
below_both x y t h g e = go (lt x y) refl (sym (ap (λ (b : Bool). lt (cond b y (cond (lt x y) y x)) t) (not-nan x h)) ∙ e)
  where
    go : (b : Bool) → lt x y ≡ b → lt (cond b y x) t ≡ true → (lt x t ≡ true) × (lt y t ≡ true)
    go true d f = (lt-through x y t h d f, f)
    go false d f = (f, lt-beside x y t g d f)

largest-number : (n : ℕ) (v : List Float) → ((j : ℕ) → j < n → at v j ≡ nan → ⊥) → largest n v ≡ nan → ⊥
unfolding largest
largest-number zero v h = finite-not-nan +0 refl
largest-number (suc n) v h = larger-number (largest n v) (at v n) (largest-number n v (λ j l. h j (omega arith))) (h n (omega arith))

-- where the largest is below, each is
all-below : (t : Float) (n : ℕ) (v : List Float) → ((j : ℕ) → j < n → at v j ≡ nan → ⊥) → lt (largest n v) t ≡ true → (j : ℕ) → j < n → lt (at v j) t ≡ true
unfolding largest
all-below t zero v h e j l = absurd (omega arith)
all-below t (suc n) v h e j l =
    let z = below_both (largest n v) (at v n) t (largest-number n v (λ j l. h j (omega arith))) (h n (omega arith)) e in
    ⊎_elim (λ (q : j ≡ n). rw q z.1) (λ (q : j < n). all-below t n v (λ j l. h j (omega arith)) z.0 j q) (last-or-before n j l)

each-violation : (p : Setup) (v : List Float) → length v ≡ suc p.m → are_finite v ≡ true → lt (max_violation p v) p.ftol ≡ true → (j : ℕ) → j < p.m → lt (at (violations p v) j) p.ftol ≡ true
unfolding max_violation violations
each-violation p v l f e =
    all-below p.ftol p.m (violations p v)
    (λ j q. finite-not-nan (at (violations p v) j)
    (ap is_finite (get_d-tab p.m (λ j. violation (eqb (nth p.kinds j) 0) (at v (suc j))) nan j q) ∙ finite-violation (eqb (nth p.kinds j) 0) (at v (suc j)) (finite-at v (suc j) (omega (arith, l, q)) f)))
    e

-- ---- the calls

-- what is heard is told, and what is not changes nothing
record Heard (p : Setup) (M : Machine) (vs : List (List Float)) : Type 0 where
  heard : List (List Float)
  same : hears_all p M vs ≡ tell_all p M heard

hears-some : (p : Setup) (vs : List (List Float)) (M : Machine) → Heard p M vs
unfolding hears_all tell_all
hears-some p [] M = record { heard = []; same = refl }
hears-some p (v ∷ vs) M = go (is_waiting (standing p M) && is_wanted p (standing p M) v) refl (hears-some p vs (tell p M v)) (hears-some p vs M)
  where
    go : (c : Bool) → (is_waiting (standing p M) && is_wanted p (standing p M) v) ≡ c → Heard p (tell p M v) vs → Heard p M vs → Heard p M (v ∷ vs)
    go true e h k = record { heard = v ∷ h.heard; same = ap (λ (c : Bool). hears_all p (cond c (tell p M v) M) vs) e ∙ h.same }
    go false e h k = record { heard = k.heard; same = ap (λ (c : Bool). hears_all p (cond c (tell p M v) M) vs) e ∙ k.same }

same_some : (M N : Machine) → some M ≡ some N → M ≡ N
same_some M N e = cc

pub ends-well : EndsWell
ends-well p scheme x b f u d vs e r h =
    let k = kept-all p scheme x b f u d vs in
    let s = begun-sound p scheme x b f u d in
    let M = hears_all p (begin p x b) vs in
    let z : M ≡ ended e r = same_some M (ended e r) (sym k.holds.machine ∙ h) in
    let g = hears-some p vs (begin p x b) in
    let w : Well p s.ordered e r =
    stands-end (Well p s.ordered) (follow_all (written p x b) g.heard) e r (follow-all (Well p s.ordered) g.heard (written p x b) (written-ends p s.ordered x b))
    (sym (step-for-step p x b g.heard) ∙ ap (standing p) (sym g.same ∙ z)) in
    let fits : Fits p.n p.m (ended e r) = subst (Fits p.n p.m) z k.fits in
    record {
      inside = w.inside;
      within = λ c. let y = w.within c in each-violation p r.point.values fits.0.values y.0 y.1;
    }
