-- A machine that fits its slices fits them after every answer of the right length.
use Prim.Native.Nat.{ℕ, zero, suc, ◌+◌, ◌-◌, ◌*◌, ◌≤◌, ◌<◌}
use mathlib.Core.Path.{◌≡◌, ap}
use mathlib.Core.Bool.{Bool, true, false, cond}
use mathlib.Core.List.{List, [], ◌∷◌, ◌++◌}
use native.Mathlib.Nat.{suc-mul}
use native.Mathlib.Omega.{arith}
use lib.Dec.{T, eqb, eqb→eq}
use lib.ListN.{length, replicate, length-replicate, length-append}
use lib.Ieee.{Float, nan, le}
use Rattle.numbers.specs.Numbers.{+0, at, one}
use Rattle.numbers.proofs.Lists.{length-tab}
use Rattle.workspace.specs.Tables.{Answer, done, refused}
use Rattle.hessian.proofs.Lengths.{length-identity, length-update}
use Rattle.step.specs.Step.{Step}
use Rattle.search.specs.Setup.{Setup, Scheme, told, forward, central, Point, Report, Ending, are_finite, is_finite}
use Rattle.search.specs.Turn.{Iterate, Line, Opened, stop, go, clipped, point_of, report_of, blank, first, reset, full_relaxation, penalties, line_of, is_still, stepped, factored, opened, backtracks, along, merit, is_enough, moved, is_settled, raise, lower}
use Rattle.search.specs.Written.{Goal, begun, taken, report_for, due, pay, row_done}
use Rattle.search.specs.Machine.{Machine, ended, starting, trying, sloping, raised, lowered, try_next, turn_from, turn_next, arrive_next, move_next, slopes_next, refused_next, shorten_next, judge_next, lower_next, tell, begin, standing}
use Rattle.search.specs.Layout.{known, FitsPoint, FitsIterate, FitsGoal, Fits}
use Rattle.search.specs.Promise.{is_wanted}
use Rattle.search.proofs.Turns.{FitsReport}

module _ (p : Setup) where
  -- ---- reports and tests

  abbrev FitsHere : Machine → Type 0
  FitsHere M = Fits p.n p.m M

  report-of : (s : Iterate) → FitsIterate p.n p.m s → FitsReport p.n p.m (report_of s)
  report-of s h = (h.point, h.multipliers)

  pub report-blank : (q : Point) → FitsPoint p.n p.m q → FitsReport p.n p.m (blank p q)
  report-blank q h = (h, length-replicate p.m +0)

  pub report-for : (goal : Goal) (q : Point) → FitsGoal p.n p.m goal → FitsPoint p.n p.m q → FitsReport p.n p.m (report_for p goal q)
  report-for begun q g h = report-blank q h
  report-for (taken s) q g h = report-of s g

  fit-either : (t : Bool) (a o : Machine) → FitsHere a → FitsHere o → FitsHere (cond t a o)
  fit-either true a o h g = h
  fit-either false a o h g = g

  fit-due : (b : ℕ) (r : Report) (k : ℕ → Machine) → b ≤ 10000 → FitsReport p.n p.m r → ((c : ℕ) → c ≤ 10000 → FitsHere (k c)) → FitsHere (due ended b r k)
  fit-due zero r k l h g = h
  fit-due (suc b) r k l h g = g b (omega arith)

  fit-pay : (w b : ℕ) (r : Report) (k : ℕ → Machine) → b ≤ 10000 → FitsReport p.n p.m r → ((c : ℕ) → c ≤ 10000 → FitsHere (k c)) → FitsHere (pay ended w b r k)
  fit-pay zero b r k l h g = fit-due b r k l h g
  fit-pay (suc w) b r k l h g = g b l

  fit_row : (w : ℕ) (g : List Float) (r : Report) (k : Machine) → FitsReport p.n p.m r → FitsHere k → FitsHere (row_done ended w g r k)
  fit_row zero g r k h f = fit-either (are_finite g) k _ f h
  fit_row (suc w) g r k h f = f

  -- ---- a turn

  pub fit-reset : (s : Iterate) → FitsIterate p.n p.m s → FitsIterate p.n p.m (reset p s)
  fit-reset s h = record { point = h.point; slopes = h.slopes; b = length-identity p.n; penalty = h.penalty; multipliers = h.multipliers }

  abbrev pub FitsOpened : Opened → Type 0
  FitsOpened (stop e s) = FitsIterate p.n p.m s
  FitsOpened (go s line) = FitsIterate p.n p.m s × (length line.d ≡ p.n)

  fit-three : (t u : Bool) (e e' : Ending) (s s₁ s₂ : Iterate) (line : Line) → FitsIterate p.n p.m s → FitsIterate p.n p.m s₁ → FitsIterate p.n p.m s₂ → length line.d ≡ p.n
      → FitsOpened (cond t (stop e s) (cond u (stop e' s₁) (go s₂ line)))
  fit-three true u e e' s s₁ s₂ line h h₁ h₂ d = h
  fit-three false true e e' s s₁ s₂ line h h₁ h₂ d = h₁
  fit-three false false e e' s s₁ s₂ line h h₁ h₂ d = (h₂, d)

  pub fit-stepped : (s : Iterate) (a : Answer Step) → FitsIterate p.n p.m s → FitsOpened (stepped p s a)
  unfolding stepped penalties line_of
  fit-stepped s (refused k) h = h
  fit-stepped s (done t) h =
      fit-three (le full_relaxation t.relaxation) (is_still p s t) _ _ _ _ _ _ h
      (record { point = h.point; slopes = h.slopes; b = h.b; penalty = h.penalty; multipliers = length-tab p.m _ })
      (record { point = h.point; slopes = h.slopes; b = h.b; penalty = length-tab p.m _; multipliers = length-tab p.m _ })
      (length-tab p.n _)

  pub fit-factored : (s : Iterate) (a : Answer (List Float)) → FitsIterate p.n p.m s → FitsOpened (factored p s a)
  unfolding factored
  fit-factored s (done l) h = fit-stepped s _ h
  fit-factored s (refused k) h = fit-stepped (reset p s) _ (fit-reset s h)

  fit-try : (b : ℕ) (s : Iterate) (line : Line) (α : Float) (again : ℕ) → b ≤ 10000 → FitsIterate p.n p.m s → length line.d ≡ p.n → again ≤ backtracks → FitsHere (try_next b s line α again)
  fit-try b s line α again l h d t = fit-due b (report_of s) _ l (report-of s h) (λ c m. (h, d, m, t))

  fit-from : (b : ℕ) (w : Opened) → b ≤ 10000 → FitsOpened w → FitsHere (turn_from b w)
  fit-from b (stop e s) l h = report-of s h
  fit-from b (go s line) l h = fit-try b s line one backtracks l h.0 h.1 (omega arith)

  fit-turn : (b : ℕ) (s : Iterate) → b ≤ 10000 → FitsIterate p.n p.m s → FitsHere (turn_next p b s)
  unfolding turn_next opened
  fit-turn b s l h = fit-from b (opened p s) l (fit-factored s _ h)

  -- ---- slopes

  pub fit-first : (q : Point) (g : List Float) → FitsPoint p.n p.m q → length g ≡ suc p.m * p.n → FitsIterate p.n p.m (first p q g)
  fit-first q g h e = record { point = h; slopes = e; b = length-identity p.n; penalty = length-replicate p.m +0; multipliers = length-replicate p.m +0 }

  pub fit-moved : (s : Iterate) (q : Point) (g : List Float) → FitsIterate p.n p.m s → FitsPoint p.n p.m q → length g ≡ suc p.m * p.n → FitsIterate p.n p.m (moved p s q g)
  unfolding moved
  fit-moved s q g h hq e = record { point = hq; slopes = e; b = length-update p.n s.b _ _ h.b; penalty = h.penalty; multipliers = h.multipliers }

  fit-arrive : (goal : Goal) (b : ℕ) (q : Point) (g : List Float) → b ≤ 10000 → FitsGoal p.n p.m goal → FitsPoint p.n p.m q → length g ≡ suc p.m * p.n → FitsHere (arrive_next p goal b q g)
  fit-arrive begun b q g l h hq e = fit-turn b _ l (fit-first q g hq e)
  fit-arrive (taken s) b q g l h hq e =
      fit-either (is_settled p s q) _ _ (report-of (moved p s q g) (fit-moved s q g h hq e)) (fit-turn b (moved p s q g) l (fit-moved s q g h hq e))

  fit-move : (goal : Goal) (q : Point) (rows cols b : ℕ) (g : List Float) → rows ≤ p.m → cols ≤ p.n → b ≤ 10000 → FitsGoal p.n p.m goal → FitsPoint p.n p.m q
      → length g ≡ (p.m - rows) * p.n + (p.n - cols) → FitsHere (move_next p goal q rows cols b g)
  unfolding move_next
  fit-move goal q zero zero b g l k bl h hq e =
      let a : suc p.m * p.n ≡ p.m * p.n + p.n = suc-mul p.m p.n in
      let c : (p.m - zero) * p.n ≡ p.m * p.n = ap (λ t. t * p.n) (let d : p.m - zero ≡ p.m = omega arith in d) in
      fit-either (are_finite g) _ _ (fit-arrive goal b q g bl h hq (omega arith)) (report-for goal q h hq)
  fit-move goal q (suc rows) zero b g l k bl h hq e =
      let a : suc (p.m - suc rows) * p.n ≡ (p.m - suc rows) * p.n + p.n = suc-mul (p.m - suc rows) p.n in
      let c : (p.m - rows) * p.n ≡ suc (p.m - suc rows) * p.n = ap (λ t. t * p.n) (let d : p.m - rows ≡ suc (p.m - suc rows) = omega arith in d) in
      fit_row (p.m - suc rows) g _ _ (report-for goal q h hq) (fit-move goal q rows p.n b g (omega arith) (omega arith) bl h hq (omega arith))
  fit-move goal q zero (suc cols) b g l k bl h hq e =
      fit-either (is_finite (raise (at q.x (p.n - suc cols)))) _ _
      (fit-pay (p.m - zero) b _ _ bl (report-for goal q h hq) (λ c cl. (h, hq, cl, l, k, e))) (report-for goal q h hq)
  fit-move goal q (suc rows) (suc cols) b g l k bl h hq e =
      fit-either (is_finite (raise (at q.x (p.n - suc cols)))) _ _
      (fit-pay (p.m - suc rows) b _ _ bl (report-for goal q h hq) (λ c cl. (h, hq, cl, l, k, e))) (report-for goal q h hq)

  fit_all : (goal : Goal) (b : ℕ) (q : Point) → b ≤ 10000 → FitsGoal p.n p.m goal → FitsPoint p.n p.m q → FitsHere (move_next p goal q p.m p.n b [])
  fit_all goal b q l h hq =
      let c : (p.m - p.m) * p.n ≡ 0 * p.n = ap (λ t. t * p.n) (let d : p.m - p.m ≡ 0 = omega arith in d) in
      fit-move goal q p.m p.n b [] (omega arith) (omega arith) l h hq (omega arith)

  fit-slopes : (s : Scheme) (goal : Goal) (b : ℕ) (q : Point) → b ≤ 10000 → FitsGoal p.n p.m goal → FitsPoint p.n p.m q → FitsHere (slopes_next s p goal b q)
  fit-slopes told goal b q l h hq = (h, hq, l)
  fit-slopes forward goal b q l h hq = fit_all goal b q l h hq
  fit-slopes central goal b q l h hq = fit_all goal b q l h hq

  -- ---- answers

  fit-new : (x v : List Float) → length x ≡ p.n → length v ≡ suc p.m → FitsPoint p.n p.m (point_of x v)
  fit-new x v h g = record { x = h; values = g }

  fit_refused : (t : Bool) (b : ℕ) (s : Iterate) (q : Point) → b ≤ 10000 → FitsIterate p.n p.m s → FitsPoint p.n p.m q → FitsHere (refused_next t p b s q)
  fit_refused true b s q l h hq = fit-slopes p.scheme (taken s) b q l h hq
  fit_refused false b s q l h hq = fit-turn b (reset p s) l (fit-reset s h)

  fit-shorten : (again b : ℕ) (s : Iterate) (line : Line) (α : Float) (q : Point) → b ≤ 10000 → FitsIterate p.n p.m s → length line.d ≡ p.n → again ≤ backtracks → FitsPoint p.n p.m q
      → FitsHere (shorten_next again p b s line α q)
  fit-shorten zero b s line α q l h d t hq = fit_refused s.fresh b s q l h hq
  fit-shorten (suc again) b s line α q l h d t hq = fit-try b s line α again l h d (omega arith)

  fit-judge : (again b : ℕ) (s : Iterate) (line : Line) (α : Float) (q : Point) → b ≤ 10000 → FitsIterate p.n p.m s → length line.d ≡ p.n → again ≤ backtracks → FitsPoint p.n p.m q
      → FitsHere (judge_next p b s line α again q)
  unfolding judge_next
  fit-judge again b s line α q l h d t hq =
      fit-either (is_enough line α (merit p s.penalty q.values)) _ _ (fit-slopes p.scheme (taken s) b q l h hq) (fit-shorten again b s line _ q l h d t hq)

  fit-more : (goal : Goal) (q : Point) (rows cols b : ℕ) (g : List Float) (x : Float) → rows ≤ p.m → cols < p.n → b ≤ 10000 → FitsGoal p.n p.m goal → FitsPoint p.n p.m q
      → length g ≡ known p.n p.m rows cols → FitsHere (move_next p goal q rows cols b (g ++ (x ∷ [])))
  fit-more goal q rows cols b g x l k bl h hq e =
      let a : length (g ++ (x ∷ [])) ≡ length g + 1 = length-append g (x ∷ []) in
      fit-move goal q rows cols b (g ++ (x ∷ [])) l (omega arith) bl h hq (omega arith)

  fit-lower : (s : Scheme) (b : ℕ) (goal : Goal) (q : Point) (rows cols : ℕ) (g : List Float) (v : Float) → FitsHere (raised b goal q rows cols g) → FitsHere (lower_next s p b goal q rows cols g v)
  fit-lower told b goal q rows cols g v h = fit-more goal q rows cols b g _ h.3 h.4 h.2 h.0 h.1 h.5
  fit-lower forward b goal q rows cols g v h = fit-more goal q rows cols b g _ h.3 h.4 h.2 h.0 h.1 h.5
  fit-lower central b goal q rows cols g v h =
      fit-either (is_finite (lower (at q.x (p.n - suc cols)))) _ _
      (fit-pay (p.m - rows) b _ _ h.2 (report-for goal q h.0 h.1) (λ c cl. (h.0, h.1, cl, h.3, h.4, h.5))) (report-for goal q h.0 h.1)

  has-length : (v : List Float) (k : ℕ) → T (eqb (length v) k) → length v ≡ k
  has-length v k h = eqb→eq (length v) k h

  pub fit-tell : (M : Machine) (v : List Float) → FitsHere M → T (is_wanted p (standing p M) v) → FitsHere (tell p M v)
  unfolding tell along
  fit-tell (ended e r) v h w = h
  fit-tell (starting b x) v h w =
      let q = fit-new x v h.0 (has-length v (suc p.m) w) in
      fit-either (are_finite v) _ _ (fit-slopes p.scheme begun b _ h.1 tt q) (report-blank _ q)
  fit-tell (trying b s line α again) v h w =
      let q = fit-new (along p s line α) v (length-tab p.n _) (has-length v (suc p.m) w) in
      fit-either (are_finite v) _ _ (fit-judge again b s line α _ h.2 h.0 h.1 h.3 q) (report-of s h.0)
  fit-tell (sloping b goal q) v h w =
      fit-either (are_finite v) _ _ (fit-arrive goal b q v h.2 h.0 h.1 (has-length v (suc p.m * p.n) w)) (report-for goal q h.0 h.1)
  fit-tell (raised b goal q rows cols g) v h w =
      fit-either (are_finite v) _ _ (fit-lower p.scheme b goal q rows cols g _ h) (report-for goal q h.0 h.1)
  fit-tell (lowered b goal q rows cols g u) v h w =
      fit-either (are_finite v) _ _ (fit-more goal q rows cols b g _ h.3 h.4 h.2 h.0 h.1 h.5) (report-for goal q h.0 h.1)

  pub fit-begin : (x : List Float) (b : ℕ) → b ≤ 10000 → FitsHere (begin p x b)
  unfolding begin clipped
  fit-begin x b l =
      let q = fit-new (clipped p x) (replicate (suc p.m) nan) (length-tab p.n _) (length-replicate (suc p.m) nan) in
      fit-either (are_finite x) _ _ (fit-due b _ _ l (report-blank _ q) (λ c cl. (length-tab p.n _, cl))) (report-blank _ q)
