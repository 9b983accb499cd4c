-- The machine does what the written loop does, step for step.
use Prim.Native.Nat.{ℕ, zero, suc, ◌-◌}
use mathlib.Core.Path.{◌≡◌, refl, sym, ap, ◌∙◌}
use mathlib.Core.Bool.{Bool, true, false, cond, not, ◌&&◌}
use mathlib.Core.List.{List, [], ◌∷◌, ◌++◌}
use lib.ListN.{set}
use lib.Ieee.{Float}
use Rattle.numbers.specs.Numbers.{one, at}
use Rattle.search.specs.Setup.{Setup, Scheme, told, forward, central, Point, Report, values, slopes, single, Ending, converged, nonfinite, are_finite, is_finite}
use Rattle.search.specs.Turn.{Iterate, Line, Opened, stop, go, point_of, report_of, blank, first, reset, opened, backtracks, along, merit, is_enough, shorter, moved, is_settled, raise, lower, quotient}
use Rattle.search.specs.Written.{Script, ends, asks, pay, sound, reach, row_done, values_at, value_at, lower_at, row_at, rows_at, slopes_by, slopes_at, Goal, begun, taken, report_for, arrive, trials, onward, turn, body, loop, written, stands, follow, follow_all}
use Rattle.search.specs.Machine.{Machine, ended, starting, trying, sloping, raised, lowered, try_next, turn_from, turn_next, arrive_next, move_next, slopes_next, refused_next, shorten_next, judge_next, lower_next, tell, begin, tell_all, standing}
use Rattle.search.specs.Claims.{StepForStep, StaysEnded}
use Rattle.search.proofs.Budgets.{unrolls}

-- ---- what is left of the loop in each state

-- what goes on when the slopes at q are known
abbrev pub arrived : Setup → Goal → Point → ℕ → List Float → Script
arrived p goal q = λ b g. arrive ends (loop p) p goal b q g

-- what goes on behind a row
abbrev pub rest : Setup → Goal → Point → (rows : ℕ) → ℕ → List Float → Script
rest p goal q zero = λ c h. sound ends h (report_for p goal q) (arrived p goal q c h)
rest p goal q (suc rows) = λ c h. row_done ends (p.m - suc rows) h (report_for p goal q) (rows_at p (report_for p goal q) rows q c h (arrived p goal q))

abbrev pub script : Setup → Machine → Script
script p (ended e r) = ends e r
script p (starting b x) =
    asks (values x) (λ v. sound ends v (blank p (point_of x v)) (slopes_at p b (blank p (point_of x v)) (point_of x v) (arrived p begun (point_of x v))))
script p (trying b s line α again) =
    asks (values (along p s line α)) (λ v.
    let t = point_of (along p s line α) v in
    let φ = merit p s.penalty t.values in
    sound ends v (report_of s)
    (cond (is_enough line α φ) (onward (loop p) p s b true t) (trials again p b s line (shorter line α φ) t (onward (loop p) p s))))
script p (sloping b goal q) = asks (slopes q.x) (λ g. sound ends g (report_for p goal q) (arrived p goal q b g))
script p (raised b goal q rows cols g) =
    let i = p.n - suc cols in
    let y = raise (at q.x i) in
    asks (single (p.m - rows) (set q.x i y)) (λ v. sound ends v (report_for p goal q)
    (lower_at p.scheme p b (report_for p goal q) rows q cols (λ c u z.
    row_at p (report_for p goal q) rows q cols c (g ++ (quotient (at v 0) u y z ∷ [])) (rest p goal q rows))))
script p (lowered b goal q rows cols g u) =
    let i = p.n - suc cols in
    let x = at q.x i in
    asks (single (p.m - rows) (set q.x i (lower x))) (λ v. sound ends v (report_for p goal q)
    (row_at p (report_for p goal q) rows q cols b (g ++ (quotient u (at v 0) (raise x) (lower x) ∷ [])) (rest p goal q rows)))

-- ---- the tests, in the machine and in the loop

script-cond : (p : Setup) (t : Bool) (a o : Machine) → script p (cond t a o) ≡ cond t (script p a) (script p o)
script-cond p true a o = refl
script-cond p false a o = refl

cond_same : (t : Bool) (a a' o : Script) → a ≡ a' → cond t a o ≡ cond t a' o
cond_same true a a' o e = e
cond_same false a a' o e = refl

-- a test that is passed or ends the run
tested : (p : Setup) (t : Bool) (a : Machine) (e : Ending) (r : Report) (k : Script) → script p a ≡ k → script p (cond t a (ended e r)) ≡ cond t k (ends e r)
tested p true a e r k h = h
tested p false a e r k h = refl

row-tested : (p : Setup) (w : ℕ) (g : List Float) (r : Report) (a : Machine) (k : Script) → script p a ≡ k → script p (row_done ended w g r a) ≡ row_done ends w g r k
row-tested p zero g r a k h = tested p (are_finite g) a nonfinite r k h
row-tested p (suc w) g r a k h = h

paid : (p : Setup) (w b : ℕ) (r : Report) (a : ℕ → Machine) (k : ℕ → Script) → ((c : ℕ) → script p (a c) ≡ k c) → script p (pay ended w b r a) ≡ pay ends w b r k
paid p zero zero r a k h = refl
paid p zero (suc b) r a k h = h b
paid p (suc w) b r a k h = h b

-- ---- what comes next

tries-next : (p : Setup) (b : ℕ) (s : Iterate) (line : Line) (α : Float) (again : ℕ) (q : Point)
    → script p (try_next b s line α again) ≡ trials (suc again) p b s line α q (onward (loop p) p s)
unfolding trials values_at
tries-next p zero s line α again q = refl
tries-next p (suc b) s line α again q = refl

turn-from : (p : Setup) (b : ℕ) (w : Opened) → script p (turn_from b w) ≡ turn (loop p) p b w
turn-from p b (stop e s) = refl
turn-from p b (go s line) = tries-next p b s line one backtracks _

turns_next : (p : Setup) (b : ℕ) (s : Iterate) → script p (turn_next p b s) ≡ loop p b s
unfolding turn_next body
turns_next p b s = turn-from p b (opened p s) ∙ sym (unrolls p b s)

arrives-next : (p : Setup) (goal : Goal) (b : ℕ) (q : Point) (g : List Float) → script p (arrive_next p goal b q g) ≡ arrived p goal q b g
arrives-next p begun b q g = turns_next p b (first p q g)
arrives-next p (taken s) b q g = settled (is_settled p s q)
  where
    settled : (t : Bool) → script p (cond t (ended converged (report_of (moved p s q g))) (turn_next p b (moved p s q g))) ≡ cond t (ends converged (report_of (moved p s q g))) (loop p b (moved p s q g))
    settled true = refl
    settled false = turns_next p b (moved p s q g)

rows_are : (p : Setup) (goal : Goal) (q : Point) (rows b : ℕ) (g : List Float)
    → row_at p (report_for p goal q) rows q p.n b g (rest p goal q rows) ≡ rows_at p (report_for p goal q) rows q b g (arrived p goal q)
unfolding rows_at
rows_are p goal q zero b g = refl
rows_are p goal q (suc rows) b g = refl

-- a raised value is asked for
raises : (p : Setup) (goal : Goal) (q : Point) (rows cols b : ℕ) (g : List Float)
    → script p (reach ended (raise (at q.x (p.n - suc cols))) (report_for p goal q) (pay ended (p.m - rows) b (report_for p goal q) (λ c. raised c goal q rows cols g)))
    ≡ row_at p (report_for p goal q) rows q (suc cols) b g (rest p goal q rows)
unfolding row_at value_at
raises p goal q rows cols b g =
    let r = report_for p goal q in
    let y = raise (at q.x (p.n - suc cols)) in
    tested p (is_finite y) (pay ended (p.m - rows) b r (λ c. raised c goal q rows cols g)) nonfinite r _
    (paid p (p.m - rows) b r (λ c. raised c goal q rows cols g) (λ c. script p (raised c goal q rows cols g)) (λ c. refl))

moves_next : (p : Setup) (goal : Goal) (q : Point) (rows cols b : ℕ) (g : List Float)
    → script p (move_next p goal q rows cols b g) ≡ row_at p (report_for p goal q) rows q cols b g (rest p goal q rows)
unfolding move_next row_at
moves_next p goal q zero zero b g = tested p (are_finite g) _ nonfinite _ _ (arrives-next p goal b q g)
moves_next p goal q (suc rows) zero b g =
    row-tested p (p.m - suc rows) g _ _ _ (moves_next p goal q rows p.n b g ∙ rows_are p goal q rows b g)
moves_next p goal q zero (suc cols) b g = raises p goal q zero cols b g
moves_next p goal q (suc rows) (suc cols) b g = raises p goal q (suc rows) cols b g

slopes-next : (s : Scheme) (p : Setup) (goal : Goal) (b : ℕ) (q : Point)
    → script p (slopes_next s p goal b q) ≡ slopes_by s p b (report_for p goal q) q (arrived p goal q)
slopes-next told p goal b q = refl
slopes-next forward p goal b q = moves_next p goal q p.m p.n b [] ∙ rows_are p goal q p.m b []
slopes-next central p goal b q = moves_next p goal q p.m p.n b [] ∙ rows_are p goal q p.m b []

-- ---- answers

refused-next : (p : Setup) (f : Bool) (b : ℕ) (s : Iterate) (q : Point)
    → script p (refused_next f p b s q) ≡ cond (not false && not f) (loop p b (reset p s)) (slopes_at p b (report_of s) q (arrived p (taken s) q))
refused-next p true b s q = slopes-next p.scheme p (taken s) b q
refused-next p false b s q = turns_next p b (reset p s)

shortens-next : (again : ℕ) (p : Setup) (b : ℕ) (s : Iterate) (line : Line) (α : Float) (q : Point)
    → script p (shorten_next again p b s line α q) ≡ trials again p b s line α q (onward (loop p) p s)
unfolding trials
shortens-next zero p b s line α q = refused-next p s.fresh b s q
shortens-next (suc again) p b s line α q = tries-next p b s line α again q

judges-next : (p : Setup) (b : ℕ) (s : Iterate) (line : Line) (α : Float) (again : ℕ) (q : Point)
    → let φ = merit p s.penalty q.values in
    script p (judge_next p b s line α again q) ≡ cond (is_enough line α φ) (onward (loop p) p s b true q) (trials again p b s line (shorter line α φ) q (onward (loop p) p s))
unfolding judge_next
judges-next p b s line α again q = judged (is_enough line α (merit p s.penalty q.values))
  where
    judged : (t : Bool)
        → script p (cond t (slopes_next p.scheme p (taken s) b q) (shorten_next again p b s line (shorter line α (merit p s.penalty q.values)) q))
        ≡ cond t (onward (loop p) p s b true q) (trials again p b s line (shorter line α (merit p s.penalty q.values)) q (onward (loop p) p s))
    judged true = slopes-next p.scheme p (taken s) b q
    judged false = shortens-next again p b s line _ q

lowers-next : (s : Scheme) (p : Setup) (b : ℕ) (goal : Goal) (q : Point) (rows cols : ℕ) (g : List Float) (v : Float)
    → p.scheme ≡ s
    → script p (lower_next s p b goal q rows cols g v)
    ≡ lower_at s p b (report_for p goal q) rows q cols (λ c u z. row_at p (report_for p goal q) rows q cols c (g ++ (quotient v u (raise (at q.x (p.n - suc cols))) z ∷ [])) (rest p goal q rows))
unfolding value_at
lowers-next told p b goal q rows cols g v e = moves_next p goal q rows cols b _
lowers-next forward p b goal q rows cols g v e = moves_next p goal q rows cols b _
lowers-next central p b goal q rows cols g v e =
    let r = report_for p goal q in
    let y = lower (at q.x (p.n - suc cols)) in
    tested p (is_finite y) (pay ended (p.m - rows) b r (λ c. lowered c goal q rows cols g v)) nonfinite r _
    (paid p (p.m - rows) b r (λ c. lowered c goal q rows cols g v) (λ c. script p (lowered c goal q rows cols g v)) (λ c. refl))

-- an answer takes the machine where it takes the loop
pub told-alike : (p : Setup) (m : Machine) (v : List Float) → script p (tell p m v) ≡ follow (script p m) v
unfolding tell
told-alike p (ended e r) v = refl
told-alike p (starting b x) v = tested p (are_finite v) _ nonfinite _ _ (slopes-next p.scheme p begun b (point_of x v))
told-alike p (trying b s line α again) v = tested p (are_finite v) _ nonfinite _ _ (judges-next p b s line α again (point_of (along p s line α) v))
told-alike p (sloping b goal q) v = tested p (are_finite v) _ nonfinite _ _ (arrives-next p goal b q v)
told-alike p (raised b goal q rows cols g) v = tested p (are_finite v) _ nonfinite _ _ (lowers-next p.scheme p b goal q rows cols g (at v 0) refl)
told-alike p (lowered b goal q rows cols g u) v = tested p (are_finite v) _ nonfinite _ _ (moves_next p goal q rows cols b _)

pub stands_alike : (p : Setup) (m : Machine) → standing p m ≡ stands (script p m)
stands_alike p (ended e r) = refl
stands_alike p (starting b x) = refl
stands_alike p (trying b s line α again) = refl
stands_alike p (sloping b goal q) = refl
stands_alike p (raised b goal q rows cols g) = refl
stands_alike p (lowered b goal q rows cols g v) = refl

pub begins-alike : (p : Setup) (x : List Float) (b : ℕ) → script p (begin p x b) ≡ written p x b
unfolding begin written
begins-alike p x b = tested p (are_finite x) _ nonfinite _ _ (paid p zero b _ _ _ (λ c. refl))

all_alike : (p : Setup) (m : Machine) (vs : List (List Float)) → script p (tell_all p m vs) ≡ follow_all (script p m) vs
unfolding tell_all follow_all
all_alike p m [] = refl
all_alike p m (v ∷ vs) = all_alike p (tell p m v) vs ∙ ap (λ t. follow_all t vs) (told-alike p m v)

pub step-for-step : StepForStep
step-for-step p x b vs = stands_alike p (tell_all p (begin p x b) vs) ∙ ap stands (all_alike p (begin p x b) vs ∙ ap (λ t. follow_all t vs) (begins-alike p x b))

pub stays-ended : StaysEnded
unfolding tell_all tell
stays-ended p e r [] = refl
stays-ended p e r (v ∷ vs) = stays-ended p e r vs
