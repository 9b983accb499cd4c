-- The search as a machine: its states, and what each call makes of what it is told. Definitions only.
use Rattle.std.specs.Prelude.{ℕ, zero, suc, ◌-◌, Bool, true, false, cond, List, [], ◌∷◌, ◌++◌, set, Float}
use Rattle.numbers.specs.Numbers.{one, at}
use Rattle.search.specs.Setup.{Setup, Scheme, told, forward, central, Point, Report, values, slopes, single, Ending}
use Rattle.search.specs.Turn.{Iterate, Line, Opened, stop, go, clipped, point_of, unknown, report_of, blank, reset, opened, backtracks, along, merit, is_enough, shorter, raise, lower, quotient}
use Rattle.search.specs.Written.{Goal, begun, taken, report_for, due, pay, sound, reach, row_done, arrive, Standing, over, waits}

-- b is what is left of the budget. A state has ended, or waits for an answer:
pub data Machine : Type 0 where
  ended : Ending → Report → Machine
  -- the values at the start
  starting : (b : ℕ) → (x : List Float) → Machine
  -- those at alpha on the line, with `again` trials after it
  trying : (b : ℕ) → Iterate → Line → (alpha : Float) → (again : ℕ) → Machine
  -- the slopes at q
  sloping : (b : ℕ) → Goal → (q : Point) → Machine
  -- a value at q with a coordinate raised, and, behind the value v there, lowered: `cols` coordinates and `rows` functions are still to come, and g is known
  raised : (b : ℕ) → Goal → (q : Point) → (rows cols : ℕ) → (g : List Float) → Machine
  lowered : (b : ℕ) → Goal → (q : Point) → (rows cols : ℕ) → (g : List Float) → (v : Float) → Machine

-- ---- what comes next

-- a trial
abbrev pub try_next : (b : ℕ) → Iterate → Line → (alpha : Float) → (again : ℕ) → Machine
try_next b s line α again = due ended b (report_of s) (λ c. trying c s line α again)

-- a turn
abbrev pub turn_from : (b : ℕ) → Opened → Machine
turn_from b (stop e s) = ended e (report_of s)
turn_from b (go s line) = try_next b s line one backtracks

unfoldable pub turn_next : Setup → (b : ℕ) → Iterate → Machine
turn_next p b s = turn_from b (opened p s)

-- the slopes at q are g
abbrev pub arrive_next : Setup → Goal → (b : ℕ) → Point → (g : List Float) → Machine
arrive_next p goal b q g = arrive ended (turn_next p) p goal b q g

-- a difference: the next coordinate, the next function, or all are known
unfoldable pub move_next : Setup → Goal → Point → (rows cols b : ℕ) → (g : List Float) → Machine
move_next p goal q zero zero b g = sound ended g (report_for p goal q) (arrive_next p goal b q g)
move_next p goal q (suc rows) zero b g = row_done ended (p.m - suc rows) g (report_for p goal q) (move_next p goal q rows p.n b g)
move_next p goal q zero (suc cols) b g =
    reach ended (raise (at q.x (p.n - suc cols))) (report_for p goal q) (pay ended (p.m - zero) b (report_for p goal q) (λ c. raised c goal q zero cols g))
move_next p goal q (suc rows) (suc cols) b g =
    reach ended (raise (at q.x (p.n - suc cols))) (report_for p goal q) (pay ended (p.m - suc rows) b (report_for p goal q) (λ c. raised c goal q (suc rows) cols g))

-- the slopes at q are due
abbrev pub slopes_next : Scheme → Setup → Goal → (b : ℕ) → Point → Machine
slopes_next told p goal b q = sloping b goal q
slopes_next forward p goal b q = move_next p goal q p.m p.n b []
slopes_next central p goal b q = move_next p goal q p.m p.n b []

-- ---- answers

-- no trial was accepted
abbrev pub refused_next : Bool → Setup → (b : ℕ) → Iterate → Point → Machine
refused_next true p b s q = slopes_next p.scheme p (taken s) b q
refused_next false p b s q = turn_next p b (reset p s)

-- a trial did not decrease the merit enough
abbrev pub shorten_next : (again : ℕ) → Setup → (b : ℕ) → Iterate → Line → (alpha : Float) → Point → Machine
shorten_next zero p b s line α q = refused_next s.fresh p b s q
shorten_next (suc again) p b s line α q = try_next b s line α again

unfoldable pub judge_next : Setup → (b : ℕ) → Iterate → Line → (alpha : Float) → (again : ℕ) → Point → Machine
judge_next p b s line α again q =
    let φ = merit p s.penalty q.values in
    cond (is_enough line α φ) (slopes_next p.scheme p (taken s) b q) (shorten_next again p b s line (shorter line α φ) q)

-- the raised value is v: the lowered one is asked for, or the point's own is taken
abbrev pub lower_next : Scheme → Setup → (b : ℕ) → Goal → Point → (rows cols : ℕ) → (g : List Float) → (v : Float) → Machine
lower_next told p b goal q rows cols g v =
    let x = at q.x (p.n - suc cols) in move_next p goal q rows cols b (g ++ (quotient v (at q.values (p.m - rows)) (raise x) x ∷ []))
lower_next forward p b goal q rows cols g v =
    let x = at q.x (p.n - suc cols) in move_next p goal q rows cols b (g ++ (quotient v (at q.values (p.m - rows)) (raise x) x ∷ []))
lower_next central p b goal q rows cols g v =
    reach ended (lower (at q.x (p.n - suc cols))) (report_for p goal q) (pay ended (p.m - rows) b (report_for p goal q) (λ c. lowered c goal q rows cols g v))

-- what a state becomes when it is told v
unfoldable pub tell : Setup → Machine → (v : List Float) → Machine
tell p (ended e r) v = ended e r
tell p (starting b x) v = sound ended v (blank p (point_of x v)) (slopes_next p.scheme p begun b (point_of x v))
tell p (trying b s line α again) v = sound ended v (report_of s) (judge_next p b s line α again (point_of (along p s line α) v))
tell p (sloping b goal q) v = sound ended v (report_for p goal q) (arrive_next p goal b q v)
tell p (raised b goal q rows cols g) v = sound ended v (report_for p goal q) (lower_next p.scheme p b goal q rows cols g (at v 0))
tell p (lowered b goal q rows cols g u) v =
    let x = at q.x (p.n - suc cols) in
    sound ended v (report_for p goal q) (move_next p goal q rows cols b (g ++ (quotient u (at v 0) (raise x) (lower x) ∷ [])))

-- the state that a search from x with a budget of b values begins in
unfoldable pub begin : Setup → (x : List Float) → (b : ℕ) → Machine
begin p x b =
    let y = clipped p x in
    let r = blank p (unknown p y) in
    sound ended x r (due ended b r (λ c. starting c y))

unfoldable pub tell_all : Setup → Machine → List (List Float) → Machine
tell_all p m [] = m
tell_all p m (v ∷ vs) = tell_all p (tell p m v) vs

-- what a state asks, or how it has ended
abbrev pub standing : Setup → Machine → Standing
standing p (ended e r) = over e r
standing p (starting b x) = waits (values x)
standing p (trying b s line α again) = waits (values (along p s line α))
standing p (sloping b goal q) = waits (slopes q.x)
standing p (raised b goal q rows cols g) = let i = p.n - suc cols in waits (single (p.m - rows) (set q.x i (raise (at q.x i))))
standing p (lowered b goal q rows cols g v) = let i = p.n - suc cols in waits (single (p.m - rows) (set q.x i (lower (at q.x i))))

-- what is reported of a run in this state, at its end and before: the last accepted point with its values, which are NaN before the start's are told, and the multipliers of the last step
abbrev pub report_now : Setup → Machine → Report
report_now p (ended e r) = r
report_now p (starting b x) = blank p (unknown p x)
report_now p (trying b s line α again) = report_of s
report_now p (sloping b goal q) = report_for p goal q
report_now p (raised b goal q rows cols g) = report_for p goal q
report_now p (lowered b goal q rows cols g v) = report_for p goal q
