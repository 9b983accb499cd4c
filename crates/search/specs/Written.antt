-- The written loop (docs/RULES.md, "The search"), as the questions it asks and what it does with the answers. Definitions only.
use Rattle.std.specs.Prelude.{ℕ, zero, suc, ◌-◌, Bool, true, false, cond, ◌&&◌, not, List, [], ◌∷◌, ◌++◌, set, Float}
use Rattle.numbers.specs.Numbers.{one, at}
use Rattle.search.specs.Setup.{Setup, Scheme, told, forward, central, Point, Report, Question, values, slopes, single, Ending, converged, exhausted, nonfinite, is_finite, are_finite}
use Rattle.search.specs.Turn.{Iterate, Line, Opened, stop, go, clipped, point_of, unknown, report_of, blank, first, reset, opened, backtracks, along, merit, is_enough, shorter, moved, is_settled, raise, lower, quotient}

-- ---- what can be done next

-- A script ends, with its report, or asks and goes on by what it is told.
pub data Script : Type 0 where
  ends : Ending → Report → Script
  asks : Question → (List Float → Script) → Script

-- Four tests that a run passes, or ends at. R is what goes on: a script here, a state of the machine there.
-- An objective value is due: it costs one, and where none is left the run ends.
abbrev pub due : {R : Type 0} (end : Ending → Report → R) → ℕ → Report → (ℕ → R) → R
due end zero r k = end exhausted r
due end (suc b) r k = k b

-- Function w is to be asked for: only the objective costs.
abbrev pub pay : {R : Type 0} (end : Ending → Report → R) → (w b : ℕ) → Report → (ℕ → R) → R
pay end zero b r k = due end b r k
pay end (suc j) b r k = k b

-- Numbers are finite; a coordinate is.
abbrev pub sound : {R : Type 0} (end : Ending → Report → R) → List Float → Report → R → R
sound end v r k = cond (are_finite v) k (end nonfinite r)

abbrev pub reach : {R : Type 0} (end : Ending → Report → R) → Float → Report → R → R
reach end x r k = cond (is_finite x) k (end nonfinite r)

-- ---- values and slopes at a point

unfoldable pub values_at : (b : ℕ) → Report → (x : List Float) → (ℕ → Point → Script) → Script
values_at b r x k = due ends b r (λ c. asks (values x) (λ v. sound ends v r (k c (point_of x v))))

-- One function's value at a point, with `suc cols` coordinates to go (so number n - suc cols is moved), and `rows` functions after this one (number m - rows).
unfoldable pub value_at : Setup → (b : ℕ) → Report → (rows : ℕ) → (x : List Float) → (cols : ℕ) → (moved : Float) → (ℕ → Float → Script) → Script
value_at p b r rows x cols y k =
    reach ends y r (pay ends (p.m - rows) b r (λ c. asks (single (p.m - rows) (set x (p.n - suc cols) y)) (λ v. sound ends v r (k c (at v 0)))))

-- the lower value of a difference, and its coordinate: by the forward scheme those of the point itself
abbrev pub lower_at : Scheme → Setup → (b : ℕ) → Report → (rows : ℕ) → Point → (cols : ℕ) → (ℕ → Float → Float → Script) → Script
lower_at told p b r rows q cols k = k b (at q.values (p.m - rows)) (at q.x (p.n - suc cols))
lower_at forward p b r rows q cols k = k b (at q.values (p.m - rows)) (at q.x (p.n - suc cols))
lower_at central p b r rows q cols k =
    let y = lower (at q.x (p.n - suc cols)) in
    value_at p b r rows q.x cols y (λ c u. k c u y)

-- a row of differences, behind those in g
unfoldable pub row_at : Setup → Report → (rows : ℕ) → Point → (cols b : ℕ) → (g : List Float) → (ℕ → List Float → Script) → Script
row_at p r rows q zero b g k = k b g
row_at p r rows q (suc cols) b g k =
    let y = raise (at q.x (p.n - suc cols)) in
    value_at p b r rows q.x cols y (λ c v.
    lower_at p.scheme p c r rows q cols (λ c u z.
    row_at p r rows q cols c (g ++ (quotient v u y z ∷ [])) k))

-- the gradient is looked at when it is whole, the Jacobian when all its rows are
abbrev pub row_done : {R : Type 0} (end : Ending → Report → R) → (w : ℕ) → List Float → Report → R → R
row_done end zero g r k = sound end g r k
row_done end (suc j) g r k = k

-- the rows of this function and of `rows` more
unfoldable pub rows_at : Setup → Report → (rows : ℕ) → Point → (b : ℕ) → (g : List Float) → (ℕ → List Float → Script) → Script
rows_at p r zero q b g k = row_at p r zero q p.n b g (λ c h. sound ends h r (k c h))
rows_at p r (suc rows) q b g k = row_at p r (suc rows) q p.n b g (λ c h. row_done ends (p.m - suc rows) h r (rows_at p r rows q c h k))

abbrev pub slopes_by : Scheme → Setup → (b : ℕ) → Report → Point → (ℕ → List Float → Script) → Script
slopes_by told p b r q k = asks (slopes q.x) (λ g. sound ends g r (k b g))
slopes_by forward p b r q k = rows_at p r p.m q b [] k
slopes_by central p b r q k = rows_at p r p.m q b [] k

abbrev pub slopes_at : Setup → (b : ℕ) → Report → Point → (ℕ → List Float → Script) → Script
slopes_at p b r q k = slopes_by p.scheme p b r q k

-- ---- the loop

-- what slopes are for: those of the start, or of a point that was accepted
pub data Goal : Type 0 where
  begun : Goal
  taken : Iterate → Goal

abbrev pub report_for : Setup → Goal → Point → Report
report_for p begun q = blank p q
report_for p (taken s) q = report_of s

-- the slopes g at q are known, with b left
abbrev pub arrive : {R : Type 0} (end : Ending → Report → R) (next : ℕ → Iterate → R) → Setup → Goal → (b : ℕ) → Point → (g : List Float) → R
arrive end next p begun b q g = next b (first p q g)
arrive end next p (taken s) b q g = let t = moved p s q g in cond (is_settled p s q) (end converged (report_of t)) (next b t)

-- Trials on a line: `count` more, and q was the last. With what is left, whether one was accepted, and the last point, it goes on by k.
unfoldable pub trials : (count : ℕ) → Setup → (b : ℕ) → Iterate → Line → (alpha : Float) → (q : Point) → (ℕ → Bool → Point → Script) → Script
trials zero p b s line α q k = k b false q
trials (suc count) p b s line α q k =
    values_at b (report_of s) (along p s line α) (λ c t.
    let φ = merit p s.penalty t.values in
    cond (is_enough line α φ) (k c true t) (trials count p c s line (shorter line α φ) t k))

-- No trial was accepted on a used B: B is reset. Else the last one is taken, also where none was accepted.
abbrev pub onward : (next : ℕ → Iterate → Script) → Setup → Iterate → (b : ℕ) → (accepted : Bool) → Point → Script
onward next p s b accepted q =
    cond (not accepted && not s.fresh) (next b (reset p s)) (slopes_at p b (report_of s) q (λ c g. arrive ends next p (taken s) c q g))

-- one turn of the loop, `next` being the loop again
abbrev pub turn : (next : ℕ → Iterate → Script) → Setup → (b : ℕ) → Opened → Script
turn next p b (stop e s) = ends e (report_of s)
turn next p b (go s line) = trials (suc backtracks) p b s line one (point_of [] []) (onward next p s)

unfoldable pub body : (next : ℕ → Iterate → Script) → Setup → (b : ℕ) → Iterate → Script
body next p b s = turn next p b (opened p s)

-- Every turn spends one value or more, so b turns after this one are enough for b values (Claims: Unrolls).
unfoldable pub turns : (fuel : ℕ) → Setup → (b : ℕ) → Iterate → Script
turns zero p b s = body (λ c t. ends exhausted (report_of t)) p b s
turns (suc fuel) p b s = body (turns fuel p) p b s

unfoldable pub loop : Setup → (b : ℕ) → Iterate → Script
loop p b s = turns b p b s

-- The whole search from x with a budget of b values: the start is clipped into the bounds first.
unfoldable pub written : Setup → (x : List Float) → (b : ℕ) → Script
written p x b =
    let y = clipped p x in
    sound ends x (blank p (unknown p y))
    (due ends b (blank p (unknown p y)) (λ c. asks (values y) (λ v. let q = point_of y v in
    sound ends v (blank p q) (slopes_at p c (blank p q) q (λ c g. arrive ends (loop p) p begun c q g)))))

-- ---- following a script

-- where it stands: it has ended, or asks
pub data Standing : Type 0 where
  over : Ending → Report → Standing
  waits : Question → Standing

abbrev pub stands : Script → Standing
stands (ends e r) = over e r
stands (asks q k) = waits q

-- what it does when told v: once it has ended, nothing
abbrev pub follow : Script → List Float → Script
follow (ends e r) v = ends e r
follow (asks q k) v = k v

unfoldable pub follow_all : Script → List (List Float) → Script
follow_all t [] = t
follow_all t (v ∷ vs) = follow_all (follow t v) vs

-- the questions that it asks an answerer, and how it ends
pub record Transcript : Type 0 where
  pub asked : List Question
  pub ending : Ending
  pub report : Report

abbrev pub asking : Question → Transcript → Transcript
asking q t = record { asked = q ∷ t.asked; ending = t.ending; report = t.report }

unfoldable pub play : (Question → List Float) → Script → Transcript
play a (ends e r) = record { asked = []; ending = e; report = r }
play a (asks q k) = asking q (play a (k (a q)))
