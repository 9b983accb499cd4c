-- What a state reports is read where it was written.
use Prim.Native.Nat.{ℕ, suc, ◌≤◌}
use mathlib.Core.Path.{◌≡◌, ◌∙◌}
use mathlib.Core.List.{List}
use mathlib.Core.Logic.{inl, inr}
use native.Mathlib.Omega.{arith}
use lib.ListN.{length}
use lib.Ieee.{Float}
use Rattle.workspace.specs.Readings.{vec}
use Rattle.search.specs.Setup.{Setup, Point, Report}
use Rattle.search.specs.Turn.{Iterate, report_of, blank, unknown}
use Rattle.search.specs.Written.{Goal, begun, taken, report_for}
use Rattle.search.specs.Machine.{Machine, ended, starting, trying, sloping, raised, lowered, report_now}
use Rattle.search.specs.Layout.{laid, emptied, report_in, report_floats, iterate_floats, goal_floats, machine_floats, FitsPoint, FitsIterate, FitsGoal, Fits}
use Rattle.search.proofs.Laying.{size, vec-below, vec-above, vec_laid, Apart, vec-apart}
use Rattle.search.proofs.Turns.{FitsReport, blank-fits, unknown-fits}

module _ (n m : ℕ) (l : n ≤ 16) (k : m ≤ 16) where
  -- one part more, apart from the report
  beside : (o : ℕ) (v f : List Float) (r : Report) → Apart 48 n o (length v) → Apart 96 m o (length v) → Apart 128 (suc m) o (length v) → report_in n m f ≡ r → report_in n m (laid o v f) ≡ r
  beside o v f r a b c e = (λ i. record { point = record { x = vec-apart 48 n o v f a i; values = vec-apart 128 (suc m) o v f c i }; multipliers = vec-apart 96 m o v f b i }) ∙ e

  -- behind it
  past : (o : ℕ) (v f : List Float) (r : Report) → 145 ≤ o → report_in n m f ≡ r → report_in n m (laid o v f) ≡ r
  past o v f r h e = beside o v f r (inl (omega arith)) (inl (omega arith)) (inl (omega arith)) e

  -- where it was laid
  laid-report : (r : Report) (f : List Float) → FitsReport n m r → length f ≡ 1024 → report_in n m (report_floats r f) ≡ r
  laid-report r f h z =
      let hx = h.0.x in let hv = h.0.values in let hm = h.1 in
      let zv : length (laid 128 r.point.values f) ≡ 1024 = size _ _ _ _ z in
      let zx : length (laid 48 r.point.x (laid 128 r.point.values f)) ≡ 1024 = size _ _ _ _ zv in
      let x : vec 48 n (report_floats r f) ≡ r.point.x = vec-below 48 n 96 _ _ (omega arith) ∙ vec_laid 48 n _ _ 1024 hx zv (omega arith) in
      let v : vec 128 (suc m) (report_floats r f) ≡ r.point.values = vec-above 128 (suc m) 96 _ _ (omega arith) ∙ vec-above 128 (suc m) 48 _ _ (omega arith) ∙ vec_laid 128 (suc m) _ _ 1024 hv z (omega arith) in
      let μ : vec 96 m (report_floats r f) ≡ r.multipliers = vec_laid 96 m _ _ 1024 hm zx (omega arith) in
      λ i. record { point = record { x = x i; values = v i }; multipliers = μ i }

  iterate-report : (s : Iterate) (f : List Float) → FitsIterate n m s → length f ≡ 1024 → report_in n m (iterate_floats s f) ≡ report_of s
  iterate-report s f h z =
      let hp = h.penalty in
      past 176 _ _ _ (omega arith) (past 720 _ _ _ (omega arith) (beside 80 _ _ _ (inl (omega arith)) (inr (omega arith)) (inr (omega arith)) (laid-report (report_of s) f (h.point, h.multipliers) z)))

goal-report : (p : Setup) (goal : Goal) (q : Point) (f : List Float) → p.n ≤ 16 → p.m ≤ 16 → FitsGoal p.n p.m goal → FitsPoint p.n p.m q → length f ≡ 1024
    → report_in p.n p.m (goal_floats p goal q f) ≡ report_for p goal q
goal-report p begun q f l k h hq z = laid-report p.n p.m l k (blank p q) f (blank-fits p q hq) z
goal-report p (taken s) q f l k h hq z = iterate-report p.n p.m l k s f h z

-- the new point and the slopes known of it do not touch what is reported
new-report : (p : Setup) (goal : Goal) (q : Point) (f : List Float) → p.n ≤ 16 → p.m ≤ 16 → FitsGoal p.n p.m goal → FitsPoint p.n p.m q → length f ≡ 1024
    → report_in p.n p.m (laid 112 q.x (laid 152 q.values (goal_floats p goal q f))) ≡ report_for p goal q
new-report p goal q f l k h hq z =
    let hx = hq.x in
    beside p.n p.m l k 112 _ _ _ (inl (omega arith)) (inl (omega arith)) (inr (omega arith)) (past p.n p.m l k 152 _ _ _ (omega arith) (goal-report p goal q f l k h hq z))

pub report-read : (p : Setup) (M : Machine) (f : List Float) → p.n ≤ 16 → p.m ≤ 16 → Fits p.n p.m M → length f ≡ 1024 → report_in p.n p.m (machine_floats p M f) ≡ report_now p M
unfolding machine_floats emptied
report-read p (ended e r) f l k h z = laid-report p.n p.m l k r _ h (size _ _ _ _ (size _ _ _ _ (size _ _ _ _ (size _ _ _ _ z))))
report-read p (starting b x) f l k h z =
    let hx = h.0 in
    past p.n p.m l k 976 _ _ _ (omega arith)
    (beside p.n p.m l k 112 _ _ _ (inl (omega arith)) (inl (omega arith)) (inr (omega arith))
    (laid-report p.n p.m l k (blank p (unknown p x)) f (unknown-fits p x hx) z))
report-read p (trying b s line α again) f l k h z =
    let hd = h.1 in
    past p.n p.m l k 976 _ _ _ (omega arith)
    (beside p.n p.m l k 1 _ _ _ (inr (omega arith)) (inr (omega arith)) (inr (omega arith))
    (beside p.n p.m l k 64 _ _ _ (inl (omega arith)) (inr (omega arith)) (inr (omega arith)) (iterate-report p.n p.m l k s f h.0 z)))
report-read p (sloping b goal q) f l k h z = past p.n p.m l k 976 _ _ _ (omega arith) (new-report p goal q f l k h.0 h.1 z)
report-read p (raised b goal q rows cols g) f l k h z =
    past p.n p.m l k 976 _ _ _ (omega arith) (past p.n p.m l k 448 _ _ _ (omega arith) (new-report p goal q f l k h.0 h.1 z))
report-read p (lowered b goal q rows cols g v) f l k h z =
    past p.n p.m l k 976 _ _ _ (omega arith)
    (beside p.n p.m l k 4 _ _ _ (inr (omega arith)) (inr (omega arith)) (inr (omega arith)) (past p.n p.m l k 448 _ _ _ (omega arith) (new-report p goal q f l k h.0 h.1 z)))
