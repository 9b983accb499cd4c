-- What a state is written over does not matter where it writes itself; and what is read where an iterate was laid.
use Prim.Native.Nat.{ℕ, zero, suc, ◌+◌, ◌-◌, ◌*◌, ◌≤◌, ◌<◌}
use mathlib.Core.Path.{◌≡◌, refl, sym, ap, ◌∙◌}
use mathlib.Core.Bool.{Bool, true, false, cond}
use mathlib.Core.List.{List, [], ◌∷◌}
use mathlib.Core.Logic.{◌⊎◌, inl, inr}
use native.Mathlib.Omega.{arith}
use lib.ListN.{length, length-set, length-replicate}
use lib.Ieee.{Float, nan}
use Rattle.numbers.specs.Numbers.{+0, at}
use Rattle.numbers.proofs.Lists.{length-tab}
use Rattle.search.proofs.Laying.{length-laid, laid_in, laid-below, laid-above, same_entries, Where, before, inside, behind, where-is}
use Rattle.search.specs.Setup.{Setup, Scheme, told, forward, central, Point, Report, Ending, exhausted, nonfinite, is_finite, are_finite}
use Rattle.search.specs.Turn.{Iterate, Line, unknown, report_of, blank, along, raise}
use Rattle.search.specs.Written.{Goal, begun, taken, report_for, due, pay, reach, row_done}
use Rattle.search.specs.Machine.{Machine, ended, starting, trying, sloping, raised, lowered, move_next, slopes_next}
use Rattle.search.specs.Layout.{laid, emptied, known, report_floats, iterate_floats, goal_floats, machine_floats, FitsPoint, FitsIterate, FitsGoal}

-- ---- two slices that agree but for some parts

pub record Part : Type 0 where
  pub start : ℕ
  pub count : ℕ

abbrev part : (o c : ℕ) → Part
part o c = record { start = o; count = c }

-- a place is in none of the parts
abbrev pub Beside : (o c i : ℕ) → Type 0
Beside o c i = (i < o) ⊎ (o + c ≤ i)

abbrev pub Off : List Part → ℕ → Type 0
Off [] i = Unit {0}
Off (r ∷ rs) i = Beside r.start r.count i × Off rs i

pub record Agree (rs : List Part) (f g : List Float) : Type 0 where
  pub size : length f ≡ length g
  pub same : (i : ℕ) → i < length f → Off rs i → at f i ≡ at g i

agree-done : (f g : List Float) → Agree [] f g → f ≡ g
agree-done f g a = same_entries nan f g a.size (λ i l. a.same i l tt)

-- what is laid over both is the same
agree-laid : (o c : ℕ) (v f g : List Float) (rs : List Part) → length v ≡ c → Agree (part o c ∷ rs) f g → Agree rs (laid o v f) (laid o v g)
agree-laid o c v f g rs e a = record { size = length-laid o v f ∙ a.size ∙ sym (length-laid o v g); same = λ i l h. look i (let z = length-laid o v f in omega arith) h (where-is o c i) }
  where
    look : (i : ℕ) → i < length f → Off rs i → Where o c i → at (laid o v f) i ≡ at (laid o v g) i
    look i l h (before b) = laid-below o v f i nan b ∙ a.same i l (inl b, h) ∙ sym (laid-below o v g i nan b)
    look i l h (inside t b p) =
        let z = a.size in
        ap (λ x. at (laid o v f) x) (sym p) ∙ laid_in o v f t nan (omega arith) (omega arith)
        ∙ sym (laid_in o v g t nan (omega arith) (omega arith)) ∙ ap (λ x. at (laid o v g) x) p
    look i l h (behind b) = laid-above o v f i nan (omega arith) ∙ a.same i l (inr b, h) ∙ sym (laid-above o v g i nan (omega arith))

agree_same : (rs : List Part) (f : List Float) → Agree rs f f
agree_same rs f = record { size = refl; same = λ i l h. refl }

-- a part that is among them, or in one of them
agree-put : (rs : List Part) (o c : ℕ) (v f g : List Float) → length v ≡ c → ((i : ℕ) → Off rs i → Beside o c i) → Agree rs f g → Agree rs (laid o v f) g
agree-put rs o c v f g e h a = record { size = length-laid o v f ∙ a.size; same = λ i l q. look i (let z = length-laid o v f in omega arith) q (h i q) }
  where
    look : (i : ℕ) → i < length f → Off rs i → Beside o c i → at (laid o v f) i ≡ at g i
    look i l q (inl b) = laid-below o v f i nan b ∙ a.same i l q
    look i l q (inr b) = laid-above o v f i nan (omega arith) ∙ a.same i l q

pub within : (o c p d i : ℕ) → o ≤ p → p + d ≤ o + c → Beside o c i → Beside p d i
within o c p d i h l (inl b) = inl (omega arith)
within o c p d i h l (inr b) = inr (omega arith)

-- ---- the parts of a state

abbrev pub report_parts : (n m : ℕ) → List Part → List Part
report_parts n m rs = part 128 (suc m) ∷ part 48 n ∷ part 96 m ∷ rs

abbrev pub iterate_parts : (n m : ℕ) → List Part → List Part
iterate_parts n m rs = report_parts n m (part 80 m ∷ part 720 (n * n) ∷ part 176 (suc m * n) ∷ rs)

abbrev pub goal_parts : (n m : ℕ) → Goal → List Part → List Part
goal_parts n m begun rs = report_parts n m rs
goal_parts n m (taken s) rs = iterate_parts n m rs

abbrev pub parts_of : (n m : ℕ) → Machine → List Part
parts_of n m (ended e r) = part 152 872 ∷ part 112 16 ∷ part 64 32 ∷ part 1 15 ∷ report_parts n m []
parts_of n m (starting b x) = report_parts n m (part 112 n ∷ part 976 n ∷ [])
parts_of n m (trying b s line α again) = iterate_parts n m (part 64 n ∷ part 1 3 ∷ part 976 n ∷ [])
parts_of n m (sloping b goal q) = goal_parts n m goal (part 152 (suc m) ∷ part 112 n ∷ part 976 n ∷ [])
parts_of n m (raised b goal q rows cols g) = goal_parts n m goal (part 152 (suc m) ∷ part 112 n ∷ part 448 (known n m rows cols) ∷ part 976 n ∷ [])
parts_of n m (lowered b goal q rows cols g v) = goal_parts n m goal (part 152 (suc m) ∷ part 112 n ∷ part 448 (known n m rows cols) ∷ part 4 1 ∷ part 976 n ∷ [])

-- a state writes the c places from o on
abbrev pub Covers : (n m : ℕ) (o c : ℕ) → Machine → Type 0
Covers n m o c M = (i : ℕ) → Off (parts_of n m M) i → Beside o c i

-- the parts of a report are as long as they are to be
abbrev pub FitsReport : (n m : ℕ) → Report → Type 0
FitsReport n m r = FitsPoint n m r.point × (length r.multipliers ≡ m)

report-over : (n m : ℕ) (r : Report) (rs : List Part) (f g : List Float) → FitsReport n m r → Agree (report_parts n m rs) f g → Agree rs (report_floats r f) (report_floats r g)
report-over n m r rs f g h a = agree-laid 96 m _ _ _ _ h.1 (agree-laid 48 n _ _ _ _ h.0.x (agree-laid 128 (suc m) _ _ _ _ h.0.values a))

iterate-over : (n m : ℕ) (s : Iterate) (rs : List Part) (f g : List Float) → FitsIterate n m s → Agree (iterate_parts n m rs) f g → Agree rs (iterate_floats s f) (iterate_floats s g)
iterate-over n m s rs f g h a =
    agree-laid 176 (suc m * n) _ _ _ _ h.slopes
    (agree-laid 720 (n * n) _ _ _ _ h.b
    (agree-laid 80 m _ _ _ _ h.penalty
    (report-over n m (report_of s) _ _ _ (h.point, h.multipliers) a)))

-- what is reported before the first step has no multipliers but +0
pub blank-fits : (p : Setup) (q : Point) → FitsPoint p.n p.m q → FitsReport p.n p.m (blank p q)
blank-fits p q h = (h, length-replicate p.m +0)

pub unknown-fits : (p : Setup) (x : List Float) → length x ≡ p.n → FitsReport p.n p.m (blank p (unknown p x))
unknown-fits p x h = blank-fits p (unknown p x) (record { x = h; values = length-replicate (suc p.m) nan })

goal-over : (p : Setup) (goal : Goal) (q : Point) (rs : List Part) (f g : List Float) → FitsGoal p.n p.m goal → FitsPoint p.n p.m q → Agree (goal_parts p.n p.m goal rs) f g
    → Agree rs (goal_floats p goal q f) (goal_floats p goal q g)
goal-over p begun q rs f g h hq a = report-over p.n p.m (blank p q) rs f g (blank-fits p q hq) a
goal-over p (taken s) q rs f g h hq a = iterate-over p.n p.m s rs f g h a

-- and those of a state
abbrev pub Sized : (n m : ℕ) → Machine → Type 0
Sized n m (ended e r) = FitsReport n m r
Sized n m (starting b x) = length x ≡ n
Sized n m (trying b s line α again) = FitsIterate n m s × (length line.d ≡ n)
Sized n m (sloping b goal q) = FitsGoal n m goal × FitsPoint n m q
Sized n m (raised b goal q rows cols g) = FitsGoal n m goal × FitsPoint n m q × (length g ≡ known n m rows cols)
Sized n m (lowered b goal q rows cols g v) = FitsGoal n m goal × FitsPoint n m q × (length g ≡ known n m rows cols)

-- a state that is written over either is the same
pub state-over : (p : Setup) (M : Machine) (f g : List Float) → Sized p.n p.m M → Agree (parts_of p.n p.m M) f g → machine_floats p M f ≡ machine_floats p M g
unfolding machine_floats emptied along
state-over p (ended e r) f g h a =
    agree-done _ _
    (report-over p.n p.m r _ _ _ h
    (agree-laid 1 15 _ _ _ _ (length-replicate 15 +0)
    (agree-laid 64 32 _ _ _ _ (length-replicate 32 +0)
    (agree-laid 112 16 _ _ _ _ (length-replicate 16 +0)
    (agree-laid 152 872 _ _ _ _ (length-replicate 872 +0) a)))))
state-over p (starting b x) f g h a = agree-done _ _ (agree-laid 976 p.n _ _ _ _ h (agree-laid 112 p.n _ _ _ _ h (report-over p.n p.m (blank p (unknown p x)) _ _ _ (unknown-fits p x h) a)))
state-over p (trying b s line α again) f g h a =
    agree-done _ _
    (agree-laid 976 p.n _ _ _ _ (length-tab p.n _)
    (agree-laid 1 3 _ _ _ _ refl
    (agree-laid 64 p.n _ _ _ _ h.1
    (iterate-over p.n p.m s _ f g h.0 a))))
state-over p (sloping b goal q) f g h a =
    agree-done _ _
    (agree-laid 976 p.n _ _ _ _ h.1.x
    (agree-laid 112 p.n _ _ _ _ h.1.x
    (agree-laid 152 (suc p.m) _ _ _ _ h.1.values
    (goal-over p goal q _ f g h.0 h.1 a))))
state-over p (raised b goal q rows cols g') f g h a =
    agree-done _ _
    (agree-laid 976 p.n _ _ _ _ (length-set q.x _ _ ∙ h.1.x)
    (agree-laid 448 (known p.n p.m rows cols) _ _ _ _ h.2
    (agree-laid 112 p.n _ _ _ _ h.1.x
    (agree-laid 152 (suc p.m) _ _ _ _ h.1.values
    (goal-over p goal q _ f g h.0 h.1 a)))))
state-over p (lowered b goal q rows cols g' v) f g h a =
    agree-done _ _
    (agree-laid 976 p.n _ _ _ _ (length-set q.x _ _ ∙ h.1.x)
    (agree-laid 4 1 _ _ _ _ refl
    (agree-laid 448 (known p.n p.m rows cols) _ _ _ _ h.2
    (agree-laid 112 p.n _ _ _ _ h.1.x
    (agree-laid 152 (suc p.m) _ _ _ _ h.1.values
    (goal-over p goal q _ f g h.0 h.1 a))))))

-- so what was laid where a state writes does not show
pub covered : (p : Setup) (M : Machine) (o c : ℕ) (v f : List Float) → Sized p.n p.m M → length v ≡ c → Covers p.n p.m o c M → machine_floats p M (laid o v f) ≡ machine_floats p M f
covered p M o c v f h e k = state-over p M (laid o v f) f h (agree-put _ o c v f f e k (agree_same _ f))

-- ---- which parts a state writes

past : (n m : ℕ) (goal : Goal) (rs : List Part) (i : ℕ) → Off (goal_parts n m goal rs) i → Off rs i
past n m begun rs i h = h.1.1.1
past n m (taken s) rs i h = h.1.1.1.1.1.1

-- those of an iterate
pub record CoversIterate (n m : ℕ) (M : Machine) : Type 0 where
  pub values : Covers n m 128 (suc m) M
  pub x : Covers n m 48 n M
  pub multipliers : Covers n m 96 m M
  pub penalty : Covers n m 80 m M
  pub b : Covers n m 720 (n * n) M
  pub slopes : Covers n m 176 (suc m * n) M

pub iterate-covered : (p : Setup) (M : Machine) (s : Iterate) (f : List Float) → Sized p.n p.m M → FitsIterate p.n p.m s → CoversIterate p.n p.m M
    → machine_floats p M (iterate_floats s f) ≡ machine_floats p M f
iterate-covered p M s f h g k =
    covered p M 176 _ _ _ h g.slopes k.slopes ∙ covered p M 720 _ _ _ h g.b k.b ∙ covered p M 80 _ _ _ h g.penalty k.penalty
    ∙ covered p M 96 _ _ _ h g.multipliers k.multipliers ∙ covered p M 48 _ _ _ h g.point.x k.x ∙ covered p M 128 _ _ _ h g.point.values k.values

module _ (n m : ℕ) (l : n ≤ 16) (k : m ≤ 16) (B₁ : suc m * n ≤ 272) (B₂ : n * n ≤ 256) where
  pub ended-iterate : (e : Ending) (r : Report) → CoversIterate n m (ended e r)
  ended-iterate e r =
      record {
        values = λ i h. h.1.1.1.1.0;
        x = λ i h. h.1.1.1.1.1.0;
        multipliers = λ i h. h.1.1.1.1.1.1.0;
        penalty = λ i h. within 64 32 80 m i (omega arith) (omega arith) h.1.1.0;
        b = λ i h. within 152 872 720 (n * n) i (omega arith) (omega arith) h.0;
        slopes = λ i h. within 152 872 176 (suc m * n) i (omega arith) (omega arith) h.0;
      }

  pub ended-line : (e : Ending) (r : Report) → Covers n m 64 n (ended e r) × Covers n m 1 3 (ended e r)
  ended-line e r = (λ i h. within 64 32 64 n i (omega arith) (omega arith) h.1.1.0, λ i h. within 1 15 1 3 i (omega arith) (omega arith) h.1.1.1.0)

  pub ended-new : (e : Ending) (r : Report) → Covers n m 152 (suc m) (ended e r) × Covers n m 112 n (ended e r)
  ended-new e r = (λ i h. within 152 872 152 (suc m) i (omega arith) (omega arith) h.0, λ i h. within 112 16 112 n i (omega arith) (omega arith) h.1.0)

  pub ended-slope : (j : ℕ) → j < 272 → (e : Ending) (r : Report) → Covers n m (448 + j) 1 (ended e r)
  ended-slope j q e r = λ i h. within 152 872 (448 + j) 1 i (omega arith) (omega arith) h.0

  pub ended-value : (e : Ending) (r : Report) → Covers n m 4 1 (ended e r)
  ended-value e r = λ i h. within 1 15 4 1 i (omega arith) (omega arith) h.1.1.1.0

pub trying-iterate : (n m b : ℕ) (s : Iterate) (line : Line) (α : Float) (again : ℕ) → CoversIterate n m (trying b s line α again)
trying-iterate n m b s line α again =
    record { values = λ i h. h.0; x = λ i h. h.1.0; multipliers = λ i h. h.1.1.0; penalty = λ i h. h.1.1.1.0; b = λ i h. h.1.1.1.1.0; slopes = λ i h. h.1.1.1.1.1.0 }

pub trying-line : (n m b : ℕ) (s : Iterate) (line : Line) (α : Float) (again : ℕ) → Covers n m 64 n (trying b s line α again) × Covers n m 1 3 (trying b s line α again)
trying-line n m b s line α again = (λ i h. h.1.1.1.1.1.1.0, λ i h. h.1.1.1.1.1.1.1.0)

pub sloping-new : (n m b : ℕ) (goal : Goal) (q : Point) → Covers n m 152 (suc m) (sloping b goal q) × Covers n m 112 n (sloping b goal q)
sloping-new n m b goal q = (λ i h. (past n m goal _ i h).0, λ i h. (past n m goal _ i h).1.0)

pub raised-new : (n m b : ℕ) (goal : Goal) (q : Point) (rows cols : ℕ) (g : List Float) → Covers n m 152 (suc m) (raised b goal q rows cols g) × Covers n m 112 n (raised b goal q rows cols g)
raised-new n m b goal q rows cols g = (λ i h. (past n m goal _ i h).0, λ i h. (past n m goal _ i h).1.0)

pub raised-slope : (n m b : ℕ) (goal : Goal) (q : Point) (rows cols : ℕ) (g : List Float) (j : ℕ) → j < known n m rows cols → Covers n m (448 + j) 1 (raised b goal q rows cols g)
raised-slope n m b goal q rows cols g j l = λ i h. within 448 (known n m rows cols) (448 + j) 1 i (omega arith) (omega arith) (past n m goal _ i h).1.1.0

pub lowered-value : (n m b : ℕ) (goal : Goal) (q : Point) (rows cols : ℕ) (g : List Float) (v : Float) → Covers n m 4 1 (lowered b goal q rows cols g v)
lowered-value n m b goal q rows cols g v = λ i h. (past n m goal _ i h).1.1.1.0

-- ---- what holds of every end with a good report, and of a state, holds where it is led to

module _ (P : Machine → Type 0) (Q : Report → Type 0) (end : (e : Ending) (r : Report) → Q r → P (ended e r)) where
  pub by-either : (t : Bool) (a o : Machine) → P a → P o → P (cond t a o)
  by-either true a o h g = h
  by-either false a o h g = g

  pub by-due : (b : ℕ) (r : Report) (k : ℕ → Machine) → Q r → ((c : ℕ) → P (k c)) → P (due ended b r k)
  by-due zero r k q h = end exhausted r q
  by-due (suc b) r k q h = h b

  pub by-pay : (w b : ℕ) (r : Report) (k : ℕ → Machine) → Q r → ((c : ℕ) → P (k c)) → P (pay ended w b r k)
  by-pay zero b r k q h = by-due b r k q h
  by-pay (suc w) b r k q h = h b

  pub by-reach : (y : Float) (w b : ℕ) (r : Report) (k : ℕ → Machine) → Q r → ((c : ℕ) → P (k c)) → P (reach ended y r (pay ended w b r k))
  by-reach y w b r k q h = by-either (is_finite y) _ _ (by-pay w b r k q h) (end nonfinite r q)

  pub by_row : (w : ℕ) (g : List Float) (r : Report) (k : Machine) → Q r → P k → P (row_done ended w g r k)
  by_row zero g r k q h = by-either (are_finite g) _ _ h (end nonfinite r q)
  by_row (suc w) g r k q h = h

  -- a coordinate is moved
  pub by-ask : (p : Setup) (goal : Goal) (q : Point) (rows cols b : ℕ) (g : List Float) → Q (report_for p goal q) → ((c : ℕ) → P (raised c goal q rows cols g)) → P (move_next p goal q rows (suc cols) b g)
  unfolding move_next
  by-ask p goal q zero cols b g r h = by-reach (raise (at q.x (p.n - suc cols))) (p.m - zero) b (report_for p goal q) _ r h
  by-ask p goal q (suc rows) cols b g r h = by-reach (raise (at q.x (p.n - suc cols))) (p.m - suc rows) b (report_for p goal q) _ r h

  -- the first one is
  pub by_first : (p : Setup) (goal : Goal) (q : Point) (rows n b : ℕ) (g : List Float) → 1 ≤ n → Q (report_for p goal q) → ((c cols : ℕ) → suc cols ≡ n → P (raised c goal q rows cols g))
      → P (move_next p goal q rows n b g)
  by_first p goal q rows zero b g l r h = absurd (omega arith)
  by_first p goal q rows (suc cols) b g l r h = by-ask p goal q rows cols b g r (λ c. h c cols refl)

  pub by-slopes : (s : Scheme) (p : Setup) (goal : Goal) (b : ℕ) (q : Point) → 1 ≤ p.n → Q (report_for p goal q) → P (sloping b goal q)
      → ((c cols : ℕ) → suc cols ≡ p.n → P (raised c goal q p.m cols [])) → P (slopes_next s p goal b q)
  by-slopes told p goal b q l r h k = h
  by-slopes forward p goal b q l r h k = by_first p goal q p.m p.n b [] l r k
  by-slopes central p goal b q l r h k = by_first p goal q p.m p.n b [] l r k
