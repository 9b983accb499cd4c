-- Settled volumes (docs/RULES.md, "Settled volumes"): LSEI's, or those worked again with the limits that hold as equalities. Definitions only.
use Rattle.std.specs.Prelude.{ℕ, zero, suc, ◌+◌, ◌-◌, Bool, true, false, cond, ◌&&◌, ◌||◌, List, [], ◌∷◌, ◌++◌, eqb, leb, ltb, length, replicate, Float}
use Rattle.std.specs.Float.Ieee.{lt, le, eq}
use Rattle.numbers.specs.Numbers.{+0, near, one, ◌⊘◌, at, nth, tab, entry, rows, row}
use Rattle.workspace.specs.Tables.{Answer, done, refused, number_of, place_of}
use Rattle.workspace.specs.declared.Refusal.{Refusal}
use Rattle.nnls.specs.Counted.{Counted}
use Rattle.lsei.specs.Lsei.{Solution, lsei}
use Rattle.reconcile.specs.Day.{scales}
use Rattle.certain.specs.Bound.{all_below, bound, kept}

-- n values with their spreads, m balances whose sums are wanted zero, and p limits whose sums are wanted at least `least`: a row of n coefficients for each
pub record Measured : Type 0 where
  pub n : ℕ
  pub m : ℕ
  pub p : ℕ
  pub values : List Float
  pub spreads : List Float
  pub balances : List Float
  pub limits : List Float
  pub least : List Float

abbrev pub measured : (n m p : ℕ) (values spreads balances limits least : List Float) → Measured
measured n m p values spreads balances limits least = record { n = n; m = m; p = p; values = values; spreads = spreads; balances = balances; limits = limits; least = least }

-- volumes with the witnesses of the balances and of the limits, and the bound of these
pub record Settled : Type 0 where
  pub x : List Float
  pub y : List Float
  pub z : List Float
  pub far : Float

abbrev pub certified : Measured → (x y z : List Float) → Settled
certified d x y z =
    record { x = x; y = y; z = z; far = bound d.n d.m d.p d.values d.spreads d.balances d.limits d.least x y z }

-- ---- LSEI's problem: E = diag (1 / s), f = v / s

abbrev pub target : (values spreads : List Float) → ℕ → Float
target values spreads i = at values i ⊘ at spreads i

unfoldable pub targets : ℕ → (values spreads : List Float) → List Float
targets n values spreads = tab n (target values spreads)

-- ---- 1. LSEI's own answer

unfoldable pub first : Measured → Counted Solution
first d =
    lsei d.n d.m d.n d.p d.balances (replicate d.m +0) (scales d.n d.spreads) (targets d.n d.values d.spreads)
    d.limits d.least

-- the balances' multipliers stand first
unfoldable pub first_of : Measured → Solution → Settled
first_of d s = certified d s.x (tab d.m (λ j. at s.multipliers j)) (tab d.p (λ k. at s.multipliers (d.m + k)))

-- ---- 2. worked again, with the limits hs, c of them, as equalities beside the balances, and no inequality

-- the limits below k whose witness is above zero
unfoldable pub positives : ℕ → List Float → List ℕ
positives zero z = []
positives (suc k) z = cond (lt +0 (at z k)) (positives k z ++ (k ∷ [])) (positives k z)

unfoldable pub held_rows : Measured → ℕ → List ℕ → List Float
held_rows d c hs = d.balances ++ rows c (λ t. row d.n (nth hs t) d.limits)

unfoldable pub held_sides : Measured → ℕ → List ℕ → List Float
held_sides d c hs = replicate d.m +0 ++ tab c (λ t. at d.least (nth hs t))

unfoldable pub pinned : Measured → ℕ → List ℕ → Counted Solution
pinned d c hs =
    lsei d.n (d.m + c) d.n 0 (held_rows d c hs) (held_sides d c hs) (scales d.n d.spreads) (targets d.n d.values d.spreads) [] []

-- limit k is the floor of value i alone: coefficient 1 there, and 0 elsewhere
unfoldable pub is_own : (n : ℕ) (limits : List Float) (k i : ℕ) → Bool
is_own n limits k i = all_below n (λ j. eq (entry n limits k j) (cond (eqb j i) one +0))

-- a value whose own floor is held takes it exactly: that of the last in hs, where there are several
unfoldable pub owned : (n : ℕ) (limits least : List Float) → ℕ → List ℕ → ℕ → Float → Float
owned n limits least zero hs i v = v
owned n limits least (suc t) hs i v = cond (is_own n limits (nth hs t) i) (at least (nth hs t)) (owned n limits least t hs i v)

-- a multiplier that is below zero is taken as +0
abbrev pub not_below : Float → Float
not_below v = cond (lt v +0) +0 v

-- the witness of limit k: its multiplier, which stands behind the m balances', and +0 where it is not held
unfoldable pub witness : ℕ → ℕ → List ℕ → List Float → ℕ → Float
witness m zero hs mu k = +0
witness m (suc t) hs mu k = cond (eqb (nth hs t) k) (not_below (at mu (m + t))) (witness m t hs mu k)

unfoldable pub pinned_of : Measured → ℕ → List ℕ → Solution → Settled
pinned_of d c hs s =
    certified d (tab d.n (λ i. owned d.n d.limits d.least c hs i (at s.x i))) (tab d.m (λ j. at s.multipliers j)) (tab d.p (λ k. witness d.m c hs s.multipliers k))

pub data Again : Type 0 where
  again : Settled → Again
  none : Again

-- hs without its entry t, c of them left
unfoldable pub without : (c t : ℕ) → List ℕ → List ℕ
without c t hs = tab c (λ i. nth hs (cond (ltb i t) i (suc i)))

-- from the answer: done; or, where it is refused by 11 at a place past the m balances, that limit is let go and it is tried again by `on`; any other refusal ends it
abbrev pub onward : ℕ → Refusal → (ℕ → Again) → Again
onward m r on = cond (eqb (number_of r) 11 && leb m (place_of r)) (on (place_of r - m)) none

abbrev pub next : Measured → ℕ → List ℕ → Answer Solution → (ℕ → Again) → Again
next d c hs (done s) on = again (pinned_of d c hs s)
next d c hs (refused r) on = onward d.m r on

unfoldable pub tries : Measured → ℕ → List ℕ → Again
tries d zero hs = next d zero hs (pinned d zero hs).answer (λ t. none)
tries d (suc c) hs = next d (suc c) hs (pinned d (suc c) hs).answer (λ t. tries d c (without c t hs))

-- none with more equalities than LSEI takes
unfoldable pub second : Measured → List Float → Again
second d z = let hs = positives d.p z in cond (leb (d.m + length hs) 16) (tries d (length hs) hs) none

-- ---- 3. the choice, by a tolerance t

-- every balance and every limit is kept within t
abbrev pub is_kept : Measured → Float → Settled → Bool
is_kept d t s = kept d.n d.m d.p d.balances d.limits d.least s.x t

-- 2 ^ -10
abbrev pub near_enough : Float
near_enough = near 1 1024

-- LSEI's answer is taken at once where it is kept, and its bound is near enough
abbrev pub is_ordinary : (kept : Bool) (far : Float) → Bool
is_ordinary kept far = kept && le far near_enough

-- Whether the second answer is taken and not the first: a kept one before one that is not, and of two alike the one with the smaller bound; the first where they are equal.
abbrev pub is_better : (kept kept' : Bool) (far far' : Float) → Bool
is_better true kept' far far' = kept' && lt far' far
is_better false kept' far far' = kept' || lt far' far

abbrev pub better : Measured → Float → Settled → Again → Settled
better d t a none = a
better d t a (again b) = cond (is_better (is_kept d t a) (is_kept d t b) a.far b.far) b a

unfoldable pub chosen : Measured → Float → Settled → Settled
chosen d t a = cond (is_ordinary (is_kept d t a) a.far) a (better d t a (second d a.z))

-- ---- the whole: LSEI's refusals pass through

abbrev pub choose : Measured → Float → Answer Solution → Answer Settled
choose d t (done s) = done (chosen d t (first_of d s))
choose d t (refused r) = refused r

unfoldable pub settled : Measured → Float → Answer Settled
settled d t = choose d t (first d).answer
