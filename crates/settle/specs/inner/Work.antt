-- What the functions are handed and leave. No promise rests on these.
use Rattle.std.specs.Prelude.{ℕ, suc, ◌+◌, ◌-◌, ◌*◌, ◌<◌, ◌≤◌, ◌≡◌, Bool, true, false, cond, List, leb, ltb, length, replicate, Float, Result, Ok, Err, ⊤}
use Rattle.numbers.specs.Numbers.{+0, at, nth}
use Rattle.workspace.specs.Tables.{Answer, done, refused}
use Rattle.workspace.specs.Readings.{vec, stack, nums}
use Rattle.lsei.specs.inner.Work.{sides}
use Rattle.lsei.specs.inner.Work.{refusal_of}
use Rattle.lsei.specs.declared.Unsolved.{Unsolved}
use Rattle.lsei.specs.declared.Unsolved.TheVariants.{Deficient, Dependent, Infeasible, Capped}
use Rattle.reconcile.specs.Day.{scales}
use Rattle.settle.specs.Settle.{Measured, Settled, Again, again, none, certified, targets, positives, held_rows, held_sides, pinned, pinned_of, next, tries, second, is_kept, is_better, better}
use Rattle.lsei_nullspace.specs.inner.Places.{LSEI_C, LSEI_X, LSEI_E, LSEI_F, LSEI_G, LSEI_EQUALITY_MULTIPLIERS, LSEI_MULTIPLIERS}
use Rattle.lsei_nullspace.specs.inner.Work.{solution_in}
use Rattle.settle.specs.inner.Places.{SETTLE_X, SETTLE_Y, SETTLE_Z, SETTLE_AGAIN_X, SETTLE_AGAIN_Y, SETTLE_AGAIN_Z, SETTLE_HELD, SETTLE_WORDS}
use Rattle.settle.specs.declared.Standing.{Standing}
use Rattle.settle.specs.declared.Step.{Step}
use Rattle.settle.specs.declared.Step.TheVariants.{Found, Let, Stop}

-- c limits are held, each one of the p
pub record Held (p c : ℕ) (iw : List ℕ) : Type 0 where
  pub room : SETTLE_WORDS ≤ length iw
  pub few : c ≤ 48
  pub below : (t : ℕ) → t < c → nth iw (SETTLE_HELD + t) < p

-- ---- the problems in

pub record FirstIn (d : Measured) (w' : List Float) : Type 0 where
  pub the_c : stack LSEI_C d.m d.n w' ≡ d.balances
  pub the_d : vec LSEI_X d.m w' ≡ replicate d.m +0
  pub the_e : stack LSEI_E d.n d.n w' ≡ scales d.n d.spreads
  pub the_f : vec LSEI_F d.n w' ≡ targets d.n d.values d.spreads
  pub the_g : stack LSEI_G d.p d.n w' ≡ d.limits
  pub the_h : sides LSEI_G d.p d.n w' ≡ d.least

-- the rows and sides of those held, behind the m balances
pub record HeldIn (d : Measured) (c : ℕ) (iw : List ℕ) (w w' : List Float) : Type 0 where
  pub rows : (t j : ℕ) → t < c → j < d.n → at w' (LSEI_C + (d.m + t) * 18 + j) ≡ at d.limits (nth iw (SETTLE_HELD + t) * d.n + j)
  pub bounds : (t : ℕ) → t < c → at w' (LSEI_X + (d.m + t)) ≡ at d.least (nth iw (SETTLE_HELD + t))
  pub low : (x : ℕ) → x < LSEI_C + d.m * 18 → at w' x ≡ at w x
  pub middle : (x : ℕ) → LSEI_X ≤ x → x < LSEI_X + d.m → at w' x ≡ at w x
  pub after : (x : ℕ) → LSEI_E ≤ x → at w' x ≡ at w x

pub record PinnedIn (d : Measured) (c : ℕ) (iw : List ℕ) (w w' : List Float) : Type 0 where
  pub the_c : stack LSEI_C (d.m + c) d.n w' ≡ held_rows d c (nums SETTLE_HELD c iw)
  pub the_d : vec LSEI_X (d.m + c) w' ≡ held_sides d c (nums SETTLE_HELD c iw)
  pub the_e : stack LSEI_E d.n d.n w' ≡ scales d.n d.spreads
  pub the_f : vec LSEI_F d.n w' ≡ targets d.n d.values d.spreads
  pub behind : (x : ℕ) → SETTLE_X ≤ x → at w' x ≡ at w x

-- ---- the answers, where they are stored

pub record FirstStored (n m p : ℕ) (w w' : List Float) : Type 0 where
  pub x : vec SETTLE_X n w' ≡ vec LSEI_X n w
  pub y : vec SETTLE_Y m w' ≡ vec LSEI_EQUALITY_MULTIPLIERS m w
  pub z : vec SETTLE_Z p w' ≡ vec LSEI_MULTIPLIERS p w

-- c of the p limits have a witness above zero, and these stand from SETTLE_HELD on
pub record HeldFound (p c : ℕ) (z : List Float) (iw : List ℕ) : Type 0 where
  pub which : nums SETTLE_HELD c iw ≡ positives p z
  pub how_many : c ≡ length (positives p z)
  pub held : Held p c iw

pub record LetGo (c t : ℕ) (iw iw' : List ℕ) : Type 0 where
  pub left : (i : ℕ) → i < c → nth iw' (SETTLE_HELD + i) ≡ nth iw (SETTLE_HELD + cond (ltb i t) i (suc i))

-- the answer that stands from SETTLE_X on, with its bound; and the one from SETTLE_AGAIN_X on
abbrev pub settled_in : (n m p : ℕ) → List Float → Float → Settled
settled_in n m p w far = record { x = vec SETTLE_X n w; y = vec SETTLE_Y m w; z = vec SETTLE_Z p w; far = far }

abbrev pub other_in : (n m p : ℕ) → List Float → Float → Settled
other_in n m p w far = record { x = vec SETTLE_AGAIN_X n w; y = vec SETTLE_AGAIN_Y m w; z = vec SETTLE_AGAIN_Z p w; far = far }

-- the answer that stands from o on, with the bound that it has
abbrev pub stored_at : Measured → ℕ → List Float → Settled
stored_at d o w = certified d (vec o d.n w) (vec (o + 18) d.m w) (vec (o + 36) d.p w)

abbrev pub first_in : Measured → List Float → Settled
first_in d w = stored_at d SETTLE_X w

abbrev pub again_in : Measured → List Float → Settled
again_in d w = stored_at d SETTLE_AGAIN_X w

-- the settled volumes by their bound, or the refusal
abbrev pub settled_by : Result Float Unsolved → (Float → Settled) → Answer Settled
settled_by (Ok far) s = done (s far)
settled_by (Err u) s = refused (refusal_of u)

-- LSEI's answer stays while it is worked again
abbrev pub FirstStays : (w w' : List Float) → Type 0
FirstStays w w' = (x : ℕ) → SETTLE_X ≤ x → x < SETTLE_AGAIN_X → at w' x ≡ at w x

-- the answer of a try, where it is stored
pub record AgainStored (d : Measured) (c : ℕ) (iw : List ℕ) (w w' : List Float) : Type 0 where
  pub answer : again_in d w' ≡ pinned_of d c (nums SETTLE_HELD c iw) (solution_in d.n (d.m + c) 0 w)
  pub first : FirstStays w w'

-- what an ending comes to
abbrev pub step_of : ℕ → Result ⊤ Unsolved → Step
step_of m (Ok tt) = Found
step_of m (Err (Dependent place)) = cond (leb m place) (Let (place - m)) Stop
step_of m (Err (Deficient place)) = Stop
step_of m (Err Infeasible) = Stop
step_of m (Err Capped) = Stop

-- what is still to do gives the answer
abbrev pub after : Step → Settled → (ℕ → Again) → Again
after Found s on = again s
after (Let t) s on = on t
after Stop s on = none

pub record Tried (d : Measured) (c : ℕ) (r : Step) (iw iw' : List ℕ) (w w' : List Float) : Type 0 where
  pub told : (on : ℕ → Again) → next d c (nums SETTLE_HELD c iw) (pinned d c (nums SETTLE_HELD c iw)).answer on ≡ after r (again_in d w') on
  pub first : FirstStays w w'
  pub words : (x : ℕ) → SETTLE_HELD ≤ x → nth iw' x ≡ nth iw x

-- whether there is a second answer, and which
abbrev pub told_again : Bool → Settled → Again
told_again true s = again s
told_again false s = none

pub record TriedAll (d : Measured) (c : ℕ) (hs : List ℕ) (r : Bool) (w w' : List Float) : Type 0 where
  pub told : told_again r (again_in d w') ≡ tries d c hs
  pub first : FirstStays w w'

pub record WorkedAgain (d : Measured) (z : List Float) (r : Bool) (w w' : List Float) : Type 0 where
  pub told : told_again r (again_in d w') ≡ second d z
  pub first : FirstStays w w'

-- ---- the standing of an answer: its bound, and whether it is kept

pub record Judged (d : Measured) (t : Float) (s : Settled) (r : Standing) : Type 0 where
  pub far : r.far ≡ s.far
  pub kept : r.kept ≡ is_kept d t s

-- that of the answer worked again, as the choice takes it: where there is none, it is never better
pub record JudgedAgain (d : Measured) (t : Float) (z : List Float) (r : Standing) (w w' : List Float) : Type 0 where
  pub told : (a : Settled) → better d t a (second d z) ≡ cond (is_better (is_kept d t a) r.kept a.far r.far) (other_in d.n d.m d.p w' r.far) a
  pub first : FirstStays w w'
