-- Where a call of LDP, LSI or LSEI is done, no inequality multiplier that it leaves is negative or -0.
use mathlib.Core.Path.{◌≡◌, sym, subst}
use mathlib.Core.Bool.{Bool, true, false, ◌&&◌}
use mathlib.Core.List.{List}
use Prim.Native.Nat.{ℕ, ◌+◌, ◌*◌, ◌<◌}
use native.Mathlib.Omega.{arith}
use lib.Ieee.{Float}
use Rattle.numbers.specs.Numbers.{at}
use Rattle.workspace.specs.Tables.{Answer, done, refused, call, is_width, is_equalities, is_inequalities, is_room, has}
use Rattle.workspace.specs.declared.Refusal.{Refusal}
use Rattle.workspace.specs.Tables.{Outcome}
use Rattle.std.specs.Prelude.{Ok, Err}
use Rattle.nnls.specs.Claims.{NotNegative}
use Rattle.lsei.specs.Lsei.{Solution, ldp, lsi, lsei}
use Rattle.lsei_call.specs.Promise.{Solves}
use Rattle.lsei_call.specs.Claims.{ClearFrom, LdpCallClear, LsiCallClear, LseiCallClear}
use Rattle.lsei_call.proofs.Clear.{ldp-clear, lsi-clear, lsei-clear}

never : {A : Type 0} (r : Refusal) → ◌≡◌ {A = Outcome} (Ok tt) (Err r) → A
never r e = absurd (let y : ⊥ = cc in y)

from-tests : (o m : ℕ) (a : Answer Solution) → ClearFrom o m a → (s l r : Bool) (x x' y y' w w' : List Float) (iw iw' : List ℕ)
    → Solves (call s l r true a) (Ok tt) x x' y y' w w' iw iw' → (i : ℕ) → i < m → NotNegative (at y' (o + i))
from-tests o m a c false l r x x' y y' w w' iw iw' p i h = never _ p.the_outcome
from-tests o m a c true false r x x' y y' w w' iw iw' p i h = never _ p.the_outcome
from-tests o m a c true true false x x' y y' w w' iw iw' p i h = never _ p.the_outcome
from-tests o m (done v) c true true true x x' y y' w w' iw iw' p i h = subst (λ (u : List Float). NotNegative (at u (o + i))) (sym p.the_multipliers) (c i h)
from-tests o m (refused k) c true true true x x' y y' w w' iw iw' p i h = never _ p.the_outcome

-- from place 0 on
first : (m : ℕ) (l : List Float) → ((i : ℕ) → i < m → NotNegative (at l (0 + i))) → (i : ℕ) → i < m → NotNegative (at l i)
first m l f i h = subst (λ (j : ℕ). NotNegative (at l j)) (let z : 0 + i ≡ i = omega arith in z) (f i h)

pub ldp-call-clear : LdpCallClear
ldp-call-clear m n g h x x' l l' w w' iw iw' p =
    first m l'
    (from-tests 0 m (ldp m n g h).answer (ldp-clear m n g h) (is_inequalities m && is_width n) (has g (m * n) && has h m && has x n && has l m) (is_room w iw) x x' l l' w w' iw iw' p)

pub lsi-call-clear : LsiCallClear
lsi-call-clear n me mg e f g h x x' l l' w w' iw iw' p =
    first mg l'
    (from-tests 0 mg (lsi n me mg e f g h).answer (lsi-clear n me mg e f g h) (is_width n && is_width me && is_inequalities mg)
    (has e (me * n) && has f me && has g (mg * n) && has h mg && has x n && has l mg) (is_room w iw) x x' l l' w w' iw iw' p)

pub lsei-call-clear : LseiCallClear
lsei-call-clear n mc me mg c d e f g h x x' l l' w w' iw iw' p =
    from-tests mc mg (lsei n mc me mg c d e f g h).answer (lsei-clear n mc me mg c d e f g h) (is_width n && is_equalities mc && is_width me && is_inequalities mg)
    (has c (mc * n) && has d mc && has e (me * n) && has f me && has g (mg * n) && has h mg && has x n && has l (mc + mg)) (is_room w iw) x x' l l' w w' iw iw' p
