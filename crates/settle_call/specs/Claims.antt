-- What is shown of calls that settle and certify: how far stored volumes can be from the best, over exact numbers; that a bound is given back; and that the promises allow one answer only. Definitions only.
use Rattle.std.specs.Prelude.{ℕ, ◌<◌, ◌≡◌, true, List, length, take, drop, Float}
use Rattle.exact.specs.Exact.{Finite}
use Rattle.workspace.specs.Tables.{Answer, done, refused, is_room}
use Rattle.workspace.specs.declared.Refusal.{Refusal}
use Rattle.workspace.specs.Tables.{Outcome}
use Rattle.std.specs.Prelude.{Ok, Err}
use Rattle.lsei.specs.Lsei.{Solution}
use Rattle.reconcile.specs.Day.{Day, corrected}
use Rattle.reconcile_call.specs.Promise.{day_call, Reconciles}
use Rattle.settle.specs.Settle.{Measured, Settled, first_of, is_kept, is_ordinary}
use Rattle.settle.specs.Claims.{Near, of_day}
use Rattle.settle_call.specs.Promise.{settle_call, Settles, certify_call, Certifies, in_turn}
use Rattle.settle_call.specs.Promise.{Bounded}
use Rattle.std.specs.Prelude.{Ok, Err}

-- ---- what a bound says, over exact numbers

-- Of what a call has stored that tells a finite B: no volumes that close, keep and fit as well lie farther off, no value is off by more than B spreads, and the day's best are near.
abbrev pub SettledIsNear : Type 0
SettledIsNear = (d : Measured) (t : Float) (B : Float) (x x' mu mu' w w' : List Float) (iw iw' : List ℕ)
    → Settles (settle_call d t x mu w iw) (Ok B) x x' mu mu' w w' iw iw' → Finite B → Near d x' B

-- The same of volumes from anywhere that are certified.
abbrev pub CertifiedIsNear : Type 0
CertifiedIsNear = (d : Measured) (B : Float) (x mu w w' : List Float) (iw iw' : List ℕ)
    → Certifies (certify_call d x mu w iw) (Ok B) w w' iw iw' → Finite B → Near d x B

-- Certifying what settling has stored gives its bound back. (A slice keeps its length.)
abbrev pub GivesBack : Type 0
GivesBack = (d : Measured) (t : Float) (B : Float) (x x' mu mu' w w' u : List Float) (iw iw' iu : List ℕ)
    → Settles (settle_call d t x mu w iw) (Ok B) x x' mu mu' w w' iw iw' → length x' ≡ length x → is_room u iu ≡ true
    → certify_call d x' mu' u iu ≡ done (record { x = x'; y = take d.m mu'; z = drop d.m mu'; far = B })

-- ---- beside the day's reconciliation

-- Of a day of totalisers whose corrected volumes are kept, with a bound of at most 2 ^ -10, what settling stores is what the reconciliation stores, bit for bit.
abbrev pub OrdinaryCalls : Type 0
OrdinaryCalls = (d : Day) (t : Float) (l : Solution) → (corrected d).answer ≡ done l → is_ordinary (is_kept (of_day d) t (first_of (of_day d) l)) (first_of (of_day d) l).far ≡ true
    → (v v' : List Float) (marks marks' : List ℕ) (w w' : List Float) (iw iw' : List ℕ) → Reconciles d.n (day_call d v marks w iw) (Ok tt) v v' marks marks' w w' iw iw'
    → (B : Float) (x x' mu mu' u u' : List Float) (iu iu' : List ℕ) → Settles (settle_call (of_day d) t x mu u iu) (Ok B) x x' mu mu' u u' iu iu' → x' ≡ v'

-- ---- the tests of numbers

-- none refuses, and what follows them answers; or here is the lowest that does
pub data Lowest {A : Type 0} (f : ℕ → Outcome) (n : ℕ) (a c : Answer A) : Type 0 where
  none_refuses : ((i : ℕ) → i < n → f i ≡ Ok tt) → c ≡ a → Lowest f n a c
  this_refuses : (i : ℕ) (r : Refusal) → i < n → ((j : ℕ) → j < i → f j ≡ Ok tt) → f i ≡ Err r → c ≡ refused r → Lowest f n a c

abbrev pub LowestFirst : Type 1
LowestFirst = (A : Type 0) (f : ℕ → Outcome) (n : ℕ) (a : Answer A) → Lowest {A = A} f n a (in_turn f n 0 a)

-- ---- one answer only

-- whatever the answer c, the outcome and all that is left are fixed by what was there before
abbrev pub OneAnswer : Type 0
OneAnswer = (c : Answer Settled) (o p : Bounded) (x x' x'' mu mu' mu'' w w' w'' : List Float) (iw iw' iw'' : List ℕ) → Settles c o x x' mu mu' w w' iw iw' → Settles c p x x'' mu mu'' w w'' iw iw''
    → (o ≡ p) × (x' ≡ x'') × (mu' ≡ mu'') × (w' ≡ w'') × (iw' ≡ iw'')

abbrev pub OneCertificate : Type 0
OneCertificate = (c : Answer Settled) (o p : Bounded) (w w' w'' : List Float) (iw iw' iw'' : List ℕ) → Certifies c o w w' iw iw' → Certifies c p w w'' iw iw'' → (o ≡ p) × (w' ≡ w'') × (iw' ≡ iw'')
