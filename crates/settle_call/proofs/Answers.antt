-- Laws of answers: what is given by an ending, and what a call then leaves.
use mathlib.Core.Path.{◌≡◌, refl, sym, ap, ap₂, ◌∙◌}
use mathlib.Core.Bool.{true, false}
use mathlib.Core.List.{List, [], ◌++◌}
use Prim.Native.Nat.{ℕ, ◌≤◌}
use native.Mathlib.Omega.{arith}
use lib.ListN.{length, drop}
use lib.Ieee.{Float, binary64, of_bits, le}
use Rattle.numbers.specs.Numbers.{+0}
use Rattle.workspace.specs.Tables.{Answer, done, refused, outcome_of, floats, words, cleared, is_late, is_tolerance}
use Rattle.workspace.specs.declared.Refusal.{Refusal}
use Rattle.workspace.specs.Tables.{Outcome}
use Rattle.workspace.specs.Readings.{vec, Cleared}
use Rattle.workspace.proofs.Parts.{vec-front, front-cleared}
use Rattle.lsei.specs.inner.Work.{refusal_of}
use Rattle.lsei.specs.declared.Unsolved.{Unsolved}
use Rattle.lsei.specs.declared.Unsolved.TheVariants.{Deficient, Dependent, Infeasible, Capped}
use Rattle.settle.specs.Settle.{Measured, Settled}
use Rattle.settle.specs.inner.Work.{settled_in, settled_by}
use Rattle.settle_call.specs.Promise.{Settles, reported, certify_call, Certifies}
use Rattle.settle_call.specs.inner.Work.{SettledGiven, called_on}
use Rattle.settle_call.specs.Promise.{Bounded}
use Rattle.std.specs.Prelude.{Result, Ok, Err}

-- ---- what is given by an ending

-- it is refused, and nothing is given
pub given-none : (o : Result Float Unsolved) (s : Float → Settled) (u : Unsolved) (x mu : List Float) → o ≡ Err u → SettledGiven (settled_by o s) (Err (refusal_of u)) x x mu mu
given-none o s u x mu h = rw h (record { the_outcome = refl; the_volumes = refl; the_multipliers = refl })

pub given-all : (o : Result Float Unsolved) (s : Float → Settled) (far : Float) (x x' mu mu' : List Float) → o ≡ Ok far → (s far).far ≡ far → x' ≡ (s far).x → mu' ≡ (s far).y ++ (s far).z → SettledGiven (settled_by o s) (Ok far) x x' mu mu'
given-all o s far x x' mu mu' d e ex em = rw d (record { the_outcome = ap Ok (sym e); the_volumes = ex; the_multipliers = em })

-- ---- a call that reached the arithmetic: v and u are what the kernel left in the first 8,192 and 512 entries

floats-of : (o : Result Float Unsolved) (s : Float → Settled) (w : List Float) → floats (settled_by o s) w ≡ cleared +0 8192 w
floats-of (Ok far) s w = refl
floats-of (Err (Deficient place)) s w = refl
floats-of (Err (Dependent place)) s w = refl
floats-of (Err Infeasible) s w = refl
floats-of (Err Capped) s w = refl

words_of : (o : Result Float Unsolved) (s : Float → Settled) (iw : List ℕ) → words (settled_by o s) iw ≡ cleared 0 512 iw
words_of (Ok far) s iw = refl
words_of (Err (Deficient place)) s iw = refl
words_of (Err (Dependent place)) s iw = refl
words_of (Err Infeasible) s iw = refl
words_of (Err Capped) s iw = refl

settled_same : (o : Result Float Unsolved) (s s' : Float → Settled) → ((far : Float) → s far ≡ s' far) → settled_by o s ≡ settled_by o s'
settled_same (Ok far) s s' h = ap done (h far)
settled_same (Err u) s s' h = refl

-- the answer, read in the whole workspace
whole-read : (n m p : ℕ) (v r : List Float) (far : Float) → n ≤ 16 → m ≤ 16 → p ≤ 48 → length v ≡ 8192 → settled_in n m p (v ++ r) far ≡ settled_in n m p v far
whole-read n m p v r far n16 m16 p48 l =
    ap (λ (x : List Float). made x (vec 6048 m (v ++ r)) (vec 6066 p (v ++ r))) (vec-front v r 6030 n (omega arith))
    ∙ ap₂ (λ (y z : List Float). made (vec 6030 n v) y z) (vec-front v r 6048 m (omega arith)) (vec-front v r 6066 p (omega arith))
  where
    made : (x y z : List Float) → Settled
    made x y z = record { x = x; y = y; z = z; far = far }

pub settled-all : (c : Answer Settled) (o : Result Float Unsolved) (n m p : ℕ) (k : Bounded) (x x' mu mu' w v w' : List Float) (iw u iw' : List ℕ) → n ≤ 16 → m ≤ 16 → p ≤ 48 → length v ≡ 8192 → length u ≡ 512
    → settled_by o (settled_in n m p v) ≡ c → SettledGiven (settled_by o (settled_in n m p (v ++ drop 8192 w))) k x x' mu mu' → Cleared (v ++ drop 8192 w) w' (u ++ drop 512 iw) iw'
    → Settles c k x x' mu mu' w w' iw iw'
settled-all c o n m p k x x' mu mu' w v w' iw u iw' n16 m16 p48 lv lu t G C =
    let s = settled_in n m p (v ++ drop 8192 w) in
    let e : settled_by o s ≡ c = settled_same o s (settled_in n m p v) (λ far. whole-read n m p v (drop 8192 w) far n16 m16 p48 lv) ∙ t in
    rw (← e)
    (record {
      the_outcome = G.the_outcome;
      the_volumes = G.the_volumes;
      the_multipliers = G.the_multipliers;
      the_floats = C.floats ∙ front-cleared +0 8192 v w lv ∙ sym (floats-of o s w);
      the_words = C.words ∙ front-cleared 0 512 u iw lu ∙ sym (words_of o s iw);
    })

-- ---- a call that a test refuses

pub settle-stopped : (c : Answer Settled) (k : Refusal) (x mu w : List Float) (iw : List ℕ) → (c ≡ refused k) × (is_late k ≡ false) → Settles c (Err k) x x mu mu w w iw iw
settle-stopped c k x mu w iw s = rw s.0 (record { the_outcome = refl; the_volumes = refl; the_multipliers = refl; the_floats = rw s.1 refl; the_words = rw s.1 refl })

pub certify-stopped : (c : Answer Settled) (k : Refusal) (w : List Float) (iw : List ℕ) → (c ≡ refused k) × (is_late k ≡ false) → Certifies c (Err k) w w iw iw
certify-stopped c k w iw s = rw s.0 (record { the_outcome = refl; the_floats = rw s.1 refl; the_words = rw s.1 refl })

pub settle-passed : (c a : Answer Settled) (k : Bounded) (x x' mu mu' w w' : List Float) (iw iw' : List ℕ) → c ≡ a → Settles a k x x' mu mu' w w' iw iw' → Settles c k x x' mu mu' w w' iw iw'
settle-passed c a k x x' mu mu' w w' iw iw' e S = rw e S

-- ---- certifying

-- 0.0 is a tolerance, so the tests of the other call are those of this one
is-tolerance : is_tolerance (of_bits binary64 0) ≡ true
unfolding le of_bits
is-tolerance = refl

pub certify-is : (d : Measured) (x mu w : List Float) (iw : List ℕ) → certify_call d x mu w iw ≡ called_on d (of_bits binary64 0) (length x) (length mu) (length w) (length iw) (done (reported d x mu))
certify-is d x mu w iw = rw is-tolerance refl

pub certified-all : (c : Answer Settled) (s : Settled) (far : Float) (w w' : List Float) (iw iw' : List ℕ) → c ≡ done s → far ≡ s.far → Cleared w w' iw iw' → Certifies c (Ok far) w w' iw iw'
certified-all c s far w w' iw iw' e h C = rw e (record { the_outcome = ap Ok h; the_floats = C.floats; the_words = C.words })
