-- Laws of a call: what it leaves where a test refuses, and what the tests show where none does.
use mathlib.Core.Path.{◌≡◌, refl}
use mathlib.Core.Bool.{Bool, true, false, ◌&&◌}
use mathlib.Core.List.{List}
use Prim.Native.Nat.{ℕ, ◌*◌, ◌≤◌}
use lib.Dec.{eqb}
use lib.ListN.{length}
use lib.Ieee.{Float}
use borrow.Author.Tests.{leb-true, eqb-true}
use Rattle.workspace.specs.Tables.{Answer, refused, call, is_equalities, is_late, has}
use Rattle.workspace.specs.declared.Refusal.{Refusal}
use Rattle.workspace.specs.declared.Refusal.TheVariants.{Size, Length, Room}
use Rattle.workspace.specs.Tables.{Outcome}
use Rattle.std.specs.Prelude.{Err}
use Rattle.workspace.proofs.Tests.{and-true, equalities-le}
use Rattle.lsei.specs.Lsei.{Solution}
use Rattle.reconcile_call.specs.Promise.{is_meters, Reconciles}

module _ (n : ℕ) (s t r : Bool) (a : Answer Solution) (x : List Float) (marks : List ℕ) (w : List Float) (iw : List ℕ) where
  pub size-refused : s ≡ false → Reconciles n (call s t r true a) (Err Size) x x marks marks w w iw iw
  size-refused hs = rw hs (record { the_outcome = refl; the_volumes = refl; the_marks = refl; the_floats = refl; the_words = refl })

  pub length-refused : s ≡ true → t ≡ false → Reconciles n (call s t r true a) (Err Length) x x marks marks w w iw iw
  length-refused hs ht = rw (hs, ht) (record { the_outcome = refl; the_volumes = refl; the_marks = refl; the_floats = refl; the_words = refl })

  pub room-refused : s ≡ true → t ≡ true → r ≡ false → Reconciles n (call s t r true a) (Err Room) x x marks marks w w iw iw
  room-refused hs ht hr = rw (hs, ht, hr) (record { the_outcome = refl; the_volumes = refl; the_marks = refl; the_floats = refl; the_words = refl })

  -- a meter is refused, and nothing is written
  pub meter-refused : (k : Refusal) → s ≡ true → t ≡ true → r ≡ true → (a ≡ refused k) × (is_late k ≡ false) → Reconciles n (call s t r true a) (Err k) x x marks marks w w iw iw
  meter-refused k hs ht hr h = rw (hs, ht, hr, h.0) (record { the_outcome = refl; the_volumes = refl; the_marks = refl; the_floats = rw h.1 refl; the_words = rw h.1 refl })

-- no test refuses
pub all-passed : (n : ℕ) (s t r : Bool) (a c : Answer Solution) (k : Outcome) (x x' : List Float) (marks marks' : List ℕ) (w w' : List Float) (iw iw' : List ℕ) → s ≡ true → t ≡ true → r ≡ true → a ≡ c
    → Reconciles n c k x x' marks marks' w w' iw iw' → Reconciles n (call s t r true a) k x x' marks marks' w w' iw iw'
all-passed n s t r a c k x x' marks marks' w w' iw iw' hs ht hr e h = rw (hs, ht, hr, e) h

pub sizes : (n m : ℕ) → (is_meters n && is_equalities m) ≡ true → (n ≤ 16) × (m ≤ 16)
sizes n m h = let p = and-true (is_meters n) (is_equalities m) h in (leb-true n 16 p.0, equalities-le m p.1)

pub last_of : (a : Bool) (k n : ℕ) → (a && eqb k n) ≡ true → (a ≡ true) × (k ≡ n)
last_of a k n h = let p = and-true a (eqb k n) h in (p.0, eqb-true k n p.1)

pub lengths : (n m : ℕ) (b a : List ℕ) (s c x : List Float) (marks : List ℕ) → (has b n && has a n && has s n && has c (m * n) && has x n && has marks n) ≡ true
    → (length b ≡ n) × (length a ≡ n) × (length s ≡ n) × (length c ≡ m * n) × (length x ≡ n) × (length marks ≡ n)
lengths n m b a s c x marks h =
    let i = last_of (has b n && has a n && has s n && has c (m * n) && has x n) (length marks) n h in
    let j = last_of (has b n && has a n && has s n && has c (m * n)) (length x) n i.0 in
    let k = last_of (has b n && has a n && has s n) (length c) (m * n) j.0 in
    let l = last_of (has b n && has a n) (length s) n k.0 in
    let o = last_of (has b n) (length a) n l.0 in
    (eqb-true (length b) n o.0, o.1, l.1, k.1, j.1, i.1)
