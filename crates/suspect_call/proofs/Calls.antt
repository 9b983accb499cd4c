-- Laws of a call: what it leaves where a test refuses, and what the tests show where none does.
use mathlib.Core.Path.{◌≡◌, refl, ap}
use mathlib.Core.Bool.{Bool, true, false, ◌&&◌}
use mathlib.Core.List.{List}
use Prim.Native.Nat.{ℕ, ◌*◌}
use lib.ListN.{length}
use lib.Ieee.{Float}
use borrow.Author.Tests.{eqb-true}
use Rattle.workspace.specs.Tables.{Answer, done, refused, call, is_late, has}
use Rattle.workspace.specs.declared.Refusal.{Refusal}
use Rattle.workspace.specs.declared.Refusal.TheVariants.{Size, Length, Room}
use Rattle.reconcile_call.proofs.Calls.{last_of}
use Rattle.suspect.specs.Suspect.{Tests}
use Rattle.suspect.specs.declared.Finding.{Finding}
use Rattle.std.specs.Prelude.{Ok, Err}
use Rattle.suspect_call.specs.Promise.{Suspects}
use Rattle.suspect_call.specs.inner.Work.{Left}

pub both_true : (i o : Bool) → i ≡ true → o ≡ true → (i && o) ≡ true
both_true i o hi ho = rw (hi, ho) refl

pub left_false : (i o : Bool) → i ≡ false → (i && o) ≡ false
left_false i o hi = rw hi refl

pub right-false : (i o : Bool) → i ≡ true → o ≡ false → (i && o) ≡ false
right-false i o hi ho = rw (hi, ho) refl

module _ (s t r : Bool) (a : Answer Tests) (x : List Float) (g k : List ℕ) (w : List Float) (iw : List ℕ) where
  pub size-refused : s ≡ false → Suspects (call s t r true a) (Err Size) x x g g k k w w iw iw
  size-refused hs = rw hs (record { the_answer = refl; the_numbers = refl; the_groups = refl; the_marks = refl; the_floats = refl; the_words = refl })

  pub length-refused : s ≡ true → t ≡ false → Suspects (call s t r true a) (Err Length) x x g g k k w w iw iw
  length-refused hs ht = rw (hs, ht) (record { the_answer = refl; the_numbers = refl; the_groups = refl; the_marks = refl; the_floats = refl; the_words = refl })

  pub room-refused : s ≡ true → t ≡ true → r ≡ false → Suspects (call s t r true a) (Err Room) x x g g k k w w iw iw
  room-refused hs ht hr = rw (hs, ht, hr) (record { the_answer = refl; the_numbers = refl; the_groups = refl; the_marks = refl; the_floats = refl; the_words = refl })

  -- a meter is refused, and nothing is written
  pub meter-refused : (q : Refusal) → s ≡ true → t ≡ true → r ≡ true → (a ≡ refused q) × (is_late q ≡ false) → Suspects (call s t r true a) (Err q) x x g g k k w w iw iw
  meter-refused q hs ht hr h =
      rw (hs, ht, hr, h.0) (record { the_answer = refl; the_numbers = refl; the_groups = refl; the_marks = refl; the_floats = rw h.1 refl; the_words = rw h.1 refl })

-- no test refuses
pub all-passed : (s t r : Bool) (a : Answer Tests) (q : Tests) (d : Finding) (x x' : List Float) (g g' k k' : List ℕ) (w w' : List Float) (iw iw' : List ℕ) → s ≡ true → t ≡ true → r ≡ true
    → a ≡ done q → Left q d x' g' k' w w' iw iw' → Suspects (call s t r true a) (Ok d) x x' g g' k k' w w' iw iw'
all-passed s t r a q d x x' g g' k k' w w' iw iw' hs ht hr e L =
    rw (hs, ht, hr, e)
    (record { the_answer = ap Ok L.finding; the_numbers = L.numbers; the_groups = L.group; the_marks = L.mark; the_floats = L.floats; the_words = L.words })

pub inputs : (n m : ℕ) (v s c : List Float) (z : List ℕ) → (has v n && has s n && has c (m * n) && has z n) ≡ true → (length v ≡ n) × (length s ≡ n) × (length c ≡ m * n) × (length z ≡ n)
inputs n m v s c z h =
    let i = last_of (has v n && has s n && has c (m * n)) (length z) n h in
    let j = last_of (has v n && has s n) (length c) (m * n) i.0 in
    let k = last_of (has v n) (length s) n j.0 in
    (eqb-true (length v) n k.0, k.1, j.1, i.1)

pub outputs : (n : ℕ) (x : List Float) (g k : List ℕ) → (has x (3 * n) && has g n && has k n) ≡ true → (length x ≡ 3 * n) × (length g ≡ n) × (length k ≡ n)
outputs n x g k h =
    let i = last_of (has x (3 * n) && has g n) (length k) n h in
    let j = last_of (has x (3 * n)) (length g) n i.0 in
    (eqb-true (length x) (3 * n) j.0, j.1, i.1)
