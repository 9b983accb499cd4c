-- A call of an operation: what it leaves where a test refuses, and where it is done.
use mathlib.Core.Path.{◌≡◌, refl}
use mathlib.Core.Bool.{Bool, true, false, ◌&&◌}
use mathlib.Core.List.{List}
use Prim.Native.Nat.{ℕ, ◌*◌}
use lib.Dec.{eqb}
use lib.Ieee.{Float}
use borrow.Author.Tests.{eqb-true}
use Rattle.workspace.specs.Tables.{Answer, done, call, is_dimension, is_room, has}
use Rattle.workspace.specs.declared.Refusal.TheVariants.{Size, Length, Room}
use Rattle.workspace.specs.Tables.{Outcome}
use Rattle.std.specs.Prelude.{Ok, Err}
use Rattle.workspace.specs.Readings.{Cleared}
use Rattle.workspace.proofs.Tests.{and-true, dimension-le, has-length, room-ge}
use Rattle.hessian_call.specs.Promise.{Writes}
use Rattle.hessian.specs.inner.Work.{FactorMade}
use Rattle.hessian_call.specs.inner.Work.{UpdateReady}

-- ---- a test refuses

module _ (s l r : Bool) (a : Answer (List Float)) (out w : List Float) (iw : List ℕ) where
  pub size-refused : s ≡ false → Writes (call s l r true a) (Err Size) out out w w iw iw
  size-refused hs = rw hs (record { the_outcome = refl; the_output = refl; the_floats = refl; the_words = refl })

  pub length-refused : s ≡ true → l ≡ false → Writes (call s l r true a) (Err Length) out out w w iw iw
  length-refused hs hl = rw (hs, hl) (record { the_outcome = refl; the_output = refl; the_floats = refl; the_words = refl })

  pub room-refused : s ≡ true → l ≡ true → r ≡ false → Writes (call s l r true a) (Err Room) out out w w iw iw
  room-refused hs hl hr = rw (hs, hl, hr) (record { the_outcome = refl; the_output = refl; the_floats = refl; the_words = refl })

-- ---- no test refuses

pub made : (s l r : Bool) (v out out' w w' : List Float) (iw iw' : List ℕ)
    → s ≡ true → l ≡ true → r ≡ true → out' ≡ v → Cleared w w' iw iw' → Writes (call s l r true (done v)) (Ok tt) out out' w w' iw iw'
made s l r v out out' w w' iw iw' hs hl hr e c =
    rw (hs, hl, hr) (record { the_outcome = refl; the_output = e; the_floats = c.floats; the_words = c.words })

-- Cholesky's answer
pub factored : (s l r : Bool) (a : Answer (List Float)) (o : Outcome) (out out' w w' : List Float) (iw iw' : List ℕ)
    → s ≡ true → l ≡ true → r ≡ true → FactorMade a o out out' × Cleared w w' iw iw' → Writes (call s l r true a) o out out' w w' iw iw'
factored s l r a o out out' w w' iw iw' hs hl hr h =
    rw (hs, hl, hr)
    (record {
      the_outcome = h.0.the_outcome;
      the_output = h.0.the_output;
      the_floats = rw h.0.the_clearing h.1.floats;
      the_words = rw h.0.the_clearing h.1.words;
    })

-- ---- what the tests show

pub squares-of : (n k l : ℕ) → (eqb k (n * n) && eqb l (n * n)) ≡ true → (k ≡ n * n) × (l ≡ n * n)
squares-of n k l h = let p = and-true (eqb k (n * n)) (eqb l (n * n)) h in (eqb-true _ _ p.0, eqb-true _ _ p.1)

pub ready : (n : ℕ) (b s y w : List Float) (iw : List ℕ)
    → is_dimension n ≡ true → (has b (n * n) && has s n && has y n) ≡ true → is_room w iw ≡ true → UpdateReady n b s y w iw
ready n b s y w iw hn hl hr =
    let l = and-true (has b (n * n) && has s n) (has y n) hl in
    let l' = and-true (has b (n * n)) (has s n) l.0 in
    record {
      size = dimension-le n hn;
      square = has-length b (n * n) l'.0;
      step = has-length s n l'.1;
      change = has-length y n l.1;
      room = (room-ge w iw hr).0;
      words = (room-ge w iw hr).1;
    }
