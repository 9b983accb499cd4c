-- What the tests show.
use mathlib.Core.Path.{◌≡◌}
use mathlib.Core.Bool.{true, ◌&&◌}
use mathlib.Core.List.{List}
use Prim.Native.Nat.{ℕ, ◌*◌}
use lib.Dec.{eqb}
use lib.Ieee.{Float}
use borrow.Author.Tests.{eqb-true}
use Rattle.workspace.specs.Tables.{is_dimension, is_room, has}
use Rattle.workspace.proofs.Tests.{and-true, dimension-le, has-length, room-ge}
use Rattle.hessian_packed.specs.Packed.{count}
use Rattle.hessian_packed_call.specs.inner.Work.{Ready}

pub matrices-of : (n k l : ℕ) → (eqb k (count n) && eqb l (n * n)) ≡ true → (k ≡ count n) × (l ≡ n * n)
matrices-of n k l h = let p = and-true (eqb k (count n)) (eqb l (n * n)) h in (eqb-true _ _ p.0, eqb-true _ _ p.1)

pub ready : (n : ℕ) (p s y w : List Float) (iw : List ℕ)
    → is_dimension n ≡ true → (has p (count n) && has s n && has y n) ≡ true → is_room w iw ≡ true → Ready n p s y w iw
ready n p s y w iw hn hl hr =
    let l = and-true (has p (count n) && has s n) (has y n) hl in
    let l' = and-true (has p (count n)) (has s n) l.0 in
    record {
      size = dimension-le n hn;
      triangle = has-length p (count n) l'.0;
      step = has-length s n l'.1;
      change = has-length y n l.1;
      room = (room-ge w iw hr).0;
      words = (room-ge w iw hr).1;
    }
