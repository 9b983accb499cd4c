-- Kept minutes are in order, so the time for which a meter stands still is the longest.
use mathlib.Core.Path.{◌≡◌, refl, sym, ap, ◌∙◌}
use mathlib.Core.Bool.{Bool, true, false, cond}
use mathlib.Core.List.{List, [], ◌∷◌}
use Prim.Native.Nat.{ℕ, suc, ◌+◌, ◌<◌, ◌≤◌}
use native.Mathlib.Omega.{arith}
use lib.Dec.{eqb}
use lib.ListN.{length}
use borrow.Author.Tests.{ltb-true, eqb-true}
use Rattle.mend.specs.Mend.{Bytes, meter_of, minute_of, records_of, of_meter, is_later, is_kept, fate_of, fates, dropped, mend}
use Rattle.mend.proofs.Fates.{sound-is}
use Rattle.logged.specs.Claims.{InOrder}
use Rattle.logged.proofs.Still.{stands-still}
use Rattle.plant.specs.Claims.{StillFor}
use Rattle.plant.proofs.Sheeted.{sheeted}

-- the minute of the last of some records, the last first
abbrev last_minute : List Bytes → ℕ
last_minute [] = 0
last_minute (q ∷ qs) = minute_of q

is-after : (own : List Bytes) (r : Bytes) → is_later own r ≡ true → last_minute own ≤ minute_of r
is-after [] r e = omega arith
is-after (q ∷ qs) r e = let l : minute_of q < minute_of r = ltb-true (minute_of q) (minute_of r) e in omega (arith, l)

in_order : (k : ℕ) (b rs : List Bytes) (m : ℕ) → dropped k (fates b rs) ≡ [] → InOrder (last_minute (of_meter m b)) (of_meter m rs)
unfolding dropped fates of_meter
in_order k b [] m h = tt
in_order k b (r ∷ rs) m h = go (is_kept (fate_of b r)) refl h (in_order (k + 1) (r ∷ b) rs m)
  where
    by : (t : Bool) → eqb (meter_of r) m ≡ t → is_later (of_meter (meter_of r) b) r ≡ true → InOrder (last_minute (cond t (r ∷ of_meter m b) (of_meter m b))) (of_meter m rs)
        → InOrder (last_minute (of_meter m b)) (cond t (r ∷ of_meter m rs) (of_meter m rs))
    by true f l i = (is-after (of_meter m b) r (sym (ap (λ (n : ℕ). is_later (of_meter n b) r) (eqb-true (meter_of r) m f)) ∙ l), i)
    by false f l i = i

    go : (t : Bool) → is_kept (fate_of b r) ≡ t → cond t (dropped (k + 1) (fates (cond t (r ∷ b) b) rs)) (record { index = k; why = fate_of b r } ∷ dropped (k + 1) (fates (cond t (r ∷ b) b) rs)) ≡ []
        → (dropped (k + 1) (fates (r ∷ b) rs) ≡ [] → InOrder (last_minute (cond (eqb (meter_of r) m) (r ∷ of_meter m b) (of_meter m b))) (of_meter m rs))
        → InOrder (last_minute (of_meter m b)) (cond (eqb (meter_of r) m) (r ∷ of_meter m rs) (of_meter m rs))
    go true e h more = by (eqb (meter_of r) m) refl (sound-is b r e).is_last (more h)
    go false e h more = absurd (let z : suc (length (dropped (k + 1) (fates b rs))) ≡ 0 = ap length h in omega (arith, z))

kept-in-order : (kept : Bytes) (m : ℕ) → dropped 0 (mend kept).told ≡ [] → InOrder 0 (of_meter m (records_of kept))
unfolding mend of_meter
kept-in-order kept m h = in_order 0 [] (records_of kept) m h

pub still-for : StillFor
still-for kept plant text m e = stands-still m (records_of kept) (kept-in-order kept m (sheeted kept plant text e).kept-all)
