-- The volume between a meter's two readings is its total.
use mathlib.Core.Path.{◌≡◌, refl, subst}
use mathlib.Core.Bool.{Bool, true, false, cond}
use mathlib.Core.List.{List, [], ◌∷◌}
use Prim.Native.Nat.{ℕ, ◌+◌, ◌-◌, ◌*◌, ◌≤◌, ◌<◌}
use native.Mathlib.Omega.{arith}
use lib.Dec.{ltb}
use lib.ListN.{get_or}
use borrow.Author.Tests.{ltb-true, ltb-false}
use Rattle.totaliser.specs.Volume.{largest, volume}
use Rattle.day_words.specs.Words.{lines_of}
use Rattle.sheet_words.specs.Lines.{after_mark}
use Rattle.mend.specs.Mend.{Bytes, records_of, of_meter, mend}
use Rattle.mend.specs.Claims.{Totalled}
use Rattle.mend.proofs.Told.{total_is}
use Rattle.plant.specs.Claims.{meters_of, old_of, new_of, SameVolume}
use Rattle.plant.proofs.Kept.{none_dropped, same_file, readings-small, own-there}
use Rattle.plant.proofs.Sheeted.{sheeted, sound-meters, number_small, given-sound}
use Rattle.plant.proofs.Given.{line-given}

volume-is : (old new total rollovers : ℕ) → old ≤ largest → new ≤ largest → total ≤ largest → total + old ≡ new + 1000000 * rollovers → volume old new ≡ total
unfolding volume
volume-is old new total rollovers a b c e = go (ltb new old) refl
  where
    go : (t : Bool) → ltb new old ≡ t → cond t (new + 1000000 - old) (new - old) ≡ total
    go true f = let l : new < old = ltb-true new old f in omega (arith, a, b, c, e, l)
    go false f = let l : old ≤ new = ltb-false new old f in omega (arith, a, b, c, e, l)

-- without records both are 0
by-ends : (own : List Bytes) (total rollovers : ℕ) → Totalled own total rollovers → old_of own ≤ largest → new_of own ≤ largest → total ≤ largest → volume (old_of own) (new_of own) ≡ total
by-ends [] total rollovers w a b c = volume-is 0 0 total rollovers a b c (let z = w.0 in let y = w.1 in omega (arith, z, y))
by-ends (r ∷ qs) total rollovers w a b c = volume-is (old_of (r ∷ qs)) (new_of (r ∷ qs)) total rollovers a b c w

pub same-volume : SameVolume
same-volume kept plant text k x e f =
    let s = sheeted kept plant text e in
    let ms = meters_of plant in
    let rs = records_of kept in
    let m = x.number in
    let total = get_or (mend kept).totals m 0 in
    let rollovers = get_or (mend kept).rollovers m 0 in
    let g = line-given (lines_of (after_mark plant)) 0 [] ms k x s.sound-lines f in
    let n = number_small m ms (sound-meters plant ms s.sound-lines) g in
    let h = given-sound m ms (mend kept).totals rs n g s.none-amiss in
    let small = readings-small m rs (none_dropped kept s.kept-all).all_sound in
    record {
      has_records = own-there m rs h.0;
      total_is = by-ends (of_meter m rs) total rollovers (subst (λ (z : List Bytes). Totalled (of_meter m z) total rollovers) (same_file kept s.kept-all) (total_is kept m n)) small.0 small.1 h.1;
    }
