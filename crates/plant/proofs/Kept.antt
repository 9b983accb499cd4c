-- Where mending drops no record: their readings are in range, their meters have numbers below 16, and the file has the same records.
use mathlib.Core.Path.{◌≡◌, refl, sym, ap, ◌∙◌}
use mathlib.Core.Bool.{Bool, true, false, cond, false≢true}
use mathlib.Core.List.{List, [], ◌∷◌}
use Prim.Native.Nat.{ℕ, zero, suc, ◌+◌, ◌-◌, ◌<◌, ◌≤◌}
use native.Mathlib.Omega.{arith}
use lib.Dec.{ltb, eqb}
use lib.ListN.{length, get_or}
use borrow.Author.Tests.{eq-eqb}
use Rattle.endian.specs.Claims.{AreBytes}
use Rattle.totaliser.specs.Volume.{largest}
use Rattle.mend.specs.Mend.{Bytes, meter_of, minute_of, reading_of, records_of, of_meter, is_kept, fate_of, fates, sound, dropped, is_there, mend}
use Rattle.mend.specs.Claims.{end_of}
use Rattle.mend.proofs.Fates.{sound-is}
use Rattle.mend.proofs.Again.{file-records}
use Rattle.mend.proofs.Bounds.{Minutes, minutes-of}
use Rattle.logged.specs.declared.Seen.{Seen}
use Rattle.logged.specs.Meters.{larger, since, next, seen_from, seen, shown, seen_or_zero}
use Rattle.logged.specs.Claims.{EndsOf}
use Rattle.logged.proofs.Ends.{first-and-last}
use Rattle.plant.specs.Claims.{old_of, new_of}
use Rattle.std.specs.Option.{is_some}
use Rattle.std.specs.Prelude.{Option, Some, None}

abbrev pub SoundRecords : List Bytes → Type 0
SoundRecords [] = Unit
SoundRecords (r ∷ rs) = (meter_of r ≤ 15) × (reading_of r ≤ largest) × SoundRecords rs

pub record AllKept (b rs : List Bytes) : Type 0 where
  pub all_sound : SoundRecords rs
  pub same : sound (fates b rs) rs ≡ rs

all-kept : (k : ℕ) (b rs : List Bytes) → dropped k (fates b rs) ≡ [] → AllKept b rs
unfolding dropped fates sound
all-kept k b [] h = record { all_sound = tt; same = refl }
all-kept k b (r ∷ rs) h = go (is_kept (fate_of b r)) refl h (all-kept (k + 1) (r ∷ b) rs)
  where
    go : (t : Bool) → is_kept (fate_of b r) ≡ t → cond t (dropped (k + 1) (fates (cond t (r ∷ b) b) rs)) (record { index = k; why = fate_of b r } ∷ dropped (k + 1) (fates (cond t (r ∷ b) b) rs)) ≡ []
        → (dropped (k + 1) (fates (r ∷ b) rs) ≡ [] → AllKept (r ∷ b) rs) → AllKept b (r ∷ rs)
    go true e h more =
        let s = sound-is b r e in
        let i = more h in
        record { all_sound = (s.numbered, s.in-range, i.all_sound); same = rw e (ap (λ (x : List Bytes). r ∷ x) i.same) }
    go false e h more = absurd (let z : suc (length (dropped (k + 1) (fates b rs))) ≡ 0 = ap length h in omega (arith, z))

pub none_dropped : (kept : Bytes) → dropped 0 (mend kept).told ≡ [] → AllKept [] (records_of kept)
unfolding mend
none_dropped kept h = all-kept 0 [] (records_of kept) h

pub same_file : (kept : Bytes) → dropped 0 (mend kept).told ≡ [] → records_of (mend kept).file ≡ records_of kept
same_file kept h = file-records kept ∙ (none_dropped kept h).same

-- ---- a meter's own records

own-sound : (m : ℕ) (rs : List Bytes) → SoundRecords rs → SoundRecords (of_meter m rs)
unfolding of_meter
own-sound m [] h = tt
own-sound m (r ∷ rs) h = go (eqb (meter_of r) m) (own-sound m rs h.2)
  where
    go : (b : Bool) → SoundRecords (of_meter m rs) → SoundRecords (cond b (r ∷ of_meter m rs) (of_meter m rs))
    go true k = (h.0, h.1, k)
    go false k = k

old-small : (own : List Bytes) → SoundRecords own → old_of own ≤ largest
old-small [] h = omega arith
old-small (r ∷ qs) h = h.1

end-small : (r : Bytes) (qs : List Bytes) → reading_of r ≤ largest → SoundRecords qs → reading_of (end_of r qs) ≤ largest
unfolding end_of
end-small r [] l h = l
end-small r (q ∷ qs) l h = end-small q qs h.1 h.2

new-small : (own : List Bytes) → SoundRecords own → new_of own ≤ largest
new-small [] h = omega arith
new-small (r ∷ qs) h = end-small r qs h.1 h.2

pub readings-small : (m : ℕ) (rs : List Bytes) → SoundRecords rs → (old_of (of_meter m rs) ≤ largest) × (new_of (of_meter m rs) ≤ largest)
readings-small m rs h = (old-small (of_meter m rs) (own-sound m rs h), new-small (of_meter m rs) (own-sound m rs h))

-- ---- what is seen of them

seen_by : (own : List Bytes) (s : Option Seen) → EndsOf own s → ((seen_or_zero s).first ≡ old_of own) × ((seen_or_zero s).last ≡ new_of own)
seen_by [] s e = (ap (λ (x : Option Seen). (seen_or_zero x).first) e, ap (λ (x : Option Seen). (seen_or_zero x).last) e)
seen_by (r ∷ qs) None e = absurd e
seen_by (r ∷ qs) (Some s) e = (e.first_reading, e.last_reading)

pub seen-is : (m : ℕ) (rs : List Bytes) → ((shown m rs).first ≡ old_of (of_meter m rs)) × ((shown m rs).last ≡ new_of (of_meter m rs))
seen-is m rs = seen_by (of_meter m rs) (seen m rs) (first-and-last m rs)

-- a record's meter is there
own-some : (rs : List Bytes) (i : ℕ) → i < length rs → is_there (of_meter (meter_of (get_or rs i [])) rs) ≡ true
unfolding of_meter
own-some [] i h = absurd (omega (arith, h))
own-some (r ∷ rs) zero h = rw (eq-eqb (meter_of r) (meter_of r) refl) refl
own-some (r ∷ rs) (suc i) h = go (eqb (meter_of r) (meter_of (get_or rs i []))) (own-some rs i (omega (arith, h)))
  where
    own : List Bytes
    own = of_meter (meter_of (get_or rs i [])) rs

    go : (b : Bool) → is_there own ≡ true → is_there (cond b (r ∷ own) own) ≡ true
    go true k = refl
    go false k = k

there-by : (own : List Bytes) (s : Option Seen) → EndsOf own s → is_there own ≡ true → is_some s ≡ true
there-by [] s e h = absurd (false≢true h)
there-by (r ∷ qs) None e h = absurd e
there-by (r ∷ qs) (Some s) e h = refl

pub record-there : (rs : List Bytes) (i : ℕ) → i < length rs → is_some (seen (meter_of (get_or rs i [])) rs) ≡ true
record-there rs i h = there-by (of_meter (meter_of (get_or rs i [])) rs) (seen (meter_of (get_or rs i [])) rs) (first-and-last (meter_of (get_or rs i [])) rs) (own-some rs i h)

own-by : (own : List Bytes) (s : Option Seen) → EndsOf own s → is_some s ≡ true → is_there own ≡ true
own-by [] s e h = absurd (false≢true (sym (ap is_some e) ∙ h))
own-by (r ∷ qs) s e h = refl

pub own-there : (m : ℕ) (rs : List Bytes) → is_some (seen m rs) ≡ true → is_there (of_meter m rs) ≡ true
own-there m rs h = own-by (of_meter m rs) (seen m rs) (first-and-last m rs) h

pub record-numbered : (rs : List Bytes) (i : ℕ) → i < length rs → SoundRecords rs → meter_of (get_or rs i []) < 16
record-numbered [] i h s = absurd (omega (arith, h))
record-numbered (r ∷ rs) zero h s = let l = s.0 in omega (arith, l)
record-numbered (r ∷ rs) (suc i) h s = record-numbered rs i (omega (arith, h)) s.2

-- ---- the time for which a meter stands still is below 2^32, as minutes of bytes are

larger-below : (a b n : ℕ) → a < n → b < n → larger a b < n
unfolding larger
larger-below a b n h k = go (ltb a b)
  where
    go : (t : Bool) → cond t b a < n
    go true = k
    go false = h

next-still : (s : Option Seen) (minute reading : ℕ) → (seen_or_zero s).still < 4294967296 → minute < 4294967296 → (next s minute reading).still < 4294967296
unfolding next
next-still None minute reading h k = omega arith
next-still (Some s) minute reading h k = larger-below s.still (minute - since s minute reading) 4294967296 h (omega (arith, k))

still-from : (m : ℕ) (s : Option Seen) (rs : List Bytes) → (seen_or_zero s).still < 4294967296 → Minutes rs → (seen_or_zero (seen_from m s rs)).still < 4294967296
unfolding seen_from
still-from m s [] h k = h
still-from m s (r ∷ rs) h k =
    go (eqb (meter_of r) m) (still-from m (Some (next s (minute_of r) (reading_of r))) rs (next-still s (minute_of r) (reading_of r) h k.0) k.1) (still-from m s rs h k.1)
  where
    go : (b : Bool) → (seen_or_zero (seen_from m (Some (next s (minute_of r) (reading_of r))) rs)).still < 4294967296 → (seen_or_zero (seen_from m s rs)).still < 4294967296
        → (seen_or_zero (seen_from m (cond b (Some (next s (minute_of r) (reading_of r))) s) rs)).still < 4294967296
    go true a b = a
    go false a b = b

pub still-small : (m : ℕ) (kept : Bytes) → AreBytes kept → (shown m (records_of kept)).still < 4294967296
still-small m kept h = still-from m None (records_of kept) (omega arith) (minutes-of kept h)
