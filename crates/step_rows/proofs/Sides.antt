-- A bound between the infinities is closed at its number, and any other is open. The infinities stand as the quotients that the code writes.
use mathlib.Core.Path.{◌≡◌, refl, sym}
use mathlib.Core.Bool.{true, false, true≢false}
use lib.Ieee.{Float, nan, inf, fin, binary64, of_bits, neg, div, lt}
use Rattle.step_rows.specs.Problem.{side_of}
use Rattle.std.specs.Prelude.{None, Some}

abbrev above : Float
above = div binary64 (of_bits binary64 0x3ff0_0000_0000_0000) (of_bits binary64 0)

abbrev below : Float
below = div binary64 (neg (of_bits binary64 0x3ff0_0000_0000_0000)) (of_bits binary64 0)

pub closed : (x : Float) → lt x above ≡ true → lt below x ≡ true → Some x ≡ side_of x
unfolding lt div neg of_bits
closed nan h l = absurd (true≢false (sym h))
closed (inf true) h l = absurd (true≢false (sym l))
closed (inf false) h l = absurd (true≢false (sym h))
closed (fin s m e) h l = refl

pub open_above : (x : Float) → lt x above ≡ false → None ≡ side_of x
unfolding lt div neg of_bits
open_above nan h = refl
open_above (inf s) h = refl
open_above (fin s m e) h = absurd (true≢false h)

pub open-below : (x : Float) → lt below x ≡ false → None ≡ side_of x
unfolding lt div neg of_bits
open-below nan h = refl
open-below (inf s) h = refl
open-below (fin s m e) h = absurd (true≢false h)
