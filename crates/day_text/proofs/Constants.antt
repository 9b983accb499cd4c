-- The code's literals.
use mathlib.Core.Path.{◌≡◌, refl, sym}
use Prim.Native.Nat.{ℕ, ◌^◌, ◌≤◌}
use lib.Count.{count_trailing_zeros}
use lib.ListN.{get_or-eq_default}
use lib.Ieee.{nan, binary64, div, of_bits, of_fields, units, odd, round, size, span, climb}
use Rattle.numbers.specs.Numbers.{near, at}
use Rattle.workspace.proofs.Readings.{lit-+0}
use Rattle.suspect.specs.Suspect.{limits}
use Rattle.day_text.specs.Verdict.{certain_enough}

pub lit-enough : of_bits binary64 4562146422526312448 ≡ certain_enough
unfolding of_bits of_fields odd round units size span climb count_trailing_zeros
lit-enough = refl

pub lit-tenth-9 : of_bits binary64 4472406533629990549 ≡ near 1 (10 ^ 9)
unfolding of_bits of_fields odd round units size span climb count_trailing_zeros
lit-tenth-9 = refl

pub lit-tenth-8 : of_bits binary64 4487126258331716666 ≡ near 1 (10 ^ 8)
unfolding of_bits of_fields odd round units size span climb count_trailing_zeros
lit-tenth-8 = refl

pub lit-tenth-7 : of_bits binary64 4502148214488346440 ≡ near 1 (10 ^ 7)
unfolding of_bits of_fields odd round units size span climb count_trailing_zeros
lit-tenth-7 = refl

pub lit-tenth-6 : of_bits binary64 4517329193108106637 ≡ near 1 (10 ^ 6)
unfolding of_bits of_fields odd round units size span climb count_trailing_zeros
lit-tenth-6 = refl

pub lit-tenth-5 : of_bits binary64 4532020583610935537 ≡ near 1 (10 ^ 5)
unfolding of_bits of_fields odd round units size span climb count_trailing_zeros
lit-tenth-5 = refl

pub lit-tenth-4 : of_bits binary64 4547007122018943789 ≡ near 1 10000
unfolding of_bits of_fields odd round units size span climb count_trailing_zeros
lit-tenth-4 = refl

pub lit-tenth-3 : of_bits binary64 4562254508917369340 ≡ near 1 1000
unfolding of_bits of_fields odd round units size span climb count_trailing_zeros
lit-tenth-3 = refl

pub lit-tenth-2 : of_bits binary64 4576918229304087675 ≡ near 1 100
unfolding of_bits of_fields odd round units size span climb count_trailing_zeros
lit-tenth-2 = refl

pub lit-tenth-1 : of_bits binary64 4591870180066957722 ≡ near 1 10
unfolding of_bits of_fields odd round units size span climb count_trailing_zeros
lit-tenth-1 = refl

pub lit-ten-1 : of_bits binary64 4621819117588971520 ≡ near 10 1
unfolding of_bits of_fields odd round units size span climb count_trailing_zeros
lit-ten-1 = refl

pub lit-ten-2 : of_bits binary64 4636737291354636288 ≡ near 100 1
unfolding of_bits of_fields odd round units size span climb count_trailing_zeros
lit-ten-2 = refl

pub lit-ten-3 : of_bits binary64 4652007308841189376 ≡ near 1000 1
unfolding of_bits of_fields odd round units size span climb count_trailing_zeros
lit-ten-3 = refl

-- past the table of limits
pub no-limit : (k : ℕ) → 17 ≤ k → div binary64 (of_bits binary64 0) (of_bits binary64 0) ≡ at limits k
unfolding limits div
no-limit k h = rw lit-+0 (sym (get_or-eq_default limits nan h))
