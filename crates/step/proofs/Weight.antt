-- The root of RELAXATION_WEIGHT is exactly 1000.
use mathlib.Core.Path.{◌≡◌, refl}
use lib.Count.{count_trailing_zeros}
use lib.Ieee.{binary64, of_bits, of_fields, odd, units, size, span, climb, round}
use Rattle.numbers.specs.Root.{floor_root, root_of, sqrt_of}
use Rattle.step.specs.Step.{weight, root_weight}

-- the constant, as the code writes it
pub lit-weight : of_bits binary64 0x412e_8480_0000_0000 ≡ weight
unfolding of_bits of_fields odd round units size span climb count_trailing_zeros
lit-weight = refl

pub root-weight : sqrt_of weight ≡ root_weight
unfolding sqrt_of root_of floor_root odd round units size span climb count_trailing_zeros
root-weight = refl
