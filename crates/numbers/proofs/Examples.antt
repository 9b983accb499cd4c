-- The definition on some numbers, by computing.
use mathlib.Core.Path.{◌≡◌, refl}
use mathlib.Core.Bool.{true, false}
use mathlib.Core.List.{[], ◌∷◌}
use lib.IntN.{pos, negsuc}
use lib.Ieee.{Float, fin, binary64, of_bits, add, round, size, odd}
use Rattle.numbers.specs.Numbers.{Σ, epsilon, -0}
use Rattle.numbers.specs.Root.{floor_root, root_of, sqrt_of, sum_of}

-- 0.1
abbrev t : Float
t = fin false 0xccccccccccccd (negsuc 54)

four : sqrt_of (fin false 1 (pos 2)) ≡ fin false 1 (pos 1)
unfolding sqrt_of root_of floor_root size odd
four = refl

two : sqrt_of (fin false 1 (pos 1)) ≡ of_bits binary64 0x3ff6_a09e_667f_3bcd
unfolding sqrt_of root_of floor_root size odd of_bits
two = refl

minus-zero : sqrt_of (fin true 0 (pos 0)) ≡ fin true 0 (pos 0)
unfolding sqrt_of root_of floor_root size odd
minus-zero = refl

-- the smallest and the largest f64
smallest : sqrt_of (of_bits binary64 1) ≡ of_bits binary64 0x1e60_0000_0000_0000
unfolding sqrt_of root_of floor_root size odd of_bits
smallest = refl

largest : sqrt_of (of_bits binary64 0x7fef_ffff_ffff_ffff) ≡ of_bits binary64 0x5fef_ffff_ffff_ffff
unfolding sqrt_of root_of floor_root size odd of_bits
largest = refl

-- 1000000, whose root is 1000
million : sqrt_of (of_bits binary64 0x412e_8480_0000_0000) ≡ of_bits binary64 0x408f_4000_0000_0000
unfolding sqrt_of root_of floor_root size odd of_bits
million = refl

-- ten tenths, summed, are not 1
tenths : sum_of (t ∷ t ∷ t ∷ t ∷ t ∷ t ∷ t ∷ t ∷ t ∷ t ∷ []) ≡ of_bits binary64 0x3fef_ffff_ffff_ffff
unfolding sum_of Σ add of_bits
tenths = refl

nothing : sum_of [] ≡ -0
unfolding sum_of Σ
nothing = refl

-- 2 ^ -52, as the code has it
spacing : epsilon ≡ of_bits binary64 0x3cb0_0000_0000_0000
unfolding of_bits round
spacing = refl
