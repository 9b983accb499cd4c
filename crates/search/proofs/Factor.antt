-- The identity is its own Cholesky factor, for each dimension.
use Prim.Native.Nat.{zero, suc}
use mathlib.Core.Path.{refl}
use native.Mathlib.Omega.{arith}
use lib.Count.{count_trailing_zeros}
use lib.Ieee.{add, sub, mul, div, neg, lt, le, eq, is_nan, sum, round, size, units, odd, span, climb}
use Rattle.numbers.specs.Numbers.{Σ, tab, rows, grid}
use Rattle.numbers.specs.Root.{floor_root, root_of, sqrt_of}
use Rattle.hessian.specs.Hessian.{identity, remainder, with_row, next_row, first_rows, cholesky}
use Rattle.search.specs.Claims.{OwnFactor}

pub own-factor : OwnFactor
unfolding add sub mul div neg lt le eq is_nan sum round size units odd span climb count_trailing_zeros Σ tab rows grid floor_root root_of sqrt_of identity remainder with_row next_row first_rows cholesky
own-factor zero l h = absurd (omega arith)
own-factor (suc zero) l h = refl
own-factor (suc (suc zero)) l h = refl
own-factor (suc (suc (suc zero))) l h = refl
own-factor (suc (suc (suc (suc zero)))) l h = refl
own-factor (suc (suc (suc (suc (suc zero))))) l h = refl
own-factor (suc (suc (suc (suc (suc (suc zero)))))) l h = refl
own-factor (suc (suc (suc (suc (suc (suc (suc zero))))))) l h = refl
own-factor (suc (suc (suc (suc (suc (suc (suc (suc zero)))))))) l h = refl
own-factor (suc (suc (suc (suc (suc (suc (suc (suc (suc zero))))))))) l h = refl
own-factor (suc (suc (suc (suc (suc (suc (suc (suc (suc (suc zero)))))))))) l h = refl
own-factor (suc (suc (suc (suc (suc (suc (suc (suc (suc (suc (suc zero))))))))))) l h = refl
own-factor (suc (suc (suc (suc (suc (suc (suc (suc (suc (suc (suc (suc zero)))))))))))) l h = refl
own-factor (suc (suc (suc (suc (suc (suc (suc (suc (suc (suc (suc (suc (suc zero))))))))))))) l h = refl
own-factor (suc (suc (suc (suc (suc (suc (suc (suc (suc (suc (suc (suc (suc (suc zero)))))))))))))) l h = refl
own-factor (suc (suc (suc (suc (suc (suc (suc (suc (suc (suc (suc (suc (suc (suc (suc zero))))))))))))))) l h = refl
own-factor (suc (suc (suc (suc (suc (suc (suc (suc (suc (suc (suc (suc (suc (suc (suc (suc zero)))))))))))))))) l h = refl
own-factor (suc (suc (suc (suc (suc (suc (suc (suc (suc (suc (suc (suc (suc (suc (suc (suc (suc n))))))))))))))))) l h = absurd (omega arith)
