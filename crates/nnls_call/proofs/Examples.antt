-- Two inputs worked out from the definitions: one on which a NaN ratio decides (docs/DIFFERENCES.md), and one whose x after one column is no answer.
use mathlib.Core.Path.{◌≡◌, refl, sym, ap, ◌∙◌}
use mathlib.Core.Logic.{inl, inr}
use mathlib.Core.Bool.{false, true≢false}
use mathlib.Core.List.{List, [], ◌∷◌}
use Prim.Native.Nat.{ℕ, zero, suc, ◌*◌, ◌^◌}
use native.Mathlib.Omega.{arith}
use lib.Count.{count_trailing_zeros}
use lib.IntN.{pos}
use lib.Ieee.{Float, inf, fin, add, sub, mul, div, neg, lt, le, eq, is_nan, sum, round, size, units, odd, span, climb}
use borrow.Author.Tests.{ne_eqb}
use Rattle.numbers.specs.Numbers.{+0, near, Σ, tab, dot, scatter, rows, grid, row, column, transposed}
use Rattle.numbers.specs.Root.{floor_root, root_of, sqrt_of}
use Rattle.norms.specs.Norm.{plain_norm, scaled, has_nan, has_inf, largest, reduced, rescaled, norm}
use Rattle.householder.specs.Qr.{along, image, column_norm, pivot, swapped, reflector, pinned, advance, steps, factor, forth, apply_qt, upward, solve_r, solve}
use Rattle.nnls_passive.specs.Passive.{Solved, members, solve_of}
use Rattle.nnls.specs.Claims.{Sound}
use Rattle.nnls_call.specs.Claims.{SoundCall}
use Rattle.nnls.specs.Nnls.{residual, dual_of, choose, ratio_of, ranks_before, blocking, step_to, next_x, next_mark, move_x, move_p, keeps, judge, try_next, tries, turn_next, turns, accept, lastly, pass, round_next, rounds, active_set, nnls}

-- ---- a NaN ratio

-- k / 100
hundredths : ℕ → Float
hundredths k = near k 100

-- k * 10 ^ 306
large : ℕ → Float
large k = near (k * 10 ^ 306) 1

a : List Float
a =
    neg (hundredths 2) ∷ hundredths 4 ∷ neg (hundredths 1)
    ∷ hundredths 2 ∷ hundredths 4 ∷ neg (hundredths 4)
    ∷ neg (hundredths 2) ∷ neg (hundredths 3) ∷ hundredths 4
    ∷ []

b : List Float
b = neg (large 2) ∷ neg (large 8) ∷ large 6 ∷ []

-- In round 3 columns 0 and 2 block: column 2 comes from +infinity, so its ratio is a NaN, and column 0 blocks.
nan-ratio : nnls 3 3 a b 9 ≡ accept (+0 ∷ inf false ∷ inf false ∷ []) (0 ∷ 1 ∷ 1 ∷ []) (0 ∷ 0 ∷ 0 ∷ []) 3 4
unfolding a b hundredths large add sub mul div neg lt le eq is_nan sum round size units odd span climb count_trailing_zeros Σ tab dot scatter rows grid row column transposed floor_root root_of sqrt_of norm rescaled reduced plain_norm scaled largest has_nan has_inf along image column_norm pivot swapped reflector pinned advance steps factor forth apply_qt upward solve_r solve members solve_of residual dual_of choose ratio_of ranks_before blocking step_to next_x next_mark move_x move_p judge try_next tries turn_next turns lastly pass round_next rounds active_set nnls
nan-ratio = refl

-- ---- one column, handed back

one : Float
one = fin false 1 (pos 0)

-- the identity, and the right side (1, 1)
identity : List Float
identity = one ∷ +0 ∷ +0 ∷ one ∷ []

ones : List Float
ones = one ∷ one ∷ []

solve-same : (p q : List ℕ) → members p 2 ≡ members q 2 → solve_of 2 2 identity ones p ≡ solve_of 2 2 identity ones q
unfolding solve_of
solve-same p q e = rw e

both-in : (k : ℕ) → members (1 ∷ suc k ∷ []) 2 ≡ members (1 ∷ 1 ∷ []) 2
unfolding members
both-in k = rw (ne_eqb (suc k) 0 (λ e. omega arith))

handed-back-at : (p rej : List ℕ) → Sound 2 (dual_of 2 2 identity ones) (solve_of 2 2 identity ones) (record { x = +0 ∷ one ∷ []; passive = p; rejected = rej }) → ⊥
unfolding one identity ones add sub mul div neg lt le eq is_nan sum round size units odd span climb count_trailing_zeros Σ tab dot scatter rows grid row column transposed floor_root root_of sqrt_of norm rescaled reduced plain_norm scaled largest has_nan has_inf along image column_norm pivot swapped reflector pinned advance steps factor forth apply_qt upward solve_r solve members solve_of residual dual_of
handed-back-at [] rej s = let h = s.size_passive in let z : ⊥ = omega arith in z
handed-back-at (m ∷ []) rej s = let h = s.size_passive in let z : ⊥ = omega arith in z
handed-back-at (m ∷ k ∷ l ∷ p) rej s = let h = s.size_passive in let z : ⊥ = omega arith in z
handed-back-at (suc m ∷ k ∷ []) rej s = elim (s.on 0 (omega arith) (rw (ne_eqb (suc m) 0 (λ e. omega arith)))) [ inl t ↦ t | inr e ↦ (let z : ◌≡◌ {A = ℕ} 0 1 = cc in omega arith) ]
handed-back-at (zero ∷ zero ∷ []) rej s = let e = s.off 1 (omega arith) refl in let z : ◌≡◌ {A = ℕ} 0 1 = cc in omega arith
handed-back-at (zero ∷ suc k ∷ []) rej s = elim (s.outside 0 (omega arith) refl) [ inl e ↦ true≢false e | inr t ↦ true≢false (ap (λ (s : Solved). keeps s 0) (sym (solve-same (1 ∷ suc k ∷ []) (1 ∷ 1 ∷ []) (both-in k))) ∙ t.1.back) ]

-- (0, 1), where the pass that enters the last column leads, is no done call's x, whatever k and the counts are.
handed-back : (k rounds factorings : ℕ) → SoundCall 2 2 k identity ones (+0 ∷ one ∷ []) rounds factorings → ⊥
handed-back k r f s = handed-back-at s.passive s.rejected s.sound
