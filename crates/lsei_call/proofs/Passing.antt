-- A NaN denominator of LDP passes on, and LDP with no inequalities answers -0 in each place.
use mathlib.Core.Path.{◌≡◌, ap, ap₂, ◌∙◌}
use mathlib.Core.Bool.{Bool, false, cond}
use mathlib.Core.List.{List, []}
use Prim.Native.Nat.{ℕ, ◌+◌, ◌<◌}
use native.Mathlib.Omega.{arith}
use lib.Count.{count_trailing_zeros}
use lib.Dec.{ltb}
use lib.ListN.{replicate}
use lib.Ieee.{Float, nan, le, lt, eq, neg, add, sub, div, sum, round, units, size, span, climb, odd}
use borrow.Author.Tests.{lt-ltb, le-ltb}
use Rattle.numbers.specs.Numbers.{+0, -0, one, at, tab, Σ, ◌⊖◌, ◌⊘◌}
use Rattle.numbers.proofs.Lists.{get_d-tab, tab-same, tab-replicate}
use Rattle.workspace.specs.Tables.{Answer, done}
use Rattle.nnls.specs.Counted.{then, at_once}
use Rattle.nnls.specs.Nnls.{Accepted, nnls, active_set, rounds, pass, tries, lastly}
use Rattle.lsei.specs.Lsei.{Solution, infeasibility, unless_small, primal, dual_matrix, dual_side, dual_residual, ldp}
use Rattle.lsei_call.specs.Claims.{NanPasses, Unconstrained}

-- ---- a NaN denominator

nan-above : (d c : Float) → d ≡ nan → le (neg d) c ≡ false
unfolding le lt eq neg
nan-above d c e = ap (λ (x : Float). le (neg x) c) e

pub nan-passes : NanPasses
unfolding ldp primal
nan-passes m n g h a e r =
    let res = dual_residual m n (dual_matrix m n g h) a.x in
    let d = neg (at res n) in
    let s : Solution = record { x = tab n (λ j. at res j ⊘ d); multipliers = tab m (λ i. at a.x i ⊘ d) } in (
      s,
      ap (λ (b : Answer Accepted). then b (λ a. primal m n a.x (dual_residual m n (dual_matrix m n g h) a.x))) e
          ∙ ap (λ (b : Bool). unless_small b s) (nan-above (at res n) infeasibility r),
    )

-- ---- no inequalities

-- the dual's residual is -0 in each place but the last, where it is -1
free-entry : (n j : ℕ) (e : List Float) → j < n → at (dual_residual 0 n e []) j ≡ -0
unfolding dual_residual dual_side Σ sub add neg sum
free-entry n j e h =
    get_d-tab (n + 1) (λ j. Σ 0 (λ i. +0) ⊖ at (dual_side n) j) nan j (omega arith)
    ∙ ap (λ (x : Float). -0 ⊖ x) (get_d-tab (n + 1) (λ j. cond (ltb j n) +0 one) nan j (omega arith) ∙ ap (λ (b : Bool). cond b +0 one) (lt-ltb j n h))

free-last : (n : ℕ) (e : List Float) → at (dual_residual 0 n e []) n ≡ neg one
unfolding dual_residual dual_side Σ sub add neg sum round units size span climb odd count_trailing_zeros
free-last n e =
    get_d-tab (n + 1) (λ j. Σ 0 (λ i. +0) ⊖ at (dual_side n) j) nan n (omega arith)
    ∙ ap (λ (x : Float). -0 ⊖ x) (get_d-tab (n + 1) (λ j. cond (ltb j n) +0 one) nan n (omega arith) ∙ ap (λ (b : Bool). cond b +0 one) (le-ltb n n (omega arith)))

free-primal : (n : ℕ) (r : List Float) → ((j : ℕ) → j < n → at r j ≡ -0) → at r n ≡ neg one
    → primal 0 n [] r ≡ done (record { x = replicate n -0; multipliers = [] })
unfolding primal tab le lt eq neg div round units size span climb odd count_trailing_zeros
free-primal n r h e =
    ap (λ (b : Bool). unless_small b (record { x = tab n (λ j. at r j ⊘ neg (at r n)); multipliers = [] })) (ap (λ (x : Float). le (neg x) infeasibility) e)
    ∙ ap (λ (x : List Float). done (record { x = x; multipliers = [] })) (tab-same n _ (λ j. -0) (λ j l. ap₂ (λ (x : Float) (d : Float). x ⊘ neg d) (h j l) e) ∙ tab-replicate n -0)

pub unconstrained : Unconstrained
unfolding ldp nnls active_set rounds pass tries lastly
unconstrained n g h =
    ap at_once (free-primal n (dual_residual 0 n (dual_matrix 0 n g h) []) (λ j l. free-entry n j (dual_matrix 0 n g h) l) (free-last n (dual_matrix 0 n g h)))
