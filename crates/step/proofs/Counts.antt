-- How many rounds LSI and LSEI take at most, refused or not.
use mathlib.Core.Bool.{Bool, true, false}
use mathlib.Core.List.{List}
use Prim.Native.Nat.{ℕ, ◌+◌, ◌-◌, ◌*◌, ◌≤◌}
use native.Mathlib.Omega.{arith}
use lib.Dec.{ltb}
use lib.Ieee.{Float}
use Rattle.numbers.specs.Numbers.{transposed}
use Rattle.workspace.specs.Tables.{Answer, rank_deficient, dependent}
use Rattle.householder.specs.Qr.{factor, apply_qt, standing}
use Rattle.nnls.specs.Counted.{Counted, unless}
use Rattle.nnls.proofs.Solves.{nnls-sound}
use Rattle.lsei.specs.Lsei.{Solution, dual_matrix, dual_side, ldp, reduced_rows, reduced_sides, lsi_from, lsi, fixed, turned, tail_of, shifted, lsei_from, lsei}

unless-rounds : (b : Bool) (a : Answer Solution) (c : Counted Solution) (n : ℕ) → c.rounds ≤ n → (unless b a c).rounds ≤ n
unless-rounds true a c n h = omega arith
unless-rounds false a c n h = h

ldp-rounds : (m n : ℕ) (g h : List Float) → (ldp m n g h).rounds ≤ 3 * m
unfolding ldp
ldp-rounds m n g h = (nnls-sound (n + 1) m (dual_matrix m n g h) (dual_side n) (3 * m)).rounds_most

pub lsi-rounds : (n me mg : ℕ) (e f g h : List Float) → (lsi n me mg e f g h).rounds ≤ 3 * mg
unfolding lsi lsi_from
lsi-rounds n me mg e f g h =
    let q = factor me n e in
    let reduced = reduced_rows n mg q g in
    unless-rounds (ltb q.rank n) (rank_deficient (standing q)) (lsi_from n me mg q f g h) (3 * mg) (ldp-rounds mg n reduced (reduced_sides n mg reduced (apply_qt me q f) h))

pub lsei-rounds : (n mc me mg : ℕ) (c d e f g h : List Float) → (lsei n mc me mg c d e f g h).rounds ≤ 3 * mg
unfolding lsei lsei_from
lsei-rounds n mc me mg c d e f g h =
    let q = factor n mc (transposed mc n c) in
    let y = fixed mc q d in
    let eq = turned n me q e in
    let gq = turned n mg q g in
    unless-rounds (ltb q.rank mc) (dependent (standing q)) (lsei_from n mc me mg q d e f g h) (3 * mg)
    (lsi-rounds (n - mc) me mg (tail_of n mc me eq) (shifted n mc me eq y f) (tail_of n mc mg gq) (shifted n mc mg gq y h))
