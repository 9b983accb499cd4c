-- No inequality multiplier of LDP, LSI and LSEI is negative or -0.
use mathlib.Core.Path.{◌≡◌, refl, sym, ap, ◌∙◌, subst}
use mathlib.Core.Bool.{Bool, true, false, ◌&&◌, ◌||◌, true≢false}
use mathlib.Core.List.{List, ◌++◌}
use Prim.Native.Nat.{ℕ, ◌+◌, ◌-◌, ◌*◌, ◌^◌, ◌<◌}
use native.Mathlib.Omega.{arith}
use native.Mathlib.Nat.{zero-add}
use lib.Dec.{ltb, eqb, lt→ltb}
use lib.IntN.{negsuc}
use lib.Count.{count_trailing_zeros}
use lib.ListN.{length, get_or, replicate, length-replicate}
use lib.Seq.{get_or-append-add}
use lib.Ieee.{Float, nan, inf, fin, neg, up, down, lt, le, eq, round, units, size, span, climb, odd}
use lib.Ieee.Fits.{down_pos}
use Rattle.numbers.specs.Numbers.{+0, at, tab, transposed, ◌⊘◌}
use Rattle.numbers.proofs.Lists.{get_d-tab, length-scatter}
use Rattle.workspace.specs.Tables.{Answer, done, refused}
use Rattle.workspace.specs.declared.Refusal.{Refusal}
use Rattle.workspace.specs.declared.Refusal.TheVariants.{Deficient, Dependent}
use Rattle.householder.specs.Qr.{Factors, factor, apply_qt, apply_q, solve_r, standing}
use Rattle.nnls.specs.Counted.{Counted, then, unless}
use Rattle.nnls_passive.specs.Passive.{solve_of}
use Rattle.nnls.specs.Nnls.{Accepted, dual_of, nnls}
use Rattle.nnls.specs.Claims.{NotNegative, SoundAnswer}
use Rattle.nnls.proofs.Signs.{negative, or-true-l, div-sign, clear-sign}
use Rattle.nnls.proofs.Loops.{values-clear}
use Rattle.nnls.proofs.Solves.{nnls-sound}
use Rattle.lsei.specs.Lsei.{Solution, infeasibility, unless_small, primal, dual_matrix, dual_side, dual_residual, ldp, reduced_rows, reduced_sides, restored, lsi_from, lsi, fixed, turned, tail_of, shifted, gradient, equality_multipliers, rejoined, lsei_from, lsei}
use Rattle.lsei_call.specs.Claims.{ClearFrom, LdpClear, LsiClear, LseiClear}

-- ---- what LDP lets pass has no sign

infeasibility-is : infeasibility ≡ fin false 125 (negsuc 48)
unfolding round units size span climb odd count_trailing_zeros
infeasibility-is = refl

passes : (d : Float) → le d (fin false 125 (negsuc 48)) ≡ false → negative d ≡ false
unfolding le lt eq negative
passes nan h = refl
passes (inf true) h = absurd (true≢false h)
passes (inf false) h = refl
passes (fin true m e) h =
    let s = m * up e * 2 ^ 49 in
    absurd (true≢false (sym (or-true-l (ltb 0 (s + 125 * down e)) (eqb s (125 * down e) && (false || eqb s 0)) (lt→ltb 0 (s + 125 * down e) (omega (arith, down_pos e)))) ∙ h))
passes (fin false m e) h = refl

pub passed-sign : (d : Float) → le d infeasibility ≡ false → negative d ≡ false
passed-sign d h = passes d (ap (le d) (sym infeasibility-is) ∙ h)

-- ---- LDP

primal-clear : (m n : ℕ) (u r : List Float) → ((i : ℕ) → i < m → negative (at u i) ≡ false) → ClearFrom 0 m (primal m n u r)
unfolding primal
primal-clear m n u r h = go (le (neg (at r n)) infeasibility) refl
  where
    go : (b : Bool) → le (neg (at r n)) infeasibility ≡ b
        → ClearFrom 0 m (unless_small b (record { x = tab n (λ j. at r j ⊘ neg (at r n)); multipliers = tab m (λ i. at u i ⊘ neg (at r n)) }))
    go true e = tt
    go false e = λ i l. subst NotNegative (sym (ap (λ (k : ℕ). get_or (tab m (λ i. at u i ⊘ neg (at r n))) k nan) (zero-add i) ∙ get_d-tab m (λ i. at u i ⊘ neg (at r n)) nan i l))
        (clear-sign (at u i ⊘ neg (at r n)) (div-sign (at u i) (neg (at r n)) (h i l) (passed-sign (neg (at r n)) e)))

pub ldp-clear : LdpClear
unfolding ldp
ldp-clear m n g h =
    let e = dual_matrix m n g h in
    let s = nnls-sound (n + 1) m e (dual_side n) (3 * m) in
    go (nnls (n + 1) m e (dual_side n) (3 * m)).answer s.sound
  where
    go : (a : Answer Accepted) → SoundAnswer m (dual_of (n + 1) m (dual_matrix m n g h) (dual_side n)) (solve_of (n + 1) m (dual_matrix m n g h) (dual_side n)) a
        → ClearFrom 0 m (then a (λ a. primal m n a.x (dual_residual m n (dual_matrix m n g h) a.x)))
    go (done a) s = primal-clear m n a.x (dual_residual m n (dual_matrix m n g h) a.x)
        (values-clear m (dual_of (n + 1) m (dual_matrix m n g h) (dual_side n)) (solve_of (n + 1) m (dual_matrix m n g h) (dual_side n)) a s)
    go (refused k) s = tt

-- ---- LSI and LSEI

-- a refusal of the rank
unless-clear : (o m : ℕ) (b : Bool) (r : Refusal) (c : Counted Solution) → ClearFrom o m c.answer → ClearFrom o m (unless b (refused r) c).answer
unless-clear o m true r c h = tt
unless-clear o m false r c h = h

-- multipliers that carry over, behind mc others
carried : (mc m : ℕ) (a : Answer Solution) (f : Solution → Solution) → ((s : Solution) (i : ℕ) → at (f s).multipliers (mc + i) ≡ at s.multipliers (0 + i))
    → ClearFrom 0 m a → ClearFrom mc m (then a (λ s. done (f s)))
carried mc m (done s) f e h = λ i l. subst NotNegative (sym (e s i)) (h i l)
carried mc m (refused k) f e h = tt

lsi-from-clear : (n me mg : ℕ) (q : Factors) (f g h : List Float) → ClearFrom 0 mg (lsi_from n me mg q f g h).answer
unfolding lsi_from
lsi-from-clear n me mg q f g h =
    let qf = apply_qt me q f in
    let reduced = reduced_rows n mg q g in
    let sides = reduced_sides n mg reduced qf h in
    carried 0 mg (ldp mg n reduced sides).answer (λ s. record { x = restored n q qf s.x; multipliers = s.multipliers }) (λ s i. refl) (ldp-clear mg n reduced sides)

pub lsi-clear : LsiClear
unfolding lsi
lsi-clear n me mg e f g h =
    let q = factor me n e in
    unless-clear 0 mg (ltb q.rank n) (Deficient (standing q)) (lsi_from n me mg q f g h) (lsi-from-clear n me mg q f g h)

length-mu : (n mc : ℕ) (q : Factors) (v : List Float) → length (equality_multipliers n mc q v) ≡ mc
unfolding equality_multipliers
length-mu n mc q v = length-scatter mc q.perm (solve_r mc q (apply_qt n q v)) (replicate mc +0) ∙ length-replicate mc +0

behind : (v l : List Float) (mc i : ℕ) → length v ≡ mc → at (v ++ l) (mc + i) ≡ at l (0 + i)
behind v l mc i e = ap (λ (k : ℕ). at (v ++ l) (k + i)) (sym e) ∙ get_or-append-add v l i nan ∙ ap (λ (k : ℕ). at l k) (sym (zero-add i))

lsei-from-clear : (n mc me mg : ℕ) (q : Factors) (d e f g h : List Float) → ClearFrom mc mg (lsei_from n mc me mg q d e f g h).answer
unfolding lsei_from rejoined
lsei-from-clear n mc me mg q d e f g h =
    let y = fixed mc q d in
    let eq = turned n me q e in
    let gq = turned n mg q g in
    carried mc mg
    (lsi (n - mc) me mg (tail_of n mc me eq) (shifted n mc me eq y f) (tail_of n mc mg gq) (shifted n mc mg gq y h)).answer
    (rejoined n mc me mg q y e f g)
    (λ s i. behind (equality_multipliers n mc q (gradient n me mg e f g (apply_q n q (y ++ s.x)) s.multipliers)) s.multipliers mc i (length-mu n mc q _))
    (lsi-clear (n - mc) me mg (tail_of n mc me eq) (shifted n mc me eq y f) (tail_of n mc mg gq) (shifted n mc mg gq y h))

pub lsei-clear : LseiClear
unfolding lsei
lsei-clear n mc me mg c d e f g h =
    let q = factor n mc (transposed mc n c) in
    unless-clear mc mg (ltb q.rank mc) (Dependent (standing q)) (lsei_from n mc me mg q d e f g h) (lsei-from-clear n mc me mg q d e f g h)
