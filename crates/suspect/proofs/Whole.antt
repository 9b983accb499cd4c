-- The whole: the readings of the kernel are the definition's.
use mathlib.Core.Path.{◌≡◌, sym, ap, ◌∙◌}
use mathlib.Core.Bool.{Bool}
use mathlib.Core.List.{List}
use Prim.Native.Nat.{ℕ, ◌+◌, ◌≤◌}
use native.Mathlib.Omega.{arith}
use lib.Ieee.{Float}
use Rattle.numbers.specs.Numbers.{tab}
use Rattle.workspace.specs.Readings.{vec, stack, nums, Span}
use Rattle.workspace.proofs.Readings.{nums-same}
use Rattle.workspace.proofs.Writes.{span-nums}
use Rattle.householder.specs.Qr.{factor}
use Rattle.suspect.specs.declared.Finding.{Finding}
use Rattle.suspect.specs.Suspect.{weights, are_finite, scaled_gaps, directions, shares, new_spreads, tests, finding_of, group_of, groups, mark_unless, marks, lead_of, Tests, tests_from, suspect}
use Rattle.suspect.specs.inner.Work.{Prepared, Measured, tests_in}
use Rattle.suspect.proofs.Measures.{directions-stay, gaps-stay}

finish : (n m : ℕ) (s c : List Float) (z : List ℕ) (R : ℕ) (A Y : List Float) (F : Bool) (r : ℕ) (a y h t p : List Float) (f : Bool) (d : Finding) → r ≡ R → a ≡ A → y ≡ Y → h ≡ shares n m r s c z a
    → p ≡ new_spreads n r s z a → t ≡ tests n r a y h → f ≡ F → d ≡ finding_of n r y h t f
    → ◌≡◌ {A = Tests}
    (record { finding = d; shares = h; new_spreads = p; tests = t; groups = tab n (λ i. group_of n r a h i i); marks = tab n (mark_unless d.agree n r a h t (lead_of d)) })
    (tests_from n m R s c z A Y F)
unfolding tests_from groups marks
finish n m s c z R A Y F r a y h t p f d er ea ey eh ep et ef ed = rw (← er, ← ea, ← ey, ← ef, ed, et, ep, eh)

pub suspect-is : (n m r : ℕ) (v s c : List Float) (z : List ℕ) (w w' : List Float) (l l' l'' : List ℕ) (f : Bool) (d : Finding) → n ≤ 16 → Prepared n m r v s c z w → Measured n m r s c z w w'
    → f ≡ are_finite n v c m → d ≡ finding_of n r (vec 714 r w') (vec 1020 n w') (vec 1056 n w') f
    → Span 18 n (λ i. group_of n r (stack 732 n n w') (vec 1020 n w') i i) l l'
    → Span 36 n (mark_unless d.agree n r (stack 732 n n w') (vec 1020 n w') (vec 1056 n w') (lead_of d)) l' l''
    → tests_in n d w' l'' ≡ suspect n m v s c z
unfolding suspect
suspect-is n m r v s c z w w' l l' l'' f d n16 T M E J G K =
    let q = factor n m (weights n m s c z) in
    let sa : stack 732 n n w' ≡ stack 732 n n w = directions-stay n w w' n16 M.before in
    let few : r ≤ n = T.few in
    let sy : vec 714 r w' ≡ vec 714 r w = gaps-stay r w w' (omega arith) M.before in
    let gs : nums 18 n l'' ≡ tab n (λ i. group_of n r (stack 732 n n w') (vec 1020 n w') i i) = nums-same 18 n l' l'' (λ i h. K.before (18 + i) (omega arith)) ∙ span-nums 18 n _ l l' G in
    let ks : nums 36 n l'' ≡ tab n (mark_unless d.agree n r (stack 732 n n w') (vec 1020 n w') (vec 1056 n w') (lead_of d)) = span-nums 36 n _ l' l'' K in
    let eh : vec 1020 n w' ≡ shares n m r s c z (stack 732 n n w') = M.share ∙ ap (shares n m r s c z) (sym sa) in
    let ep : vec 1038 n w' ≡ new_spreads n r s z (stack 732 n n w') = M.spread ∙ ap (new_spreads n r s z) (sym sa) in
    let et : vec 1056 n w' ≡ tests n r (stack 732 n n w') (vec 714 r w') (vec 1020 n w') = M.test ∙ sym (rw (sa, sy, M.share)) in
    rw (gs, ks)
    (finish n m s c z q.rank (directions n q) (scaled_gaps n m q v c) (are_finite n v c m) r (stack 732 n n w') (vec 714 r w') (vec 1020 n w') (vec 1056 n w') (vec 1038 n w') f d T.rank (sa ∙ T.direct) (sy ∙ T.gaps) eh ep et E J)
