-- More marked columns than rows have no full rank; with as many as rows, one more makes too many.
use mathlib.Core.Path.{◌≡◌, refl, sym, ap, ◌∙◌, subst}
use mathlib.Core.Bool.{Bool, true, false, not, cond}
use mathlib.Core.Logic.{inl, inr}
use mathlib.Core.List.{List, [], ◌∷◌, ◌++◌}
use Prim.Native.Nat.{ℕ, zero, suc, ◌+◌, ◌≤◌, ◌<◌}
use native.Mathlib.Nat.{zero-add}
use native.Mathlib.Omega.{arith}
use native.Mathlib.Numerals.{add-one}
use lib.Dec.{eqb}
use lib.ListN.{length, set, length-append}
use lib.Seq.{get_or-set_same, get_or-set_other}
use borrow.Author.Tests.{ne_eqb}
use Rattle.numbers.specs.Numbers.{nth, entry, grid}
use Rattle.workspace.specs.Readings.{nums}
use Rattle.numbers.proofs.Cases.{last-or-before}
use Rattle.workspace.proofs.Readings.{nth-nums, nth-front, nums-set-front}
use Rattle.householder.specs.Qr.{factor}
use Rattle.householder.proofs.Rank.{factor-rank}
use Rattle.nnls_passive.specs.Passive.{is_in, members, solve_of}
use Rattle.nnls_passive.specs.inner.Work.{Dependent, Crowded}
use Rattle.nnls_passive.proofs.Members.{members-same, members-suc}

pub none_yet : (p : List ℕ) → 0 ≡ length (members p 0)
unfolding members
none_yet p = refl

pub count-suc : (p : List ℕ) (j : ℕ) → length (members p (j + 1)) ≡ length (members p j) + cond (is_in p j) 1 0
count-suc p j = rw members-suc (go (is_in p j))
  where
    go : (b : Bool) → length (cond b (members p j ++ (j ∷ [])) (members p j)) ≡ length (members p j) + cond b 1 0
    go true = length-append (members p j) (j ∷ [])
    go false = omega arith

pub counted-more : (l : List ℕ) (j c f : ℕ) → f ≡ cond (is_in l j) 1 0 → c ≡ length (members l j) → c + f ≡ length (members l (j + 1))
counted-more l j c f e h = rw (e, h) (sym (count-suc l j))

pub too_many : (m n : ℕ) (l : List ℕ) → m < length (members l n) → Dependent m n (nums 0 n l)
unfolding solve_of
too_many m n l h a b =
    let js = members (nums 0 n l) n in
    let e : length js ≡ length (members l n) = ap length (members-same (nums 0 n l) l n (λ x a. nth-nums 0 n l x a ∙ ap (λ (y : ℕ). nth l y) (zero-add x))) in
    let f = factor m (length js) (grid m (length js) (λ i t. entry n a i (nth js t))) in
    let r = factor-rank m (length js) (grid m (length js) (λ i t. entry n a i (nth js t))) in
    ne_eqb f.rank (length js) (λ (q : f.rank ≡ length js). omega (arith, e, r, q, h))

-- ---- one column more

one_more : (l : List ℕ) (t n : ℕ) → t < length l → nth l t ≡ 0 → t < n → length (members (set l t 1) n) ≡ length (members l n) + 1
one_more l t zero h e a = absurd (omega arith)
one_more l t (suc n) h e a = elim (last-or-before n t a) [
  | inl q ↦
      let w : is_in (set l t 1) n ≡ true = ap (is_in (set l t 1)) (sym q) ∙ ap (λ (x : ℕ). not (eqb x 0)) (get_or-set_same l t 1 0 h) in
      let v : is_in l n ≡ false = ap (is_in l) (sym q) ∙ ap (λ (x : ℕ). not (eqb x 0)) e in
      let r : members (set l t 1) n ≡ members l n = members-same (set l t 1) l n (λ x b. get_or-set_other l t x 1 0 (λ y. omega arith)) in
      sized (set l t 1) n ∙ rw (w, r) (ap (λ (x : ℕ). x + 1) (sym (sized l n ∙ rw v (omega arith))))
  | inr q ↦
      let v : is_in (set l t 1) n ≡ is_in l n = ap (λ (x : ℕ). not (eqb x 0)) (get_or-set_other l t n 1 0 (λ y. omega arith)) in
      sized (set l t 1) n ∙ rw v (omega (arith, one_more l t n h e q, sized l n))
]
  where
    sized : (p : List ℕ) (n : ℕ) → length (members p (suc n)) ≡ length (members p n) + cond (is_in p n) 1 0
    sized p n = ap (λ (x : ℕ). length (members p x)) (sym (add-one n)) ∙ count-suc p n

pub crowded : (m n : ℕ) (l : List ℕ) → n ≤ length l → m ≤ length (members l n) → Crowded m n (nums 0 n l)
crowded m n l long h t tn e =
    let z : nth l t ≡ 0 = sym (nth-front n t l tn) ∙ e in
    subst (Dependent m n) (nums-set-front n t l 1 tn long) (too_many m n (set l t 1) (omega (arith, one_more l t n (omega arith) z tn)))
