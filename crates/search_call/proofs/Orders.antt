-- The tests of kinds and of bounds, one after the other.
use mathlib.Core.Path.{◌≡◌, refl, sym, ap, ◌∙◌}
use mathlib.Core.Bool.{Bool, true, false, not, ◌&&◌}
use mathlib.Core.List.{List}
use mathlib.Core.Logic.{⊎_elim}
use Prim.Native.Nat.{ℕ, zero, suc, ◌+◌, ◌≤◌, ◌<◌}
use native.Mathlib.Numerals.{add-one}
use native.Mathlib.Omega.{arith}
use lib.Dec.{leb}
use lib.ListN.{length, drop, drop_of_length-le}
use lib.Seq.{drop-cons}
use lib.Ieee.{Float, lt}
use borrow.Author.Tests.{le-leb, lt-leb}
use Rattle.numbers.specs.Numbers.{at, nth}
use Rattle.numbers.proofs.Cases.{last-or-before}
use Rattle.search.specs.Setup.{are_kinds}
use Rattle.search.specs.Promise.{are_ordered}

-- ---- a kind a turn

kinds-suc : (ks : List ℕ) (j : ℕ) → j < length ks → are_kinds (drop j ks) ≡ (leb (nth ks j) 1 && are_kinds (drop (j + 1) ks))
unfolding are_kinds
kinds-suc ks j h = rw (drop-cons ks j 0 h, add-one)

pub kinds-more : (ks : List ℕ) (j : ℕ) → j < length ks → nth ks j ≤ 1 → are_kinds ks ≡ are_kinds (drop j ks) → are_kinds ks ≡ are_kinds (drop (j + 1) ks)
kinds-more ks j h k e = e ∙ kinds-suc ks j h ∙ ap (λ (b : Bool). b && are_kinds (drop (j + 1) ks)) (le-leb (nth ks j) 1 k)

pub kinds-bad : (ks : List ℕ) (j : ℕ) → j < length ks → 1 < nth ks j → are_kinds ks ≡ are_kinds (drop j ks) → false ≡ are_kinds ks
kinds-bad ks j h k e = sym (e ∙ kinds-suc ks j h ∙ ap (λ (b : Bool). b && are_kinds (drop (j + 1) ks)) (lt-leb (nth ks j) 1 k))

pub kinds-all : (ks : List ℕ) (j : ℕ) → length ks ≤ j → are_kinds ks ≡ are_kinds (drop j ks) → true ≡ are_kinds ks
unfolding are_kinds
kinds-all ks j h e = sym (e ∙ ap are_kinds (drop_of_length-le ks {i = j} h))

-- ---- a variable a turn

module _ (l u : List Float) where
  pub ordered-none : are_ordered 0 l u ≡ true
  unfolding are_ordered
  ordered-none = refl

  pub ordered-more : (i : ℕ) → lt (at u i) (at l i) ≡ false → are_ordered i l u ≡ true → are_ordered (i + 1) l u ≡ true
  unfolding are_ordered
  ordered-more i h e = rw (add-one, e, h) refl

  pub ordered-bad : (n i : ℕ) → i < n → lt (at u i) (at l i) ≡ true → are_ordered n l u ≡ false
  unfolding are_ordered
  ordered-bad zero i h e = absurd (omega arith)
  ordered-bad (suc n) i h e = ⊎_elim (λ (q : i ≡ n). here q) (λ (q : i < n). rw (ordered-bad n i q e) refl) (last-or-before n i h)
    where
      last : (b c : Bool) → c ≡ true → (b && not c) ≡ false
      last true c k = rw k
      last false c k = refl

      here : i ≡ n → (are_ordered n l u && not (lt (at u n) (at l n))) ≡ false
      here q = last (are_ordered n l u) (lt (at u n) (at l n)) (ap (λ (x : ℕ). lt (at u x) (at l x)) (sym q) ∙ e)

  pub ordered-all : (n i : ℕ) → i ≤ n → n ≤ i → are_ordered i l u ≡ true → true ≡ are_ordered n l u
  ordered-all n i h k e = let z : i ≡ n = omega arith in sym (ap (λ (x : ℕ). are_ordered x l u) (sym z) ∙ e)
