-- Copies into parts that are lent, and entries that are written, as what is laid there.
use Prim.Native.Nat.{ℕ, zero, suc, ◌+◌, ◌-◌, ◌*◌, ◌≤◌}
use mathlib.Core.Path.{◌≡◌, refl, sym, ap, ◌∙◌}
use mathlib.Core.List.{List, [], ◌∷◌}
use native.Mathlib.Nat.{zero-add, mul-le-mul, add-sub_cancel_left}
use native.Mathlib.Omega.{arith}
use lib.ListN.{length, set, replicate}
use lib.Ieee.{Float, nan}
use borrow.Rule.Slice.PartMut.{mid_of, put_mid}
use Rattle.numbers.specs.Numbers.{+0, at}
use Rattle.numbers.proofs.Lists.{tab-same, tab-replicate}
use Rattle.workspace.specs.Readings.{vec, Block}
use Rattle.workspace.proofs.Readings.{length-vec}
use Rattle.search.specs.Layout.{fronted, laid}
use Rattle.search.proofs.Laying.{written-laid}
use Rattle.search.proofs.Lent.{part-vec, part-laid}

-- `&mut w[o..e]`, where e is o + c
module _ (o c : ℕ) (w : List Float) (h : o + c ≤ length w) where
  pub lent-vec : mid_of o (o + c - o) w ≡ vec o c w
  lent-vec = part-vec o c (o + c - o) w (omega arith) h

  pub lent_length : length (mid_of o (o + c - o) w) ≡ c
  lent_length = ap (λ (l : List Float). length l) lent-vec ∙ length-vec o c w

  pub lent_laid : (v : List Float) → length v ≡ c → put_mid o (o + c - o) w v ≡ laid o v w
  lent_laid v e = rw add-sub_cancel_left (part-laid o c w v e h)

-- ---- copies

-- c entries from p on, to o on
pub copied : (o p c : ℕ) (w w' : List Float) → length w' ≡ length w → o + c ≤ length w → Block o c (λ t. at w (p + t)) w w' → w' ≡ laid o (vec p c w) w
unfolding vec
copied o p c w w' e h b = written-laid nan o c (λ t. at w (p + t)) w w' e h b

-- the first c of v
pub loaded : (o c : ℕ) (v w w' : List Float) → length w' ≡ length w → o + c ≤ length w → Block o c (λ t. at v t) w w' → w' ≡ laid o (vec 0 c v) w
unfolding vec
loaded o c v w w' e h b =
    written-laid nan o c (λ t. at v t) w w' e h b ∙ ap (λ (l : List Float). laid o l w) (tab-same c (λ t. at v t) (λ t. at v (0 + t)) (λ i l. ap (λ (x : ℕ). at v x) (sym (zero-add i))))

-- +0, c times
pub blanked : (o c : ℕ) (w w' : List Float) → length w' ≡ length w → o + c ≤ length w → Block o c (λ t. +0) w w' → w' ≡ laid o (replicate c +0) w
blanked o c w w' e h b = written-laid nan o c (λ t. +0) w w' e h b ∙ ap (λ (l : List Float). laid o l w) (tab-replicate c +0)

-- ---- entries

-- an entry, and those behind it
pub laid_cons : {A : Type 0} (o : ℕ) (x : A) (v w : List A) → laid o (x ∷ v) w ≡ laid (suc o) v (set w o x)
unfolding laid fronted
laid_cons zero x v [] = refl
laid_cons zero x v (y ∷ w) = refl
laid_cons (suc o) x v [] = refl
laid_cons {A} (suc o) x v (y ∷ w) = ap (λ (l : List A). y ∷ l) (laid_cons o x v w)

-- ---- sizes

pub square-few : (n : ℕ) → n ≤ 16 → n * n ≤ 256
square-few n h = mul-le-mul h h

pub slopes-few : (n m : ℕ) → n ≤ 16 → m ≤ 16 → suc m * n ≤ 272
slopes-few n m h k = mul-le-mul {n₁ = suc m} {m₁ = n} {n₂ = 17} {m₂ = 16} (omega arith) h
