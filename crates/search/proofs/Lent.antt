-- A part that is lent, a store and a write over a write, as what is read and what is laid.
use Prim.Native.Nat.{ℕ, zero, suc, ◌+◌, ◌≤◌, ◌<◌}
use mathlib.Core.Path.{◌≡◌, refl, sym, ap, ◌∙◌}
use mathlib.Core.List.{List, [], ◌∷◌, ◌++◌}
use native.Mathlib.Omega.{arith}
use lib.ListN.{length, take, drop, set, length-append, length-drop}
use lib.Seq.{length-take-le, get_or-take, get_or-drop}
use lib.Ieee.{Float, nan}
use borrow.Rule.Slice.PartMut.{put_mid}
use Rattle.numbers.specs.Numbers.{at, nth}
use Rattle.numbers.proofs.Lists.{tab-of, by_entries}
use Rattle.workspace.specs.Readings.{vec, nums, Block}
use Rattle.search.specs.Layout.{fronted, laid}
use Rattle.search.proofs.Laying.{written-laid}

-- `&w[o..o + n]`
pub part_length : {A : Type 0} (o n k : ℕ) (w : List A) → k ≡ n → o + n ≤ length w → length (take k (drop o w)) ≡ n
part_length o n k w e l = let z = length-drop o w in length-take-le k (drop o w) (omega arith) ∙ e

pub part-vec : (o n k : ℕ) (w : List Float) → k ≡ n → o + n ≤ length w → take k (drop o w) ≡ vec o n w
unfolding vec
part-vec o n k w e l = tab-of n (take k (drop o w)) _ nan (part_length o n k w e l) (λ i h. get_or-take k (drop o w) i nan (omega arith) ∙ get_or-drop o w i nan)

pub part-nums : (o n k : ℕ) (w : List ℕ) → k ≡ n → o + n ≤ length w → take k (drop o w) ≡ nums o n w
unfolding nums
part-nums o n k w e l = tab-of n (take k (drop o w)) _ 0 (part_length o n k w e l) (λ i h. get_or-take k (drop o w) i 0 (omega arith) ∙ get_or-drop o w i 0)

-- `&mut w[..k]`, back as v
pub front-size : {A : Type 0} (k : ℕ) (v w : List A) → length v ≡ k → k ≤ length w → length (v ++ drop k w) ≡ length w
front-size k v w e l = let a = length-append v (drop k w) in let b = length-drop k w in omega arith

-- `&mut w[o..o + n]`, back as v
fronted-put : {A : Type 0} (v w : List A) → length v ≤ length w → fronted v w ≡ v ++ drop (length v) w
unfolding fronted
fronted-put [] w l = refl
fronted-put (x ∷ v) [] l = absurd (omega arith)
fronted-put {A} (x ∷ v) (y ∷ w) l = ap (λ (t : List A). x ∷ t) (fronted-put v w (omega arith))

laid-put : {A : Type 0} (o : ℕ) (v w : List A) → o + length v ≤ length w → laid o v w ≡ take o w ++ (v ++ drop (length v) (drop o w))
unfolding laid
laid-put zero v w l = fronted-put v w (omega arith)
laid-put (suc o) v [] l = absurd (omega arith)
laid-put {A} (suc o) v (y ∷ w) l = ap (λ (t : List A). y ∷ t) (laid-put o v w (omega arith))

pub part-laid : {A : Type 0} (o k : ℕ) (w v : List A) → length v ≡ k → o + k ≤ length w → put_mid o k w v ≡ laid o v w
part-laid {A} o k w v e l = ap (λ (t : ℕ). take o w ++ (v ++ drop t (drop o w))) (sym e) ∙ sym (laid-put o v w (omega arith))

-- a copy of v to o
pub loaded-laid : (o n : ℕ) (v w w' : List Float) → length v ≡ n → length w' ≡ length w → o + n ≤ length w → Block o n (λ t. at v t) w w' → w' ≡ laid o v w
loaded-laid o n v w w' e z l b = written-laid nan o n (λ t. at v t) w w' z l b ∙ ap (λ (t : List Float). laid o t w) (sym (by_entries n v e))

-- a store
fronted-set : {A : Type 0} (x : A) (w : List A) → set w 0 x ≡ fronted (x ∷ []) w
unfolding fronted
fronted-set x [] = refl
fronted-set x (y ∷ w) = refl

pub set-laid : {A : Type 0} (o : ℕ) (x : A) (w : List A) → set w o x ≡ laid o (x ∷ []) w
unfolding laid
set-laid zero x w = fronted-set x w
set-laid (suc o) x [] = refl
set-laid {A} (suc o) x (y ∷ w) = ap (λ (t : List A). y ∷ t) (set-laid o x w)

-- the later one counts, in numbers and in words
fronted-twice : {A : Type 0} (v v' w : List A) → length v ≡ length v' → fronted v (fronted v' w) ≡ fronted v w
unfolding fronted
fronted-twice [] [] w e = refl
fronted-twice [] (x ∷ v') w e = absurd (omega arith)
fronted-twice (x ∷ v) [] w e = absurd (omega arith)
fronted-twice (x ∷ v) (x' ∷ v') [] e = refl
fronted-twice {A} (x ∷ v) (x' ∷ v') (y ∷ w) e = ap (λ (t : List A). x ∷ t) (fronted-twice v v' w (omega arith))

pub laid-twice : {A : Type 0} (o : ℕ) (v v' w : List A) → length v ≡ length v' → laid o v (laid o v' w) ≡ laid o v w
unfolding laid
laid-twice zero v v' w e = fronted-twice v v' w e
laid-twice (suc o) v v' [] e = refl
laid-twice {A} (suc o) v v' (y ∷ w) e = ap (λ (t : List A). y ∷ t) (laid-twice o v v' w e)

-- a word that stands there
pub word-again : (o : ℕ) (w : List ℕ) → o < length w → laid o (nth w o ∷ []) w ≡ w
unfolding laid fronted
word-again o [] l = absurd (omega arith)
word-again zero (y ∷ w) l = refl
word-again (suc o) (y ∷ w) l = ap (λ (t : List ℕ). y ∷ t) (word-again o w (omega arith))
