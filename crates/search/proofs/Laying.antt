-- Laying a list over a part of another, and reading parts.
use Prim.Native.Nat.{ℕ, zero, suc, ◌+◌, ◌-◌, ◌≤◌, ◌<◌}
use mathlib.Core.Path.{◌≡◌, refl, sym, ap, ◌∙◌}
use mathlib.Core.List.{List, [], ◌∷◌}
use mathlib.Core.Logic.{◌⊎◌, inl, inr}
use native.Mathlib.Nat.{zero-add, suc-add}
use native.Mathlib.Decide.{dec_lt}
use native.Mathlib.Omega.{arith}
use lib.ListN.{length, get_or}
use lib.Ieee.{Float, nan}
use Rattle.numbers.specs.Numbers.{at, tab}
use Rattle.numbers.proofs.Lists.{length-tab, get_d-tab, tab-same, tab-of}
use Rattle.workspace.specs.Readings.{vec, nums, Written}
use Rattle.search.specs.Layout.{fronted, laid}

-- ---- laying

length-fronted : {A : Type 0} (v w : List A) → length (fronted v w) ≡ length w
unfolding fronted
length-fronted [] w = refl
length-fronted (x ∷ v) [] = refl
length-fronted (x ∷ v) (y ∷ w) = ap suc (length-fronted v w)

pub length-laid : {A : Type 0} (o : ℕ) (v w : List A) → length (laid o v w) ≡ length w
unfolding laid
length-laid zero v w = length-fronted v w
length-laid (suc o) v [] = refl
length-laid (suc o) v (y ∷ w) = ap suc (length-laid o v w)

pub size : {A : Type 0} (o : ℕ) (v w : List A) (k : ℕ) → length w ≡ k → length (laid o v w) ≡ k
size o v w k e = length-laid o v w ∙ e

fronted-in : {A : Type 0} (v w : List A) (i : ℕ) (d : A) → i < length v → i < length w → get_or (fronted v w) i d ≡ get_or v i d
unfolding fronted
fronted-in [] w i d h l = absurd (omega arith)
fronted-in (x ∷ v) [] i d h l = absurd (omega arith)
fronted-in (x ∷ v) (y ∷ w) zero d h l = refl
fronted-in (x ∷ v) (y ∷ w) (suc i) d h l = fronted-in v w i d (omega arith) (omega arith)

fronted-out : {A : Type 0} (v w : List A) (i : ℕ) (d : A) → length v ≤ i → get_or (fronted v w) i d ≡ get_or w i d
unfolding fronted
fronted-out [] w i d h = refl
fronted-out (x ∷ v) [] i d h = refl
fronted-out (x ∷ v) (y ∷ w) zero d h = absurd (omega arith)
fronted-out (x ∷ v) (y ∷ w) (suc i) d h = fronted-out v w i d (omega arith)

pub laid_in : {A : Type 0} (o : ℕ) (v w : List A) (i : ℕ) (d : A) → i < length v → o + i < length w → get_or (laid o v w) (o + i) d ≡ get_or v i d
unfolding laid
laid_in zero v w i d h l = rw zero-add (fronted-in v w i d h (omega arith))
laid_in (suc o) v [] i d h l = absurd (omega arith)
laid_in (suc o) v (y ∷ w) i d h l = rw suc-add (laid_in o v w i d h (omega arith))

pub laid-below : {A : Type 0} (o : ℕ) (v w : List A) (x : ℕ) (d : A) → x < o → get_or (laid o v w) x d ≡ get_or w x d
unfolding laid
laid-below zero v w x d h = absurd (omega arith)
laid-below (suc o) v [] x d h = refl
laid-below (suc o) v (y ∷ w) zero d h = refl
laid-below (suc o) v (y ∷ w) (suc x) d h = laid-below o v w x d (omega arith)

pub laid-above : {A : Type 0} (o : ℕ) (v w : List A) (x : ℕ) (d : A) → o + length v ≤ x → get_or (laid o v w) x d ≡ get_or w x d
unfolding laid
laid-above zero v w x d h = fronted-out v w x d (omega arith)
laid-above (suc o) v [] x d h = refl
laid-above (suc o) v (y ∷ w) zero d h = absurd (omega arith)
laid-above (suc o) v (y ∷ w) (suc x) d h = laid-above o v w x d (omega arith)

-- parts: below, above, and where something was laid
pub vec-below : (o n p : ℕ) (v w : List Float) → o + n ≤ p → vec o n (laid p v w) ≡ vec o n w
unfolding vec
vec-below o n p v w h = tab-same n _ _ (λ i l. laid-below p v w (o + i) nan (omega arith))

pub vec-above : (o n p : ℕ) (v w : List Float) → p + length v ≤ o → vec o n (laid p v w) ≡ vec o n w
unfolding vec
vec-above o n p v w h = tab-same n _ _ (λ i l. laid-above p v w (o + i) nan (omega arith))

pub vec_here : (o n : ℕ) (v w : List Float) → length v ≡ n → o + n ≤ length w → vec o n (laid o v w) ≡ v
unfolding vec
vec_here o n v w e h = sym (tab-of n v _ nan e (λ i l. sym (laid_in o v w i nan (omega arith) (omega arith))))

pub nums-below : (o n p : ℕ) (v w : List ℕ) → o + n ≤ p → nums o n (laid p v w) ≡ nums o n w
unfolding nums
nums-below o n p v w h = tab-same n _ _ (λ i l. laid-below p v w (o + i) 0 (omega arith))

pub nums-above : (o n p : ℕ) (v w : List ℕ) → p + length v ≤ o → nums o n (laid p v w) ≡ nums o n w
unfolding nums
nums-above o n p v w h = tab-same n _ _ (λ i l. laid-above p v w (o + i) 0 (omega arith))

pub nums-here : (o n : ℕ) (v w : List ℕ) → length v ≡ n → o + n ≤ length w → nums o n (laid o v w) ≡ v
unfolding nums
nums-here o n v w e h = sym (tab-of n v _ 0 e (λ i l. sym (laid_in o v w i 0 (omega arith) (omega arith))))

pub vec_laid : (o n : ℕ) (v w : List Float) (k : ℕ) → length v ≡ n → length w ≡ k → o + n ≤ k → vec o n (laid o v w) ≡ v
vec_laid o n v w k e z h = vec_here o n v w e (omega arith)

-- apart from what was laid
abbrev pub Apart : (o n p c : ℕ) → Type 0
Apart o n p c = (o + n ≤ p) ⊎ (p + c ≤ o)

pub vec-apart : (o n p : ℕ) (v w : List Float) → Apart o n p (length v) → vec o n (laid p v w) ≡ vec o n w
vec-apart o n p v w (inl h) = vec-below o n p v w h
vec-apart o n p v w (inr h) = vec-above o n p v w h

-- ---- what laying does

-- two lists with the same entries
pub same_entries : {A : Type 0} (d : A) (v w : List A) → length v ≡ length w → ((i : ℕ) → i < length v → get_or v i d ≡ get_or w i d) → v ≡ w
same_entries d v w e h = tab-of (length v) v (λ i. get_or w i d) d refl h ∙ sym (tab-of (length v) w (λ i. get_or w i d) d (sym e) (λ i l. refl))

-- a place is before a part, in it, or behind it
pub data Where (o c : ℕ) (x : ℕ) : Type 0 where
  before : x < o → Where o c x
  inside : (t : ℕ) → t < c → o + t ≡ x → Where o c x
  behind : o + c ≤ x → Where o c x

pub where-is : (o c x : ℕ) → Where o c x
where-is o c x = first (dec_lt x o)
  where
    second : o ≤ x → Dec (x < o + c) → Where o c x
    second l (yes h) = inside (x - o) (omega arith) (omega arith)
    second l (no h) = behind (omega arith)

    first : Dec (x < o) → Where o c x
    first (yes h) = before h
    first (no h) = second (omega arith) (dec_lt x (o + c))

-- what a write left is what was laid
pub written-laid : {A : Type 0} (d : A) (o c : ℕ) (f : ℕ → A) (w w' : List A) → length w' ≡ length w → o + c ≤ length w → Written d o c f w w' → w' ≡ laid o (tab c f) w
written-laid d o c f w w' e l h = same_entries d w' (laid o (tab c f) w) (e ∙ sym (length-laid o (tab c f) w)) (λ i k. look i k (where-is o c i))
  where
    look : (i : ℕ) → i < length w' → Where o c i → get_or w' i d ≡ get_or (laid o (tab c f) w) i d
    look i k (before b) = h.before i b ∙ sym (laid-below o (tab c f) w i d b)
    look i k (inside t b p) =
        ap (λ x. get_or w' x d) (sym p) ∙ h.inside t b ∙ sym (ap (λ x. get_or (laid o (tab c f) w) x d) (sym p) ∙ laid_in o (tab c f) w t d (let z = length-tab c f in omega arith) (omega arith) ∙ get_d-tab c f d t b)
    look i k (behind b) = h.after i b ∙ sym (laid-above o (tab c f) w i d (let z = length-tab c f in omega arith))

-- laying what stands there changes nothing
pub laid-again : (o n : ℕ) (w : List Float) → o + n ≤ length w → laid o (vec o n w) w ≡ w
unfolding vec
laid-again o n w l = sym (written-laid nan o n (λ i. at w (o + i)) w w refl l (record { inside = λ t h. refl; before = λ x h. refl; after = λ x h. refl }))

-- the later one counts
pub laid-over : (o : ℕ) (v v' w : List Float) → length v ≡ length v' → o + length v ≤ length w → laid o v (laid o v' w) ≡ laid o v w
laid-over o v v' w e l = same_entries nan _ _ (length-laid o v (laid o v' w) ∙ length-laid o v' w ∙ sym (length-laid o v w)) (λ i k. look i (where-is o (length v) i))
  where
    look : (i : ℕ) → Where o (length v) i → at (laid o v (laid o v' w)) i ≡ at (laid o v w) i
    look i (before b) = laid-below o v _ i nan b ∙ laid-below o v' w i nan b ∙ sym (laid-below o v w i nan b)
    look i (inside t b p) =
        let z = length-laid o v' w in
        ap (λ x. at (laid o v (laid o v' w)) x) (sym p) ∙ laid_in o v (laid o v' w) t nan b (omega arith) ∙ sym (laid_in o v w t nan b (omega arith)) ∙ ap (λ x. at (laid o v w) x) p
    look i (behind b) = laid-above o v _ i nan b ∙ laid-above o v' w i nan (omega arith) ∙ sym (laid-above o v w i nan b)

-- two parts that are apart can be laid in either order
pub laid-apart : (o p : ℕ) (v v' w : List Float) → o + length v ≤ p → p + length v' ≤ length w → laid o v (laid p v' w) ≡ laid p v' (laid o v w)
laid-apart o p v v' w h l =
    same_entries nan _ _ (length-laid o v (laid p v' w) ∙ length-laid p v' w ∙ sym (length-laid p v' (laid o v w) ∙ length-laid o v w)) (λ i k. look i (where-is o (length v) i) (where-is p (length v') i))
  where
    look : (i : ℕ) → Where o (length v) i → Where p (length v') i → at (laid o v (laid p v' w)) i ≡ at (laid p v' (laid o v w)) i
    look i (before b) u = laid-below o v _ i nan b ∙ laid-below p v' w i nan (omega arith) ∙ sym (laid-below p v' _ i nan (omega arith) ∙ laid-below o v w i nan b)
    look i (inside t b e) u =
        let z = length-laid p v' w in
        ap (λ x. at (laid o v (laid p v' w)) x) (sym e) ∙ laid_in o v (laid p v' w) t nan b (omega arith)
        ∙ sym (laid_in o v w t nan b (omega arith)) ∙ ap (λ x. at (laid o v w) x) e ∙ sym (laid-below p v' (laid o v w) i nan (omega arith))
    look i (behind b) (before c) = laid-above o v _ i nan b ∙ laid-below p v' w i nan c ∙ sym (laid-below p v' _ i nan c ∙ laid-above o v w i nan b)
    look i (behind b) (inside t c e) =
        let z = length-laid o v w in
        laid-above o v _ i nan b ∙ ap (λ x. at (laid p v' w) x) (sym e) ∙ laid_in p v' w t nan c (omega arith)
        ∙ sym (laid_in p v' (laid o v w) t nan c (omega arith)) ∙ ap (λ x. at (laid p v' (laid o v w)) x) e
    look i (behind b) (behind c) = laid-above o v _ i nan b ∙ laid-above p v' w i nan c ∙ sym (laid-above p v' _ i nan c ∙ laid-above o v w i nan b)
