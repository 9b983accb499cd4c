-- Laws of readings: lengths, entries, what makes two of them equal, and a reading in a lent part.
use mathlib.Core.Path.{◌≡◌, refl, sym, ap, ◌∙◌}
use mathlib.Core.Logic.{⊎_elim}
use mathlib.Core.List.{List}
use Prim.Native.Nat.{ℕ, ◌+◌, ◌*◌, ◌≤◌, ◌<◌}
use native.Mathlib.Nat.{add_assoc, zero-add}
use native.Mathlib.Omega.{arith}
use lib.ListN.{length, set, drop, length-set}
use lib.Seq.{get_or-set_same, get_or-set_other, get_or-drop}
use lib.Count.{count_trailing_zeros}
use lib.Ieee.{Float, nan, binary64, neg, of_bits, of_fields, units, odd, round, size, span, climb}
use Rattle.numbers.specs.Numbers.{+0, -0, one, at, nth, tab, entry, rows, grid, row, column, transposed}
use Rattle.numbers.proofs.Cases.{eq-or-ne}
use Rattle.numbers.proofs.Lists.{length-tab, get_d-tab, tab-same, tab-of, rows_same, grid-same, length-rows, length-grid, entry-rows, entry-grid}
use Rattle.workspace.specs.Readings.{vec, mat, stack, nums}

-- ---- the code's literals

pub lit-+0 : of_bits binary64 0 ≡ +0
unfolding of_bits of_fields units odd
lit-+0 = refl

pub lit-one : of_bits binary64 4607182418800017408 ≡ one
unfolding of_bits of_fields odd round units size span climb count_trailing_zeros
lit-one = refl

pub lit--0 : neg (of_bits binary64 0) ≡ -0
unfolding of_bits of_fields neg units odd
lit--0 = refl

-- ---- vectors

pub length-vec : (o n : ℕ) (w : List Float) → length (vec o n w) ≡ n
unfolding vec
length-vec o n w = length-tab n _

pub at-vec : (o n : ℕ) (w : List Float) (i : ℕ) → i < n → at (vec o n w) i ≡ at w (o + i)
unfolding vec
at-vec o n w i h = get_d-tab n (λ i. at w (o + i)) nan i h

pub vec-is : (o n : ℕ) (w : List Float) (f : ℕ → Float) → ((i : ℕ) → i < n → at w (o + i) ≡ f i) → vec o n w ≡ tab n f
unfolding vec
vec-is o n w f h = tab-same n _ f h

-- two workspaces that agree there hold the same there
pub vec-same : (o n : ℕ) (w w' : List Float) → ((i : ℕ) → i < n → at w' (o + i) ≡ at w (o + i)) → vec o n w' ≡ vec o n w
unfolding vec
vec-same o n w w' h = tab-same n _ _ h

-- what stands in a part that begins at b
pub vec-part : (b o n : ℕ) (w : List Float) → vec o n (drop b w) ≡ vec (b + o) n w
unfolding vec
vec-part b o n w = tab-same n _ _ (λ i l. get_or-drop b w (o + i) nan ∙ ap (λ (x : ℕ). at w x) (sym (add_assoc b o i)))

-- a store into a vector
pub vec-set : (o n i : ℕ) (w : List Float) (v : Float) → i < n → o + n ≤ length w → vec o n (set w (o + i) v) ≡ set (vec o n w) i v
vec-set o n i w v h l =
    vec-is o n (set w (o + i) v) (λ j. at (set w (o + i) v) (o + j)) (λ j hj. refl)
    ∙ sym
    (tab-of n (set (vec o n w) i v) (λ j. at (set w (o + i) v) (o + j)) nan (length-set (vec o n w) i v ∙ length-vec o n w)
    (λ j hj.
    ⊎_elim
    (λ (e : j ≡ i). rw e (get_or-set_same (vec o n w) i v nan (rw length-vec h) ∙ sym (get_or-set_same w (o + i) v nan (omega arith))))
    (λ (e : j ≡ i → ⊥).
    get_or-set_other (vec o n w) i j v nan e ∙ at-vec o n w j hj ∙ sym (get_or-set_other w (o + i) (o + j) v nan (λ a. e (omega arith))))
    (eq-or-ne j i)))

-- ---- matrices

pub length-mat : (o m n : ℕ) (w : List Float) → length (mat o m n w) ≡ m * n
unfolding mat
length-mat o m n w = length-grid m n _

pub entry-mat : (o m n : ℕ) (w : List Float) (i j : ℕ) → i < m → j < n → entry n (mat o m n w) i j ≡ at w (o + j * 18 + i)
unfolding mat
entry-mat o m n w i j hi hj = entry-grid m n _ i j hi hj

pub mat-is : (o m n : ℕ) (w : List Float) (f : ℕ → ℕ → Float) → ((i j : ℕ) → i < m → j < n → at w (o + j * 18 + i) ≡ f i j) → mat o m n w ≡ grid m n f
unfolding mat
mat-is o m n w f h = grid-same m n _ f h

pub mat-same : (o m n : ℕ) (w w' : List Float) → ((i j : ℕ) → i < m → j < n → at w' (o + j * 18 + i) ≡ at w (o + j * 18 + i)) → mat o m n w' ≡ mat o m n w
unfolding mat
mat-same o m n w w' h = grid-same m n _ _ h

pub mat-part : (b o m n : ℕ) (w : List Float) → mat o m n (drop b w) ≡ mat (b + o) m n w
unfolding mat
mat-part b o m n w = grid-same m n _ _ (λ i j hi hj. get_or-drop b w (o + j * 18 + i) nan ∙ ap (λ (x : ℕ). at w x) (omega arith))

-- its column j
pub vec-mat : (o m n j : ℕ) (w : List Float) → j < n → vec (o + j * 18) m w ≡ column m n j (mat o m n w)
unfolding column
vec-mat o m n j w h = vec-is (o + j * 18) m w _ (λ i hi. sym (entry-mat o m n w i j hi h))

-- ---- stacked vectors

pub length-stack : (o c m : ℕ) (w : List Float) → length (stack o c m w) ≡ c * m
unfolding stack
length-stack o c m w = length-rows c m _ (λ k h. length-vec (o + k * 18) m w)

pub entry_stack : (o c m : ℕ) (w : List Float) (k i : ℕ) → k < c → i < m → entry m (stack o c m w) k i ≡ at w (o + k * 18 + i)
unfolding stack
entry_stack o c m w k i hk hi = entry-rows c m _ (λ k h. length-vec (o + k * 18) m w) k i hk hi ∙ at-vec (o + k * 18) m w i hi

-- row k is vector k
pub row-stack : (o c m k : ℕ) (w : List Float) → k < c → row m k (stack o c m w) ≡ vec (o + k * 18) m w
unfolding row
row-stack o c m k w h = sym (vec-is (o + k * 18) m w _ (λ i hi. sym (entry_stack o c m w k i h hi)))

pub stack_is : (o c m : ℕ) (w : List Float) (f : ℕ → List Float) → ((k : ℕ) → k < c → vec (o + k * 18) m w ≡ f k) → stack o c m w ≡ rows c f
unfolding stack
stack_is o c m w f h = rows_same c _ f h

pub stack_same : (o c m : ℕ) (w w' : List Float) → ((k i : ℕ) → k < c → i < m → at w' (o + k * 18 + i) ≡ at w (o + k * 18 + i)) → stack o c m w' ≡ stack o c m w
unfolding stack
stack_same o c m w w' h = rows_same c _ _ (λ k hk. vec-same (o + k * 18) m w w' (λ i hi. h k i hk hi))

pub stack-part : (b o c m : ℕ) (w : List Float) → stack o c m (drop b w) ≡ stack (b + o) c m w
unfolding stack
stack-part b o c m w = rows_same c _ _ (λ k hk. vec-part b (o + k * 18) m w ∙ ap (λ (x : ℕ). vec x m w) (omega arith))

-- the columns of a matrix are its vectors, stacked
pub mat-stack : (o m n : ℕ) (w : List Float) → mat o m n w ≡ transposed n m (stack o n m w)
unfolding mat transposed
mat-stack o m n w = grid-same m n _ _ (λ i j hi hj. sym (entry_stack o n m w j i hj hi))

-- ---- the u32 workspace

pub length-nums : (o n : ℕ) (l : List ℕ) → length (nums o n l) ≡ n
unfolding nums
length-nums o n l = length-tab n _

pub nth-nums : (o n : ℕ) (l : List ℕ) (i : ℕ) → i < n → nth (nums o n l) i ≡ nth l (o + i)
unfolding nums
nth-nums o n l i h = get_d-tab n (λ j. nth l (o + j)) 0 i h

pub nums-is : (o n : ℕ) (l : List ℕ) (f : ℕ → ℕ) → ((i : ℕ) → i < n → nth l (o + i) ≡ f i) → nums o n l ≡ tab n f
unfolding nums
nums-is o n l f h = tab-same n _ f h

pub nums-same : (o n : ℕ) (l l' : List ℕ) → ((i : ℕ) → i < n → nth l' (o + i) ≡ nth l (o + i)) → nums o n l' ≡ nums o n l
unfolding nums
nums-same o n l l' h = tab-same n _ _ h

pub nums-part : (b o n : ℕ) (l : List ℕ) → nums o n (drop b l) ≡ nums (b + o) n l
unfolding nums
nums-part b o n l = tab-same n _ _ (λ i h. get_or-drop b l (o + i) 0 ∙ ap (λ (x : ℕ). nth l x) (sym (add_assoc b o i)))

pub nums-set : (o n i : ℕ) (l : List ℕ) (v : ℕ) → i < n → o + n ≤ length l → nums o n (set l (o + i) v) ≡ set (nums o n l) i v
nums-set o n i l v h m =
    nums-is o n (set l (o + i) v) (λ j. nth (set l (o + i) v) (o + j)) (λ j hj. refl)
    ∙ sym
    (tab-of n (set (nums o n l) i v) (λ j. nth (set l (o + i) v) (o + j)) 0 (length-set (nums o n l) i v ∙ length-nums o n l)
    (λ j hj.
    ⊎_elim
    (λ (e : j ≡ i). rw e (get_or-set_same (nums o n l) i v 0 (rw length-nums h) ∙ sym (get_or-set_same l (o + i) v 0 (omega arith))))
    (λ (e : j ≡ i → ⊥).
    get_or-set_other (nums o n l) i j v 0 e ∙ nth-nums o n l j hj ∙ sym (get_or-set_other l (o + i) (o + j) v 0 (λ a. e (omega arith))))
    (eq-or-ne j i)))

-- from the front
pub nth-front : (n i : ℕ) (l : List ℕ) → i < n → nth (nums 0 n l) i ≡ nth l i
nth-front n i l h = nth-nums 0 n l i h ∙ ap (λ (x : ℕ). nth l x) (zero-add i)

pub nums-set-front : (n i : ℕ) (l : List ℕ) (v : ℕ) → i < n → n ≤ length l → nums 0 n (set l i v) ≡ set (nums 0 n l) i v
nums-set-front n i l v h m = ap (λ (x : ℕ). nums 0 n (set l x v)) (sym (zero-add i)) ∙ nums-set 0 n i l v h (omega arith)
