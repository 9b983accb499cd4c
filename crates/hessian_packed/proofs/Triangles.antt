-- Laws of triangles.
use mathlib.Core.Path.{◌≡◌, refl, sym, ap, ◌∙◌}
use mathlib.Core.Logic.{⊎_elim}
use mathlib.Core.List.{List, [], ◌∷◌, ◌++◌, append_assoc, append-nil}
use Prim.Native.Nat.{ℕ, zero, suc, ◌+◌, ◌*◌, ◌-◌, ◌<◌, ◌≤◌}
use native.Mathlib.Nat.{mul-le-mul, zero-add}
use native.Mathlib.Numerals.{add-one}
use native.Mathlib.Omega.{arith}
use lib.ListN.{length, take, drop, length-append, length-drop, take-append-drop, drop_of_length-le, get_or-append}
use lib.Seq.{get_or-append-add, get_or-take, get_or-drop, length-take-le, take_at, drop_at, drop-drop}
use lib.Ieee.{Float, nan}
use borrow.Author.Tests.{le-leb, lt-leb}
use Rattle.numbers.specs.Numbers.{Σ, at, tab, dot, entry, ◌⊗◌}
use Rattle.numbers.proofs.Sums.{Σ-same}
use Rattle.numbers.proofs.Lists.{length-tab, get_d-tab, tab-same, tab-of}
use Rattle.numbers.proofs.Cases.{lt-or-ge, last-or-before}
use Rattle.workspace.specs.Readings.{vec, Block}
use Rattle.hessian_packed.specs.Packed.{count, place, triangle}

-- one row more
pub count-more : (i : ℕ) → count (suc i) ≡ count i + (i + 1)
count-more i =
    let e : suc i * (suc i + 1) ≡ i * (i + 1) + 2 * (i + 1) = omega arith in
    omega (arith, e)

pub count-up : (i n : ℕ) → i < n → count i + (i + 1) ≤ count n
count-up i zero h = absurd (omega arith)
count-up i (suc n) h =
    ⊎_elim (λ (e : i ≡ n). rw e (omega (arith, count-more n))) (λ (l : i < n). omega (arith, count-more n, count-up i n l)) (last-or-before n i h)

pub length-triangle : (n : ℕ) (f : ℕ → ℕ → Float) → length (triangle n f) ≡ count n
unfolding triangle
length-triangle zero f = refl
length-triangle (suc n) f = rw (length-append, length-tab, length-triangle n f) (sym (count-more n))

last_row : (n : ℕ) (f : ℕ → ℕ → Float) (i j : ℕ) → length (triangle n f) ≡ count n → i ≡ n → j ≤ i → at (triangle n f ++ tab (n + 1) (f n)) (count i + j) ≡ f i j
last_row n f i j t e k =
    rw e
    (ap (λ (x : ℕ). at (triangle n f ++ tab (n + 1) (f n)) (x + j)) (sym t)
    ∙ get_or-append-add (triangle n f) (tab (n + 1) (f n)) j nan
    ∙ get_d-tab (n + 1) (f n) nan j (omega arith))

-- entry (i, j), on or below the diagonal
pub at-triangle : (n : ℕ) (f : ℕ → ℕ → Float) (i j : ℕ) → i < n → j ≤ i → at (triangle n f) (count i + j) ≡ f i j
unfolding triangle
at-triangle zero f i j h k = absurd (omega arith)
at-triangle (suc n) f i j h k =
    let t : length (triangle n f) ≡ count n = length-triangle n f in
    ⊎_elim (λ (e : i ≡ n). last_row n f i j t e k)
    (λ (l : i < n). get_or-append (triangle n f) (tab (n + 1) (f n)) nan (count i + j) (omega (arith, t, count-up i n l)) ∙ at-triangle n f i j l k)
    (last-or-before n i h)

pub triangle-same : (n : ℕ) (f g : ℕ → ℕ → Float) → ((i j : ℕ) → i < n → j ≤ i → f i j ≡ g i j) → triangle n f ≡ triangle n g
unfolding triangle
triangle-same zero f g h = refl
triangle-same (suc n) f g h =
    rw (triangle-same n f g (λ i j l k. h i j (omega arith) k), tab-same (n + 1) (f n) (g n) (λ j k. h n j (omega arith) (omega arith)))

-- a triangle is its entries
pub triangle-of : (n : ℕ) (p : List Float) → length p ≡ count n → triangle n (λ i j. at p (count i + j)) ≡ p
unfolding triangle
triangle-of zero [] e = refl
triangle-of zero (x ∷ p) e = absurd (omega arith)
triangle-of (suc n) p e =
    let c = count-more n in
    let q = take (count n) p in
    let lq : length q ≡ count n = length-take-le (count n) p (omega (arith, c)) in
    let ld = length-drop (count n) p in
    let first : triangle n (λ i j. at p (count i + j)) ≡ q =
    triangle-same n (λ i j. at p (count i + j)) (λ i j. at q (count i + j)) (λ i j h l. sym (get_or-take (count n) p (count i + j) nan (omega (arith, count-up i n h))))
    ∙ triangle-of n q lq in
    let last : tab (n + 1) (λ j. at p (count n + j)) ≡ drop (count n) p =
    sym (tab-of (n + 1) (drop (count n) p) (λ j. at p (count n + j)) nan (omega (arith, c, ld)) (λ j h. get_or-drop (count n) p j nan)) in
    rw (first, last) (take-append-drop (count n) p)

-- every entry has its place
pub place-lt : (n i j : ℕ) → i < n → j < n → place i j < count n
place-lt n i j h l =
    ⊎_elim (λ (p : i < j). rw (lt-leb j i p) (omega (arith, count-up j n l)))
    (λ (p : j ≤ i). rw (le-leb j i p) (omega (arith, count-up i n h)))
    (lt-or-ge i j)

-- from the diagonal on, row i of the square is column i of the triangle
pub place-above : (i j : ℕ) → i ≤ j → count j + i ≡ place i j
place-above i j h =
    ⊎_elim (λ (l : i < j). rw (lt-leb j i l)) (λ (g : j ≤ i). let e : i ≡ j = omega arith in rw (le-leb j i g, e)) (lt-or-ge i j)

-- one row on
pub count_next : (i : ℕ) → count (i + 1) ≡ count i + (i + 1)
count_next i = ap (λ (z : ℕ). count z) (add-one i) ∙ count-more i

-- so the places of a column: one on
pub count-on : (i j q : ℕ) → q ≡ count j + i → q + (j + 1) ≡ count (j + 1) + i
count-on i j q h = rw (h, count_next j) (omega arith)

pub count-along : (i t q : ℕ) → q ≡ count (i + t) + i → q + (i + t + 1) ≡ count (i + (t + 1)) + i
count-along i t q h = let e : i + (t + 1) ≡ i + t + 1 = omega arith in count-on i (i + t) q h ∙ ap (λ (z : ℕ). count z + i) (sym e)

-- at most 16 rows
pub product_small : (n : ℕ) → n ≤ 16 → n * (n + 1) ≤ 272
product_small n h = let g : n + 1 ≤ 17 = omega arith in mul-le-mul h g

pub square-small : (n : ℕ) → n ≤ 16 → n * n ≤ 256
square-small n h = mul-le-mul h h

pub count_small : (n : ℕ) → n ≤ 16 → count n ≤ 136
count_small n h = omega (arith, product_small n h)

-- ---- a loop that writes a triangle from the front, a row a turn: w is the list after i rows

pub record Rising (i : ℕ) (f : ℕ → ℕ → Float) (w₀ w : List Float) : Type 0 where
  pub size : length w ≡ length w₀
  pub is : w ≡ triangle i f ++ drop (count i) w₀

triangle-more : (n : ℕ) (f : ℕ → ℕ → Float) → triangle (n + 1) f ≡ triangle n f ++ tab (n + 1) (f n)
unfolding triangle
triangle-more n f = ap (λ (x : ℕ). triangle x f) (add-one n)

pub rising_none : (f : ℕ → ℕ → Float) (w : List Float) → Rising 0 f w w
unfolding triangle
rising_none f w = record { size = refl; is = refl }

-- row i is written as a part of i + 1 entries that is lent from a on and comes back as x
pub rising-more : {i : ℕ} {f : ℕ → ℕ → Float} {w₀ w x : List Float} (a k : ℕ) → a ≡ count i → k ≡ i + 1 → Rising i f w₀ w → count i + (i + 1) ≤ length w₀ → x ≡ tab (i + 1) (f i)
    → Rising (i + 1) f w₀ (take a w ++ (x ++ drop k (drop a w)))
rising-more {i} {f} {w₀} {w} {x} a k p q r h e =
    let l : length (triangle i f) ≡ count i = length-triangle i f in
    let t : take a w ≡ triangle i f = rw (p, r.is) (take_at (triangle i f) (drop (count i) w₀) (count i) l) in
    let n : drop a w ≡ drop (count i) w₀ = rw (p, r.is) (drop_at (triangle i f) (drop (count i) w₀) (count i) l) in
    let s = count_next i in
    let d : drop k (drop a w) ≡ drop (count i + (i + 1)) w₀ = rw (n, q, drop-drop) in
    record {
      size = rw (t, d, e) (simp (length-append, length-tab, length-triangle, length-drop) (omega arith));
      is = rw (t, d, e, s, triangle-more) (simp append_assoc);
    }

pub rising-all : {i n : ℕ} {f : ℕ → ℕ → Float} {w₀ w : List Float} → Rising i f w₀ w → length w₀ ≡ count n → i ≡ n → w ≡ triangle n f
rising-all {i} {n} {f} {w₀} {w} r h e = rw (r.is, e, drop_of_length-le w₀ {i = count n} (omega arith), append-nil)

-- the first entries of row i of a square, copied
pub row_copied : (n i : ℕ) (b x : List Float) → x ≡ vec (i * n) (i + 1) b → x ≡ tab (i + 1) (λ j. entry n b i j)
unfolding vec
row_copied n i b x e = e

-- ---- a row of the square

-- the part of the triangle where its row i stands
part_at : (p : List Float) (i a k : ℕ) → a ≡ count i → k ≡ i + 1 → (j : ℕ) → j ≤ i → at (take k (drop a p)) j ≡ at p (place i j)
part_at p i a k e q j l = rw (e, q, le-leb j i l, get_or-take (i + 1) (drop (count i) p) j nan (omega arith), get_or-drop)

-- its first i + 1 entries were copied to y, and those from the diagonal on come from a column
pub row-unpacked : (n i a k : ℕ) (p x y z : List Float) → i < n → a ≡ count i → k ≡ i + 1 → length y ≡ n → Block 0 (i + 1) (λ t. at (take k (drop a p)) t) x y
    → z ≡ take i y ++ tab (n - i) (λ t. at p (count (i + t) + i)) → z ≡ tab n (λ j. at p (place i j))
row-unpacked n i a k p x y z h e q s b c =
    let f : ℕ → Float = λ t. at p (count (i + t) + i) in
    let l : length (take i y) ≡ i = length-take-le i y (omega arith) in
    c
    ∙ tab-of n (take i y ++ tab (n - i) f) (λ j. at p (place i j)) nan (simp (length-append, length-tab, l) (omega arith))
    (λ j m. ⊎_elim
    (λ (g : j < i). get_or-append (take i y) (tab (n - i) f) nan j (omega (arith, l)) ∙ get_or-take i y j nan g
    ∙ ap (λ (t : ℕ). at y t) (sym (zero-add j)) ∙ b.inside j (omega arith) ∙ part_at p i a k e q j (omega arith))
    (λ (g : i ≤ j).
    let o : length (take i y) + (j - i) ≡ j = omega (arith, l) in
    let r : i + (j - i) ≡ j = omega arith in
    ap (λ (t : ℕ). at (take i y ++ tab (n - i) f) t) (sym o) ∙ get_or-append-add (take i y) (tab (n - i) f) (j - i) nan
    ∙ get_d-tab (n - i) f nan (j - i) (omega arith) ∙ ap (λ (t : ℕ). at p (count t + i)) r ∙ ap (λ (t : ℕ). at p t) (place-above i j g))
    (lt-or-ge j i))

-- its product with v, up to the diagonal
pub row-started : (i a k : ℕ) (p v : List Float) (r : Float) → a ≡ count i → k ≡ i + 1 → r ≡ dot (i + 1) (take k (drop a p)) v → r ≡ Σ (i + 1) (λ j. at p (place i j) ⊗ at v j)
unfolding dot
row-started i a k p v r e q h =
    h ∙ Σ-same (i + 1) (λ j. at (take k (drop a p)) j ⊗ at v j) (λ j. at p (place i j) ⊗ at v j)
    (λ j l. ap (λ (x : Float). x ⊗ at v j) (part_at p i a k e q j (omega arith)))
