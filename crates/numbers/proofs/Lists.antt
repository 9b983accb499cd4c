-- Laws of lists made by a rule, of matrices, and of scattered vectors.
use mathlib.Core.Path.{◌≡◌, refl, sym, ap, ◌∙◌}
use mathlib.Core.List.{List, [], ◌∷◌, ◌++◌, append_assoc, append-nil}
use Prim.Native.Nat.{ℕ, zero, suc, ◌+◌, ◌*◌, ◌-◌, ◌≤◌, ◌<◌}
use native.Mathlib.Nat.{not-suc-le-zero, le_of_suc-le-suc, suc-mul, zero-mul, mul-le-mul_right}
use native.Mathlib.Numerals.{add-one}
use native.Mathlib.Omega.{arith}
use lib.ListN.{length, get_or, take, drop, replicate, length-set, length-append, length-drop, take-append-drop, get_or-append}
use lib.Seq.{get_or-set_other, get_or-append-add, get_or-drop, get_or-take, ext_get_or, length-take-le}
use lib.Ieee.{Float, nan}
use Rattle.numbers.specs.Numbers.{at, nth, tab, gather, scatter, entry, rows, grid, row, column, transposed}

-- ---- a list made by a rule

pub length-tab : {A : Type 0} (n : ℕ) (f : ℕ → A) → length (tab n f) ≡ n
unfolding tab
length-tab zero f = refl
length-tab (suc n) f = ap suc (length-tab n (λ k. f (suc k)))

pub get_d-tab : {A : Type 0} (n : ℕ) (f : ℕ → A) (d : A) (j : ℕ) → j < n → get_or (tab n f) j d ≡ f j
unfolding tab
get_d-tab zero f d j h = absurd (not-suc-le-zero h)
get_d-tab (suc n) f d zero h = refl
get_d-tab (suc n) f d (suc j) h = get_d-tab n (λ k. f (suc k)) d j (le_of_suc-le-suc h)

pub tab-same : {A : Type 0} (n : ℕ) (f g : ℕ → A) → ((i : ℕ) → i < n → f i ≡ g i) → tab n f ≡ tab n g
unfolding tab
tab-same zero f g h = refl
tab-same (suc n) f g h = rw (h 0 (omega arith), tab-same n (λ k. f (suc k)) (λ k. g (suc k)) (λ i l. h (suc i) (omega arith)))

-- the code's `n + 1` is one entry more at the end
tab-snoc : {A : Type 0} (n : ℕ) (f : ℕ → A) → tab (suc n) f ≡ tab n f ++ (f n ∷ [])
unfolding tab
tab-snoc zero f = refl
tab-snoc {A} (suc n) f = ap (λ (t : List A). f zero ∷ t) (tab-snoc n (λ k. f (suc k)))

pub tab-more : {A : Type 0} (n : ℕ) (f : ℕ → A) → tab (n + 1) f ≡ tab n f ++ (f n ∷ [])
tab-more n f = rw add-one (tab-snoc n f)

-- a list whose entries follow the rule
pub tab-of : {A : Type 0} (n : ℕ) (v : List A) (f : ℕ → A) (d : A) → length v ≡ n → ((i : ℕ) → i < n → get_or v i d ≡ f i) → v ≡ tab n f
tab-of n v f d e h = ext_get_or d v (tab n f) (e ∙ sym (length-tab n f)) (λ i l. let k : i < n = omega arith in h i k ∙ sym (get_d-tab n f d i k))

-- a list is its entries
pub by_entries : (n : ℕ) (v : List Float) → length v ≡ n → v ≡ tab n (λ k. at v k)
by_entries n v h = tab-of n v (λ k. at v k) nan h (λ i l. refl)

pub tab-replicate : {A : Type 0} (n : ℕ) (a : A) → tab n (λ k. a) ≡ replicate n a
unfolding tab
tab-replicate zero a = refl
tab-replicate {A} (suc n) a = ap (λ (l : List A). a ∷ l) (tab-replicate n a)

-- ---- gathered and scattered

pub length-gather : (n : ℕ) (js : List ℕ) (v : List Float) → length (gather n js v) ≡ n
unfolding gather
length-gather n js v = length-tab n (λ k. at v (nth js k))

pub length-scatter : (k : ℕ) (js : List ℕ) (v x : List Float) → length (scatter k js v x) ≡ length x
unfolding scatter
length-scatter zero js v x = refl
length-scatter (suc k) js v x = length-set (scatter k js v x) (nth js k) (at v k) ∙ length-scatter k js v x

-- what no index names stays
pub scatter-other : (k : ℕ) (js : List ℕ) (v x : List Float) (j : ℕ) → ((t : ℕ) → t < k → nth js t ≡ j → ⊥) → at (scatter k js v x) j ≡ at x j
unfolding scatter
scatter-other zero js v x j h = refl
scatter-other (suc k) js v x j h =
    get_or-set_other (scatter k js v x) (nth js k) j (at v k) nan (λ e. h k (omega arith) (sym e)) ∙ scatter-other k js v x j (λ t l. h t (omega arith))

-- it reads only the first k entries of js and of v
pub scatter-same : (k : ℕ) (js js' : List ℕ) (v v' x : List Float) → ((t : ℕ) → t < k → nth js t ≡ nth js' t) → ((t : ℕ) → t < k → at v t ≡ at v' t)
    → scatter k js v x ≡ scatter k js' v' x
unfolding scatter
scatter-same zero js js' v v' x h g = refl
scatter-same (suc k) js js' v v' x h g =
    rw (h k (omega arith), g k (omega arith), scatter-same k js js' v v' x (λ t l. h t (omega arith)) (λ t l. g t (omega arith)))

-- ---- places in a row-major matrix

-- row i ends within it
pub row_fits : (m n i : ℕ) → i < m → i * n + n ≤ m * n
row_fits m n i h = rw suc-mul at (mul-le-mul_right n h)

-- entry (i, j) lies within it
pub index-lt : (m n i j : ℕ) → i < m → j < n → i * n + j < m * n
index-lt m n i j hi hj = omega (arith, row_fits m n i hi)

-- ---- rows and grids

pub rows_same : (m : ℕ) (f g : ℕ → List Float) → ((i : ℕ) → i < m → f i ≡ g i) → rows m f ≡ rows m g
unfolding rows
rows_same zero f g h = refl
rows_same (suc m) f g h = rw (h 0 (omega arith), rows_same m (λ k. f (suc k)) (λ k. g (suc k)) (λ i l. h (suc i) (omega arith)))

pub grid-same : (m n : ℕ) (f g : ℕ → ℕ → Float) → ((i j : ℕ) → i < m → j < n → f i j ≡ g i j) → grid m n f ≡ grid m n g
unfolding grid
grid-same m n f g h = rows_same m (λ i. tab n (f i)) (λ i. tab n (g i)) (λ i l. tab-same n (f i) (g i) (λ j k. h i j l k))

pub length-rows : (m n : ℕ) (f : ℕ → List Float) → ((i : ℕ) → i < m → length (f i) ≡ n) → length (rows m f) ≡ m * n
unfolding rows
length-rows zero n f h = sym (zero-mul n)
length-rows (suc m) n f h =
    rw (length-append, h zero (omega arith), length-rows m n (λ k. f (suc k)) (λ i l. h (suc i) (omega arith)), suc-mul) (omega arith)

pub length-grid : (m n : ℕ) (f : ℕ → ℕ → Float) → length (grid m n f) ≡ m * n
unfolding grid
length-grid m n f = length-rows m n (λ i. tab n (f i)) (λ i l. length-tab n (f i))

pub rows_snoc : (m : ℕ) (f : ℕ → List Float) → rows (suc m) f ≡ rows m f ++ f m
unfolding rows
rows_snoc zero f = append-nil (f zero)
rows_snoc (suc m) f = ap (λ (t : List Float). f zero ++ t) (rows_snoc m (λ k. f (suc k))) ∙ sym (append_assoc (f zero) (rows m (λ k. f (suc k))) (f (suc m)))

pub grid-more : (m n : ℕ) (f : ℕ → ℕ → Float) → grid (m + 1) n f ≡ grid m n f ++ tab n (f m)
unfolding grid
grid-more m n f = rw add-one (rows_snoc m (λ i. tab n (f i)))

pub entry-rows : (m n : ℕ) (f : ℕ → List Float) → ((i : ℕ) → i < m → length (f i) ≡ n) → (i j : ℕ) → i < m → j < n → entry n (rows m f) i j ≡ at (f i) j
unfolding rows
entry-rows zero n f s i j h k = absurd (not-suc-le-zero h)
entry-rows (suc m) n f s zero j h k =
    let e : 0 * n + j ≡ j = omega arith in
    let t : length (f 0) ≡ n = s 0 (omega arith) in
    ap (λ (x : ℕ). at (f 0 ++ rows m (λ i. f (suc i))) x) e ∙ get_or-append (f 0) (rows m (λ i. f (suc i))) nan j (omega (arith, t))
entry-rows (suc m) n f s (suc i) j h k =
    let t : length (f 0) ≡ n = s 0 (omega arith) in
    let e : suc i * n + j ≡ length (f 0) + (i * n + j) = omega (arith, t) in
    ap (λ (x : ℕ). at (f 0 ++ rows m (λ i. f (suc i))) x) e
    ∙ get_or-append-add (f 0) (rows m (λ i. f (suc i))) (i * n + j) nan
    ∙ entry-rows m n (λ i. f (suc i)) (λ i l. s (suc i) (omega arith)) i j (omega arith) k

pub entry-grid : (m n : ℕ) (f : ℕ → ℕ → Float) (i j : ℕ) → i < m → j < n → entry n (grid m n f) i j ≡ f i j
unfolding grid
entry-grid m n f i j h k = entry-rows m n (λ i. tab n (f i)) (λ i l. length-tab n (f i)) i j h k ∙ get_d-tab n (f i) nan j k

-- ---- a matrix is its entries

part_at : (n i : ℕ) (b : List Float) (k : ℕ) → k < n → at (take n (drop (i * n) b)) k ≡ at b (i * n + k)
part_at n i b k q = rw (get_or-take, get_or-drop)

-- the part of a matrix where row i stands
pub part-row : (n i : ℕ) (b : List Float) → i * n + n ≤ length b → take n (drop (i * n) b) ≡ row n i b
unfolding row
part-row n i b h =
    let d : length (drop (i * n) b) ≡ length b - i * n = length-drop (i * n) b in
    let l : length (take n (drop (i * n) b)) ≡ n = length-take-le n (drop (i * n) b) (omega (arith, d)) in
    tab-of n (take n (drop (i * n) b)) (λ k. at b (i * n + k)) nan l (λ k q. part_at n i b k q)

pub grid-of : (m n : ℕ) (a : List Float) → length a ≡ m * n → grid m n (λ i j. entry n a i j) ≡ a
unfolding grid rows
grid-of zero n [] e = refl
grid-of zero n (x ∷ a) e = absurd (omega (arith, e, zero-mul n))
grid-of (suc m) n a e =
    let s : suc m * n ≡ m * n + n = suc-mul m n in
    let l : length (take n a) ≡ n = length-take-le n a (omega (arith, e)) in
    let first : tab n (λ j. entry n a zero j) ≡ take n a =
    sym (tab-of n (take n a) (λ j. entry n a zero j) nan l
    (λ j h. get_or-take n a j nan h ∙ ap (λ (x : ℕ). at a x) (let z : j ≡ 0 * n + j = omega (arith, zero-mul n) in z))) in
    let others : grid m n (λ i j. entry n a (suc i) j) ≡ drop n a =
    grid-same m n (λ i j. entry n a (suc i) j) (λ i j. entry n (drop n a) i j)
    (λ i j hi hj. let q : suc i * n + j ≡ n + (i * n + j) = omega (arith, suc-mul i n) in ap (λ (x : ℕ). at a x) q ∙ sym (get_or-drop n a (i * n + j) nan))
    ∙ grid-of m n (drop n a) (length-drop n a ∙ omega (arith, e)) in
    rw (first, others) (take-append-drop n a)

pub matrix-same : (m n : ℕ) (a b : List Float) → length a ≡ m * n → length b ≡ m * n → ((i j : ℕ) → i < m → j < n → entry n a i j ≡ entry n b i j) → a ≡ b
matrix-same m n a b ea eb h = sym (grid-of m n a ea) ∙ grid-same m n (λ i j. entry n a i j) (λ i j. entry n b i j) h ∙ grid-of m n b eb

-- ---- rows, columns, and the matrix transposed

pub length-row : (n i : ℕ) (a : List Float) → length (row n i a) ≡ n
unfolding row
length-row n i a = length-tab n (λ j. entry n a i j)

pub at_row : (n i : ℕ) (a : List Float) (j : ℕ) → j < n → at (row n i a) j ≡ entry n a i j
unfolding row
at_row n i a j h = get_d-tab n (λ j. entry n a i j) nan j h

pub length-column : (m n j : ℕ) (a : List Float) → length (column m n j a) ≡ m
unfolding column
length-column m n j a = length-tab m (λ i. entry n a i j)

pub at-column : (m n j : ℕ) (a : List Float) (i : ℕ) → i < m → at (column m n j a) i ≡ entry n a i j
unfolding column
at-column m n j a i h = get_d-tab m (λ i. entry n a i j) nan i h

pub length-transposed : (m n : ℕ) (a : List Float) → length (transposed m n a) ≡ n * m
unfolding transposed
length-transposed m n a = length-grid n m (λ j i. entry n a i j)

pub entry-transposed : (m n : ℕ) (a : List Float) (j i : ℕ) → j < n → i < m → entry m (transposed m n a) j i ≡ entry n a i j
unfolding transposed
entry-transposed m n a j i hj hi = entry-grid n m (λ j i. entry n a i j) j i hj hi
