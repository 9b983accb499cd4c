-- Laws of rows that are pushed into a workspace: one behind others, those of a loop, and what they read as.
use mathlib.Core.Path.{◌≡◌, refl, sym, ap, ap₂, ◌∙◌}
use mathlib.Core.List.{List, [], ◌∷◌, ◌++◌, append_assoc, append-nil}
use Prim.Native.Nat.{ℕ, zero, suc, ◌+◌, ◌*◌, ◌≤◌, ◌<◌}
use native.Mathlib.Numerals.{add-one}
use native.Mathlib.Omega.{arith}
use lib.ListN.{length, set, length-set, length-append, get_or-append}
use lib.Seq.{get_or-set_same, get_or-set_other, get_or_at}
use lib.Ieee.{Float, nan}
use Rattle.numbers.specs.Numbers.{at, tab, rows}
use Rattle.numbers.proofs.Lists.{length-tab, get_d-tab, tab-same, tab-more, by_entries}
use Rattle.workspace.specs.Readings.{vec, stack, Block}
use Rattle.workspace.proofs.Readings.{vec-same, vec-is}
use Rattle.workspace.proofs.Writes.{written-more, written_as}
use Rattle.step_rows.specs.Problem.{Row, row_of, matrix_of, sides_of, each}
use Rattle.step_rows.specs.inner.Work.{rows_in, Pushed}

-- ---- rows that stand there

pub length-rows_in : (o n c : ℕ) (w : List Float) → length (rows_in o n c w) ≡ c
unfolding rows_in
length-rows_in o n c w = length-tab c _

rows_none : (o n : ℕ) (w : List Float) → rows_in o n 0 w ≡ []
unfolding rows_in tab
rows_none o n w = refl

rows_more : (o n c : ℕ) (w : List Float) → rows_in o n (c + 1) w ≡ rows_in o n c w ++ (row_of (vec (o + c * 18) n w) (at w (o + c * 18 + n)) ∷ [])
unfolding rows_in
rows_more o n c w = tab-more c _

-- a workspace that agrees up to where they end holds the same rows
pub rows_same : (o n c : ℕ) (w w' : List Float) → n ≤ 17 → ((x : ℕ) → x < o + c * 18 → at w' x ≡ at w x) → rows_in o n c w' ≡ rows_in o n c w
unfolding rows_in
rows_same o n c w w' h e =
    tab-same c _ _
    (λ i l. ap₂ row_of (vec-same (o + i * 18) n w w' (λ t k. e (o + i * 18 + t) (omega arith))) (e (o + i * 18 + n) (omega arith)))

-- ---- rows that are pushed

pub pushed_none : (o n k : ℕ) (w : List Float) → Pushed o n k k [] w w
pushed_none o n k w = record { rows = sym (append-nil (rows_in o n k w)); before = λ x h. refl }

pub pushed-both : (o n k c d : ℕ) (rs ss : List Row) (w w' w'' : List Float) → Pushed o n k c rs w w' → Pushed o n c d ss w' w'' → Pushed o n k d (rs ++ ss) w w''
pushed-both o n k c d rs ss w w' w'' p q = record {
  rows = q.rows ∙ ap (λ (l : List Row). l ++ ss) p.rows ∙ append_assoc (rows_in o n k w) rs ss;
  before = λ x h. q.before x h ∙ p.before x h;
}

-- two rows, one by one
pub pushed-two : (o n k : ℕ) (r s : Row) (w w' w'' : List Float) → Pushed o n k (k + 1) (r ∷ []) w w' → Pushed o n (k + 1) (k + 1 + 1) (s ∷ []) w' w''
    → Pushed o n k (k + 2) (r ∷ s ∷ []) w w''
pushed-two o n k r s w w' w'' p q = let e : k + 1 + 1 ≡ k + 2 = omega arith in rw e at (pushed-both o n k (k + 1) (k + 1 + 1) (r ∷ []) (s ∷ []) w w' w'' p q)

-- the coefficients v are written at the next row's place, and then the side s behind them
pub pushed_row : (o n k : ℕ) (v : List Float) (f : ℕ → Float) (s : Float) (w w' : List Float) → n ≤ 17 → o + k * 18 + n < length w' → tab n f ≡ v
    → Block (o + k * 18) n f w w' → Pushed o n k (k + 1) (row_of v s ∷ []) w (set w' (o + k * 18 + n) s)
pushed_row o n k v f s w w' h l e b =
    let p = o + k * 18 in
    let q : (x : ℕ) → x < p → at (set w' (p + n) s) x ≡ at w x = λ x y. get_or-set_other w' (p + n) x s nan (λ a. omega arith) ∙ b.before x y in
    let u : vec p n (set w' (p + n) s) ≡ v = vec-is p n (set w' (p + n) s) f (λ i y. get_or-set_other w' (p + n) (p + i) s nan (λ a. omega arith) ∙ b.inside i y) ∙ e in
    record {
      rows = rows_more o n k (set w' (p + n) s) ∙ ap₂ (λ (a : List Row) (r : Row). a ++ (r ∷ [])) (rows_same o n k w (set w' (p + n) s) h q) (ap₂ row_of u (get_or-set_same w' (p + n) s nan l));
      before = λ x y. q x (omega arith);
    }

-- n entries that read v, and x behind them
pub written_behind : (p n : ℕ) (v : List Float) (f : ℕ → Float) (x : Float) (w w' : List Float) → p + n < length w' → tab n f ≡ v → Block p n f w w'
    → Block p (n + 1) (λ t. at (v ++ (x ∷ [])) t) w (set w' (p + n) x)
written_behind p n v f x w w' l e b =
    let u = v ++ (x ∷ []) in
    let lv : length v ≡ n = ap length (sym e) ∙ length-tab n f in
    let at-v : (t : ℕ) → t < n → f t ≡ at u t =
    λ t y. sym (get_d-tab n f nan t y) ∙ ap (λ (a : List Float). at a t) e ∙ sym (get_or-append v (x ∷ []) nan t (omega arith)) in
    let at_x : x ≡ at u n = sym (get_or_at v x [] nan n lv) in
    written-more nan p n (λ t. at u t) w w' x l at_x (written_as nan p n f (λ t. at u t) w w' at-v b)

-- so a row can have one coefficient more
pub pushed-wide : (o n k : ℕ) (v : List Float) (f : ℕ → Float) (x s : Float) (w w' : List Float) → n ≤ 16 → o + k * 18 + 18 ≤ length w' → tab n f ≡ v
    → Block (o + k * 18) n f w w' → Pushed o (n + 1) k (k + 1) (row_of (v ++ (x ∷ [])) s ∷ []) w (set (set w' (o + k * 18 + n) x) (o + k * 18 + n + 1) s)
pushed-wide o n k v f x s w w' h l e b =
    let p = o + k * 18 in
    let u = v ++ (x ∷ []) in
    let lu : length u ≡ n + 1 = rw (length-append, ← e, length-tab) in
    let ls : length (set w' (p + n) x) ≡ length w' = length-set w' (p + n) x in
    let q : p + (n + 1) ≡ p + n + 1 = omega arith in
    rw q at
    (pushed_row o (n + 1) k u (λ t. at u t) s w (set w' (p + n) x) (omega arith) (omega arith) (sym (by_entries (n + 1) u lu))
    (written_behind p n v f x w w' (omega arith) e b))

-- ---- a loop that pushes f 0, f 1, ..

pub each-suc : {A : Type 0} (j : ℕ) (f : ℕ → List A) → each (suc j) f ≡ each j f ++ f j
unfolding each
each-suc zero f = append-nil (f zero)
each-suc {A = A} (suc j) f = ap (λ (t : List A). f zero ++ t) (each-suc j (λ i. f (suc i))) ∙ sym (append_assoc (f zero) (each j (λ i. f (suc i))) (f (suc j)))

pub each_none : (o n k : ℕ) (f : ℕ → List Row) (w : List Float) → Pushed o n k k (each 0 f) w w
unfolding each
each_none o n k f w = pushed_none o n k w

pub each_more : (o n k c d j : ℕ) (f : ℕ → List Row) (w w' w'' : List Float) → Pushed o n k c (each j f) w w' → Pushed o n c d (f j) w' w'' → Pushed o n k d (each (j + 1) f) w w''
each_more o n k c d j f w w' w'' p q = rw (add-one, each-suc) (pushed-both o n k c d (each j f) (f j) w w' w'' p q)

-- ---- what the rows read as

matrix-tab : (c : ℕ) (f : ℕ → List Float) (s : ℕ → Float) → matrix_of (tab c (λ i. row_of (f i) (s i))) ≡ rows c f
unfolding matrix_of tab rows
matrix-tab zero f s = refl
matrix-tab (suc c) f s = ap (λ (l : List Float). f 0 ++ l) (matrix-tab c (λ i. f (suc i)) (λ i. s (suc i)))

sides-tab : (c : ℕ) (f : ℕ → List Float) (s : ℕ → Float) → sides_of (tab c (λ i. row_of (f i) (s i))) ≡ tab c s
unfolding sides_of tab
sides-tab zero f s = refl
sides-tab (suc c) f s = ap (λ (l : List Float). s 0 ∷ l) (sides-tab c (λ i. f (suc i)) (λ i. s (suc i)))

matrix-rows : (o n c : ℕ) (w : List Float) → matrix_of (rows_in o n c w) ≡ stack o c n w
unfolding rows_in stack
matrix-rows o n c w = matrix-tab c _ _

sides-rows : (o n c : ℕ) (w : List Float) → sides_of (rows_in o n c w) ≡ tab c (λ i. at w (o + i * 18 + n))
unfolding rows_in
sides-rows o n c w = sides-tab c _ _

-- from no row on: how many there are, their matrix, and their sides
module _ (o n c : ℕ) (rs : List Row) (w w' : List Float) (p : Pushed o n 0 c rs w w') where
  pub pushed-all : rows_in o n c w' ≡ rs
  pushed-all = p.rows ∙ ap (λ (l : List Row). l ++ rs) (rows_none o n w)

  pub pushed-count : c ≡ length rs
  pushed-count = sym (length-rows_in o n c w') ∙ ap length pushed-all

  pub pushed-matrix : stack o c n w' ≡ matrix_of rs
  pushed-matrix = sym (matrix-rows o n c w') ∙ ap matrix_of pushed-all

  pub pushed-sides : tab c (λ i. at w' (o + i * 18 + n)) ≡ sides_of rs
  pushed-sides = sym (sides-rows o n c w') ∙ ap sides_of pushed-all
