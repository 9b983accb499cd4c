-- Householder QR with column pivoting, A P = Q R (docs/RULES.md, "QR with column pivoting"; Lawson and Hanson, Algorithms H1 and H2). Definitions only.
use Rattle.std.specs.Prelude.{ℕ, zero, suc, ◌+◌, ◌-◌, ◌*◌, min, max, Bool, true, false, cond, List, ltb, eqb, drop, set, replicate, Float}
use Rattle.std.specs.Float.Ieee.{eq, lt, le, neg}
use Rattle.numbers.specs.Numbers.{+0, -1, near, epsilon, ◌⊕◌, ◌⊖◌, ◌⊗◌, ◌⊘◌, Σ, at, nth, tab, scatter, entry, rows, grid, row, column, transposed}
use Rattle.norms.specs.Norm.{norm}
use Rattle.householder.specs.declared.Candidate.{Candidate}

-- ---- a reflector H = I + u u' / b, whose u has m places with +0 before row k

-- the dot product of u with v, from row k on
unfoldable pub along : ℕ → ℕ → List Float → List Float → Float
along m k u v = Σ (m - k) (λ t. at u (k + t) ⊗ at v (k + t))

-- Algorithm H2: v under H. A dot of exactly zero leaves v; else v_i + dot / b * u_i from row k on.
unfoldable pub image : ℕ → ℕ → List Float → Float → List Float → List Float
image m k u b v =
    let d = along m k u v in
    let scale = d ⊘ b in
    cond (eq d +0) v (tab m (λ i. cond (ltb i k) (at v i) (at v i ⊕ scale ⊗ at u i)))

-- ---- the pivot of step k

-- the norm of column j, from row k on
unfoldable pub column_norm : ℕ → ℕ → ℕ → List Float → ℕ → Float
column_norm m n k r j = norm (drop k (column m n j r))

-- only a strictly larger norm replaces the candidate
abbrev pub better : Candidate → Candidate → Candidate
better best next = cond (lt best.norm next.norm) next best

-- the best of the c columns from k on, starting at (k, -1)
unfoldable pub pivot : ℕ → ℕ → ℕ → List Float → ℕ → Candidate
pivot m n k r zero = record { index = k; norm = -1 }
pivot m n k r (suc c) = better (pivot m n k r c) (record { index = k + c; norm = column_norm m n k r (k + c) })

-- ---- one step

-- The rank so far, R, the permutation, and min(m, n) reflectors: u, a row of m places for each, and b. Those past the rank are all +0.
pub record Factors : Type 0 where
  pub rank : ℕ
  pub r : List Float
  pub perm : List ℕ
  pub u : List Float
  pub b : List Float

-- j with k and p exchanged
abbrev pub exchange : ℕ → ℕ → ℕ → ℕ
exchange k p j = cond (eqb j k) p (cond (eqb j p) k j)

unfoldable pub swapped : ℕ → ℕ → ℕ → ℕ → List Float → List Float
swapped m n k p r = grid m n (λ i j. entry n r i (exchange k p j))

-- the new diagonal entry: -largest where the head is above zero, else +largest
abbrev pub signed : Float → Float → Float
signed head largest = cond (lt +0 head) (neg largest) largest

-- Algorithm H1: u of reflector k, made of column k. Its entry k is the head less the new diagonal entry s.
unfoldable pub reflector : ℕ → ℕ → ℕ → Float → List Float → List Float
reflector m n k s r = tab m (λ i. cond (ltb i k) +0 (cond (eqb i k) (entry n r k k ⊖ s) (entry n r i k)))

-- column k with s on the diagonal and +0 below it
unfoldable pub pinned : ℕ → ℕ → ℕ → Float → List Float → List Float
pinned m n k s r = tab m (λ i. cond (ltb i k) (entry n r i k) (cond (eqb i k) s +0))

-- column j after step k: as it was before k, pinned at k, under the reflector past k
abbrev pub stepped : ℕ → ℕ → ℕ → Float → List Float → Float → List Float → ℕ → List Float
stepped m n k s u b r j =
    cond (ltb j k) (column m n j r) (cond (eqb j k) (pinned m n k s r) (image m k u b (column m n j r)))

-- step k on the column of the candidate
unfoldable pub advance : ℕ → ℕ → ℕ → Candidate → Factors → Factors
advance m n k best f =
    let p = best.index in
    let r = swapped m n k p f.r in
    let s = signed (entry n r k k) best.norm in
    let u = reflector m n k s r in
    let b = s ⊗ at u k in
    record {
      rank = k + 1;
      r = transposed n m (rows n (stepped m n k s u b r));
      perm = set (set f.perm k (nth f.perm p)) p (nth f.perm k);
      u = rows (min m n) (λ i. cond (eqb i k) u (row m i f.u));
      b = set f.b k b;
    }

-- ---- all steps

-- max(m, n) * EPSILON * the largest norm of step 0
abbrev pub tolerance : ℕ → ℕ → Float → Float
tolerance m n largest = near (max m n) 1 ⊗ epsilon ⊗ largest

-- go on, unless the largest norm is at most the tolerance
abbrev pub stop_if : Bool → Factors → Factors → Factors
stop_if true f more = f
stop_if false f more = more

-- `left` steps more from step k on; `old` is the tolerance, fixed at step 0
unfoldable pub steps : (m n left k : ℕ) → Float → Factors → Factors
steps m n zero k old f = f
steps m n (suc left) k old f =
    let best = pivot m n k f.r (n - k) in
    let tol = cond (eqb k 0) (tolerance m n best.norm) old in
    stop_if (le best.norm tol) f (steps m n left (k + 1) tol (advance m n k best f))

-- before step 0
abbrev pub start : ℕ → ℕ → List Float → Factors
start m n a = record { rank = 0; r = a; perm = tab n (λ j. j); u = replicate (min m n * m) +0; b = replicate (min m n) +0 }

-- the factors of the m by n matrix a
unfoldable pub factor : ℕ → ℕ → List Float → Factors
factor m n a = steps m n (min m n) 0 +0 (start m n a)

-- The column standing next after those taken, before any swap for it, by its index in the matrix factored: where the rank falls short of the columns, this one could not be taken.
abbrev pub standing : Factors → ℕ
standing q = nth q.perm q.rank

-- ---- Q and R of m by n factors applied

-- v under reflector k
abbrev pub reflect : ℕ → Factors → ℕ → List Float → List Float
reflect m f k v = image m k (row m k f.u) (at f.b k) v

-- v under the first c reflectors, from the first to the last
unfoldable pub forth : ℕ → Factors → ℕ → List Float → List Float
forth m f zero v = v
forth m f (suc k) v = reflect m f k (forth m f k v)

-- v under the first c reflectors, from the last to the first
unfoldable pub back : ℕ → Factors → ℕ → List Float → List Float
back m f zero v = v
back m f (suc k) v = back m f k (reflect m f k v)

-- Q'v, and Q v
unfoldable pub apply_qt : ℕ → Factors → List Float → List Float
apply_qt m f v = forth m f f.rank v

unfoldable pub apply_q : ℕ → Factors → List Float → List Float
apply_q m f v = back m f f.rank v

-- R z = y by back substitution: rows i - 1 down to 0 are still to do, of c
unfoldable pub upward : ℕ → ℕ → List Float → ℕ → List Float → List Float
upward n c r zero y = y
upward n c r (suc i) y =
    let tail = Σ (c - (i + 1)) (λ t. entry n r i (i + 1 + t) ⊗ at y (i + 1 + t)) in
    upward n c r i (set y i ((at y i ⊖ tail) ⊘ entry n r i i))

-- on the first `rank` entries of y
unfoldable pub solve_r : ℕ → Factors → List Float → List Float
solve_r n f y = upward n f.rank f.r f.rank y

-- R'z = y by forward substitution: the first i rows
unfoldable pub downward : ℕ → List Float → ℕ → List Float → List Float
downward n r zero y = y
downward n r (suc i) y =
    let z = downward n r i y in
    let head = Σ i (λ j. entry n r j i ⊗ at z j) in
    set z i ((at z i ⊖ head) ⊘ entry n r i i)

-- on the first `rank` entries of y
unfoldable pub solve_rt : ℕ → Factors → List Float → List Float
solve_rt n f y = downward n f.r f.rank y

-- the basic least-squares solution of A x = b, with +0 past the rank
unfoldable pub solve : ℕ → ℕ → Factors → List Float → List Float
solve m n f b = scatter f.rank f.perm (solve_r n f (apply_qt m f b)) (replicate n +0)
