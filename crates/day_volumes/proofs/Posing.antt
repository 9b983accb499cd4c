-- What a sheet poses, number by number: volumes, values, entries of limits, and the rows that the loop has written.
use mathlib.Core.Path.{◌≡◌, refl, sym, ap, subst, ◌∙◌}
use mathlib.Core.Bool.{Bool, true, false, cond, not}
use mathlib.Core.List.{List, [], ◌∷◌, ◌++◌}
use mathlib.Core.Logic.{⊎_elim}
use Prim.Native.Nat.{ℕ, suc, ◌+◌, ◌-◌, ◌*◌, ◌≤◌, ◌<◌}
use native.Mathlib.Nat.{suc-mul, zero-mul, mul-le-mul_right}
use native.Mathlib.Numerals.{add-one}
use native.Mathlib.Omega.{arith}
use borrow.Author.Tests.{lt-ltb, le-ltb, eq-eqb, ne_eqb}
use lib.Dec.{eqb}
use lib.IntN.{pos}
use lib.ListN.{length, get_or, set, take, length-append, get_or-append}
use lib.Seq.{take_all, take-suc-set, get_or-take, get_or-append-add, ext_get_or, length-take-le}
use lib.Ieee.{Float, nan, binary64, neg, of_int, of_bits, round}
use Rattle.numbers.specs.Numbers.{+0, -1, near, one, ◌⊖◌, ◌⊘◌, at, nth, tab, rows, grid}
use Rattle.numbers.proofs.Cases.{lt-or-ge}
use Rattle.numbers.proofs.Lists.{length-tab, get_d-tab, grid-more}
use Rattle.workspace.specs.Readings.{Block}
use Rattle.workspace.proofs.Readings.{lit-+0, lit-one}
use Rattle.householder.proofs.Leading.{lit--1}
use Rattle.workspace.proofs.Writes.{written_as}
use Rattle.totaliser.specs.Volume.{volume}
use Rattle.day_volumes.specs.Posed.{balance_row, value_of, values, balances, is_limit, turned, limit_entry, least_of, limits, least}
use Rattle.day_volumes.specs.inner.Work.{Limiting, LimitsIn}

-- ---- values

lit-two : of_bits binary64 4611686018427387904 ≡ near 2 1
unfolding of_bits round
lit-two = refl

pub volume-up : (old new : ℕ) → old ≤ new → new - old ≡ volume old new
unfolding volume
volume-up old new h = rw (le-ltb new old h) refl

pub volume-none : (old new : ℕ) → new < old → 1000000 < old - new → 0 ≡ volume old new
unfolding volume
volume-none old new h l = rw (lt-ltb new old h) (let e : 0 ≡ new + 1000000 - old = omega arith in e)

pub volume-turned : (old new : ℕ) → new < old → old - new ≤ 1000000 → 1000000 - (old - new) ≡ volume old new
unfolding volume
volume-turned old new h l = rw (lt-ltb new old h) (let e : 1000000 - (old - new) ≡ new + 1000000 - old = omega arith in e)

module _ (kind old new : ℕ) (spread before after : Float) where
  pub value-meter : (k : ℕ) → kind ≡ 0 → k ≡ volume old new → of_int binary64 (pos k) ≡ value_of kind old new spread before after
  unfolding value_of of_int
  value-meter k h e = rw (eq-eqb kind 0 h, e) refl

  pub value_line : (kind ≡ 0 → ⊥) → kind ≡ 1 → spread ⊘ of_bits binary64 4611686018427387904 ≡ value_of kind old new spread before after
  unfolding value_of
  value_line n h = rw (ne_eqb kind 0 n, eq-eqb kind 1 h) (ap (λ (v : Float). spread ⊘ v) lit-two)

  pub value-stock : (kind ≡ 0 → ⊥) → (kind ≡ 1 → ⊥) → before ⊖ after ≡ value_of kind old new spread before after
  unfolding value_of
  value-stock n l = rw (ne_eqb kind 0 n, ne_eqb kind 1 l) refl

-- ---- rows, one after the other

-- a written block lengthens what stands at the front
pub front-more : (o c : ℕ) (g : ℕ → Float) (w w' : List Float) → o + c ≤ length w → length w' ≡ length w → Block o c g w w' → take (o + c) w' ≡ take o w ++ tab c g
front-more o c g w w' h l b =
    let la : length (take (o + c) w') ≡ o + c = length-take-le (o + c) w' (omega arith) in
    let lo : length (take o w) ≡ o = length-take-le o w (omega arith) in
    let lr : length (take o w ++ tab c g) ≡ o + c = simp (length-append, length-tab, lo) in
    ext_get_or nan (take (o + c) w') (take o w ++ tab c g) (la ∙ sym lr)
    (λ i k.
    let s : i < o + c = omega arith in
    ⊎_elim
    (λ (q : i < o). rw (get_or-append (take o w) (tab c g) nan i (omega arith), get_or-take, get_or-take) (b.before i q))
    (λ (q : o ≤ i). let e : i ≡ o + (i - o) = omega arith in
    let r : i - o < c = omega arith in
    let u : get_or (take o w ++ tab c g) (o + (i - o)) nan ≡ g (i - o) = ap (λ (y : ℕ). get_or (take o w ++ tab c g) (y + (i - o)) nan) (sym lo) ∙ get_or-append-add (take o w) (tab c g) (i - o) nan ∙ get_d-tab c g nan (i - o) r in
    let v : get_or (take (o + c) w') i nan ≡ g (i - o) = rw get_or-take (ap (λ (y : ℕ). get_or w' y nan) e ∙ b.inside (i - o) r) in
    v ∙ sym u ∙ ap (λ (y : ℕ). get_or (take o w ++ tab c g) y nan) (sym e))
    (lt-or-ge i o))

module _ (n : ℕ) (g : ℕ → ℕ → Float) where
  pub rows_none : (out : List Float) → take (0 * n) out ≡ grid 0 n g
  unfolding grid rows
  rows_none out = rw zero-mul refl

  pub rows_more : (j : ℕ) (out out' : List Float) → j * n + n ≤ length out → length out' ≡ length out → Block (j * n) n (g j) out out' → take (j * n) out ≡ grid j n g → take ((j + 1) * n) out' ≡ grid (j + 1) n g
  rows_more j out out' h l b e =
      let s : (j + 1) * n ≡ j * n + n = rw add-one (suc-mul j n) in
      rw (s, grid-more, ← e) (front-more (j * n) n (g j) out out' h l b)

  pub rows_all : (m j : ℕ) (out : List Float) → j ≡ m → length out ≡ m * n → take (j * n) out ≡ grid j n g → out ≡ grid m n g
  rows_all m j out q l e = sym (take_all (m * n) out (omega arith)) ∙ (rw q at e)

-- the entries of a row as the code counts them
pub row_as : (n j : ℕ) (f out out' : List Float) → Block (j * n) n (λ t. at f (48 + 16 * j + t * 1)) out out' → Block (j * n) n (λ i. at f (balance_row j + i)) out out'
row_as n j f out out' b = written_as nan (j * n) n (λ t. at f (48 + 16 * j + t * 1)) (λ i. at f (balance_row j + i)) out out' (λ t h. let e : t * 1 ≡ t = omega arith in rw e refl) b

pub balances-are : (n m : ℕ) (f out : List Float) → out ≡ grid m n (λ j i. at f (balance_row j + i)) → out ≡ balances n m f
unfolding balances
balances-are n m f out e = e

-- ---- limits

pub own_same : (b : Bool) (c : Float) → b ≡ true → c ≡ cond b c +0
own_same b c e = rw e refl

pub own-other : (b : Bool) (c : Float) → b ≡ false → of_bits binary64 0 ≡ cond b c +0
own-other b c e = rw e lit-+0

pub own-one : (b : Bool) → cond b (of_bits binary64 4607182418800017408) +0 ≡ cond b one +0
own-one b = ap (λ (v : Float). cond b v +0) lit-one

pub own-minus : (b : Bool) → cond b (neg (of_bits binary64 4607182418800017408)) +0 ≡ cond b -1 +0
own-minus b = ap (λ (v : Float). cond b v +0) lit--1

pub turn-ceiling : (k : ℕ) (x : Float) → k ≡ 1 → neg x ≡ turned (eqb k 1) x
turn-ceiling k x e = rw (eq-eqb k 1 e) refl

pub turn-floor : (k : ℕ) (x : Float) → (k ≡ 1 → ⊥) → x ≡ turned (eqb k 1) x
turn-floor k x e = rw (ne_eqb k 1 e) refl

pub stock-none : (k mark : ℕ) → k ≡ 2 → 0 ≡ cond (eqb k 2) 0 mark
stock-none k mark e = rw (eq-eqb k 2 e) refl

pub other-kept : (k mark : ℕ) → (k ≡ 2 → ⊥) → mark ≡ cond (eqb k 2) 0 mark
other-kept k mark e = rw (ne_eqb k 2 e) refl

module _ (n : ℕ) (z : List ℕ) (k : ℕ) where
  pub limit-zero : (b : Bool) → k < n → b ≡ eqb (nth z (32 + k)) 2 → not b ≡ is_limit n z k
  unfolding is_limit
  limit-zero b h e = rw (lt-ltb k n h, e) refl

  pub limit-capacity : (x : ℕ) → n ≤ k → k < n + n → x ≡ 32 + (k - n) → eqb (nth z x) 1 ≡ is_limit n z k
  unfolding is_limit
  limit-capacity x l h e = rw (le-ltb k n l, lt-ltb k (n + n) h, e) refl

  pub limit-given : n ≤ k → n + n ≤ k → true ≡ is_limit n z k
  unfolding is_limit
  limit-given l h = rw (le-ltb k n l, le-ltb k (n + n) h) refl

module _ (n : ℕ) (z : List ℕ) (f : List Float) (k : ℕ) where
  pub entry_zero : (i : ℕ) (v : Float) → k < n → v ≡ cond (eqb i k) one +0 → v ≡ limit_entry n z f k i
  unfolding limit_entry
  entry_zero i v h e = rw (lt-ltb k n h) e

  pub entry-capacity : (i : ℕ) (v : Float) → n ≤ k → k < n + n → v ≡ cond (eqb i (k - n)) -1 +0 → v ≡ limit_entry n z f k i
  unfolding limit_entry
  entry-capacity i v l h e = rw (le-ltb k n l, lt-ltb k (n + n) h) e

  pub entry-given : (i : ℕ) (v : Float) → n ≤ k → n + n ≤ k → v ≡ turned (eqb (nth z (48 + (k - (n + n)))) 1) (at f (320 + 16 * (k - (n + n)) + i)) → v ≡ limit_entry n z f k i
  unfolding limit_entry
  entry-given i v l h e = rw (le-ltb k n l, le-ltb k (n + n) h) e

  pub least_zero : k < n → of_bits binary64 0 ≡ least_of n z f k
  unfolding least_of
  least_zero h = rw (lt-ltb k n h) lit-+0

  pub least-capacity : n ≤ k → k < n + n → neg (at f (k - n)) ≡ least_of n z f k
  unfolding least_of
  least-capacity l h = rw (le-ltb k n l, lt-ltb k (n + n) h) refl

  pub least-given : (v : Float) → n ≤ k → n + n ≤ k → v ≡ turned (eqb (nth z (48 + (k - (n + n)))) 1) (at f (304 + (k - (n + n)))) → v ≡ least_of n z f k
  unfolding least_of
  least-given v l h e = rw (le-ltb k n l, le-ltb k (n + n) h) e

not-given : (n : ℕ) (z : List ℕ) (k : ℕ) → is_limit n z k ≡ false → k < n + n
not-given n z k e = ⊎_elim (λ (h : k < n + n). h) (λ (h : n + n ≤ k). absurd (let t : true ≡ false = limit-given n z k (omega arith) h ∙ e in true≢false t)) (lt-or-ge k (n + n))
  where
    true≢false : true ≡ false → ⊥
    true≢false p = subst (λ (b : Bool). cond b Unit ⊥) p tt

module _ (n : ℕ) (z : List ℕ) (f : List Float) where
  pub limiting-none : (rows least' : List Float) → Limiting n z f 0 0 rows least'
  unfolding limits least
  limiting-none rows least' = record { count = refl; few = omega arith; last = omega arith; the_rows = rw zero-mul refl; the_least = refl }

  module _ (k p : ℕ) (rows least' : List Float) (r : Limiting n z f k p rows least') where
    pub limiting-skip : is_limit n z k ≡ false → Limiting n z f (k + 1) p rows least'
    unfolding limits least
    limiting-skip e =
        let h : k < n + n = not-given n z k e in
        let a : limits n z f (suc k) ≡ limits n z f k = rw e refl in
        let b : least n z f (suc k) ≡ least n z f k = rw e refl in
        let s : k + 1 ≡ suc k = add-one k in
        record {
          count = r.count ∙ ap length (sym b) ∙ ap (λ (x : ℕ). length (least n z f x)) (sym s);
          few = omega (arith, r.few);
          last = omega arith;
          the_rows = r.the_rows ∙ sym a ∙ ap (λ (x : ℕ). limits n z f x) (sym s);
          the_least = r.the_least ∙ sym b ∙ ap (λ (x : ℕ). least n z f x) (sym s);
        }

    pub limiting-more : (rows' : List Float) (v : Float) → is_limit n z k ≡ true → p * n + n ≤ length rows → length rows' ≡ length rows → Block (p * n) n (limit_entry n z f k) rows rows' → p < length least' → v ≡ least_of n z f k
        → Limiting n z f (k + 1) (p + 1) rows' (set least' p v)
    unfolding limits least
    limiting-more rows' v e h l b g q =
        let a : limits n z f (suc k) ≡ limits n z f k ++ tab n (limit_entry n z f k) = rw e refl in
        let d : least n z f (suc k) ≡ least n z f k ++ (least_of n z f k ∷ []) = rw e refl in
        let s : k + 1 ≡ suc k = add-one k in
        let t : (p + 1) * n ≡ p * n + n = rw add-one (suc-mul p n) in
        let y : p + 1 ≡ suc p = add-one p in
        let u₀ : take (p + 1) (set least' p v) ≡ take p least' ++ (v ∷ []) = rw y (take-suc-set least' p v g) in
        let u₁ : take p least' ++ (v ∷ []) ≡ least n z f k ++ (least_of n z f k ∷ []) = rw (r.the_least, q) refl in
        let g₀ : take ((p + 1) * n) rows' ≡ take (p * n) rows ++ tab n (limit_entry n z f k) = rw t (front-more (p * n) n (limit_entry n z f k) rows rows' h l b) in
        let g₁ : take (p * n) rows ++ tab n (limit_entry n z f k) ≡ limits n z f (suc k) = rw r.the_rows (sym a) in
        let c : length (least n z f (suc k)) ≡ length (least n z f k) + 1 = ap length d ∙ length-append (least n z f k) (least_of n z f k ∷ []) in
        record {
          count = ap (λ (x : ℕ). x + 1) r.count ∙ sym c ∙ ap (λ (x : ℕ). length (least n z f x)) (sym s);
          few = omega (arith, r.few);
          last = omega (arith, r.last);
          the_rows = g₀ ∙ g₁ ∙ ap (λ (x : ℕ). limits n z f x) (sym s);
          the_least = u₀ ∙ u₁ ∙ sym d ∙ ap (λ (x : ℕ). least n z f x) (sym s);
        }

    pub limiting-done : (q : ℕ) → k ≡ n + n + q → LimitsIn n q z f p rows least'
    limiting-done q e = record {
      count = r.count ∙ ap (λ (x : ℕ). length (least n z f x)) e;
      few = omega (arith, r.few);
      last = omega (arith, r.last);
      the_rows = r.the_rows ∙ ap (λ (x : ℕ). limits n z f x) e;
      the_least = r.the_least ∙ ap (λ (x : ℕ). least n z f x) e;
    }

-- there is room for a row more
pub room-more : (n p k : ℕ) → n ≤ 16 → p ≤ k → k < n + n + 16 → p * n + n ≤ 768
room-more n p k hn l h = let t : suc p * n ≤ 48 * n = mul-le-mul_right n (omega arith) in omega (arith, suc-mul p n)

pub values-are : (n : ℕ) (z : List ℕ) (f v : List Float) → v ≡ tab n (λ i. value_of (nth z (32 + i)) (nth z i) (nth z (16 + i)) (at f i) (at f (16 + i)) (at f (32 + i))) → v ≡ values n z f
unfolding values
values-are n z f v e = e

pub square-fits : (n m : ℕ) → n ≤ 16 → m ≤ 16 → m * n ≤ 256
square-fits n m h l = let p : m * n ≤ 16 * n = mul-le-mul_right n l in omega (arith, p)

pub product-fits : (n p q : ℕ) → n ≤ 16 → q ≤ 16 → p ≤ n + n + q → p * n ≤ 768
product-fits n p q h l k = let t : p * n ≤ 48 * n = mul-le-mul_right n (omega arith) in omega (arith, t)
