-- A written block as a table, and the tables of what is found.
use mathlib.Core.Path.{◌≡◌, refl, sym, ap, ◌∙◌}
use mathlib.Core.Bool.{Bool, true, false, cond, ◌&&◌}
use mathlib.Core.List.{List}
use mathlib.Core.Logic.{⊎_elim}
use Prim.Native.Nat.{ℕ, ◌+◌, ◌-◌, ◌*◌, ◌≤◌, ◌<◌}
use native.Mathlib.Omega.{arith}
use borrow.Author.Tests.{lt-ltb, le-ltb, le-leb, lt-leb}
use lib.Dec.{leb, ltb}
use lib.ListN.{length, get_or, set, length-set, length-replicate}
use lib.Seq.{ext_get_or, get_or-set_same, get_or-set_other}
use lib.Ieee.{Float, nan}
use Rattle.numbers.specs.Numbers.{+0, ◌⊗◌, Σ, at, nth, tab}
use Rattle.numbers.proofs.Cases.{lt-or-ge, eq-or-ne}
use Rattle.numbers.proofs.Lists.{length-tab, get_d-tab, tab-of, tab-same}
use Rattle.numbers.proofs.Sums.{Σ-same}
use Rattle.workspace.specs.Readings.{Written, Block, Span}
use Rattle.day_volumes.specs.Found.{laid, row_times, flag, no_figures, no_signs}
use Rattle.day_volumes.specs.inner.Work.{item_figures, sum_figures, all_figures, test_signs, within_signs}
use Rattle.interval.specs.Intervals.{is_finite}
use Rattle.certain.specs.Bound.{closes, keeps, kept}

pub length-laid : {A : Type 0} (d : A) (o c : ℕ) (g : ℕ → A) (t : List A) → length (laid d o c g t) ≡ length t
unfolding laid
length-laid d o c g t = length-tab (length t) _

-- an entry inside, and one outside
inside : {A : Type 0} (o c k : ℕ) (a b : A) → o ≤ k → k < o + c → cond (leb o k && ltb k (o + c)) a b ≡ a
inside o c k a b h l = rw (le-leb o k h, lt-ltb k (o + c) l) refl

before : {A : Type 0} (o c k : ℕ) (a b : A) → k < o → cond (leb o k && ltb k (o + c)) a b ≡ b
before o c k a b h = rw (lt-leb o k h) refl

behind : {A : Type 0} (o c k : ℕ) (a b : A) → o ≤ k → o + c ≤ k → cond (leb o k && ltb k (o + c)) a b ≡ b
behind o c k a b h l = rw (le-leb o k h, le-ltb k (o + c) l) refl

pub laid-is : {A : Type 0} (d : A) (o c : ℕ) (g : ℕ → A) (w w' : List A) → length w' ≡ length w → Written d o c g w w' → w' ≡ laid d o c g w
unfolding laid
laid-is d o c g w w' l b =
    tab-of (length w) w' (λ k. cond (leb o k && ltb k (o + c)) (g (k - o)) (get_or w k d)) d l
    (λ k h.
    ⊎_elim
    (λ (q : k < o). b.before k q ∙ sym (before o c k (g (k - o)) (get_or w k d) q))
    (λ (q : o ≤ k).
    ⊎_elim
    (λ (s : k < o + c). let e : k ≡ o + (k - o) = omega arith in ap (λ (y : ℕ). get_or w' y d) e ∙ b.inside (k - o) (omega arith) ∙ sym (inside o c k (g (k - o)) (get_or w k d) q s))
    (λ (s : o + c ≤ k). b.after k s ∙ sym (behind o c k (g (k - o)) (get_or w k d) q s))
    (lt-or-ge k (o + c)))
    (lt-or-ge k o))

-- entries by another rule
pub laid_as : {A : Type 0} (d : A) (o c : ℕ) (g h : ℕ → A) (t : List A) → ((k : ℕ) → k < c → g k ≡ h k) → laid d o c g t ≡ laid d o c h t
unfolding laid
laid_as d o c g h t e =
    tab-same (length t) _ _
    (λ k l.
    ⊎_elim
    (λ (q : k < o). before o c k (g (k - o)) (get_or t k d) q ∙ sym (before o c k (h (k - o)) (get_or t k d) q))
    (λ (q : o ≤ k).
    ⊎_elim
    (λ (s : k < o + c). inside o c k (g (k - o)) (get_or t k d) q s ∙ e (k - o) (omega arith) ∙ sym (inside o c k (h (k - o)) (get_or t k d) q s))
    (λ (s : o + c ≤ k). behind o c k (g (k - o)) (get_or t k d) q s ∙ sym (behind o c k (h (k - o)) (get_or t k d) q s))
    (lt-or-ge k (o + c)))
    (lt-or-ge k o))

-- a row times a vector, as the code sums it
pub row-times : (n : ℕ) (f v : List Float) (o : ℕ) → Σ n (λ i. at f (o + i * 1) ⊗ at v (0 + i * 1)) ≡ row_times n f o v
unfolding row_times
row-times n f v o = Σ-same n _ _ (λ i h. let a : i * 1 ≡ i = omega arith in let b : 0 + i * 1 ≡ i = omega arith in rw (b, a) refl)

-- five blocks, one written after the other
pub items-laid : (n : ℕ) (values x tests t t₁ t₂ t₃ t₄ t₅ : List Float)
    → length t₁ ≡ length t → length t₂ ≡ length t₁ → length t₃ ≡ length t₂ → length t₄ ≡ length t₃ → length t₅ ≡ length t₄
    → Block 0 n (λ i. at values i) t t₁ → Block 16 n (λ i. at x i) t₁ t₂ → Block 32 n (λ i. at tests (n + i * 1)) t₂ t₃ → Block 48 n (λ i. at tests (n + n + i * 1)) t₃ t₄ → Block 64 n (λ i. at tests (0 + i * 1)) t₄ t₅
    → t₅ ≡ item_figures n values x tests t
items-laid n values x tests t t₁ t₂ t₃ t₄ t₅ l₁ l₂ l₃ l₄ l₅ b₁ b₂ b₃ b₄ b₅ =
    let e₁ = laid-is nan 0 n (λ i. at values i) t t₁ l₁ b₁ in
    let e₂ = laid-is nan 16 n (λ i. at x i) t₁ t₂ l₂ b₂ in
    let e₃ = laid-is nan 32 n (λ i. at tests (n + i * 1)) t₂ t₃ l₃ b₃ in
    let e₄ = laid-is nan 48 n (λ i. at tests (n + n + i * 1)) t₃ t₄ l₄ b₄ in
    let e₅ = laid-is nan 64 n (λ i. at tests (0 + i * 1)) t₄ t₅ l₅ b₅ in
    e₅ ∙ ap (λ (u : List Float). laid nan 64 n (λ i. at tests (0 + i * 1)) u)
    (e₄ ∙ ap (λ (u : List Float). laid nan 48 n (λ i. at tests (n + n + i * 1)) u)
    (e₃ ∙ ap (λ (u : List Float). laid nan 32 n (λ i. at tests (n + i * 1)) u)
    (e₂ ∙ ap (λ (u : List Float). laid nan 16 n (λ i. at x i) u) e₁)))

-- three blocks of sums
pub sums-laid : (n m q : ℕ) (f values x t t₁ t₂ t₃ : List Float) → length t₁ ≡ length t → length t₂ ≡ length t₁ → length t₃ ≡ length t₂
    → Block 80 m (λ j. row_times n f (48 + 16 * j) values) t t₁ → Block 96 m (λ j. row_times n f (48 + 16 * j) x) t₁ t₂ → Block 112 q (λ j. row_times n f (320 + 16 * j) x) t₂ t₃
    → t₃ ≡ sum_figures n m q f values x t
sums-laid n m q f values x t t₁ t₂ t₃ l₁ l₂ l₃ b₁ b₂ b₃ =
    let e₁ = laid-is nan 80 m (λ j. row_times n f (48 + 16 * j) values) t t₁ l₁ b₁ in
    let e₂ = laid-is nan 96 m (λ j. row_times n f (48 + 16 * j) x) t₁ t₂ l₂ b₂ in
    let e₃ = laid-is nan 112 q (λ j. row_times n f (320 + 16 * j) x) t₂ t₃ l₃ b₃ in
    e₃ ∙ ap (λ (u : List Float). laid nan 112 q (λ j. row_times n f (320 + 16 * j) x) u) (e₂ ∙ ap (λ (u : List Float). laid nan 96 m (λ j. row_times n f (48 + 16 * j) x) u) e₁)

-- ---- whether all is kept

pub not_finite : (a b : Bool) → a ≡ false → false ≡ (a && b)
not_finite a b e = rw e refl

pub if-finite : (a b : Bool) → a ≡ true → b ≡ (a && b)
if-finite a b e = rw e refl

pub flag-yes : (b : Bool) → b ≡ true → 1 ≡ flag b
flag-yes b e = rw e refl

pub flag-no : (b : Bool) → b ≡ false → 0 ≡ flag b
flag-no b e = rw e refl

-- ---- signs, as they are written

pub tests-laid : (n : ℕ) (marks : List ℕ) (freedom flagged : ℕ) (agree : Bool) (t t₁ : List ℕ) → length t₁ ≡ length t → Span 0 n (λ i. nth marks i) t t₁ → flagged ≡ flag agree
    → set (set t₁ 48 freedom) 49 flagged ≡ test_signs n marks freedom agree t
tests-laid n marks freedom flagged agree t t₁ l b e = rw (laid-is 0 0 n (λ i. nth marks i) t t₁ l b, e) refl

pub within-laid : (n m p q : ℕ) (balances limits least x : List Float) (tolerance : Float) (flagged : ℕ) (t t₁ t₂ : List ℕ) → length t₁ ≡ length t → length t₂ ≡ length t₁
    → Span 16 m (λ j. flag (closes n j balances x tolerance)) t t₁ → Span 32 q (λ j. flag (keeps n (p - q + j) limits least x tolerance)) t₁ t₂
    → flagged ≡ flag (is_finite tolerance && kept n m p balances limits least x tolerance)
    → set t₂ 50 flagged ≡ within_signs n m p q balances limits least x tolerance t
within-laid n m p q balances limits least x tolerance flagged t t₁ t₂ l₁ l₂ b₁ b₂ e =
    let e₁ = laid-is 0 16 m (λ j. flag (closes n j balances x tolerance)) t t₁ l₁ b₁ in
    let e₂ = laid-is 0 32 q (λ j. flag (keeps n (p - q + j) limits least x tolerance)) t₁ t₂ l₂ b₂ in
    ap (λ (u : List ℕ). set u 50 flagged) (e₂ ∙ ap (λ (u : List ℕ). laid 0 32 q (λ j. flag (keeps n (p - q + j) limits least x tolerance)) u) e₁) ∙ ap (λ (v : ℕ). set (laid 0 32 q (λ j. flag (keeps n (p - q + j) limits least x tolerance)) (laid 0 16 m (λ j. flag (closes n j balances x tolerance)) t)) 50 v) e

-- ---- figures, as they are written

pub figures-laid : (n m q : ℕ) (f values x tests : List Float) (far misfit : Float) (t t₁ t₂ : List Float) → t₁ ≡ item_figures n values x tests t → t₂ ≡ sum_figures n m q f values x t₁
    → set (set t₂ 128 far) 129 misfit ≡ all_figures n m q f values x tests far misfit t
figures-laid n m q f values x tests far misfit t t₁ t₂ e₁ e₂ = ap (λ (u : List Float). set (set u 128 far) 129 misfit) (e₂ ∙ ap (λ (u : List Float). sum_figures n m q f values x u) e₁)

-- ---- blank tables

pub figures-length : length no_figures ≡ 130
unfolding no_figures
figures-length = length-replicate 130 +0

pub signs-length : length no_signs ≡ 51
unfolding no_signs
signs-length = length-replicate {A = ℕ} 51 0

-- an entry behind what is laid may be set before or afterwards
pub laid-set : {A : Type 0} (d : A) (o c : ℕ) (g : ℕ → A) (t : List A) (k : ℕ) (v : A) → o + c ≤ k → laid d o c g (set t k v) ≡ set (laid d o c g t) k v
unfolding laid
laid-set {A} d o c g t k v h =
    let F : ℕ → A = λ i. cond (leb o i && ltb i (o + c)) (g (i - o)) (get_or t i d) in
    let G : ℕ → A = λ i. cond (leb o i && ltb i (o + c)) (g (i - o)) (get_or (set t k v) i d) in
    let lt : length (set t k v) ≡ length t = length-set t k v in
    let lr : length (set (tab (length t) F) k v) ≡ length t = length-set (tab (length t) F) k v ∙ length-tab (length t) F in
    let ll : length (tab (length (set t k v)) G) ≡ length t = length-tab (length (set t k v)) G ∙ lt in
    ext_get_or d (tab (length (set t k v)) G) (set (tab (length t) F) k v) (ll ∙ sym lr)
    (λ i l.
    let y : i < length t = omega (arith, ll, l) in
    let a : get_or (tab (length (set t k v)) G) i d ≡ G i = get_d-tab (length (set t k v)) G d i (omega (arith, lt)) in
    ⊎_elim
    (λ (q : i ≡ k).
    let e : G i ≡ v = behind o c i (g (i - o)) (get_or (set t k v) i d) (omega arith) (omega arith) ∙ ap (λ (j : ℕ). get_or (set t k v) j d) q ∙ get_or-set_same t k v d (omega arith) in
    let u : get_or (set (tab (length t) F) k v) i d ≡ v = ap (λ (j : ℕ). get_or (set (tab (length t) F) k v) j d) q ∙ get_or-set_same (tab (length t) F) k v d (omega (arith, length-tab (length t) F)) in
    a ∙ e ∙ sym u)
    (λ (q : i ≡ k → ⊥).
    let e : G i ≡ F i = ap (λ (w : A). cond (leb o i && ltb i (o + c)) (g (i - o)) w) (get_or-set_other t k i v d q) in
    let u : get_or (set (tab (length t) F) k v) i d ≡ F i = get_or-set_other (tab (length t) F) k i v d q ∙ get_d-tab (length t) F d i y in
    a ∙ e ∙ sym u)
    (eq-or-ne i k))

pub laid-two : (o c : ℕ) (g : ℕ → ℕ) (t : List ℕ) (a b : ℕ) → o + c ≤ 48 → laid 0 o c g (set (set t 48 a) 49 b) ≡ set (set (laid 0 o c g t) 48 a) 49 b
laid-two o c g t a b h = laid-set 0 o c g (set t 48 a) 49 b (omega arith) ∙ ap (λ (u : List ℕ). set u 49 b) (laid-set 0 o c g t 48 a h)
