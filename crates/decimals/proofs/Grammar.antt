-- The number that a text says by the grammar is read from it.
use mathlib.Core.Path.{◌≡◌, refl, sym, ap, ◌∙◌}
use mathlib.Core.Bool.{Bool, true, false, cond, ◌&&◌}
use mathlib.Core.List.{List, [], ◌∷◌, ◌++◌}
use Prim.Native.Nat.{ℕ, ◌+◌, ◌<◌}
use native.Mathlib.Nat.{add-zero, add_assoc}
use native.Mathlib.Omega.{arith}
use borrow.Author.Tests.{ne_eqb}
use lib.ListN.{length, drop, get_or}
use lib.Seq.{drop-append-add, drop-drop, get_or-drop, get_or-append-add, get_or-append_seam}
use Rattle.numbers.specs.Numbers.{tab}
use Rattle.ascii.specs.Text.{ascii}
use Rattle.decimals.specs.Decimal.{numeral, minus_text, is_digit, digits_of, within, unsigned_at, decimal_at}
use Rattle.decimals.specs.Claims.{are_digits, ReadsPoint, ReadsWhole}

-- digits, and then what has none at its front
front-digits : (w rest : List ℕ) → are_digits w ≡ true → digits_of rest ≡ [] → digits_of (w ++ rest) ≡ w
unfolding are_digits digits_of
front-digits [] rest p q = q
front-digits (c ∷ w) rest p q = go (is_digit c) p (λ (h : are_digits w ≡ true). front-digits w rest h q)
  where
    go : (b : Bool) → b && are_digits w ≡ true → (are_digits w ≡ true → digits_of (w ++ rest) ≡ w) → cond b (c ∷ digits_of (w ++ rest)) [] ≡ c ∷ w
    go true p f = ap (λ (l : List ℕ). c ∷ l) (f p)
    go false p f = absurd (let n : ◌≡◌ {A = ℕ} 0 1 = cc in omega arith)

no-point-digit : (rest : List ℕ) → digits_of (46 ∷ rest) ≡ []
unfolding digits_of
no-point-digit rest = refl

-- ---- the number from its first digit on
module _ (bs w rest : List ℕ) (s : Bool) (at start : ℕ) (W : are_digits w ≡ true) (N : 0 < length w) where
  whole-at : drop start bs ≡ w ++ rest → digits_of rest ≡ [] → (get_or rest 0 0 ≡ 46 → ⊥) → unsigned_at bs s at start ≡ within s (numeral w) 0 at (start + length w)
  unfolding unsigned_at
  whole-at e q f =
      let d : digits_of (drop start bs) ≡ w = ap digits_of e ∙ front-digits w rest W q in
      let g : get_or bs (start + length w) 0 ≡ get_or rest 0 0 = sym (get_or-drop start bs (length w) 0) ∙ ap (λ (l : List ℕ). get_or l (length w) 0) e ∙ ap (λ (n : ℕ). get_or (w ++ rest) n 0) (sym (add-zero (length w))) ∙ get_or-append-add w rest 0 0 in
      rw (d, ne_eqb (start + length w) start (λ z. omega arith), g, ne_eqb (get_or rest 0 0) 46 f)

  point_at : (p : List ℕ) → are_digits p ≡ true → 0 < length p → digits_of rest ≡ [] → drop start bs ≡ w ++ (46 ∷ (p ++ rest))
      → unsigned_at bs s at start ≡ within s (numeral (w ++ p)) (length p) at (start + length w + 1 + length p)
  unfolding unsigned_at
  point_at p P M q e =
      let d : digits_of (drop start bs) ≡ w = ap digits_of e ∙ front-digits w (46 ∷ (p ++ rest)) W (no-point-digit (p ++ rest)) in
      let g : get_or bs (start + length w) 0 ≡ 46 = sym (get_or-drop start bs (length w) 0) ∙ ap (λ (l : List ℕ). get_or l (length w) 0) e ∙ get_or-append_seam w 46 (p ++ rest) 0 in
      let t : drop (start + length w + 1) bs ≡ p ++ rest =
      ap (λ (n : ℕ). drop n bs) (add_assoc start (length w) 1) ∙ sym (drop-drop (length w + 1) start bs) ∙ ap (drop (length w + 1)) e ∙ drop-append-add w (46 ∷ (p ++ rest)) 1 in
      let r : digits_of (drop (start + length w + 1) bs) ≡ p = ap digits_of t ∙ front-digits p rest P q in
      rw (d, ne_eqb (start + length w) start (λ z. omega arith), g, r, ne_eqb (start + length w + 1 + length p) (start + length w + 1) (λ z. omega arith))

-- ---- with its sign
minus-at : (front l : List ℕ) → decimal_at (front ++ (45 ∷ l)) (length front) ≡ unsigned_at (front ++ (45 ∷ l)) true (length front) (length front + 1)
unfolding decimal_at
minus-at front l = rw (get_or-append_seam front 45 l 0)

plus-at : (front l : List ℕ) (c : ℕ) → is_digit c ≡ true → decimal_at (front ++ (c ∷ l)) (length front) ≡ unsigned_at (front ++ (c ∷ l)) false (length front) (length front)
unfolding decimal_at
plus-at front l c h = rw (get_or-append_seam front c l 0, ne_eqb c 45 (other c h))
  where
    other : (c : ℕ) → is_digit c ≡ true → c ≡ 45 → ⊥
    other c h e = let z : ◌≡◌ {A = Bool} true false = sym h ∙ ap is_digit e in let n : ◌≡◌ {A = ℕ} 0 1 = cc in omega arith

first-digit : (c : ℕ) (w : List ℕ) → are_digits (c ∷ w) ≡ true → is_digit c ≡ true
unfolding are_digits
first-digit c w p = go (is_digit c) p
  where
    go : (b : Bool) → b && are_digits w ≡ true → b ≡ true
    go true p = refl
    go false p = p

-- a digit at the front, or a minus before it
sign_at : (front w l : List ℕ) (s : Bool) → are_digits w ≡ true → 0 < length w
    → decimal_at (front ++ (minus_text s ++ (w ++ l))) (length front) ≡ unsigned_at (front ++ (minus_text s ++ (w ++ l))) s (length front) (length front + length (minus_text s))
unfolding minus_text ascii tab
sign_at front w l true p h = minus-at front (w ++ l)
sign_at front [] l false p h = absurd (omega arith)
sign_at front (c ∷ w) l false p h = plus-at front (w ++ l) c (first-digit c w p) ∙ ap (unsigned_at (front ++ (c ∷ (w ++ l))) false (length front)) (sym (add-zero (length front)))

behind : (front m l : List ℕ) → drop (length front + length m) (front ++ (m ++ l)) ≡ l
behind front m l = drop-append-add front (m ++ l) (length m) ∙ ap (λ (n : ℕ). drop n (m ++ l)) (sym (add-zero (length m))) ∙ drop-append-add m l 0

pub reads_whole : ReadsWhole
reads_whole front w rest s W N q f =
    sign_at front w rest s W N
    ∙ whole-at (front ++ (minus_text s ++ (w ++ rest))) w rest s (length front) (length front + length (minus_text s)) W N (behind front (minus_text s) (w ++ rest)) q f

pub reads-point : ReadsPoint
reads-point front w p rest s W N P M q =
    sign_at front w (46 ∷ (p ++ rest)) s W N
    ∙ point_at (front ++ (minus_text s ++ (w ++ (46 ∷ (p ++ rest))))) w rest s (length front) (length front + length (minus_text s)) W N p P M q (behind front (minus_text s) (w ++ (46 ∷ (p ++ rest))))
