-- Where a number is read, a decimal of the grammar stands.
use mathlib.Core.Path.{◌≡◌, refl, sym, ap, ◌∙◌}
use mathlib.Core.Bool.{Bool, true, false, cond, ◌&&◌}
use mathlib.Core.List.{List, [], ◌∷◌, ◌++◌, append-nil}
use Prim.Native.Nat.{ℕ, zero, suc, ◌+◌, ◌^◌, ◌≤◌, ◌<◌}
use native.Mathlib.Nat.{add-zero}
use native.Mathlib.Omega.{arith}
use borrow.Author.Tests.{ltb-true, leb-true, eqb-true, eqb-false}
use lib.Dec.{leb, ltb, eqb, lit<}
use lib.ListN.{length, drop, get_or}
use lib.Seq.{drop-cons, drop-drop}
use lib.Ieee.{Float}
use Rattle.std.specs.Prelude.{Err}
use Rattle.numbers.specs.Numbers.{tab}
use Rattle.ascii.specs.Text.{ascii}
use Rattle.decimals.specs.declared.Decimal.{Decimal}
use Rattle.decimals.specs.Decimal.{number, numeral, minus_text, is_digit, digits_of, value_of, choose, within, unsigned_at, decimal_at}
use Rattle.decimals.specs.Claims.{are_digits, point_text, IsDecimal, OnlyDecimals}
use Rattle.decimals.proofs.Runs.{inside}

-- ---- the digits at the front of a text, and the rest
front-are : (cs : List ℕ) → are_digits (digits_of cs) ≡ true
unfolding are_digits digits_of
front-are [] = refl
front-are (c ∷ cs) = go (is_digit c) refl (front-are cs)
  where
    go : (b : Bool) → is_digit c ≡ b → are_digits (digits_of cs) ≡ true → are_digits (cond b (c ∷ digits_of cs) []) ≡ true
    go true e h = rw e h
    go false e h = refl

front_rest : (cs : List ℕ) → digits_of cs ++ drop (length (digits_of cs)) cs ≡ cs
unfolding digits_of
front_rest [] = refl
front_rest (c ∷ cs) = go (is_digit c) (front_rest cs)
  where
    go : (b : Bool) → digits_of cs ++ drop (length (digits_of cs)) cs ≡ cs → cond b (c ∷ digits_of cs) [] ++ drop (length (cond b (c ∷ digits_of cs) [])) (c ∷ cs) ≡ c ∷ cs
    go true h = ap (λ (l : List ℕ). c ∷ l) h
    go false h = refl

front-all : (cs : List ℕ) → digits_of (drop (length (digits_of cs)) cs) ≡ []
unfolding digits_of
front-all [] = refl
front-all (c ∷ cs) = go (is_digit c) refl (front-all cs)
  where
    go : (b : Bool) → is_digit c ≡ b → digits_of (drop (length (digits_of cs)) cs) ≡ [] → digits_of (drop (length (cond b (c ∷ digits_of cs) [])) (c ∷ cs)) ≡ []
    go true e h = h
    go false e h = rw e

-- ---- what a number tells of the tests
never : {A : Type 0} (at next : ℕ) (x : Float) → Err at ≡ number x next → A
never at next x e = absurd (let n : ◌≡◌ {A = ℕ} 0 1 = cc in omega arith)

within-tells : (s : Bool) (a k at end next : ℕ) (x : Float) → within s a k at end ≡ number x next → (a < 10 ^ 15) × (k ≤ 22) × (x ≡ value_of s a k) × (next ≡ end)
unfolding within
within-tells s a k at end next x e = go (ltb a (10 ^ 15)) (leb k 22) refl refl e
  where
    go : (p q : Bool) → ltb a (10 ^ 15) ≡ p → leb k 22 ≡ q → choose (p && q) (number (value_of s a k) end) (Err at) ≡ number x next
        → (a < 10 ^ 15) × (k ≤ 22) × (x ≡ value_of s a k) × (next ≡ end)
    go true true f g e =
        let d : ◌≡◌ {A = Decimal} (record { value = value_of s a k; end = end }) (record { value = x; end = next }) = cc in
        (ltb-true a (10 ^ 15) f, leb-true k 22 g, sym (ap (λ (r : Decimal). r.value) d), sym (ap (λ (r : Decimal). r.end) d))
    go true false f g e = never at next x e
    go false q f g e = never at next x e

-- the number from its first digit on
record FromDigit (bs : List ℕ) (s : Bool) (start next : ℕ) (x : Float) : Type 0 where
  pub w : List ℕ
  pub p : List ℕ
  pub text : drop start bs ≡ w ++ (point_text p ++ drop next bs)
  pub until : next ≡ start + length w + length (point_text p)
  pub w_digits : are_digits w ≡ true
  pub w_some : 0 < length w
  pub p_digits : are_digits p ≡ true
  pub all_read : digits_of (drop next bs) ≡ []
  pub few_digits : numeral (w ++ p) < 10 ^ 15
  pub few_places : length p ≤ 22
  pub value : x ≡ value_of s (numeral (w ++ p)) (length p)

point-some : (p : List ℕ) → 0 < length p → 46 ∷ p ≡ point_text p
unfolding point_text
point-some [] h = absurd (omega arith)
point-some (c ∷ p) h = refl

point-none : [] ≡ point_text []
unfolding point_text
point-none = refl

none-are : are_digits [] ≡ true
unfolding are_digits
none-are = refl

some-long : (start n : ℕ) → eqb (start + n) start ≡ false → 0 < n
some-long start zero e = absurd (eqb-false (start + 0) start e (add-zero start))
some-long start (suc n) e = omega arith

-- digits from a place on, and where they end
rest_at : (bs : List ℕ) (i : ℕ) → drop i bs ≡ digits_of (drop i bs) ++ drop (i + length (digits_of (drop i bs))) bs
rest_at bs i = sym (front_rest (drop i bs)) ∙ ap (λ (l : List ℕ). digits_of (drop i bs) ++ l) (drop-drop (length (digits_of (drop i bs))) i bs)

all-at : (bs : List ℕ) (i : ℕ) → digits_of (drop (i + length (digits_of (drop i bs))) bs) ≡ []
all-at bs i = ap digits_of (sym (drop-drop (length (digits_of (drop i bs))) i bs)) ∙ front-all (drop i bs)

module _ (bs : List ℕ) (s : Bool) (at start next : ℕ) (x : Float) where
  abbrev w : List ℕ
  w = digits_of (drop start bs)

  abbrev end : ℕ
  end = start + length w

  abbrev p : List ℕ
  p = digits_of (drop (end + 1) bs)

  whole-only : 0 < length w → within s (numeral w) 0 at end ≡ number x next → FromDigit bs s start next x
  whole-only h e =
      let t = within-tells s (numeral w) 0 at end next x e in
      let n : w ++ [] ≡ w = append-nil w in
      record {
        w = w;
        p = [];
        text = rest_at bs start ∙ ap (λ (k : ℕ). w ++ drop k bs) (sym t.3) ∙ ap (λ (l : List ℕ). w ++ (l ++ drop next bs)) point-none;
        until = t.3 ∙ sym (add-zero end) ∙ ap (λ (l : List ℕ). end + length l) point-none;
        w_digits = front-are (drop start bs);
        w_some = h;
        p_digits = none-are;
        all_read = ap (λ (k : ℕ). digits_of (drop k bs)) t.3 ∙ all-at bs start;
        few_digits = rw n t.0;
        few_places = t.1;
        value = rw n t.2;
      }

  with-point : 0 < length w → get_or bs end 0 ≡ 46 → 0 < length p → within s (numeral (w ++ p)) (length p) at (end + 1 + length p) ≡ number x next → FromDigit bs s start next x
  with-point h g m e =
      let t = within-tells s (numeral (w ++ p)) (length p) at (end + 1 + length p) next x e in
      let i : end < length bs = inside bs end 46 g (lit< tt) in
      let o : suc end ≡ end + 1 = omega arith in
      let d : drop end bs ≡ 46 ∷ drop (end + 1) bs = drop-cons bs end 0 i ∙ ap (λ (c : ℕ). c ∷ drop (suc end) bs) g ∙ ap (λ (k : ℕ). 46 ∷ drop k bs) o in
      let r : drop (end + 1) bs ≡ p ++ drop next bs = rest_at bs (end + 1) ∙ ap (λ (k : ℕ). p ++ drop k bs) (sym t.3) in
      let q : 46 ∷ p ≡ point_text p = point-some p m in
      record {
        w = w;
        p = p;
        text = rest_at bs start ∙ ap (λ (l : List ℕ). w ++ l) (d ∙ ap (λ (l : List ℕ). 46 ∷ l) r) ∙ ap (λ (l : List ℕ). w ++ (l ++ drop next bs)) q;
        until = t.3 ∙ count (length p) ∙ ap (λ (l : List ℕ). end + length l) q;
        w_digits = front-are (drop start bs);
        w_some = h;
        p_digits = front-are (drop (end + 1) bs);
        all_read = ap (λ (k : ℕ). digits_of (drop k bs)) t.3 ∙ all-at bs (end + 1);
        few_digits = t.0;
        few_places = t.1;
        value = t.2;
      }
    where
      count : (k : ℕ) → end + 1 + k ≡ end + suc k
      count k = omega arith

  from-digit : unsigned_at bs s at start ≡ number x next → FromDigit bs s start next x
  unfolding unsigned_at
  from-digit e = go (eqb end start) (eqb (get_or bs end 0) 46) (eqb (end + 1 + length p) (end + 1)) refl refl refl e
    where
      go : (a b c : Bool) → eqb end start ≡ a → eqb (get_or bs end 0) 46 ≡ b → eqb (end + 1 + length p) (end + 1) ≡ c
          → choose a (Err start) (choose b (choose c (Err (end + 1)) (within s (numeral (w ++ p)) (length p) at (end + 1 + length p))) (within s (numeral w) 0 at end)) ≡ number x next
          → FromDigit bs s start next x
      go true b c f g h e = never start next x e
      go false true true f g h e = never (end + 1) next x e
      go false true false f g h e = with-point (some-long start (length w) f) (eqb-true (get_or bs end 0) 46 g) (some-long (end + 1) (length p) h) e
      go false false c f g h e = whole-only (some-long start (length w) f) e

-- ---- with its sign
minus_is : minus_text true ≡ 45 ∷ []
unfolding minus_text ascii tab
minus_is = refl

plus-is : minus_text false ≡ []
unfolding minus_text
plus-is = refl

with-sign : (bs : List ℕ) (s : Bool) (at start next : ℕ) (x : Float) → drop at bs ≡ minus_text s ++ drop start bs → start ≡ at + length (minus_text s) → FromDigit bs s start next x → IsDecimal bs at next x
with-sign bs s at start next x e l d = record {
  s = s;
  w = d.w;
  p = d.p;
  text = e ∙ ap (λ (t : List ℕ). minus_text s ++ t) d.text;
  until = d.until ∙ ap (λ (k : ℕ). k + length d.w + length (point_text d.p)) l;
  w_digits = d.w_digits;
  w_some = d.w_some;
  p_digits = d.p_digits;
  all_read = d.all_read;
  few_digits = d.few_digits;
  few_places = d.few_places;
  value = d.value;
}

pub only-decimals : OnlyDecimals
unfolding decimal_at
only-decimals bs at next x e = go (eqb (get_or bs at 0) 45) refl e
  where
    go : (b : Bool) → eqb (get_or bs at 0) 45 ≡ b → unsigned_at bs b at (cond b (at + 1) at) ≡ number x next → IsDecimal bs at next x
    go true f e =
        let g = eqb-true (get_or bs at 0) 45 f in
        let i : at < length bs = inside bs at 45 g (lit< tt) in
        let o : suc at ≡ at + 1 = omega arith in
        let d : drop at bs ≡ 45 ∷ drop (at + 1) bs = drop-cons bs at 0 i ∙ ap (λ (c : ℕ). c ∷ drop (suc at) bs) g ∙ ap (λ (k : ℕ). 45 ∷ drop k bs) o in
        with-sign bs true at (at + 1) next x (d ∙ ap (λ (t : List ℕ). t ++ drop (at + 1) bs) (sym minus_is)) (ap (λ (t : List ℕ). at + length t) (sym minus_is)) (from-digit bs true at (at + 1) next x e)
    go false f e = with-sign bs false at at next x (ap (λ (t : List ℕ). t ++ drop at bs) (sym plus-is)) (sym (add-zero at) ∙ ap (λ (t : List ℕ). at + length t) (sym plus-is)) (from-digit bs false at at next x e)
