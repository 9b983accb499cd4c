-- The parts of a line: each way out of the code is one law.
use mathlib.Core.Path.{◌≡◌, refl, sym, ap, ◌∙◌}
use mathlib.Core.Bool.{Bool, true, false}
use mathlib.Core.List.{List, [], ◌∷◌}
use Prim.Native.Nat.{ℕ, zero, suc, ◌+◌, ◌-◌, ◌*◌, ◌≤◌, ◌<◌}
use native.Mathlib.Omega.{arith}
use borrow.Author.Tests.{lt-ltb, le-ltb, eq-eqb, ne_eqb}
use lib.ListN.{length, take, drop, length-drop}
use lib.Seq.{length-take-le, drop-drop}
use lib.Ieee.{Float}
use Rattle.std.specs.Prelude.{Option, Some, None, Result, Ok, Err}
use Rattle.numbers.specs.Numbers.{+0}
use Rattle.endian.specs.Little.{placed}
use Rattle.day_words.specs.declared.Word.{Word}
use Rattle.day_words.specs.Words.{word, rest}
use Rattle.day_words.specs.Items.{filled, reading_of, decimal_of}
use Rattle.sheet_words.specs.declared.Expected.{Expected}
use Rattle.sheet_words.specs.declared.Expected.TheVariants.{Text, OneName, Reading, Decimal, Above, End}
use Rattle.sheet_words.specs.declared.Wrong.{Wrong}
use Rattle.sheet_words.specs.Lines.{between}
use Rattle.sheet_words.specs.Names.{begins_letter, name_judged, above_zero, ShortIf}
use Rattle.sheet_parts.specs.inner.Work.{item_told, text_told}
use Rattle.sheet_parts.specs.Texts.{sound_part}
use Rattle.sheet_parts.specs.Parts.{named, unnamed, name_at, Texted, texted, untexted, text_at, Itemed, itemed, unitemed, only_item, meter_read, line_read, stock_read, meter_of, line_of, stock_of, item_of}

-- ---- a fault, by what was expected and its word

module _ (line : List ℕ) (r : Wrong) (e : Expected) (w : Word) (R : r ≡ record { expected = e; word = w }) where
  pub item-wrong : (i : Itemed) → unitemed e (between w.start w.end line) ≡ i → item_told line (Err r) ≡ i
  item-wrong i h = rw R h

  pub text-wrong : (texts : List ℕ) (t : Texted) → untexted e (between w.start w.end line) ≡ t → text_told line (Err r) texts ≡ t
  text-wrong texts t h = rw R h

-- ---- names

module _ (k : ℕ) (t texts w : List ℕ) (W : w ≡ word t) (j : Result Unit Expected) (J : j ≡ name_judged w texts) where
  pub name-not : (e : Expected) → j ≡ Err e → unnamed e w ≡ name_at k t texts
  unfolding name_at
  name-not e h = rw (← W, ← J, h) (ap (unnamed e) W)

  pub name-fine : j ≡ Ok tt → (n : List ℕ) → n ≡ filled w → (u : List ℕ) → u ≡ rest t → (texts' : List ℕ) → texts' ≡ placed (16 * k) n texts → named u texts' ≡ name_at k t texts
  unfolding name_at
  name-fine h n N u U texts' T = rw (← W, ← J, h) (rw (U, T, N, W))

pub short-fine : (j : Result Unit Expected) (w : List ℕ) → ShortIf j w → j ≡ Ok tt → length w ≤ 16
short-fine (Ok u) w h e = h
short-fine (Err x) w h e = absurd (let z : ◌≡◌ {A = ℕ} 0 1 = cc in omega arith)

-- ---- texts

pub text-none : (p : ℕ) (t texts : List ℕ) → length t ≡ 0 → untexted Text [] ≡ text_at p t texts
unfolding text_at
text-none p t texts h = rw (eq-eqb (length t) 0 h)

module _ (p : ℕ) (t texts : List ℕ) (z : length t ≡ 0 → ⊥) (n : ℕ) (N : n ≡ length (sound_part t)) where
  pub text-bad : n < length t → untexted Text (drop n t) ≡ text_at p t texts
  unfolding text_at
  text-bad h = rw (ne_eqb (length t) 0 z, ← N, lt-ltb n (length t) h)

  pub text-good : length t ≤ n → (texts' : List ℕ) → texts' ≡ placed p t texts → texted texts' ≡ text_at p t texts
  unfolding text_at
  text-good h texts' T = rw (ne_eqb (length t) 0 z, ← N, le-ltb n (length t) h, T)

pub between-size : (line : List ℕ) (s e : ℕ) → s ≤ e → e ≤ length line → length (take (e - s) (drop s line)) ≡ e - s
between-size line s e h l = length-take-le (e - s) (drop s line) (let d = length-drop s line in omega (arith, d, h, l))

pub drop_of_take : (n m : ℕ) (l : List ℕ) → drop n (take m l) ≡ take (m - n) (drop n l)
drop_of_take zero m l = let e : m - 0 ≡ m = omega arith in rw e
drop_of_take (suc n) zero l = let e : 0 - suc n ≡ 0 = omega arith in rw e
drop_of_take (suc n) (suc m) [] = let e : suc m - suc n ≡ m - n = omega arith in rw e (none (m - n))
  where
    none : (k : ℕ) → ◌≡◌ {A = List ℕ} [] (take k [])
    none zero = refl
    none (suc k) = refl
drop_of_take (suc n) (suc m) (c ∷ l) = let e : suc m - suc n ≡ m - n = omega arith in rw e (drop_of_take n m l)

pub between-later : (line : List ℕ) (s e n : ℕ) → take (e - (s + n)) (drop (s + n) line) ≡ drop n (take (e - s) (drop s line))
between-later line s e n =
    let k : e - (s + n) ≡ e - s - n = omega arith in
    ap (λ (j : ℕ). take j (drop (s + n) line)) k ∙ ap (take (e - s - n)) (sym (drop-drop n s line)) ∙ sym (drop_of_take n (e - s) (drop s line))

-- ---- what comes after

pub only_none : (w : List ℕ) (i : Itemed) → length w ≡ 0 → i ≡ only_item w i
only_none [] i h = refl
only_none (c ∷ w) i h = absurd (omega arith)

pub only-more : (w : List ℕ) (i : Itemed) → 0 < length w → unitemed End w ≡ only_item w i
only-more [] i h = absurd (omega arith)
only-more (c ∷ w) i h = refl

-- ---- OLD NEW SPREAD

module _ (t w u : List ℕ) (W : w ≡ word t) (U : u ≡ rest t) (o : Option ℕ) (O : o ≡ reading_of w) where
  pub meter-old : o ≡ None → unitemed Reading w ≡ meter_of t
  unfolding meter_of meter_read
  meter-old e = rw (← W, ← O, e)

  module _ (old : ℕ) (E : o ≡ Some old) (w2 u2 : List ℕ) (W2 : w2 ≡ word u) (U2 : u2 ≡ rest u) (n : Option ℕ) (N : n ≡ reading_of w2) where
    pub meter-new : n ≡ None → unitemed Reading w2 ≡ meter_of t
    unfolding meter_of meter_read
    meter-new e = rw (← W, ← O, E, ← U, ← W2, ← N, e)

    module _ (new : ℕ) (F : n ≡ Some new) (w3 u3 : List ℕ) (W3 : w3 ≡ word u2) (U3 : u3 ≡ rest u2) (x : Option Float) (X : x ≡ above_zero w3) where
      pub meter-spread : x ≡ None → unitemed Above w3 ≡ meter_of t
      unfolding meter_of meter_read
      meter-spread e = rw (← W, ← O, E, ← U, ← W2, ← N, F, ← U2, ← W3, ← X, e)

      module _ (y : Float) (G : x ≡ Some y) (w4 : List ℕ) (W4 : w4 ≡ word u3) where
        meter-all : only_item w4 (itemed old new y +0 +0) ≡ meter_of t
        unfolding meter_of meter_read
        meter-all = rw (← W, ← O, E, ← U, ← W2, ← N, F, ← U2, ← W3, ← X, G, ← U3, ← W4)

        pub meter-end : 0 < length w4 → unitemed End w4 ≡ meter_of t
        meter-end h = only-more w4 (itemed old new y +0 +0) h ∙ meter-all

        pub meter-is : length w4 ≡ 0 → itemed old new y +0 +0 ≡ meter_of t
        meter-is h = only_none w4 (itemed old new y +0 +0) h ∙ meter-all

-- ---- CAPACITY

module _ (t w u : List ℕ) (W : w ≡ word t) (U : u ≡ rest t) (x : Option Float) (X : x ≡ above_zero w) where
  pub line-capacity : x ≡ None → unitemed Above w ≡ line_of t
  unfolding line_of line_read
  line-capacity e = rw (← W, ← X, e)

  module _ (y : Float) (G : x ≡ Some y) (w4 : List ℕ) (W4 : w4 ≡ word u) where
    line-all : only_item w4 (itemed 0 0 y +0 +0) ≡ line_of t
    unfolding line_of line_read
    line-all = rw (← W, ← X, G, ← U, ← W4)

    pub line-end : 0 < length w4 → unitemed End w4 ≡ line_of t
    line-end h = only-more w4 (itemed 0 0 y +0 +0) h ∙ line-all

    pub line-is : length w4 ≡ 0 → itemed 0 0 y +0 +0 ≡ line_of t
    line-is h = only_none w4 (itemed 0 0 y +0 +0) h ∙ line-all

-- ---- BEFORE AFTER SPREAD

module _ (t w u : List ℕ) (W : w ≡ word t) (U : u ≡ rest t) (o : Option Float) (O : o ≡ decimal_of w) where
  pub stock-before : o ≡ None → unitemed Decimal w ≡ stock_of t
  unfolding stock_of stock_read
  stock-before e = rw (← W, ← O, e)

  module _ (a : Float) (E : o ≡ Some a) (w2 u2 : List ℕ) (W2 : w2 ≡ word u) (U2 : u2 ≡ rest u) (n : Option Float) (N : n ≡ decimal_of w2) where
    pub stock-after : n ≡ None → unitemed Decimal w2 ≡ stock_of t
    unfolding stock_of stock_read
    stock-after e = rw (← W, ← O, E, ← U, ← W2, ← N, e)

    module _ (b : Float) (F : n ≡ Some b) (w3 u3 : List ℕ) (W3 : w3 ≡ word u2) (U3 : u3 ≡ rest u2) (x : Option Float) (X : x ≡ above_zero w3) where
      pub stock-spread : x ≡ None → unitemed Above w3 ≡ stock_of t
      unfolding stock_of stock_read
      stock-spread e = rw (← W, ← O, E, ← U, ← W2, ← N, F, ← U2, ← W3, ← X, e)

      module _ (y : Float) (G : x ≡ Some y) (w4 : List ℕ) (W4 : w4 ≡ word u3) where
        stock-all : only_item w4 (itemed 0 0 y a b) ≡ stock_of t
        unfolding stock_of stock_read
        stock-all = rw (← W, ← O, E, ← U, ← W2, ← N, F, ← U2, ← W3, ← X, G, ← U3, ← W4)

        pub stock-end : 0 < length w4 → unitemed End w4 ≡ stock_of t
        stock-end h = only-more w4 (itemed 0 0 y a b) h ∙ stock-all

        pub stock-is : length w4 ≡ 0 → itemed 0 0 y a b ≡ stock_of t
        stock-is h = only_none w4 (itemed 0 0 y a b) h ∙ stock-all

-- ---- an item

module _ (k : ℕ) (t w : List ℕ) (W : w ≡ word t) (b : Bool) (B : b ≡ begins_letter w) where
  pub item-letter : b ≡ true → unitemed OneName w ≡ item_of k t
  unfolding item_of
  item-letter e = rw (← W, ← B, e)

  pub item-meter : b ≡ false → k ≡ 0 → meter_of t ≡ item_of k t
  unfolding item_of
  item-meter e h = rw (← W, ← B, e, eq-eqb k 0 h)

  pub item-line : b ≡ false → (k ≡ 0 → ⊥) → k ≡ 1 → line_of t ≡ item_of k t
  unfolding item_of
  item-line e h g = rw (← W, ← B, e, ne_eqb k 0 h, eq-eqb k 1 g)

  pub item-stock : b ≡ false → (k ≡ 0 → ⊥) → (k ≡ 1 → ⊥) → stock_of t ≡ item_of k t
  unfolding item_of
  item-stock e h g = rw (← W, ← B, e, ne_eqb k 0 h, ne_eqb k 1 g)
