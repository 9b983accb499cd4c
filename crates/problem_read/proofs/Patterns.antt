-- A problem in bits, read as numbers.
use mathlib.Core.Path.{◌≡◌, refl, sym, ◌∙◌}
use mathlib.Core.Bool.{Bool, true, false, cond}
use mathlib.Core.List.{List, [], ◌∷◌, ◌++◌, map}
use mathlib.Core.Option.{Option, none, some}
use Prim.Native.Nat.{ℕ, zero, suc}
use native.Mathlib.Omega.{arith}
use lib.Dec.{eqb}
use lib.Ieee.{Float, inf, of_bits, round}
use Rattle.numbers.specs.Numbers.{+0, one, tab, rows, grid}
use Rattle.problem_read.specs.Bits.{equality, floor, number, kind_of, value_of, width_of, one_bits, low_bits, high_bits}
use Rattle.problem_read.specs.Input.{record_tag, record_bits, is, or_else, constraint_of, table, is_whole}
use Rattle.problem_read.specs.inner.Spots.{tag_mark, are_whole}

-- ---- lists

map_both : {A B : Type 0} (f : A → B) (x y : List A) → map f (x ++ y) ≡ map f x ++ map f y
map_both f [] y = refl
map_both f (a ∷ x) y = rw (map_both f x y)

pub map-tab : {A B : Type 0} (f : A → B) (n : ℕ) (g : ℕ → A) → map f (tab n g) ≡ tab n (λ i. f (g i))
unfolding tab
map-tab f zero g = refl
map-tab f (suc n) g = rw (map-tab f n (λ i. g (suc i)))

pub map-table : {A : Type 0} (f : A → Float) (m n : ℕ) (g : ℕ → ℕ → A) → map f (table m n g) ≡ grid m n (λ i j. f (g i j))
unfolding table grid rows
map-table f zero n g = refl
map-table f (suc m) n g = map_both f (tab n (g zero)) (table m n (λ i. g (suc i))) ∙ rw (map-tab f n (g zero), map-table f m n (λ i. g (suc i)))

-- ---- an entry

-- the number that was given, or what a missing one is
abbrev pub number_or : Option (List ℕ) → Float → Float
number_or none v = v
number_or (some r) v = number (record_bits r)

or-else : (o : Option (List ℕ)) (b : ℕ) (v : Float) → number b ≡ v → number (or_else o b) ≡ number_or o v
or-else none b v e = e
or-else (some r) b v e = refl

zero_number : number 0 ≡ +0
unfolding of_bits
zero_number = refl

diagonal-number : (b : Bool) → number (cond b one_bits 0) ≡ cond b one +0
unfolding of_bits round
diagonal-number true = refl
diagonal-number false = refl

pub factor-number : (o : Option (List ℕ)) (b : Bool) → number (or_else o (cond b one_bits 0)) ≡ number_or o (cond b one +0)
factor-number o b = or-else o (cond b one_bits 0) (cond b one +0) (diagonal-number b)

pub plain-number : (o : Option (List ℕ)) → number (or_else o 0) ≡ number_or o +0
plain-number o = or-else o 0 +0 zero_number

low-number : number low_bits ≡ inf true
unfolding of_bits
low-number = refl

pub lower-number : (o : Option (List ℕ)) → number (or_else o low_bits) ≡ number_or o (inf true)
lower-number o = or-else o low_bits (inf true) low-number

high-number : number high_bits ≡ inf false
unfolding of_bits
high-number = refl

pub upper-number : (o : Option (List ℕ)) → number (or_else o high_bits) ≡ number_or o (inf false)
upper-number o = or-else o high_bits (inf false) high-number

-- ---- a constraint, by the marks of its value and its width

-- the mark of a place
abbrev pub mark_in : Option (List ℕ) → ℕ
mark_in none = 0
mark_in (some r) = tag_mark (record_tag r)

never : {A : Type 0} → false ≡ true → A
never e = let z : ◌≡◌ {A = ℕ} 0 1 = cc in absurd (omega arith)

pub whole-marks : (o q : Option (List ℕ)) → are_whole (mark_in o) (mark_in q) ≡ is_whole o q
unfolding tag_mark
whole-marks none q = refl
whole-marks (some r) none = go (is "I" (record_tag r))
  where
    go : (b : Bool) → are_whole (cond b 2 1) 0 ≡ true
    go true = refl
    go false = refl
whole-marks (some r) (some v) = go (is "I" (record_tag r)) (is "I" (record_tag v))
  where
    go : (b c : Bool) → are_whole (cond b 2 1) (cond c 2 1) ≡ b
    go true true = refl
    go true false = refl
    go false true = refl
    go false false = refl

pub kind-marks : (o q : Option (List ℕ)) → is_whole o q ≡ true → cond (eqb (mark_in o) 2) (cond (eqb (mark_in q) 0) 1 2) 0 ≡ kind_of (constraint_of o q)
unfolding tag_mark
kind-marks none q h = never h
kind-marks (some r) none h = go (is "I" (record_tag r))
  where
    go : (b : Bool) → cond (eqb (cond b 2 1) 2) (cond (eqb 0 0) 1 2) 0 ≡ kind_of (cond b (floor (record_bits r)) (equality (record_bits r)))
    go true = refl
    go false = refl
kind-marks (some r) (some v) h = rw h (go (is "I" (record_tag v)))
  where
    go : (c : Bool) → ◌≡◌ {A = ℕ} (cond (eqb (cond c 2 1) 0) 1 2) 2
    go true = refl
    go false = refl

pub value-given : (o q : Option (List ℕ)) → number_or o +0 ≡ value_of (constraint_of o q)
value-given none q = sym zero_number
value-given (some r) none = go (is "I" (record_tag r))
  where
    go : (b : Bool) → number (record_bits r) ≡ value_of (cond b (floor (record_bits r)) (equality (record_bits r)))
    go true = refl
    go false = refl
value-given (some r) (some v) = refl

pub width-given : (o q : Option (List ℕ)) → is_whole o q ≡ true → number_or q +0 ≡ width_of (constraint_of o q)
width-given none q h = never h
width-given (some r) none h = go (is "I" (record_tag r))
  where
    go : (b : Bool) → +0 ≡ width_of (cond b (floor (record_bits r)) (equality (record_bits r)))
    go true = refl
    go false = refl
width-given (some r) (some v) h = refl
