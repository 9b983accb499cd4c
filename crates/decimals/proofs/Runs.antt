-- The digits from a place on, and the number that they are part of.
use mathlib.Core.Path.{◌≡◌, refl, sym, ap, ◌∙◌}
use mathlib.Core.Logic.{⊎_elim}
use mathlib.Core.Bool.{Bool, true, false, ◌&&◌}
use mathlib.Core.List.{List, [], ◌∷◌, ◌++◌}
use Prim.Native.Nat.{ℕ, suc, ◌+◌, ◌-◌, ◌*◌, ◌≤◌, ◌<◌}
use native.Mathlib.Nat.{add-zero, min-eq_left, min-eq_right}
use native.Mathlib.Omega.{arith}
use borrow.Author.Tests.{lt-ltb, le-ltb, le-leb, lt-leb, eq-eqb, ne_eqb}
use lib.Dec.{leb}
use lib.ListN.{length, drop, get_or, drop_of_length-le, get_or-eq_default}
use lib.Seq.{drop-cons}
use lib.Ieee.{Float}
use Rattle.std.specs.Prelude.{Err}
use Rattle.numbers.proofs.Cases.{lt-or-ge}
use Rattle.decimals.specs.declared.Run.{Run}
use Rattle.decimals.specs.Decimal.{number, numeral_from, numeral, is_digit, digits_of, value_of, within, unsigned_at, decimal_at}
use Rattle.decimals.specs.inner.Work.{capped, run_from}

-- ---- bytes
pub past_end : (bs : List ℕ) (i : ℕ) → length bs ≤ i → 0 ≡ get_or bs i 0
past_end bs i h = sym (get_or-eq_default bs 0 h)

-- a byte that is not 0 stands before the end
pub inside : (bs : List ℕ) (i b : ℕ) → get_or bs i 0 ≡ b → 0 < b → i < length bs
inside bs i b e h = ⊎_elim (λ (l : i < length bs). l) (λ (l : length bs ≤ i). let z = past_end bs i l in absurd (omega arith)) (lt-or-ge i (length bs))

pub digit_low : (c : ℕ) → c < 48 → false ≡ is_digit c
digit_low c h = rw (lt-leb 48 c h)

pub digit-high : (c : ℕ) → 48 ≤ c → leb c 57 ≡ is_digit c
digit-high c h = rw (le-leb 48 c h)

pub digit_lt : (c : ℕ) → is_digit c ≡ true → c < 58
digit_lt c e = ⊎_elim (λ (l : c < 58). l) (λ (l : 58 ≤ c). let z : leb 48 c && leb c 57 ≡ false = rw (le-leb 48 c (omega arith), lt-leb c 57 (omega arith)) in
    let y : ◌≡◌ {A = Bool} true false = sym e ∙ z in absurd (let n : ◌≡◌ {A = ℕ} 0 1 = cc in omega arith)) (lt-or-ge c 58)

-- ---- a number that is kept at 10 ^ 15 at most
pub capped_le : (n : ℕ) → capped n ≤ 1000000000000000
capped_le n = omega arith

pub capped-low : (n : ℕ) → n ≤ 1000000000000000 → capped n ≡ n
capped-low n h = min-eq_left h

capped-more : (a d : ℕ) → capped (10 * capped a + d) ≡ capped (10 * a + d)
capped-more a d = ⊎_elim
    (λ (l : a < 1000000000000000). ap (λ (x : ℕ). capped (10 * x + d)) (capped-low a (omega arith)))
    (λ (l : 1000000000000000 ≤ a). let c : capped a ≡ 1000000000000000 = min-eq_right l in
    ap (λ (x : ℕ). capped (10 * x + d)) c ∙ min-eq_right {n = 1000000000000000} {m = 10 * 1000000000000000 + d} (omega arith) ∙ sym (min-eq_right {n = 1000000000000000} {m = 10 * a + d} (omega arith)))
    (lt-or-ge a 1000000000000000)

numeral-capped : (cs : List ℕ) (a : ℕ) → capped (numeral_from (capped a) cs) ≡ capped (numeral_from a cs)
unfolding numeral_from
numeral-capped [] a = capped-low (capped a) (capped_le a)
numeral-capped (c ∷ cs) a =
    sym (numeral-capped cs (10 * capped a + (c - 48)))
    ∙ ap (λ (x : ℕ). capped (numeral_from x cs)) (capped-more a (c - 48))
    ∙ numeral-capped cs (10 * a + (c - 48))

pub numeral-append : (cs ds : List ℕ) (a : ℕ) → numeral_from a (cs ++ ds) ≡ numeral_from (numeral_from a cs) ds
unfolding numeral_from
numeral-append [] ds a = refl
numeral-append (c ∷ cs) ds a = numeral-append cs ds (10 * a + (c - 48))

-- ---- a run of digits, one after the other
abbrev run : ℕ → ℕ → Run
run value end = record { value = value; end = end }

none_left : (bs : List ℕ) (i v : ℕ) → v ≤ 1000000000000000 → digits_of (drop i bs) ≡ [] → run v i ≡ run_from bs i v
unfolding run_from numeral_from
none_left bs i v h e = rw (e, capped-low v h, add-zero)

pub run_end : (bs : List ℕ) (i v : ℕ) → v ≤ 1000000000000000 → length bs ≤ i → run v i ≡ run_from bs i v
unfolding digits_of
run_end bs i v h l = none_left bs i v h (rw (drop_of_length-le bs l))

pub run-stop : (bs : List ℕ) (i v : ℕ) → v ≤ 1000000000000000 → i < length bs → is_digit (get_or bs i 0) ≡ false → run v i ≡ run_from bs i v
unfolding digits_of
run-stop bs i v h l e = none_left bs i v h (ap digits_of (drop-cons bs i 0 l) ∙ rw e)

one_more : (bs : List ℕ) (i : ℕ) → i < length bs → is_digit (get_or bs i 0) ≡ true → digits_of (drop i bs) ≡ get_or bs i 0 ∷ digits_of (drop (i + 1) bs)
unfolding digits_of
one_more bs i l e =
    let s : suc i ≡ i + 1 = omega arith in
    ap digits_of (drop-cons bs i 0 l) ∙ rw e (ap (λ (k : ℕ). get_or bs i 0 ∷ digits_of (drop k bs)) s)

pub run_more : (bs : List ℕ) (i v w : ℕ) → i < length bs → is_digit (get_or bs i 0) ≡ true → w ≡ capped (10 * v + (get_or bs i 0 - 48)) → run_from bs i v ≡ run_from bs (i + 1) w
unfolding run_from numeral_from
run_more bs i v w l e f =
    let ds = digits_of (drop (i + 1) bs) in
    let c = get_or bs i 0 in
    let p : capped (numeral_from (10 * v + (c - 48)) ds) ≡ capped (numeral_from w ds) = sym (numeral-capped ds (10 * v + (c - 48))) ∙ ap (λ (x : ℕ). capped (numeral_from x ds)) (sym f) in
    let q : i + suc (length ds) ≡ i + 1 + length ds = omega arith in
    rw (one_more bs i l e, p, q)

-- ---- the limits
pub many-digits : (s : Bool) (a k at next : ℕ) → 1000000000000000 ≤ a → Err at ≡ within s a k at next
unfolding within
many-digits s a k at next h = rw (le-ltb a 1000000000000000 h)

pub many-places : (s : Bool) (a k at next : ℕ) → a < 1000000000000000 → 22 < k → Err at ≡ within s a k at next
unfolding within
many-places s a k at next h l = rw (lt-ltb a 1000000000000000 h, lt-leb k 22 l)

pub in-limits : (s : Bool) (a k at next : ℕ) (x : Float) → a < 1000000000000000 → k ≤ 22 → x ≡ value_of s a k → number x next ≡ within s a k at next
unfolding within
in-limits s a k at next x h l e = rw (lt-ltb a 1000000000000000 h, le-leb k 22 l, e)

within-capped : (s : Bool) (a k at next : ℕ) → within s (capped a) k at next ≡ within s a k at next
within-capped s a k at next = ⊎_elim
    (λ (l : a < 1000000000000000). rw (capped-low a (omega arith)))
    (λ (l : 1000000000000000 ≤ a). let c : capped a ≡ 1000000000000000 = min-eq_right l in
    sym (many-digits s (capped a) k at next (omega arith)) ∙ many-digits s a k at next l)
    (lt-or-ge a 1000000000000000)

-- ---- the number, by its whole part w and both parts p
module _ (bs : List ℕ) (s : Bool) (at start : ℕ) (w : Run) (W : w ≡ run_from bs start 0) where
  whole : List ℕ
  whole = digits_of (drop start bs)

  end_is : w.end ≡ start + length whole
  unfolding run_from whole
  end_is = rw W

  value-is : w.value ≡ capped (numeral whole)
  unfolding run_from whole
  value-is = rw W

  pub value-le : w.value ≤ 1000000000000000
  value-le = rw value-is (capped_le (numeral whole))

  pub no_digit : w.end ≡ start → Err start ≡ unsigned_at bs s at start
  unfolding unsigned_at whole
  no_digit e = rw (← end_is, eq-eqb w.end start e)

  pub no-point : (w.end ≡ start → ⊥) → (b : ℕ) → b ≡ get_or bs w.end 0 → (b ≡ 46 → ⊥) → within s w.value 0 at w.end ≡ unsigned_at bs s at start
  unfolding unsigned_at whole
  no-point e b g f = rw (← end_is, ne_eqb w.end start e, ← g, ne_eqb b 46 f, value-is) (within-capped s (numeral whole) 0 at w.end)

  module _ (e : w.end ≡ start → ⊥) (b : ℕ) (g : b ≡ get_or bs w.end 0) (f : b ≡ 46) (p : Run) (P : p ≡ run_from bs (w.end + 1) w.value) where
    part : List ℕ
    part = digits_of (drop (w.end + 1) bs)

    next-is : p.end ≡ w.end + 1 + length part
    unfolding run_from part
    next-is = rw P

    all-is : p.value ≡ capped (numeral (whole ++ part))
    unfolding run_from part
    all-is = ap (λ (r : Run). r.value) P ∙ ap (λ (x : ℕ). capped (numeral_from x part)) value-is ∙ numeral-capped part (numeral whole) ∙ ap capped (sym (numeral-append whole part 0))

    pub next-ge : w.end + 1 ≤ p.end
    next-ge = omega (arith, next-is)

    pub no_part : p.end ≡ w.end + 1 → Err (w.end + 1) ≡ unsigned_at bs s at start
    unfolding unsigned_at whole part
    no_part h = rw (← end_is, ne_eqb w.end start e, ← g, eq-eqb b 46 f, ← next-is, eq-eqb p.end (w.end + 1) h)

    pub both-parts : (p.end ≡ w.end + 1 → ⊥) → within s p.value (p.end - (w.end + 1)) at p.end ≡ unsigned_at bs s at start
    unfolding unsigned_at whole part
    both-parts h =
        let k : p.end - (w.end + 1) ≡ length part = omega (arith, next-is) in
        rw (← end_is, ne_eqb w.end start e, ← g, eq-eqb b 46 f, ← next-is, ne_eqb p.end (w.end + 1) h, k, all-is) (within-capped s (numeral (whole ++ part)) (length part) at p.end)

-- ---- the sign
pub signed : (bs : List ℕ) (at b : ℕ) → b ≡ get_or bs at 0 → b ≡ 45 → unsigned_at bs true at (at + 1) ≡ decimal_at bs at
unfolding decimal_at
signed bs at b g e = rw (← g, eq-eqb b 45 e)

pub unsigned_is : (bs : List ℕ) (at b : ℕ) → b ≡ get_or bs at 0 → (b ≡ 45 → ⊥) → unsigned_at bs false at at ≡ decimal_at bs at
unfolding decimal_at
unsigned_is bs at b g e = rw (← g, ne_eqb b 45 e)
