-- Cells and names as the code cuts them out of the tables.
use mathlib.Core.Path.{◌≡◌, refl, ap, ◌∙◌}
use mathlib.Core.Bool.{Bool}
use mathlib.Core.List.{List, [], ◌∷◌, ◌++◌}
use Prim.Native.Nat.{ℕ, ◌+◌, ◌-◌, ◌*◌, ◌≤◌}
use native.Mathlib.Omega.{arith}
use lib.ListN.{length, take, drop, length-take}
use lib.Seq.{length-take-le}
use lib.Ieee.{Float}
use Rattle.io.specs.Digits.{last_digits}
use Rattle.numbers.specs.Numbers.{tab}
use Rattle.ascii.specs.Text.{ascii, padded}
use Rattle.ascii.specs.inner.Work.{Wrote}
use Rattle.ascii.proofs.Writing.{wrote_then}
use Rattle.sheet_parts.specs.Texts.{without_blanks}
use Rattle.day_text.specs.Places.{name_cell, name_text, text_from}
use Rattle.day_text.specs.Cells.{cell, number_cell}
use Rattle.day_text.specs.Items.{mark_text, or_dash}

pub padded-none : (t : List ℕ) → padded 0 t ≡ t
unfolding padded
padded-none t = let e : 0 - length t ≡ 0 = omega arith in rw e refl

-- ---- a part of w bytes

pub part_of : (a w : ℕ) (texts : List ℕ) → length (take (a + w - a) (drop a texts)) ≤ w
part_of a w texts = let e : a + w - a ≡ w = omega arith in rw e (let l = length-take w (drop a texts) in omega (arith, l))

-- and its first n bytes
pub front_of : (a w n : ℕ) (texts : List ℕ) → n ≤ length (take (a + w - a) (drop a texts)) → length (take n (take (a + w - a) (drop a texts))) ≤ w
front_of a w n texts h = let l = length-take-le n (take (a + w - a) (drop a texts)) h in let k = part_of a w texts in omega (arith, l, k, h)

pub name_is : (a k : ℕ) (texts : List ℕ) → a ≡ 16 * k → take (a + 16 - a) (drop a texts) ≡ name_cell texts k
unfolding name_cell
name_is a k texts h = let e : a + 16 - a ≡ 16 = omega arith in rw (e, h) refl

pub name-bare : (a k n : ℕ) (texts : List ℕ) → a ≡ 16 * k → take n (take (a + 16 - a) (drop a texts)) ≡ without_blanks (take (a + 16 - a) (drop a texts))
    → take n (take (a + 16 - a) (drop a texts)) ≡ name_text texts k
unfolding name_text
name-bare a k n texts h e = e ∙ ap without_blanks (name_is a k texts h)

pub words-bare : (p n : ℕ) (texts : List ℕ) → take n (take (p + 72 - p) (drop p texts)) ≡ without_blanks (take (p + 72 - p) (drop p texts)) → take n (take (p + 72 - p) (drop p texts)) ≡ text_from texts p
unfolding text_from
words-bare p n texts h = let e : p + 72 - p ≡ 72 = omega arith in h ∙ ap (λ (w : ℕ). without_blanks (take w (drop p texts))) e

-- ---- cells of a row

pub reading-cell : (k : ℕ) → (32 ∷ 32 ∷ 32 ∷ 32 ∷ 32 ∷ 32 ∷ 32 ∷ []) ++ last_digits 10 6 k ≡ cell (last_digits 10 6 k)
unfolding ascii tab padded
reading-cell k = refl

pub as_number : {o a : List ℕ} {i j : ℕ} {x y : Float} → x ≡ y → Wrote o i (number_cell x) a j → Wrote o i (number_cell y) a j
as_number {o} {a} {i} {j} {x} {y} e w = rw e at w

-- ---- marks

pub as-mark : (w : List ℕ) {o a : List ℕ} {i j : ℕ} {s t : Bool} → s ≡ t → Wrote o i (mark_text s w) a j → Wrote o i (mark_text t w) a j
as-mark w {o} {a} {i} {j} {s} {t} e v = rw e at v

pub dash : (t : List ℕ) {o a b : List ℕ} {i e r : ℕ} → Wrote o i t a e → e ≡ i → Wrote a i (ascii "  -") b r → Wrote o i (or_dash t) b r
unfolding or_dash
dash [] {o} {a} {b} {i} {e} {r} v h w = let u : Wrote o i [] a i = rw h at v in wrote_then u w
dash (c ∷ cs) {o} {a} {b} {i} {e} {r} v h w = absurd (omega (arith, v.until, h))

pub marked : (t : List ℕ) {o a : List ℕ} {i e : ℕ} → Wrote o i t a e → (e ≡ i → ⊥) → Wrote o i (or_dash t) a e
unfolding or_dash
marked [] {o} {a} {i} {e} v n = absurd (n (omega (arith, v.until)))
marked (c ∷ cs) v n = v
