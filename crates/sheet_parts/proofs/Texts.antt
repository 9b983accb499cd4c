-- Texts: each way out of the code is one law.
use mathlib.Core.Path.{◌≡◌, refl, sym, ap, ◌∙◌}
use mathlib.Core.Bool.{Bool, true, false}
use mathlib.Core.List.{List, [], ◌∷◌, ◌++◌}
use Prim.Native.Nat.{ℕ, suc, ◌+◌, ◌-◌, ◌≤◌, ◌<◌}
use native.Mathlib.Omega.{arith}
use borrow.Author.Tests.{lt-ltb, le-ltb, le-leb, lt-leb, ne_eqb, leb-true, leb-false}
use lib.Dec.{leb, ltb}
use lib.ListN.{length, take, drop, get_or, length-drop}
use lib.Seq.{take_all, length-take-le, take-suc}
use Rattle.day_words.specs.Words.{up_to, is_blank, skip_blanks}
use Rattle.sheet_parts.specs.Texts.{kept, without_blanks, is_foreign, sound_part}
use Rattle.sheet_parts.specs.inner.Work.{IsText}

pub foreign-tab : (c : ℕ) → c ≡ 9 → false ≡ is_foreign c
foreign-tab c e = rw e

pub foreign-low : (c : ℕ) → (c ≡ 9 → ⊥) → c < 32 → true ≡ is_foreign c
foreign-low c n h = rw (lt-leb 32 c h, ne_eqb c 9 n)

pub foreign-high : (c : ℕ) → (c ≡ 9 → ⊥) → 32 ≤ c → ltb 126 c ≡ is_foreign c
foreign-high c n h = go (leb c 126) refl
  where
    go : (b : Bool) → leb c 126 ≡ b → ltb 126 c ≡ is_foreign c
    go true e = rw (le-leb 32 c h, ne_eqb c 9 n, e, le-ltb 126 c (leb-true c 126 e))
    go false e = rw (le-leb 32 c h, ne_eqb c 9 n, e, lt-ltb 126 c (leb-false c 126 e))

-- ---- how much can stand

pub sound-cut : (t : List ℕ) → 72 ≤ length (up_to is_foreign t) → 72 ≡ length (sound_part t)
unfolding sound_part
sound-cut t h = sym (length-take-le 72 (up_to is_foreign t) h)

pub sound-all : (t : List ℕ) (i : ℕ) → i ≡ length (up_to is_foreign t) → i ≤ 72 → i ≡ length (sound_part t)
unfolding sound_part
sound-all t i e h = e ∙ ap length (sym (take_all 72 (up_to is_foreign t) (omega (arith, e, h))))

-- ---- blanks at the end

snoc-blank : (l : List ℕ) (c : ℕ) → is_blank c ≡ true → without_blanks (l ++ (c ∷ [])) ≡ without_blanks l
unfolding without_blanks
snoc-blank [] c e = rw e
snoc-blank (d ∷ l) c e = ap (kept d) (snoc-blank l c e)

kept_more : (d : ℕ) (l : List ℕ) (c : ℕ) → kept d (l ++ (c ∷ [])) ≡ d ∷ (l ++ (c ∷ []))
kept_more d [] c = refl
kept_more d (x ∷ l) c = refl

snoc-other : (l : List ℕ) (c : ℕ) → is_blank c ≡ false → without_blanks (l ++ (c ∷ [])) ≡ l ++ (c ∷ [])
unfolding without_blanks
snoc-other [] c e = rw e
snoc-other (d ∷ l) c e = ap (kept d) (snoc-other l c e) ∙ kept_more d l c

take_last : (t : List ℕ) (n : ℕ) → 0 < n → n ≤ length t → take n t ≡ take (n - 1) t ++ (get_or t (n - 1) 0 ∷ [])
take_last t n p h =
    let e : n ≡ suc (n - 1) = omega arith in
    ap (λ (k : ℕ). take k t) e ∙ take-suc t (n - 1) 0 (omega arith)

module _ (t : List ℕ) (n : ℕ) (p : 0 < n) (h : n ≤ length t) (b : Bool) (B : b ≡ is_blank (get_or t (n - 1) 0)) where
  pub trim-later : b ≡ true → without_blanks (take n t) ≡ without_blanks (take (n - 1) t)
  trim-later e = ap without_blanks (take_last t n p h) ∙ snoc-blank (take (n - 1) t) (get_or t (n - 1) 0) (sym B ∙ e)

  pub trim-here : b ≡ false → take n t ≡ without_blanks (take n t)
  trim-here e = take_last t n p h ∙ sym (snoc-other (take (n - 1) t) (get_or t (n - 1) 0) (sym B ∙ e)) ∙ ap without_blanks (sym (take_last t n p h))

pub trim-begin : (t : List ℕ) → without_blanks t ≡ without_blanks (take (length t) t)
trim-begin t = ap without_blanks (sym (take_all (length t) t (omega arith)))

pub trim-none : (t : List ℕ) (n : ℕ) → n ≤ 0 → take n t ≡ without_blanks (take n t)
unfolding without_blanks
trim-none t n h = let e : n ≡ 0 = omega arith in rw e

-- ---- a text

pub is-text : (line : List ℕ) (from start size : ℕ) → drop start line ≡ skip_blanks (drop from line) → start ≤ length line → take size (drop start line) ≡ without_blanks (drop start line) → size ≤ length (drop start line)
    → IsText line from (record { start = start; end = start + size })
is-text line from start size e h t l =
    let n : start + size - start ≡ size = omega arith in
    let d = length-drop start line in
    record {
      low = omega arith;
      high = omega (arith, d, l, h);
      text = ap (λ (k : ℕ). take k (drop start line)) n ∙ t ∙ ap without_blanks e;
    }

pub is-text-part : (line : List ℕ) (from start size : ℕ) → drop start line ≡ skip_blanks (drop from line) → start ≤ length line
    → take size (take (length line - start) (drop start line)) ≡ without_blanks (take (length line - start) (drop start line)) → size ≤ length (take (length line - start) (drop start line))
    → IsText line from (record { start = start; end = start + size })
is-text-part line from start size e h t l =
    let d = length-drop start line in
    let a : take (length line - start) (drop start line) ≡ drop start line = take_all (length line - start) (drop start line) (omega (arith, d)) in
    is-text line from start size e h (ap (take size) (sym a) ∙ t ∙ ap without_blanks a) (rw a at l)
