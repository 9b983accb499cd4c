-- Bytes at a place of a list: one more, one text after another, and what a part of the list is then.
use mathlib.Core.Path.{◌≡◌, refl, sym, ap, ◌∙◌}
use mathlib.Core.List.{List, [], ◌∷◌, ◌++◌, append_assoc}
use Prim.Native.Nat.{ℕ, suc, ◌+◌, ◌≤◌, ◌<◌}
use native.Mathlib.Nat.{add-zero, add_assoc}
use native.Mathlib.Numerals.{add-one}
use native.Mathlib.Omega.{arith}
use lib.ListN.{length, take, drop, set, length-append, length-drop, take-append-drop}
use lib.Seq.{length-take-le, take_at, drop_at, take-suc-set, drop-set-lt, drop-drop}
use Rattle.endian.specs.Little.{placed}

pub placed-none : (at : ℕ) (s : List ℕ) → placed at [] s ≡ s
unfolding placed
placed-none at s = rw add-zero (take-append-drop at s)

-- the first byte, and then the others
pub placed-cons : (at b : ℕ) (t s : List ℕ) → at < length s → placed at (b ∷ t) s ≡ placed (at + 1) t (set s at b)
unfolding placed
placed-cons at b t s h =
    let e : at + 1 ≡ suc at = add-one at in
    let f : suc at + length t ≡ at + suc (length t) = omega arith in
    let g : take (suc at) (set s at b) ≡ take at s ++ (b ∷ []) = take-suc-set s at b h in
    let d : drop (suc at + length t) (set s at b) ≡ drop (suc at + length t) s = drop-set-lt (suc at + length t) s at b (omega arith) in
    rw (e, g, d, f) (sym (append_assoc (take at s) (b ∷ []) (t ++ drop (at + suc (length t)) s)))

module _ (at : ℕ) (t s : List ℕ) (h : at + length t ≤ length s) where
  front-size : length (take at s) ≡ at
  front-size = length-take-le at s (omega arith)

  text-size : length (take at s ++ t) ≡ at + length t
  text-size = length-append (take at s) t ∙ ap (λ (k : ℕ). k + length t) front-size

  -- the front with the text, and the rest
  split : placed at t s ≡ (take at s ++ t) ++ drop (at + length t) s
  unfolding placed
  split = sym (append_assoc (take at s) t (drop (at + length t) s))

  pub length-placed : length (placed at t s) ≡ length s
  length-placed = ap length split ∙ length-append (take at s ++ t) (drop (at + length t) s) ∙ rw (text-size, length-drop) (omega arith)

  -- up to the end of the text
  pub take-text : take (at + length t) (placed at t s) ≡ take at s ++ t
  take-text = ap (take (at + length t)) split ∙ take_at (take at s ++ t) (drop (at + length t) s) (at + length t) text-size

  pub drop-text : drop (at + length t) (placed at t s) ≡ drop (at + length t) s
  drop-text = ap (drop (at + length t)) split ∙ drop_at (take at s ++ t) (drop (at + length t) s) (at + length t) text-size

  -- the text itself
  pub part-text : take (length t) (drop at (placed at t s)) ≡ t
  unfolding placed
  part-text =
      ap (take (length t)) (drop_at (take at s) (t ++ drop (at + length t) s) at front-size)
      ∙ take_at t (drop (at + length t) s) (length t) refl

  pub take-front : take at (placed at t s) ≡ take at s
  unfolding placed
  take-front = take_at (take at s) (t ++ drop (at + length t) s) at front-size

-- one text after another
pub placed-then : (at : ℕ) (a b s : List ℕ) → at + length a ≤ length s → placed (at + length a) b (placed at a s) ≡ placed at (a ++ b) s
unfolding placed
placed-then at a b s h =
    let e : drop (at + length a + length b) (placed at a s) ≡ drop (at + (length a + length b)) s =
    sym (drop-drop (length b) (at + length a) (placed at a s))
    ∙ ap (drop (length b)) (drop-text at a s h)
    ∙ drop-drop (length b) (at + length a) s
    ∙ ap (λ (k : ℕ). drop k s) (add_assoc at (length a) (length b)) in
    rw (take-text at a s h, e, length-append a b, append_assoc a b (drop (at + (length a + length b)) s))
    (append_assoc (take at s) a (b ++ drop (at + (length a + length b)) s))

-- what stands there already
pub placed_same : (at k : ℕ) (s : List ℕ) → at + k ≤ length s → placed at (take k (drop at s)) s ≡ s
unfolding placed
placed_same at k s h =
    let e : length (take k (drop at s)) ≡ k = length-take-le k (drop at s) (simp length-drop (omega arith)) in
    rw (e, ← drop-drop k at s, take-append-drop k (drop at s)) (take-append-drop at s)
