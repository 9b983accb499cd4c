-- A found word as a fault shows it: each way out of the code is one law.
use mathlib.Core.Path.{◌≡◌}
use mathlib.Core.Bool.{Bool, true, false}
use mathlib.Core.List.{List, [], ◌∷◌, ◌++◌, append-nil}
use Prim.Native.Nat.{ℕ, ◌+◌, ◌/◌, ◌%◌, ◌≤◌, ◌<◌}
use borrow.Author.Tests.{lt-ltb, le-ltb, le-leb, lt-leb}
use lib.Dec.{leb}
use lib.ListN.{length, take, drop, get_or, drop_of_length-le}
use lib.Seq.{take_all}
use Rattle.numbers.specs.Numbers.{tab}
use Rattle.ascii.specs.Text.{ascii}
use Rattle.ascii.specs.inner.Work.{Wrote}
use Rattle.ascii.proofs.Writing.{Writing, writing_more, writing-end, wrote_then, as-text}
use Rattle.ascii.proofs.Same.{next-byte}
use Rattle.sheet_parts.specs.Texts.{is_plain}
use Rattle.sheet_parts.specs.Shown.{hex_digit, escape, escaped, shown_word}

pub hex-low : (d : ℕ) → d < 10 → 48 + d ≡ hex_digit d
hex-low d h = rw (lt-ltb d 10 h)

pub hex-high : (d : ℕ) → 10 ≤ d → 87 + d ≡ hex_digit d
hex-high d h = rw (le-ltb d 10 h)

pub plain-from : (c : ℕ) → 32 ≤ c → leb c 126 ≡ is_plain c
plain-from c h = rw (le-leb 32 c h)

pub plain-not : (c : ℕ) → c < 32 → false ≡ is_plain c
plain-not c h = rw (lt-leb 32 c h)

-- ---- one byte

module _ (c : ℕ) (b : Bool) (B : b ≡ is_plain c) {o a : List ℕ} {at end : ℕ} where
  pub escape-plain : b ≡ true → Wrote o at (c ∷ []) a end → Wrote o at (escape c) a end
  unfolding escape
  escape-plain e w = as-text (rw (← B, e)) w

  pub escape-other : b ≡ false → {p q : List ℕ} {i j : ℕ} → (x y : ℕ) → x ≡ hex_digit (c / 16) → y ≡ hex_digit (c % 16)
      → Wrote o at (92 ∷ 120 ∷ []) p i → Wrote p i (x ∷ []) q j → Wrote q j (y ∷ []) a end → Wrote o at (escape c) a end
  unfolding escape
  escape-other e x y X Y u v w = as-text (rw (← B, e, X, Y)) (wrote_then u (wrote_then v w))

-- ---- all bytes

escaped-next : (t : List ℕ) (i : ℕ) → i < length t → escaped (drop i t) ≡ escape (get_or t i 0) ++ escaped (drop (i + 1) t)
unfolding escaped
escaped-next t i h = rw (next-byte t i h)

pub escaped-more : {o a b : List ℕ} {at p q : ℕ} (t : List ℕ) (i : ℕ) → i < length t → Writing o at (escaped t) a p (escaped (drop i t)) → Wrote a p (escape (get_or t i 0)) b q
    → Writing o at (escaped t) b q (escaped (drop (i + 1) t))
escaped-more {o} {a} {b} {at} {p} {q} t i h w v =
    let u : Writing o at (escaped t) a p (escape (get_or t i 0) ++ escaped (drop (i + 1) t)) = rw (escaped-next t i h) at w in
    writing_more u v

pub escaped-end : {o a : List ℕ} {at p : ℕ} (t : List ℕ) (i : ℕ) → length t ≤ i → p ≤ length o → Writing o at (escaped t) a p (escaped (drop i t)) → Wrote o at (escaped t) a p
unfolding escaped
escaped-end {o} {a} {at} {p} t i h l w = writing-end l (rw (drop_of_length-le t h) at w)

-- ---- the word

pub shown-short : {o a : List ℕ} {at p : ℕ} (w : List ℕ) → length w ≤ 32 → Wrote o at (escaped w) a p → Wrote o at (shown_word w) a p
unfolding shown_word
shown-short w h v = as-text (rw (take_all 32 w h, le-ltb 32 (length w) h, append-nil)) v

pub shown-long : {o a b : List ℕ} {at p q : ℕ} (w : List ℕ) → 32 < length w → Wrote o at (escaped (take 32 w)) a p → Wrote a p (46 ∷ 46 ∷ []) b q → Wrote o at (shown_word w) b q
unfolding shown_word ascii tab
shown-long w h u v = as-text (rw (lt-ltb 32 (length w) h)) (wrote_then u v)
