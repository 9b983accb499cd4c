-- All bytes of a text are of a kind: in its parts, and in texts put together.
use mathlib.Core.Path.{◌≡◌, refl, ap, ◌∙◌}
use mathlib.Core.Bool.{Bool, true, false, cond, not, ◌&&◌, false≢true}
use mathlib.Core.List.{List, [], ◌∷◌, ◌++◌}
use Prim.Native.Nat.{ℕ, zero, suc, ◌+◌, ◌-◌, ◌/◌, ◌%◌, ◌<◌}
use native.Mathlib.Omega.{arith}
use lib.Dec.{leb, ltb, eqb}
use lib.ListN.{length, take, drop, get_or}
use borrow.Author.Tests.{ltb-true, le-leb, leb-true, ne_eqb}
use Rattle.io.specs.Digits.{hex_digit_ascii}
use Rattle.ascii.specs.Text.{decimal_from, decimal_text}
use Rattle.ascii.proofs.Numerals.{glyph-is}
use Rattle.day_words.specs.Words.{up_to, is_feed, is_blank, without_return, skip_blanks, word, rest}
use Rattle.day_words.specs.Items.{is_printable}
use Rattle.sheet_words.specs.Names.{is_name_byte, are_name_bytes}
use Rattle.sheet_words.specs.Lines.{unremarked_from}
use Rattle.sheet_parts.specs.Texts.{is_plain}
use Rattle.plant.specs.Claims.{Each}

-- ---- tests of two bytes

pub both : (a b : Bool) → (a && b) ≡ true → (a ≡ true) × (b ≡ true)
both true b h = (refl, h)
both false b h = absurd (false≢true h)

-- ---- parts of a text

module _ (p : ℕ → Bool) where
  pub each_append : (s t : List ℕ) → Each p s → Each p t → Each p (s ++ t)
  each_append [] t h k = k
  each_append (c ∷ cs) t h k = (h.0, each_append cs t h.1 k)

  pub each_take : (n : ℕ) (s : List ℕ) → Each p s → Each p (take n s)
  each_take zero s h = tt
  each_take (suc n) [] h = tt
  each_take (suc n) (c ∷ cs) h = (h.0, each_take n cs h.1)

  pub each-drop : (n : ℕ) (s : List ℕ) → Each p s → Each p (drop n s)
  each-drop zero s h = h
  each-drop (suc n) [] h = tt
  each-drop (suc n) (c ∷ cs) h = each-drop n cs h.1

  pub each-return : (l : List ℕ) → Each p l → Each p (without_return l)
  unfolding without_return
  each-return l h = go (eqb (get_or l (length l - 1) 0) 13)
    where
      go : (b : Bool) → Each p (cond b (take (length l - 1) l) l)
      go true = each_take (length l - 1) l h
      go false = h

  each-up : (stop : ℕ → Bool) (s : List ℕ) → Each p s → Each p (up_to stop s)
  unfolding up_to
  each-up stop [] h = tt
  each-up stop (c ∷ cs) h = go (stop c) (each-up stop cs h.1)
    where
      go : (b : Bool) → Each p (up_to stop cs) → Each p (cond b [] (c ∷ up_to stop cs))
      go true k = tt
      go false k = (h.0, k)

  each-skip : (s : List ℕ) → Each p s → Each p (skip_blanks s)
  unfolding skip_blanks
  each-skip [] h = tt
  each-skip (c ∷ cs) h = go (is_blank c) (each-skip cs h.1)
    where
      go : (b : Bool) → Each p (skip_blanks cs) → Each p (cond b (skip_blanks cs) (c ∷ cs))
      go true k = k
      go false k = h

  pub each_word : (t : List ℕ) → Each p t → Each p (word t)
  unfolding word
  each_word t h = each-up is_blank (skip_blanks t) (each-skip t h)

  pub each-rest : (t : List ℕ) → Each p t → Each p (rest t)
  unfolding rest
  each-rest t h = each-drop (length (word t)) (skip_blanks t) (each-skip t h)

  pub each_bare : (free : Bool) (t : List ℕ) → Each p t → Each p (unremarked_from free t)
  unfolding unremarked_from
  each_bare free [] h = tt
  each_bare free (c ∷ cs) h = go (free && eqb c 35) (each_bare (is_blank c) cs h.1)
    where
      go : (b : Bool) → Each p (unremarked_from (is_blank c) cs) → Each p (cond b [] (c ∷ unremarked_from (is_blank c) cs))
      go true k = tt
      go false k = (h.0, k)

-- ---- from one kind to another

pub each-as : (p q : ℕ → Bool) → ((c : ℕ) → p c ≡ true → q c ≡ true) → (s : List ℕ) → Each p s → Each q s
each-as p q f [] h = tt
each-as p q f (c ∷ cs) h = (f c h.0, each-as p q f cs h.1)

-- no line feed
abbrev pub no_feed : ℕ → Bool
no_feed c = not (is_feed c)

pub plain-no-feed : (c : ℕ) → is_plain c ≡ true → no_feed c ≡ true
plain-no-feed c h = let l = leb-true 32 c (both (leb 32 c) (leb c 126) h).0 in rw (ne_eqb c 10 (λ e. omega (arith, e, l))) refl

pub plain-name-bytes : (w : List ℕ) → are_name_bytes w ≡ true → Each is_plain w
unfolding are_name_bytes
plain-name-bytes [] h = tt
plain-name-bytes (c ∷ cs) h =
    let a = both (is_name_byte c) (are_name_bytes cs) h in
    let b = both (is_printable c) (not (eqb c 61)) a.0 in
    let d = both (leb 33 c) (leb c 126) b.0 in
    let l = leb-true 33 c d.0 in
    (rw (le-leb 32 c (omega (arith, l)), d.1) refl, plain-name-bytes cs a.1)

-- ---- a number in decimal

plain-glyph : (d : ℕ) → d < 10 → is_plain (hex_digit_ascii d) ≡ true
plain-glyph d h = ap is_plain (glyph-is d h) ∙ rw (le-leb 32 (48 + d) (omega arith), le-leb (48 + d) 126 (omega (arith, h))) refl

plain-from : (left k : ℕ) → Each is_plain (decimal_from left k)
unfolding decimal_from
plain-from zero k = tt
plain-from (suc left) k = go (ltb k 10) refl (plain-from left (k / 10))
  where
    go : (b : Bool) → ltb k 10 ≡ b → Each is_plain (decimal_from left (k / 10)) → Each is_plain (cond b (hex_digit_ascii k ∷ []) (decimal_from left (k / 10) ++ (hex_digit_ascii (k % 10) ∷ [])))
    go true e h = (plain-glyph k (ltb-true k 10 e), tt)
    go false e h = each_append is_plain (decimal_from left (k / 10)) (hex_digit_ascii (k % 10) ∷ []) h (plain-glyph (k % 10) (omega arith), tt)

pub plain-decimal : (k : ℕ) → Each is_plain (decimal_text k)
unfolding decimal_text
plain-decimal k = plain-from (suc k) k

-- ---- a text that is known, by computing

abbrev pub are_plain : List ℕ → Bool
are_plain [] = true
are_plain (c ∷ cs) = is_plain c && are_plain cs

pub plain_known : (s : List ℕ) → are_plain s ≡ true → Each is_plain s
plain_known [] h = tt
plain_known (c ∷ cs) h = let a = both (is_plain c) (are_plain cs) h in (a.0, plain_known cs a.1)
