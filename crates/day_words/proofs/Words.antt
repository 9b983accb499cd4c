-- Where lines and words end.
use mathlib.Core.Path.{◌≡◌, refl, sym, ap, ◌∙◌}
use mathlib.Core.Bool.{Bool, true, false, cond}
use mathlib.Core.List.{List, [], ◌∷◌}
use Prim.Native.Nat.{ℕ, suc, ◌+◌, ◌-◌, ◌≤◌, ◌<◌}
use native.Mathlib.Nat.{add-zero}
use native.Mathlib.Omega.{arith}
use borrow.Author.Tests.{eq-eqb, ne_eqb}
use lib.Dec.{eqb}
use lib.ListN.{length, take, drop, get_or, length-drop, drop_of_length-le}
use lib.Seq.{take_all, drop-drop, length-take-le}
use Rattle.ascii.proofs.Same.{next-byte}
use Rattle.day_words.specs.Words.{up_to, is_feed, joined, lines_of, without_return, is_blank, skip_blanks, word, rest}
use Rattle.day_words.specs.declared.Word.{Word}
use Rattle.day_words.specs.inner.Work.{IsWord}

-- ---- up to a byte

module _ (stop : ℕ → Bool) where
  pub up-front : (s : List ℕ) → take (length (up_to stop s)) s ≡ up_to stop s
  unfolding up_to
  up-front [] = refl
  up-front (c ∷ s) = go (stop c) (up-front s)
    where
      go : (b : Bool) → take (length (up_to stop s)) s ≡ up_to stop s → take (length (cond b [] (c ∷ up_to stop s))) (c ∷ s) ≡ cond b [] (c ∷ up_to stop s)
      go true e = refl
      go false e = ap (λ (l : List ℕ). c ∷ l) e

  pub up-short : (s : List ℕ) → length (up_to stop s) ≤ length s
  unfolding up_to
  up-short [] = omega arith
  up-short (c ∷ s) = go (stop c) (up-short s)
    where
      go : (b : Bool) → length (up_to stop s) ≤ length s → length (cond b [] (c ∷ up_to stop s)) ≤ suc (length s)
      go true e = omega arith
      go false e = omega arith

  -- the place where it ends
  pub ends_last : (s : List ℕ) (i : ℕ) → length s ≤ i → i ≡ i + length (up_to stop (drop i s))
  unfolding up_to
  ends_last s i h = rw (drop_of_length-le s h) (sym (add-zero i))

  pub ends-here : (s : List ℕ) (i : ℕ) → i < length s → stop (get_or s i 0) ≡ true → i ≡ i + length (up_to stop (drop i s))
  unfolding up_to
  ends-here s i h e = rw (next-byte s i h, e) (sym (add-zero i))

  pub ends-later : (s : List ℕ) (i : ℕ) → i < length s → stop (get_or s i 0) ≡ false → i + length (up_to stop (drop i s)) ≡ i + 1 + length (up_to stop (drop (i + 1) s))
  unfolding up_to
  ends-later s i h e = rw (next-byte s i h, e) (omega arith)

-- ---- blanks

pub blank-space : (c : ℕ) → c ≡ 32 → true ≡ is_blank c
blank-space c e = rw (eq-eqb c 32 e)

pub blank-tab : (c : ℕ) → (c ≡ 32 → ⊥) → eqb c 9 ≡ is_blank c
blank-tab c e = rw (ne_eqb c 32 e)

pub skip-last : (s : List ℕ) (i : ℕ) → length s ≤ i → drop i s ≡ skip_blanks (drop i s)
unfolding skip_blanks
skip-last s i h = rw (drop_of_length-le s h)

pub skip-here : (s : List ℕ) (i : ℕ) → i < length s → is_blank (get_or s i 0) ≡ false → drop i s ≡ skip_blanks (drop i s)
unfolding skip_blanks
skip-here s i h e = rw (next-byte s i h, e)

pub skip-later : (s : List ℕ) (i : ℕ) → i < length s → is_blank (get_or s i 0) ≡ true → skip_blanks (drop i s) ≡ skip_blanks (drop (i + 1) s)
unfolding skip_blanks
skip-later s i h e = ap skip_blanks (next-byte s i h) ∙ rw e

-- ---- a word

pub is_word : (line : List ℕ) (from start end : ℕ) → drop start line ≡ skip_blanks (drop from line) → end ≡ start + length (up_to is_blank (drop start line)) → end ≤ length line
    → IsWord line from (record { start = start; end = end })
unfolding word rest
is_word line from start end e f h =
    let t = up_to is_blank (drop start line) in
    let n : end - start ≡ length t = omega arith in
    let w : t ≡ word (drop from line) = ap (up_to is_blank) e in
    record {
      low = omega arith;
      high = h;
      text = ap (λ (k : ℕ). take k (drop start line)) n ∙ up-front is_blank (drop start line) ∙ w;
      left = ap (λ (k : ℕ). drop k line) f ∙ sym (drop-drop (length t) start line) ∙ ap (λ (l : List ℕ). drop (length l) (drop start line)) w ∙ ap (drop (length (word (drop from line)))) e;
    }

pub word_size : (line : List ℕ) (from : ℕ) (w : Word) → IsWord line from w → length (word (drop from line)) ≡ w.end - w.start
word_size line from w i =
    ap length (sym i.text) ∙ length-take-le (w.end - w.start) (drop w.start line) (let d = length-drop w.start line in let l = i.low in let h = i.high in omega arith)

-- ---- the carriage return

pub trim-none : (l : List ℕ) → length l ≡ 0 → take 0 l ≡ without_return l
unfolding without_return
trim-none [] h = refl
trim-none (c ∷ l) h = absurd (omega arith)

pub trim-one : (l : List ℕ) → get_or l (length l - 1) 0 ≡ 13 → take (length l - 1) l ≡ without_return l
unfolding without_return
trim-one l e = rw (eq-eqb (get_or l (length l - 1) 0) 13 e)

pub trim-not : (l : List ℕ) → (get_or l (length l - 1) 0 ≡ 13 → ⊥) → take (length l) l ≡ without_return l
unfolding without_return
trim-not l e = rw (ne_eqb (get_or l (length l - 1) 0) 13 e) (take_all (length l) l (omega arith))

-- ---- lines

-- a byte that is no line feed, before a text whose lines are known
before-lines : (c : ℕ) (s : List ℕ) → lines_of s ≡ up_to is_feed s ∷ lines_of (drop (length (up_to is_feed s) + 1) s) → joined c (lines_of s) ≡ (c ∷ up_to is_feed s) ∷ lines_of (drop (suc (length (up_to is_feed s)) + 1) (c ∷ s))
unfolding joined
before-lines c s e =
    let n = length (up_to is_feed s) in
    let k : suc n + 1 ≡ suc (n + 1) = omega arith in
    ap (joined c) e ∙ ap (λ (j : ℕ). (c ∷ up_to is_feed s) ∷ lines_of (drop j (c ∷ s))) (sym k)

pub lines_more : (s : List ℕ) → 0 < length s → lines_of s ≡ up_to is_feed s ∷ lines_of (drop (length (up_to is_feed s) + 1) s)
unfolding lines_of up_to joined
lines_more [] h = absurd (omega arith)
lines_more (c ∷ []) h = go (is_feed c)
  where
    go : (b : Bool) → cond b ([] ∷ []) ((c ∷ []) ∷ []) ≡ cond b [] (c ∷ []) ∷ lines_of (drop (length (cond b [] (c ∷ [])) + 1) (c ∷ []))
    go true = refl
    go false = refl
lines_more (c ∷ (d ∷ s)) h = go (is_feed c) (before-lines c (d ∷ s) (lines_more (d ∷ s) (omega arith)))
  where
    go : (b : Bool) → joined c (lines_of (d ∷ s)) ≡ (c ∷ up_to is_feed (d ∷ s)) ∷ lines_of (drop (suc (length (up_to is_feed (d ∷ s))) + 1) (c ∷ (d ∷ s)))
        → cond b ([] ∷ lines_of (d ∷ s)) (joined c (lines_of (d ∷ s))) ≡ cond b [] (c ∷ up_to is_feed (d ∷ s)) ∷ lines_of (drop (length (cond b [] (c ∷ up_to is_feed (d ∷ s))) + 1) (c ∷ (d ∷ s)))
    go true e = refl
    go false e = e

pub lines_none : (s : List ℕ) → length s ≡ 0 → lines_of s ≡ []
unfolding lines_of
lines_none [] h = refl
lines_none (c ∷ s) h = absurd (omega arith)
