-- Terms: each way out of the code is one law.
use mathlib.Core.Path.{◌≡◌, refl, ap, ◌∙◌}
use mathlib.Core.Bool.{Bool, true, false, cond, not, ◌&&◌, ◌||◌}
use mathlib.Core.List.{List, [], ◌∷◌}
use Prim.Native.Nat.{ℕ, suc, ◌+◌, ◌≤◌, ◌<◌}
use native.Mathlib.Omega.{arith}
use borrow.Author.Tests.{lt-ltb, le-ltb}
use lib.Dec.{ltb}
use lib.ListN.{length, drop, set, length-drop}
use lib.Ieee.{Float, eq, neg}
use Rattle.std.specs.Option.{is_some}
use Rattle.std.specs.Prelude.{Option, Some, None, Result, Ok, Err}
use Rattle.numbers.specs.Numbers.{tab, +0, at}
use Rattle.ascii.specs.Text.{ascii, same_text}
use Rattle.day_words.specs.declared.Word.{Word}
use Rattle.day_words.specs.Words.{up_to, is_blank, skip_blanks, word, rest}
use Rattle.day_words.specs.inner.Work.{IsWord}
use Rattle.day_words.proofs.Words.{up-short}
use Rattle.day_words.specs.Items.{filled}
use Rattle.sheet_words.specs.declared.Expected.{Expected}
use Rattle.sheet_words.specs.declared.Expected.TheVariants.{Equals, OneEquals, NoEquals, ApartEquals, NoSign, Coefficient, TermName, SameCapitals, Given, Once}
use Rattle.sheet_words.specs.declared.Wrong.{Wrong}
use Rattle.sheet_words.specs.Names.{begins_letter, begins_number, has_equals, is_taken, place_of, not_zero, Inside}
use Rattle.sheet_words.specs.Lines.{words_of}
use Rattle.sheet_words.proofs.Laws.{nothing, long-taken, long-place, words-none, words-some}
use Rattle.sheet_terms.specs.declared.Term.{Term}
use Rattle.sheet_terms.specs.declared.Term.TheVariants.{Sign, Times, Names}
use Rattle.sheet_terms.specs.Terms.{sign_judged, times_judged, place_judged, term_judged, Turn, Turned, next, stopped, amount, signed, turned, Listed, listed, unlisted, terms_end, terms_from, terms, at_front}
use Rattle.sheet_terms.specs.declared.Turn as declared
use Rattle.sheet_terms.specs.inner.Work.{NamesInside, turn, turn_told, row_told, RowInside, EndsAt}

-- ---- words

pub joined-one : (w : List ℕ) → length w ≤ 1 → false ≡ (ltb 1 (length w) && has_equals w)
joined-one w h = rw (le-ltb 1 (length w) h)

pub joined-more : (w : List ℕ) (b : Bool) → b ≡ has_equals w → 1 < length w → b ≡ (ltb 1 (length w) && has_equals w)
joined-more w b B h = rw (lt-ltb 1 (length w) h) B

pub lone_is : (p : Bool) (w : List ℕ) (b : Bool) → p ≡ false → b ≡ same_text w (61 ∷ []) → b ≡ (not p && same_text w (ascii "="))
unfolding ascii tab
lone_is p w b e B = rw e B

module _ (w : List ℕ) (a : Bool) (A : a ≡ same_text w (43 ∷ [])) where
  pub sign-plus : a ≡ true → true ≡ (same_text w (ascii "+") || same_text w (ascii "-"))
  unfolding ascii tab
  sign-plus e = rw (← A, e)

  pub sign-minus : a ≡ false → (b : Bool) → b ≡ same_text w (45 ∷ []) → b ≡ (same_text w (ascii "+") || same_text w (ascii "-"))
  unfolding ascii tab
  sign-minus e b B = rw (← A, e) B

-- ---- a sign, a number, a name

pub sign-limit : (b e h : Bool) → b ≡ false → Err NoEquals ≡ sign_judged b e h
sign-limit b e h B = rw B

pub sign-second : (b e h : Bool) → b ≡ true → e ≡ true → Err OneEquals ≡ sign_judged b e h
sign-second b e h B E = rw (B, E)

pub sign-is : (b e h : Bool) → b ≡ true → e ≡ false → h ≡ true → Ok Sign ≡ sign_judged b e h
sign-is b e h B E H = rw (B, E, H)

pub sign-early : (b e h : Bool) → b ≡ true → e ≡ false → h ≡ false → Err TermName ≡ sign_judged b e h
sign-early b e h B E H = rw (B, E, H)

pub times-not : (w : List ℕ) (n : Option Float) → n ≡ not_zero w → n ≡ None → Err Coefficient ≡ times_judged (not_zero w)
times-not w n N e = rw (← N, e)

pub times-is : (w : List ℕ) (n : Option Float) → n ≡ not_zero w → (x : Float) → n ≡ Some x → Ok (Times x) ≡ times_judged (not_zero w)
times-is w n N x e = rw (← N, e)

pub place-long : (w texts : List ℕ) → 16 < length w → Err Given ≡ place_judged (place_of 16 0 (filled w) texts) (is_taken 16 0 (filled w) texts)
place-long w texts h = rw (long-place w texts h 16 0, long-taken w texts h 16 0)

module _ (w texts n : List ℕ) (N : n ≡ filled w) (r : Option ℕ) (R : r ≡ place_of 16 0 n texts) where
  pub place_at : (k : ℕ) → r ≡ Some k → Ok (Names k) ≡ place_judged (place_of 16 0 (filled w) texts) (is_taken 16 0 (filled w) texts)
  place_at k e = rw (← N, ← R, e)

  pub place-alike : r ≡ None → (t : Bool) → t ≡ is_taken 16 0 n texts → t ≡ true → Err SameCapitals ≡ place_judged (place_of 16 0 (filled w) texts) (is_taken 16 0 (filled w) texts)
  place-alike e t T h = rw (← N, ← R, e, ← T, h)

  pub place-unknown : r ≡ None → (t : Bool) → t ≡ is_taken 16 0 n texts → t ≡ false → Err Given ≡ place_judged (place_of 16 0 (filled w) texts) (is_taken 16 0 (filled w) texts)
  place-unknown e t T h = rw (← N, ← R, e, ← T, h)

pub inside-at : (r : Option ℕ) (k : ℕ) → Inside r → r ≡ Some k → k < 16
inside-at (Some j) k h e = let z : j ≡ k = cc in omega (arith, z, h)
inside-at None k h e = absurd (let z : ◌≡◌ {A = ℕ} 0 1 = cc in omega arith)

pub named-inside : (r : Result Term Expected) (k : ℕ) → NamesInside r → r ≡ Ok (Names k) → k < 16
named-inside (Ok (Names j)) k h e = let z : j ≡ k = cc in omega (arith, z, h)
named-inside (Ok Sign) k h e = absurd (let z : ◌≡◌ {A = ℕ} 0 1 = cc in omega arith)
named-inside (Ok (Times x)) k h e = absurd (let z : ◌≡◌ {A = ℕ} 0 1 = cc in omega arith)
named-inside (Err x) k h e = absurd (let z : ◌≡◌ {A = ℕ} 0 1 = cc in omega arith)

-- a sign and a number name nobody
pub sign-inside : (b e h : Bool) → NamesInside (sign_judged b e h)
sign-inside false e h = tt
sign-inside true true h = tt
sign-inside true false true = tt
sign-inside true false false = tt

pub times-inside : (n : Option Float) → NamesInside (times_judged n)
times-inside (Some x) = tt
times-inside None = tt

-- ---- what a word is

module _ (b e h p : Bool) (w texts : List ℕ) (l : Bool) (L : l ≡ (not p && same_text w (ascii "="))) where
  pub term-sign : l ≡ true → sign_judged b e h ≡ term_judged b e h p w texts
  unfolding term_judged
  term-sign q = rw (← L, q)

  module _ (q : l ≡ false) (j : Bool) (J : j ≡ (ltb 1 (length w) && has_equals w)) where
    pub term-joined : j ≡ true → Err ApartEquals ≡ term_judged b e h p w texts
    unfolding term_judged
    term-joined z = rw (← L, q, ← J, z)

    module _ (z : j ≡ false) (s : Bool) (S : s ≡ (same_text w (ascii "+") || same_text w (ascii "-"))) where
      pub term-plus : s ≡ true → Err NoSign ≡ term_judged b e h p w texts
      unfolding term_judged
      term-plus y = rw (← L, q, ← J, z, ← S, y)

      module _ (y : s ≡ false) (n : Bool) (N : n ≡ (not p && begins_number w)) where
        pub term-times : n ≡ true → times_judged (not_zero w) ≡ term_judged b e h p w texts
        unfolding term_judged
        term-times x = rw (← L, q, ← J, z, ← S, y, ← N, x)

        module _ (x : n ≡ false) (a : Bool) (A : a ≡ begins_letter w) where
          pub term-name : a ≡ true → place_judged (place_of 16 0 (filled w) texts) (is_taken 16 0 (filled w) texts) ≡ term_judged b e h p w texts
          unfolding term_judged
          term-name v = rw (← L, q, ← J, z, ← S, y, ← N, x, ← A, v)

          pub term-none : a ≡ false → Err TermName ≡ term_judged b e h p w texts
          unfolding term_judged
          term-none v = rw (← L, q, ← J, z, ← S, y, ← N, x, ← A, v)

-- ---- a turn

module _ (e : Bool) (n : Option Float) (x : Float) (X : x ≡ amount n) where
  pub signed-after : e ≡ true → neg x ≡ signed e (amount n)
  signed-after h = rw (h, X)

  pub signed-before : e ≡ false → x ≡ signed e (amount n)
  signed-before h = rw (h, X)

module _ (p : ℕ) (b : Bool) (w texts : List ℕ) (t : Turn) (z : Bool) (Z : z ≡ is_some t.pending) (r : Result Term Expected) (R : r ≡ term_judged b t.equals t.here z w texts) where
  pub turned-not : (x : Expected) → r ≡ Err x → stopped x ≡ turned p (term_judged b t.equals t.here (is_some t.pending) w texts) t
  unfolding turned
  turned-not x e = rw (← Z, ← R, e)

  pub turned-sign : r ≡ Ok Sign → next (record { equals = true; here = false; pending = None; numbers = t.numbers }) ≡ turned p (term_judged b t.equals t.here (is_some t.pending) w texts) t
  unfolding turned
  turned-sign e = rw (← Z, ← R, e)

  pub turned-times : (x : Float) → r ≡ Ok (Times x) → next (record { equals = t.equals; here = t.here; pending = Some x; numbers = t.numbers }) ≡ turned p (term_judged b t.equals t.here (is_some t.pending) w texts) t
  unfolding turned
  turned-times x e = rw (← Z, ← R, e)

  module _ (k : ℕ) (e : r ≡ Ok (Names k)) where
    pub turned-once : eq (at t.numbers (p + k)) +0 ≡ false → stopped Once ≡ turned p (term_judged b t.equals t.here (is_some t.pending) w texts) t
    unfolding turned
    turned-once h = rw (← Z, ← R, e, h)

    pub turned-name : eq (at t.numbers (p + k)) +0 ≡ true → (x : Float) → x ≡ signed t.equals (amount t.pending)
        → next (record { equals = t.equals; here = true; pending = None; numbers = set t.numbers (p + k) x }) ≡ turned p (term_judged b t.equals t.here (is_some t.pending) w texts) t
    unfolding turned
    turned-name h x X = rw (← Z, ← R, e, h, X)

-- ---- the end

module _ (b : Bool) (t : Turn) where
  pub end-early : t.here ≡ false → unlisted TermName [] ≡ terms_end b t
  unfolding terms_end
  end-early e = rw e

  module _ (h : t.here ≡ true) (n : Bool) (N : n ≡ is_some t.pending) where
    pub end-number : n ≡ true → unlisted TermName [] ≡ terms_end b t
    unfolding terms_end
    end-number e = rw (h, ← N, e)

    module _ (m : n ≡ false) where
      pub end-limit : b ≡ false → listed t.numbers ≡ terms_end b t
      unfolding terms_end
      end-limit e = rw (h, ← N, m, e)

      pub end-balance : b ≡ true → t.equals ≡ true → listed t.numbers ≡ terms_end b t
      unfolding terms_end
      end-balance e f = rw (h, ← N, m, e, f)

      pub end-open : b ≡ true → t.equals ≡ false → unlisted Equals [] ≡ terms_end b t
      unfolding terms_end
      end-open e f = rw (h, ← N, m, e, f)

-- ---- a word more

skip-short : (s : List ℕ) → length (skip_blanks s) ≤ length s
unfolding skip_blanks
skip-short [] = omega arith
skip-short (c ∷ s) = go (is_blank c) (skip-short s)
  where
    go : (b : Bool) → length (skip_blanks s) ≤ length s → length (cond b (skip_blanks s) (c ∷ s)) ≤ suc (length s)
    go true h = omega arith
    go false h = omega arith

rest-short : (s : List ℕ) → length (rest s) + length (word s) ≤ length s
unfolding word rest
rest-short s =
    let a = length-drop (length (up_to is_blank (skip_blanks s))) (skip_blanks s) in
    let b = up-short is_blank (skip_blanks s) in
    let d = skip-short s in
    omega (arith, a, b, d)

pub further : (line : List ℕ) (at : ℕ) (w : Word) → IsWord line at w → at ≤ length line → 0 < length (word (drop at line)) → at < w.end
further line at w i h p =
    let a = ap length i.left in
    let b = length-drop w.end line in
    let d = length-drop at line in
    let e = rest-short (drop at line) in
    let f = i.high in
    omega (arith, a, b, d, e, f)

-- ---- all words

module _ (b : Bool) (p : ℕ) (texts s : List ℕ) (t : Turn) where
  pub terms-end : length (word s) ≡ 0 → terms_from b p texts (words_of s) t ≡ terms_end b t
  unfolding terms_from
  terms-end h = rw (words-none s h)

  module _ (h : 0 < length (word s)) (w : List ℕ) (W : w ≡ word s) (r : Turned) (R : r ≡ turned p (term_judged b t.equals t.here (is_some t.pending) w texts) t) where
    pub terms-stop : (e : Expected) → r ≡ stopped e → unlisted e w ≡ terms_from b p texts (words_of s) t
    unfolding terms_from
    terms-stop e E = rw (words-some s h, ← W, ← R, E)

    pub terms-next : (u : List ℕ) → u ≡ rest s → (v : Turn) → r ≡ next v → terms_from b p texts (words_of s) t ≡ terms_from b p texts (words_of u) v
    unfolding terms_from
    terms-next u U v E = rw (words-some s h, ← W, ← R, E, U)

pub terms-begin : (b : Bool) (p : ℕ) (texts : List ℕ) (ws : List (List ℕ)) (numbers : List Float) → terms b p texts ws numbers ≡ terms_from b p texts ws (at_front numbers)
unfolding terms
terms-begin b p texts ws numbers = refl

-- ---- what the last word told

pub told-stop : (r : Result declared.Turn Expected) (numbers : List Float) (e : Expected) → r ≡ Err e → turn_told r numbers ≡ stopped e
told-stop r numbers e h = rw h

pub told-go : (r : Result declared.Turn Expected) (numbers : List Float) (t : declared.Turn) → r ≡ Ok t → turn_told r numbers ≡ next (turn t numbers)
told-go r numbers t h = rw h

-- ---- where the fault of a row stands

module _ (at : ℕ) (r : Wrong) (e : Expected) (R : r ≡ record { expected = e; word = record { start = at; end = at } }) where
  pub row-wrong : (line : List ℕ) (numbers : List Float) (l : Listed) → unlisted e [] ≡ l → row_told line (Err r) numbers ≡ l
  row-wrong line numbers l h = rw R (ap (unlisted e) (nothing at (drop at line)) ∙ h)

  pub ends-wrong : EndsAt at (Err r)
  ends-wrong = rw R (refl, refl)

pub ends-inside : (line : List ℕ) (at : ℕ) (r : Result Unit Wrong) → EndsAt at r → at ≤ length line → RowInside line r
ends-inside line at (Ok u) e h = tt
ends-inside line at (Err w) e h = let p = e.0 in let q = e.1 in (omega arith, omega arith)
