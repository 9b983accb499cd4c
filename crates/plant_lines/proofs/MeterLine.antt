-- A meter's line, word by word: each way out of the code is one law.
use mathlib.Core.Path.{◌≡◌, refl, sym, ap, ◌∙◌}
use mathlib.Core.Logic.{⊎_elim}
use mathlib.Core.Bool.{Bool, true, false, cond, not}
use mathlib.Core.List.{List, [], ◌∷◌}
use Prim.Native.Nat.{ℕ, ◌≤◌, ◌<◌}
use native.Mathlib.Omega.{arith}
use borrow.Author.Tests.{le-leb, lt-leb, leb-true, eq-eqb, ne_eqb}
use lib.Dec.{leb}
use lib.ListN.{length, get_or, replicate}
use lib.Ieee.{Float}
use Rattle.numbers.proofs.Cases.{lt-or-ge, eq-or-ne}
use Rattle.numbers.specs.Numbers.{tab}
use Rattle.ascii.specs.Text.{ascii, same_text}
use Rattle.decimals.specs.inner.Work.{run_from}
use Rattle.day_words.specs.Words.{word, rest}
use Rattle.day_words.specs.Items.{reading_of}
use Rattle.day_words.proofs.Items.{reading-none, reading-long, reading-not, reading-is, reading_fits}
use Rattle.sheet_words.specs.declared.Expected.{Expected}
use Rattle.sheet_words.specs.Names.{name_judged, above_zero}
use Rattle.sheet_words.specs.Lines.{unremarked}
use Rattle.plant.specs.Lines.{Meter, Line, copied, metered, wrong, is_given, up_to_fifteen, meter_number, no_names, ended, allowed_by, last_words, spread_by, name_by, number_by, meter_line, line_of}
use Rattle.plant.specs.declared.Wanted.TheVariants as wanted
use Rattle.plant_lines.specs.Table.{Known}
use Rattle.std.specs.Prelude.{Option, Some, None, Result, Ok, Err}

-- ---- a meter's number

pub number-long : (w : List ℕ) → 2 < length w → None ≡ meter_number w
unfolding meter_number
number-long w h = rw (lt-leb (length w) 2 h)

module _ (w : List ℕ) (h : length w ≤ 2) (r : Option ℕ) (R : r ≡ reading_of w) where
  pub number-not : r ≡ None → None ≡ meter_number w
  unfolding meter_number
  number-not e = rw (le-leb (length w) 2 h, ← R, e)

  module _ (n : ℕ) (e : r ≡ Some n) where
    pub number-over : 15 < n → None ≡ meter_number w
    unfolding meter_number
    number-over l = rw (le-leb (length w) 2 h, ← R, e, lt-leb n 15 l)

    pub number_is : n ≤ 15 → Some n ≡ meter_number w
    unfolding meter_number
    number_is l = rw (le-leb (length w) 2 h, ← R, e, le-leb n 15 l)

unlike : {A : Type 0} {k : ℕ} → ◌≡◌ {A = Option ℕ} (Some k) None → A
unlike h = absurd (let z : ◌≡◌ {A = ℕ} 0 1 = cc in omega arith)

shown : (k n : ℕ) → ◌≡◌ {A = Option ℕ} (Some k) (Some n) → k ≡ n
shown k n e = cc

pub number_low : (w : List ℕ) (n : ℕ) → Some n ≡ meter_number w → n < 16
unfolding meter_number
number_low w n = go (leb (length w) 2) (reading_of w)
  where
    small : (k : ℕ) (b : Bool) → leb k 15 ≡ b → Some n ≡ cond b (Some k) None → n < 16
    small k true l e = omega (arith, shown n k e, leb-true k 15 l)
    small k false l e = unlike e

    go : (b : Bool) (r : Option ℕ) → Some n ≡ cond b (up_to_fifteen r) None → n < 16
    go true (Some k) e = small k (leb k 15) refl e
    go true None e = unlike e
    go false r e = unlike e

-- six digits make no more than this
pub minutes_low : (w : List ℕ) (k : ℕ) → Some k ≡ reading_of w → k ≤ 999999
minutes_low w k e =
    ⊎_elim (λ (z : length w ≡ 0). unlike (e ∙ sym (reading-none w z)))
    (λ (n : length w ≡ 0 → ⊥).
    ⊎_elim (λ (l : 6 < length w). unlike (e ∙ sym (reading-long w l)))
    (λ (l : length w ≤ 6).
    ⊎_elim
    (λ (a : (run_from w 0 0).end ≡ length w). let s = shown k (run_from w 0 0).value (e ∙ sym (reading-is w n l (run_from w 0 0) refl a)) in omega (arith, s, reading_fits w n l (run_from w 0 0) refl a))
    (λ (a : (run_from w 0 0).end ≡ length w → ⊥). unlike (e ∙ sym (reading-not w n l (run_from w 0 0) refl a)))
    (eq-or-ne (run_from w 0 0).end (length w)))
    (lt-or-ge 6 (length w)))
    (eq-or-ne (length w) 0)

-- ---- what follows the spread

module _ (n : ℕ) (name spread : List ℕ) where
  none_last : (w after : List ℕ) → length w ≡ 0 → metered (record { number = n; name = name; spread = spread; allowed = None }) ≡ last_words w after n name spread
  unfolding last_words
  none_last [] after h = refl
  none_last (c ∷ w) after h = absurd (omega arith)

  some-last : (w after : List ℕ) → (length w ≡ 0 → ⊥) → allowed_by (reading_of w) w after n name spread ≡ last_words w after n name spread
  unfolding last_words
  some-last [] after h = absurd (h refl)
  some-last (c ∷ w) after h = refl

  module _ (t w : List ℕ) (W : w ≡ word t) where
    pub last_none : (allowed : Option ℕ) → allowed ≡ None → length w ≡ 0
        → metered (record { number = n; name = name; spread = spread; allowed = allowed }) ≡ last_words (word t) (word (rest t)) n name spread
    last_none allowed B h = rw (← W, B) (none_last w (word (rest t)) h)

    module _ (s : length w ≡ 0 → ⊥) (u : List ℕ) (U : u ≡ rest t) (r : Option ℕ) (R : r ≡ reading_of w) where
      pub last-minutes : r ≡ None → wrong wanted.Minutes w ≡ last_words (word t) (word (rest t)) n name spread
      last-minutes e = rw (← R, e) at (some-last w (word (rest t)) s) ∙ ap (λ (v : List ℕ). last_words v (word (rest t)) n name spread) W

      module _ (k : ℕ) (e : r ≡ Some k) (v : List ℕ) (A : v ≡ word u) where
        last-all : ended v (metered (record { number = n; name = name; spread = spread; allowed = Some k })) ≡ last_words (word t) (word (rest t)) n name spread
        last-all = rw (← U, ← A) (rw (← R, e) at (some-last w v s) ∙ ap (λ (x : List ℕ). last_words x v n name spread) W)

        pub last-over : 0 < length v → wrong wanted.End v ≡ last_words (word t) (word (rest t)) n name spread
        last-over h = go v h ∙ last-all
          where
            go : (x : List ℕ) → 0 < length x → wrong wanted.End x ≡ ended x (metered (record { number = n; name = name; spread = spread; allowed = Some k }))
            go [] l = absurd (omega arith)
            go (c ∷ x) l = refl

        pub last-limit : length v ≡ 0 → metered (record { number = n; name = name; spread = spread; allowed = Some k }) ≡ last_words (word t) (word (rest t)) n name spread
        last-limit h = go v h ∙ last-all
          where
            go : (x : List ℕ) → length x ≡ 0 → metered (record { number = n; name = name; spread = spread; allowed = Some k }) ≡ ended x (metered (record { number = n; name = name; spread = spread; allowed = Some k }))
            go [] l = refl
            go (c ∷ x) l = absurd (omega arith)

-- ---- spread, name and number

pub judged-blank : (w : List ℕ) (j : Result Unit Expected) → j ≡ name_judged w (replicate 768 32) → j ≡ name_judged w no_names
unfolding no_names
judged-blank w j e = e

module _ (t w u : List ℕ) (W : w ≡ word t) (U : u ≡ rest t) where
  module _ (n : ℕ) (name : List ℕ) (x : Option Float) (X : x ≡ above_zero w) where
    pub spread-not : x ≡ None → wrong wanted.Spread w ≡ spread_by (above_zero (word t)) t n name
    spread-not e = rw (← W, ← X, e, ← W)

    pub spread-is : (y : Float) → x ≡ Some y → (r : Line) → r ≡ last_words (word u) (word (rest u)) n name w → r ≡ spread_by (above_zero (word t)) t n name
    spread-is y e r R = R ∙ rw (← W, ← X, e, ← U, ← W)

  module _ (n : ℕ) (j : Result Unit Expected) (J : j ≡ name_judged w no_names) where
    pub name-not : (e : Expected) → j ≡ Err e → wrong wanted.Name w ≡ name_by (name_judged (word t) no_names) t n
    name-not e E = rw (← W, ← J, E, ← W)

    pub name_is : (u₁ : Unit {0}) → j ≡ Ok u₁ → (r : Line) → r ≡ spread_by (above_zero (word u)) u n w → r ≡ name_by (name_judged (word t) no_names) t n
    name_is u₁ E r R = R ∙ rw (← W, ← J, E, ← U, ← W)

  module _ (k : Option ℕ) (K : k ≡ meter_number w) (ms : List Meter) where
    pub meter-not : k ≡ None → wrong wanted.Number w ≡ meter_line t ms
    unfolding meter_line
    meter-not e = rw (← W, ← K, e, ← W)

    module _ (n : ℕ) (e : k ≡ Some n) (l : n < 16) (table : List ℕ) (known : Known ms table) where
      pub meter-given : (get_or table n 0 ≡ 0 → ⊥) → wrong wanted.NewNumber w ≡ meter_line t ms
      unfolding meter_line
      meter-given h = rw (← W, ← K, e, known n l, ne_eqb (get_or table n 0) 0 h, ← W)

      pub meter-new : get_or table n 0 ≡ 0 → (r : Line) → r ≡ name_by (name_judged (word u) no_names) u n → r ≡ meter_line t ms
      unfolding meter_line
      meter-new h r R = R ∙ rw (← W, ← K, e, known n l, eq-eqb (get_or table n 0) 0 h, ← U)

-- ---- a line by its first word

pub as-text : (w : List ℕ) (b : Bool) → b ≡ same_text w (109 ∷ (101 ∷ (116 ∷ (101 ∷ (114 ∷ []))))) → b ≡ same_text w (ascii "meter")
unfolding ascii tab
as-text w b e = e

unless : (b d : Bool) → not b ≡ d → b ≡ not d
unless true d e = ap not e
unless false d e = ap not e

module _ (l w u : List ℕ) (W : w ≡ word l) (U : u ≡ rest l) (b : Bool) (B : b ≡ same_text w (ascii "meter")) (ms : List Meter) where
  pub line-copied : not b ≡ true → copied ≡ line_of l ms
  unfolding line_of
  line-copied e = rw (← W, ← B, unless b true e)

  pub line-meter : not b ≡ false → meter_line (unremarked u) ms ≡ line_of l ms
  unfolding line_of
  line-meter e = rw (← W, ← B, unless b false e, U)

-- ---- a meter that is taken has a new number

abbrev number_in : ℕ → Line → ℕ
number_in d copied = d
number_in d (metered m) = m.number
number_in d (wrong e w) = d

ended-number : (after : List ℕ) (m : Meter) → number_in m.number (ended after (metered m)) ≡ m.number
ended-number [] m = refl
ended-number (c ∷ after) m = refl

allowed-number : (a : Option ℕ) (w after : List ℕ) (n : ℕ) (name spread : List ℕ) → number_in n (allowed_by a w after n name spread) ≡ n
allowed-number (Some k) w after n name spread = ended-number after (record { number = n; name = name; spread = spread; allowed = Some k })
allowed-number None w after n name spread = refl

last-number : (w after : List ℕ) (n : ℕ) (name spread : List ℕ) → number_in n (last_words w after n name spread) ≡ n
unfolding last_words
last-number [] after n name spread = refl
last-number (c ∷ w) after n name spread = allowed-number (reading_of (c ∷ w)) (c ∷ w) after n name spread

spread-number : (x : Option Float) (t : List ℕ) (n : ℕ) (name : List ℕ) → number_in n (spread_by x t n name) ≡ n
spread-number (Some x) t n name = last-number (word (rest t)) (word (rest (rest t))) n name (word t)
spread-number None t n name = refl

name-number : (j : Result Unit Expected) (t : List ℕ) (n : ℕ) → number_in n (name_by j t n) ≡ n
name-number (Ok u) t n = spread-number (above_zero (word (rest t))) (rest t) n (word t)
name-number (Err e) t n = refl

abbrev is_metered : Line → Bool
is_metered copied = false
is_metered (metered m) = true
is_metered (wrong e w) = false

no-meter : {A : Type 0} (l : Line) (m : Meter) → is_metered l ≡ false → l ≡ metered m → A
no-meter l m f e = absurd (let z : ◌≡◌ {A = ℕ} 0 1 = (let y : false ≡ true = sym f ∙ ap is_metered e in cc) in omega arith)

pub new-number : (l : List ℕ) (ms : List Meter) (m : Meter) → line_of l ms ≡ metered m → is_given m.number ms ≡ false
unfolding line_of meter_line
new-number l ms m = go (same_text (word l) (ascii "meter")) (meter_number (word (unremarked (rest l))))
  where
    given : (n : ℕ) (b : Bool) → is_given n ms ≡ b → cond b (wrong wanted.NewNumber (word (unremarked (rest l)))) (name_by (name_judged (word (rest (unremarked (rest l)))) no_names) (rest (unremarked (rest l))) n) ≡ metered m → is_given m.number ms ≡ false
    given n true g e = no-meter _ m refl e
    given n false g e = ap (λ (k : ℕ). is_given k ms) (sym (ap (number_in n) e) ∙ name-number (name_judged (word (rest (unremarked (rest l)))) no_names) (rest (unremarked (rest l))) n) ∙ g

    go : (b : Bool) (k : Option ℕ) → cond b (number_by k (unremarked (rest l)) ms) copied ≡ metered m → is_given m.number ms ≡ false
    go true (Some n) e = given n (is_given n ms) refl e
    go true None e = no-meter _ m refl e
    go false k e = no-meter copied m refl e
