-- The tables before the first line, a line by its first word, and one line after another.
use mathlib.Core.Path.{◌≡◌, refl, sym, ap, ◌∙◌}
use mathlib.Core.Bool.{Bool, true, false}
use mathlib.Core.List.{List, [], ◌∷◌, append-nil}
use Prim.Native.Nat.{ℕ, ◌+◌, ◌-◌, ◌≤◌, ◌<◌}
use native.Mathlib.Omega.{arith}
use borrow.Author.Tests.{lt-ltb, le-ltb, eq-eqb, ne_eqb}
use lib.Dec.{eqb}
use lib.ListN.{length, take, drop, get_or, replicate, length-drop, length-take, length-replicate, drop_of_length-le}
use lib.Seq.{drop-drop, take-take, take_all}
use lib.Ieee.{Float}
use Rattle.std.specs.Prelude.{Result, Ok, Err}
use Rattle.std.specs.Result.{is_ok}
use Rattle.numbers.specs.Numbers.{+0}
use Rattle.endian.specs.Little.{placed}
use Rattle.ascii.specs.inner.Work.{Wrote}
use Rattle.workspace.specs.Tables.{cleared}
use Rattle.day_words.specs.Words.{up_to, is_feed, lines_of, without_return, word, rest}
use Rattle.day_words.proofs.Words.{up-front, lines_more, lines_none}
use Rattle.sheet_words.specs.declared.Expected.{Expected}
use Rattle.sheet_words.specs.declared.Expected.TheVariants.{Kind, SmallKind, TitleLine, MeterLine, BalanceLine, ToleranceLine}
use Rattle.sheet_words.specs.Lines.{after_mark, unremarked, between, Lies}
use Rattle.sheet_parts.proofs.Laws.{drop_of_take}
use Rattle.sheet.specs.declared.Sizes.{Sizes}
use Rattle.sheet.specs.declared.Unread.{Unread}
use Rattle.sheet.specs.declared.Unread.TheVariants.{Fault, Long}
use Rattle.sheet_words.specs.declared.Wrong.{Wrong}
use Rattle.sheet_lines.specs.declared.Counts.{Counts}
use Rattle.sheet_lines.specs.Lines.{State, taken, wrong, title_line, doubt_line, item_line, balance_line, limit_line, tolerance_line}
use Rattle.sheet.specs.Sheet.{Outcome, is_passed, kinds, kind_of, is_alike, plain_line, line_read, whole, fault, long, sheet_end, onward, lines_read, blank_texts, blank_wholes, blank_numbers, at_start, sheet_of}
use Rattle.sheet.specs.Promise.{told, BlankUnlessWhole, Fits}
use Rattle.sheet_lines.specs.inner.Work.{line_told, Sound}

-- ---- blank tables

all-cleared : {A : Type 0} (z : A) (k : ℕ) (d : List A) → length d ≡ k → cleared z k d ≡ replicate k z
unfolding cleared
all-cleared z k d e = let h : length d ≤ k = omega arith in rw (drop_of_length-le d h, append-nil)

pub no-wholes : (d : List ℕ) → length d ≡ 64 → cleared 0 64 d ≡ blank_wholes
unfolding blank_wholes
no-wholes d e = all-cleared 0 64 d e

pub no-numbers : (d : List Float) → length d ≡ 577 → cleared +0 577 d ≡ blank_numbers
unfolding blank_numbers
no-numbers d e = all-cleared +0 577 d e

over-all : (t d : List ℕ) → length d ≤ length t → placed 0 t d ≡ t
unfolding placed
over-all t d h = let l : length d ≤ 0 + length t = omega arith in rw (drop_of_length-le d l, append-nil)

pub no-texts : (d a : List ℕ) (r : ℕ) → length d ≡ 1992 → Wrote d 0 (replicate 1992 32) a r → a ≡ blank_texts
unfolding blank_texts
no-texts d a r e w = w.held ∙ over-all (replicate 1992 32) d (let l = length-replicate {A = ℕ} 1992 32 in omega arith)

-- ---- a line by its first word

pub passed_none : (w : List ℕ) → length w ≡ 0 → true ≡ is_passed w
passed_none [] h = refl
passed_none (c ∷ w) h = absurd (omega arith)

pub passed-some : (w : List ℕ) → (length w ≡ 0 → ⊥) → eqb (get_or w 0 0) 35 ≡ is_passed w
passed-some [] h = absurd (h refl)
passed-some (c ∷ w) h = refl

module _ (k : ℕ) (w t : List ℕ) (s : State) where
  pub plain-item : k < 3 → item_line k w t s ≡ plain_line k w t s
  unfolding plain_line
  plain-item h = rw (lt-ltb k 3 h)

  module _ (h : 3 ≤ k) where
    pub plain-balance : k ≡ 3 → balance_line w t s ≡ plain_line k w t s
    unfolding plain_line
    plain-balance e = rw (le-ltb k 3 h, eq-eqb k 3 e)

    module _ (n : k ≡ 3 → ⊥) where
      pub plain-limit : k < 6 → limit_line (k - 4) w t s ≡ plain_line k w t s
      unfolding plain_line
      plain-limit l = rw (le-ltb k 3 h, ne_eqb k 3 n, lt-ltb k 6 l)

      module _ (l : 6 ≤ k) where
        pub plain-tolerance : k ≡ 6 → tolerance_line w t s ≡ plain_line k w t s
        unfolding plain_line
        plain-tolerance e = rw (le-ltb k 3 h, ne_eqb k 3 n, le-ltb k 6 l, eq-eqb k 6 e)

        module _ (m : k ≡ 6 → ⊥) (b : Bool) (B : b ≡ is_alike w kinds) where
          pub plain-small : b ≡ true → wrong SmallKind w ≡ plain_line k w t s
          unfolding plain_line
          plain-small e = rw (le-ltb k 3 h, ne_eqb k 3 n, le-ltb k 6 l, ne_eqb k 6 m, ← B, e)

          pub plain-none : b ≡ false → wrong Kind w ≡ plain_line k w t s
          unfolding plain_line
          plain-none e = rw (le-ltb k 3 h, ne_eqb k 3 n, le-ltb k 6 l, ne_eqb k 6 m, ← B, e)

module _ (l w u : List ℕ) (s : State) (W : w ≡ word l) (U : u ≡ rest l) (p : Bool) (P : p ≡ is_passed w) where
  pub line-passed : p ≡ true → taken s ≡ line_read l s
  unfolding line_read
  line-passed h = rw (← W, ← P, h)

  module _ (h : p ≡ false) (k : ℕ) (K : k ≡ kind_of w) where
    pub line-title : k ≡ 7 → title_line w u s ≡ line_read l s
    unfolding line_read
    line-title e = rw (← W, ← P, h, ← K, eq-eqb k 7 e, U)

    module _ (n : k ≡ 7 → ⊥) where
      pub line-doubt : k ≡ 8 → doubt_line w u s ≡ line_read l s
      unfolding line_read
      line-doubt e = rw (← W, ← P, h, ← K, ne_eqb k 7 n, eq-eqb k 8 e, U)

      pub line_plain : (k ≡ 8 → ⊥) → plain_line k w (unremarked u) s ≡ line_read l s
      unfolding line_read
      line_plain m = rw (← W, ← P, h, ← K, ne_eqb k 7 n, ne_eqb k 8 m, U)

-- ---- a line that is cut off, and a line of the bytes

pub cut-between : (n a b : ℕ) (l : List ℕ) → b ≤ n → between a b (take n l) ≡ between a b l
cut-between n a b l h = ap (take (b - a)) (drop_of_take a n l) ∙ take-take (b - a) (n - a) (drop a l) (omega arith)

moved-between : (at a b : ℕ) (l : List ℕ) → between (at + a) (at + b) l ≡ between a b (drop at l)
moved-between at a b l =
    let e : at + b - (at + a) ≡ b - a = omega arith in
    ap (λ (n : ℕ). take n (drop (at + a) l)) e ∙ ap (take (b - a)) (sym (drop-drop a at l))

-- where the remark is cut off from what comes after the first word
pub cut_fits : (line : List ℕ) (from n : ℕ) → from ≤ length line → n ≤ length (take (length line - from) (drop from line)) → from + n ≤ length line
cut_fits line from n h l =
    let y = length-take (length line - from) (drop from line) in
    let d = length-drop from line in
    omega (arith, y, d, h, l)

cut-rest : (line : List ℕ) (from n : ℕ) → take n (take (length line - from) (drop from line)) ≡ unremarked (take (length line - from) (drop from line)) → drop from (take (from + n) line) ≡ unremarked (drop from line)
cut-rest line from n e =
    let d = length-drop from line in
    let a : take (length line - from) (drop from line) ≡ drop from line = take_all (length line - from) (drop from line) (omega (arith, d)) in
    let k : from + n - from ≡ n = omega arith in
    drop_of_take from (from + n) line ∙ ap (λ (j : ℕ). take j (drop from line)) k ∙ ap (take n) (sym a) ∙ e ∙ ap unremarked a

pub plain-cut : (line : List ℕ) (at from n k : ℕ) (s : State) → take n (take (length line - from) (drop from line)) ≡ unremarked (take (length line - from) (drop from line))
    → plain_line k (between at from (take (from + n) line)) (drop from (take (from + n) line)) s ≡ plain_line k (between at from line) (unremarked (drop from line)) s
plain-cut line at from n k s e =
    ap (λ (w : List ℕ). plain_line k w (drop from (take (from + n) line)) s) (cut-between (from + n) at from line (omega arith))
    ∙ ap (λ (t : List ℕ). plain_line k (between at from line) t s) (cut-rest line from n e)

-- what a line tells is told of the text of which it is the front
pub cut-told : (n : ℕ) (l : List ℕ) (r : Result Counts Wrong) (texts wholes : List ℕ) (numbers : List Float) → Sound (take n l) r → line_told l r texts wholes numbers ≡ line_told (take n l) r texts wholes numbers
cut-told n l (Ok s) texts wholes numbers h = refl
cut-told n l (Err w) texts wholes numbers h = ap (wrong w.expected) (sym (cut-between n w.word.start w.word.end l (let z = length-take n l in omega (arith, z, h.1))))

pub cut-sound : (n : ℕ) (l : List ℕ) (r : Result Counts Wrong) → Sound (take n l) r → Sound l r
cut-sound n l (Ok s) h = h
cut-sound n l (Err w) h = (h.0, let z = length-take n l in omega (arith, z, h.1))

-- the word of a fault in the line from `at` to `end` of the bytes, cut to n
module _ (bytes : List ℕ) (at end n a b : ℕ) (h : Lies at end bytes) (g : Lies a b (take n (between at end bytes))) where
  pub lies_in : Lies (at + a) (at + b) bytes
  lies_in =
      let y = length-take n (between at end bytes) in
      let z = length-take (end - at) (drop at bytes) in
      let d = length-drop at bytes in
      (omega (arith, g.0), omega (arith, y, z, d, g.1, h.0, h.1))

  pub found_in : between (at + a) (at + b) bytes ≡ between a b (take n (between at end bytes))
  found_in =
      let y = length-take n (between at end bytes) in
      let z = length-take (end - at) (drop at bytes) in
      moved-between at a b bytes
      ∙ sym (cut-between (end - at) a b (drop at bytes) (omega (arith, y, z, g.1)))
      ∙ sym (cut-between n a b (between at end bytes) (omega (arith, y, g.1)))

-- ---- the end of the sheet

module _ (line : ℕ) (s : State) where
  pub end-title : s.titled ≡ false → fault line TitleLine [] ≡ sheet_end line s
  unfolding sheet_end
  end-title h = rw h

  module _ (h : s.titled ≡ true) where
    pub end-meter : s.metered ≡ false → fault line MeterLine [] ≡ sheet_end line s
    unfolding sheet_end
    end-meter m = rw (h, m)

    module _ (m : s.metered ≡ true) where
      pub end-balance : s.balances ≡ 0 → fault line BalanceLine [] ≡ sheet_end line s
      unfolding sheet_end
      end-balance b = rw (h, m, eq-eqb s.balances 0 b)

      module _ (b : s.balances ≡ 0 → ⊥) where
        pub end_whole : s.toleranced ≡ true → whole s.items s.balances s.limits s.doubts s.texts s.wholes s.numbers ≡ sheet_end line s
        unfolding sheet_end
        end_whole t = rw (h, m, ne_eqb s.balances 0 b, t)

        pub end-tolerance : s.toleranced ≡ false → fault line ToleranceLine [] ≡ sheet_end line s
        unfolding sheet_end
        end-tolerance t = rw (h, m, ne_eqb s.balances 0 b, t)

-- ---- one line after another

pub lines_end : (bs : List ℕ) (at k : ℕ) (s : State) → length bs ≤ at → sheet_end (k + 1) s ≡ lines_read (lines_of (drop at bs)) k s
unfolding lines_read
lines_end bs at k s h = rw (lines_none (drop at bs) (rw (length-drop at bs) (omega arith)))

module _ (bs : List ℕ) (at end k : ℕ) (s : State) (h : at < length bs) (e : end ≡ at + length (up_to is_feed (drop at bs))) where
  line-is : between at end bs ≡ up_to is_feed (drop at bs)
  line-is = let n : end - at ≡ length (up_to is_feed (drop at bs)) = omega arith in ap (λ (j : ℕ). take j (drop at bs)) n ∙ up-front is_feed (drop at bs)

  lines_split : lines_read (lines_of (drop at bs)) k s ≡ onward (k + 1) (line_read (without_return (between at end bs)) s) (lines_read (lines_of (drop (end + 1) bs)) (k + 1))
  unfolding lines_read
  lines_split =
      let n = length (up_to is_feed (drop at bs)) in
      let j : at + (n + 1) ≡ end + 1 = omega arith in
      let d : drop (n + 1) (drop at bs) ≡ drop (end + 1) bs = drop-drop (n + 1) at bs ∙ ap (λ (i : ℕ). drop i bs) j in
      ap (λ (ls : List (List ℕ)). lines_read ls k s) (lines_more (drop at bs) (rw (length-drop at bs) (omega arith)))
      ∙ ap (λ (l : List ℕ). onward (k + 1) (line_read (without_return l) s) (lines_read (lines_of (drop (n + 1) (drop at bs))) (k + 1))) (sym line-is)
      ∙ ap (λ (l : List ℕ). onward (k + 1) (line_read (without_return (between at end bs)) s) (lines_read (lines_of l) (k + 1))) d

  pub lines-wrong : (x : Expected) (w : List ℕ) → wrong x w ≡ line_read (without_return (between at end bs)) s → fault (k + 1) x w ≡ lines_read (lines_of (drop at bs)) k s
  lines-wrong x w g = sym (lines_split ∙ rw (← g))

  pub lines_next : (t : State) → taken t ≡ line_read (without_return (between at end bs)) s → lines_read (lines_of (drop at bs)) k s ≡ lines_read (lines_of (drop (end + 1) bs)) (k + 1) t
  lines_next t g = lines_split ∙ rw (← g)

-- ---- the whole sheet

pub sheet-long : (bs : List ℕ) → 65536 < length bs → long ≡ sheet_of bs
unfolding sheet_of
sheet-long bs h = rw (lt-ltb 65536 (length bs) h)

sheet-read : (bs : List ℕ) → length bs ≤ 65536 → lines_read (lines_of (after_mark bs)) 0 at_start ≡ sheet_of bs
unfolding sheet_of
sheet-read bs h = rw (le-ltb 65536 (length bs) h)

pub sheet-start : (bs l texts wholes : List ℕ) (numbers : List Float) → length bs ≤ 65536 → l ≡ after_mark bs → texts ≡ blank_texts → wholes ≡ blank_wholes → numbers ≡ blank_numbers
    → lines_read (lines_of l) 0 (record { items = 0; balances = 0; limits = 0; doubts = 0; titled = false; metered = false; toleranced = false; texts = texts; wholes = wholes; numbers = numbers }) ≡ sheet_of bs
unfolding at_start
sheet-start bs l texts wholes numbers h m a b c = rw (m, a, b, c) (sheet-read bs h)

-- ---- what is left in the tables

pub whole-free : (r : Result Sizes Unread) (texts wholes : List ℕ) (numbers : List Float) → is_ok r ≡ true → BlankUnlessWhole r texts wholes numbers
whole-free (Ok n) texts wholes numbers h = tt
whole-free (Err u) texts wholes numbers h = absurd (let z : ◌≡◌ {A = ℕ} 0 1 = cc in omega arith)

pub left-blank : (r : Result Sizes Unread) (texts wholes : List ℕ) (numbers : List Float) → (texts ≡ blank_texts) × (wholes ≡ blank_wholes) × (numbers ≡ blank_numbers) → BlankUnlessWhole r texts wholes numbers
left-blank (Ok n) texts wholes numbers h = tt
left-blank (Err u) texts wholes numbers h = h

-- a fault is told whatever the tables hold
pub told-alike : (bytes : List ℕ) (r : Result Sizes Unread) (a b : List ℕ) (x : List Float) (c d : List ℕ) (y : List Float) → is_ok r ≡ false → told bytes r a b x ≡ told bytes r c d y
told-alike bytes (Ok n) a b x c d y h = absurd (let z : ◌≡◌ {A = ℕ} 0 1 = cc in omega arith)
told-alike bytes (Err (Fault line w)) a b x c d y h = refl
told-alike bytes (Err Long) a b x c d y h = refl

-- what is missing is told with no word
module _ (line : ℕ) (e : Expected) (u : Unread) (M : u ≡ Fault line (record { expected = e; word = record { start = 0; end = 0 } })) (bytes : List ℕ) where
  pub missing-told : (texts wholes : List ℕ) (numbers : List Float) (o : Outcome) → fault line e [] ≡ o → told bytes (Err u) texts wholes numbers ≡ o
  missing-told texts wholes numbers o h = rw M h

  pub missing-fits : Fits bytes (Err u)
  missing-fits = rw M (omega arith, omega arith)
