-- The kinds of line: each way out of the code is one law.
use mathlib.Core.Path.{◌≡◌, refl, ap, ◌∙◌}
use mathlib.Core.Bool.{Bool, true, false, ◌||◌}
use mathlib.Core.List.{List, [], ◌∷◌}
use Prim.Native.Nat.{ℕ, ◌+◌, ◌*◌, ◌≤◌, ◌<◌}
use native.Mathlib.Omega.{arith}
use borrow.Author.Tests.{lt-ltb, le-ltb, le-leb, lt-leb}
use lib.Dec.{eqb}
use lib.ListN.{length, set}
use lib.Ieee.{Float}
use Rattle.std.specs.Prelude.{Option, Some, None, Err}
use Rattle.day_words.specs.declared.Word.{Word}
use Rattle.day_words.specs.Words.{word, rest}
use Rattle.day_words.specs.Items.{decimal_of}
use Rattle.sheet_words.specs.declared.Expected.{Expected}
use Rattle.sheet_words.specs.declared.Expected.TheVariants.{OneTitle, OneTolerance, Late, FewItems, MeterBefore, FewBalances, FewLimits, FewDoubts, OneName, Decimal, NotBelow, End}
use Rattle.sheet_words.specs.declared.Wrong.{Wrong}
use Rattle.sheet_words.specs.Names.{begins_letter, not_below_zero}
use Rattle.sheet_words.specs.Lines.{between, words_of}
use Rattle.sheet_terms.specs.Terms.{Listed, listed, unlisted, terms}
use Rattle.sheet_parts.specs.Texts.{text_in}
use Rattle.sheet_parts.specs.Parts.{Named, named, unnamed, name_at, texted, untexted, text_at, itemed, unitemed, item_of}
use Rattle.sheet_lines.specs.inner.Work.{line_told}
use Rattle.sheet_lines.specs.Lines.{State, Line, taken, wrong, ended, with_title, with_doubt, title_line, doubt_line, with_item, item_read, item_named, item_line, with_balance, balance_named, balance_line, with_limit, limit_named, limit_line, tolerance_line}

-- ---- a fault, by what was expected and its word

pub line-wrong : (line : List ℕ) (r : Wrong) (e : Expected) (w : Word) → r ≡ record { expected = e; word = w }
    → (texts wholes : List ℕ) (numbers : List Float) (l : Line) → wrong e (between w.start w.end line) ≡ l → line_told line (Err r) texts wholes numbers ≡ l
line-wrong line r e w R texts wholes numbers l h = rw R h

-- ---- titles and doubts

module _ (k t : List ℕ) (s : State) where
  pub second-title : s.titled ≡ true → wrong OneTitle k ≡ title_line k t s
  unfolding title_line
  second-title h = rw h

  pub title-not : s.titled ≡ false → (e : Expected) (w : List ℕ) → untexted e w ≡ text_at 768 (text_in t) s.texts → wrong e w ≡ title_line k t s
  unfolding title_line
  title-not h e w E = rw (h, ← E)

  pub title-is : s.titled ≡ false → (texts : List ℕ) → texted texts ≡ text_at 768 (text_in t) s.texts → taken (with_title s texts) ≡ title_line k t s
  unfolding title_line
  title-is h texts E = rw (h, ← E)

  pub many-doubts : 16 ≤ s.doubts → wrong FewDoubts k ≡ doubt_line k t s
  unfolding doubt_line
  many-doubts h = rw (le-leb 16 s.doubts h)

  pub doubt-not : s.doubts < 16 → (e : Expected) (w : List ℕ) → untexted e w ≡ text_at (840 + 72 * s.doubts) (text_in t) s.texts → wrong e w ≡ doubt_line k t s
  unfolding doubt_line
  doubt-not h e w E = rw (lt-leb 16 s.doubts h, ← E)

  pub doubt-is : s.doubts < 16 → (texts : List ℕ) → texted texts ≡ text_at (840 + 72 * s.doubts) (text_in t) s.texts → taken (with_doubt s texts) ≡ doubt_line k t s
  unfolding doubt_line
  doubt-is h texts E = rw (lt-leb 16 s.doubts h, ← E)

-- ---- items

pub metered-yet : (m : Bool) (k : ℕ) → m ≡ true → true ≡ (m || eqb k 0)
metered-yet m k h = rw h

pub metered-now : (m : Bool) (k : ℕ) → m ≡ false → eqb k 0 ≡ (m || eqb k 0)
metered-now m k h = rw h

module _ (k : ℕ) (t texts : List ℕ) (s : State) where
  pub item-not : (e : Expected) (w : List ℕ) → unitemed e w ≡ item_of k t → wrong e w ≡ item_named k (named t texts) s
  unfolding item_named item_read
  item-not e w E = rw (← E)

  item-left : (old new : ℕ) (spread before after : Float) → itemed old new spread before after ≡ item_of k t → taken (with_item k old new spread before after texts s) ≡ item_named k (named t texts) s
  unfolding item_named item_read
  item-left old new spread before after E = rw (← E)

  pub item-is : (old new : ℕ) (spread before after : Float) → itemed old new spread before after ≡ item_of k t
      → (wholes : List ℕ) → wholes ≡ set (set (set s.wholes s.items old) (16 + s.items) new) (32 + s.items) k
      → (numbers : List Float) → numbers ≡ set (set (set s.numbers s.items spread) (16 + s.items) before) (32 + s.items) after
      → (m : Bool) → m ≡ (s.metered || eqb k 0)
      → taken (record { items = s.items + 1; balances = s.balances; limits = s.limits; doubts = s.doubts; titled = s.titled; metered = m; toleranced = s.toleranced; texts = texts; wholes = wholes; numbers = numbers }) ≡ item_named k (named t texts) s
  item-is old new spread before after E wholes A numbers N m M = rw (A, N, M) (item-left old new spread before after E)

pub unnamed-item : (k : ℕ) (e : Expected) (w : List ℕ) (s : State) → wrong e w ≡ item_named k (unnamed e w) s
unfolding item_named
unnamed-item k e w s = refl

module _ (k : ℕ) (w t : List ℕ) (s : State) where
  pub item-late : 0 < s.balances + s.limits → wrong Late w ≡ item_line k w t s
  unfolding item_line
  item-late h = rw (lt-ltb 0 (s.balances + s.limits) h)

  pub many-items : s.balances + s.limits ≤ 0 → 16 ≤ s.items → wrong FewItems w ≡ item_line k w t s
  unfolding item_line
  many-items h l = rw (le-ltb 0 (s.balances + s.limits) h, le-leb 16 s.items l)

  pub item_from : s.balances + s.limits ≤ 0 → s.items < 16 → (n : Named) → n ≡ name_at s.items t s.texts → (r : Line) → r ≡ item_named k n s → r ≡ item_line k w t s
  unfolding item_line
  item_from h l n N r R = R ∙ rw (le-ltb 0 (s.balances + s.limits) h, lt-leb 16 s.items l, N)

-- ---- balances

module _ (t texts : List ℕ) (s : State) (l : Listed) (L : l ≡ terms true (48 + 16 * s.balances) texts (words_of t) s.numbers) where
  pub balance-not : (e : Expected) (w : List ℕ) → unlisted e w ≡ l → wrong e w ≡ balance_named (named t texts) s
  unfolding balance_named
  balance-not e w h = rw (← L, ← h)

  pub balance-is : (numbers : List Float) → listed numbers ≡ l → with_balance texts (listed numbers) s ≡ balance_named (named t texts) s
  unfolding balance_named
  balance-is numbers h = rw (← L, ← h)

pub unnamed-balance : (e : Expected) (w : List ℕ) (s : State) → wrong e w ≡ balance_named (unnamed e w) s
unfolding balance_named
unnamed-balance e w s = refl

module _ (k t : List ℕ) (s : State) where
  pub balance-early : s.metered ≡ false → wrong MeterBefore k ≡ balance_line k t s
  unfolding balance_line
  balance-early h = rw h

  pub many-balances : s.metered ≡ true → 16 ≤ s.balances → wrong FewBalances k ≡ balance_line k t s
  unfolding balance_line
  many-balances h l = rw (h, le-leb 16 s.balances l)

  pub balance-from : s.metered ≡ true → s.balances < 16 → (n : Named) → n ≡ name_at (16 + s.balances) t s.texts → (r : Line) → r ≡ balance_named n s → r ≡ balance_line k t s
  unfolding balance_line
  balance-from h l n N r R = R ∙ rw (h, lt-leb 16 s.balances l, N)

-- ---- floors and ceilings

module _ (c : ℕ) (t texts : List ℕ) (s : State) (w : List ℕ) (W : w ≡ word t) (b : Bool) (B : b ≡ begins_letter w) where
  pub limit-letter : b ≡ true → wrong OneName w ≡ limit_named c (named t texts) s
  unfolding limit_named
  limit-letter h = rw (← W, ← B, h)

  module _ (h : b ≡ false) (n : Option Float) (N : n ≡ decimal_of w) where
    pub limit-amount : n ≡ None → wrong Decimal w ≡ limit_named c (named t texts) s
    unfolding limit_named
    limit-amount e = rw (← W, ← B, h, ← N, e)

    module _ (x : Float) (e : n ≡ Some x) (u : List ℕ) (U : u ≡ rest t) (l : Listed) (L : l ≡ terms false (320 + 16 * s.limits) texts (words_of u) (set s.numbers (304 + s.limits) x)) where
      limit-all : with_limit c texts l s ≡ limit_named c (named t texts) s
      unfolding limit_named
      limit-all = rw (← W, ← B, h, ← N, e, ← U, ← L)

      pub limit-not : (f : Expected) (v : List ℕ) → unlisted f v ≡ l → wrong f v ≡ limit_named c (named t texts) s
      limit-not f v g = ap (λ (q : Listed). with_limit c texts q s) g ∙ limit-all

      pub limit_is : (numbers : List Float) → listed numbers ≡ l → with_limit c texts (listed numbers) s ≡ limit_named c (named t texts) s
      limit_is numbers g = ap (λ (q : Listed). with_limit c texts q s) g ∙ limit-all

pub unnamed-limit : (c : ℕ) (e : Expected) (w : List ℕ) (s : State) → wrong e w ≡ limit_named c (unnamed e w) s
unfolding limit_named
unnamed-limit c e w s = refl

module _ (c : ℕ) (k t : List ℕ) (s : State) where
  pub limit-early : s.metered ≡ false → wrong MeterBefore k ≡ limit_line c k t s
  unfolding limit_line
  limit-early h = rw h

  pub many-limits : s.metered ≡ true → 16 ≤ s.limits → wrong FewLimits k ≡ limit_line c k t s
  unfolding limit_line
  many-limits h l = rw (h, le-leb 16 s.limits l)

  pub limit-from : s.metered ≡ true → s.limits < 16 → (n : Named) → n ≡ name_at (32 + s.limits) t s.texts → (r : Line) → r ≡ limit_named c n s → r ≡ limit_line c k t s
  unfolding limit_line
  limit-from h l n N r R = R ∙ rw (h, lt-leb 16 s.limits l, N)

-- ---- the tolerance

over : (w : List ℕ) (s : State) → 0 < length w → wrong End w ≡ ended w s
over [] s h = absurd (omega arith)
over (c ∷ w) s h = refl

done : (w : List ℕ) (s : State) → length w ≡ 0 → taken s ≡ ended w s
done [] s h = refl
done (c ∷ w) s h = absurd (omega arith)

unfoldable with_tolerance : Float → State → State
with_tolerance x s = record {
  items = s.items;
  balances = s.balances;
  limits = s.limits;
  doubts = s.doubts;
  titled = s.titled;
  metered = s.metered;
  toleranced = true;
  texts = s.texts;
  wholes = s.wholes;
  numbers = set s.numbers 576 x;
}

module _ (k t : List ℕ) (s : State) where
  pub second-tolerance : s.toleranced ≡ true → wrong OneTolerance k ≡ tolerance_line k t s
  unfolding tolerance_line
  second-tolerance h = rw h

  module _ (h : s.toleranced ≡ false) (w u : List ℕ) (W : w ≡ word t) (U : u ≡ rest t) (n : Option Float) (N : n ≡ not_below_zero w) where
    pub tolerance-not : n ≡ None → wrong NotBelow w ≡ tolerance_line k t s
    unfolding tolerance_line
    tolerance-not e = rw (h, ← W, ← N, e)

    module _ (x : Float) (e : n ≡ Some x) (v : List ℕ) (Y : v ≡ word u) where
      tolerance-all : ended v (with_tolerance x s) ≡ tolerance_line k t s
      unfolding tolerance_line with_tolerance
      tolerance-all = rw (h, ← W, ← N, e, ← U, ← Y)

      pub tolerance-over : 0 < length v → wrong End v ≡ tolerance_line k t s
      tolerance-over g = over v (with_tolerance x s) g ∙ tolerance-all

      pub tolerance-is : length v ≡ 0
          → taken (record { items = s.items; balances = s.balances; limits = s.limits; doubts = s.doubts; titled = s.titled; metered = s.metered; toleranced = true; texts = s.texts; wholes = s.wholes; numbers = set s.numbers 576 x }) ≡ tolerance_line k t s
      unfolding with_tolerance
      tolerance-is g = done v (with_tolerance x s) g ∙ tolerance-all
