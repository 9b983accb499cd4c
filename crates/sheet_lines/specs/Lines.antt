-- What a line of each kind gives, or what was expected in it. Definitions only.
use Rattle.std.specs.Prelude.{Option, Some, None, Bool, true, false, cond, not, ◌||◌, List, [], ◌∷◌, ℕ, ◌+◌, ◌*◌, leb, ltb, eqb, set, Float}
use Rattle.day_words.specs.Words.{word, rest}
use Rattle.day_words.specs.Items.{decimal_of}
use Rattle.sheet_words.specs.declared.Expected.{Expected}
use Rattle.sheet_words.specs.declared.Expected.TheVariants.{OneTitle, OneTolerance, Late, FewItems, MeterBefore, FewBalances, FewLimits, FewDoubts, OneName, Decimal, NotBelow, End}
use Rattle.sheet_words.specs.Names.{begins_letter, not_below_zero}
use Rattle.sheet_words.specs.Lines.{words_of}
use Rattle.sheet_terms.specs.Terms.{Listed, listed, unlisted, terms}
use Rattle.sheet_parts.specs.Texts.{text_in}
use Rattle.sheet_parts.specs.Parts.{Named, named, unnamed, name_at, Texted, texted, untexted, text_at, Itemed, itemed, unitemed, item_of}

-- What the lines so far gave. An item is a meter, a line or a stock; a limit is a floor or a ceiling.
-- texts: names of 16 bytes, that of item i at 16 i, of balance j at 256 + 16 j, of limit j at 512 + 16 j; the title at 768, doubt j at 840 + 72 j. Blank elsewhere.
-- wholes: the old reading of item i at i, the new at 16 + i, its kind at 32 + i (0 a meter, 1 a line, 2 a stock); the kind of limit j at 48 + j (0 a floor, 1 a ceiling).
-- numbers: of item i the spread or capacity at i, a stock's content before at 16 + i, after at 32 + i. Balance j has its row of 16 at 48 + 16 j,
-- limit j its amount at 304 + j and its row at 320 + 16 j. The tolerance is at 576.
pub record State : Type 0 where
  pub items : ℕ
  pub balances : ℕ
  pub limits : ℕ
  pub doubts : ℕ
  pub titled : Bool
  pub metered : Bool
  pub toleranced : Bool
  pub texts : List ℕ
  pub wholes : List ℕ
  pub numbers : List Float

-- a line is taken; or something else was expected at a word of it, which is empty at the line's end
pub data Line : Type 0 where
  taken : State → Line
  wrong : Expected → (word : List ℕ) → Line

-- nothing may follow
abbrev pub ended : (after : List ℕ) → State → Line
ended [] s = taken s
ended (c ∷ cs) s = wrong End (c ∷ cs)

-- ---- title TEXT, doubt TEXT

abbrev pub with_title : State → List ℕ → State
with_title s texts = record {
  items = s.items;
  balances = s.balances;
  limits = s.limits;
  doubts = s.doubts;
  titled = true;
  metered = s.metered;
  toleranced = s.toleranced;
  texts = texts;
  wholes = s.wholes;
  numbers = s.numbers;
}

abbrev pub with_doubt : State → List ℕ → State
with_doubt s texts = record {
  items = s.items;
  balances = s.balances;
  limits = s.limits;
  doubts = s.doubts + 1;
  titled = s.titled;
  metered = s.metered;
  toleranced = s.toleranced;
  texts = texts;
  wholes = s.wholes;
  numbers = s.numbers;
}

abbrev pub title_read : Texted → State → Line
title_read (texted texts) s = taken (with_title s texts)
title_read (untexted e w) s = wrong e w

abbrev pub doubt_read : Texted → State → Line
doubt_read (texted texts) s = taken (with_doubt s texts)
doubt_read (untexted e w) s = wrong e w

unfoldable pub title_line : (kind text : List ℕ) → State → Line
title_line kind text s = cond s.titled (wrong OneTitle kind) (title_read (text_at 768 (text_in text) s.texts) s)

unfoldable pub doubt_line : (kind text : List ℕ) → State → Line
doubt_line kind text s = cond (leb 16 s.doubts) (wrong FewDoubts kind) (doubt_read (text_at (840 + 72 * s.doubts) (text_in text) s.texts) s)

-- ---- an item more: its kind, readings, three numbers

abbrev pub with_item : (kind old new : ℕ) (spread before after : Float) (texts : List ℕ) → State → State
with_item kind old new spread before after texts s = record {
  items = s.items + 1;
  balances = s.balances;
  limits = s.limits;
  doubts = s.doubts;
  titled = s.titled;
  metered = s.metered || eqb kind 0;
  toleranced = s.toleranced;
  texts = texts;
  wholes = set (set (set s.wholes s.items old) (16 + s.items) new) (32 + s.items) kind;
  numbers = set (set (set s.numbers s.items spread) (16 + s.items) before) (32 + s.items) after;
}

unfoldable pub item_read : (k : ℕ) → Itemed → (texts : List ℕ) → State → Line
item_read k (unitemed e w) texts s = wrong e w
item_read k (itemed old new spread before after) texts s = taken (with_item k old new spread before after texts s)

unfoldable pub item_named : (k : ℕ) → Named → State → Line
item_named k (unnamed e w) s = wrong e w
item_named k (named t texts) s = item_read k (item_of k t) texts s

unfoldable pub item_line : (k : ℕ) (kind text : List ℕ) → State → Line
item_line k kind text s =
    cond (ltb 0 (s.balances + s.limits)) (wrong Late kind)
    (cond (leb 16 s.items) (wrong FewItems kind)
    (item_named k (name_at s.items text s.texts) s))

-- ---- balance NAME TERM .. = TERM ..

abbrev pub with_balance : (texts : List ℕ) → Listed → State → Line
with_balance texts (unlisted e w) s = wrong e w
with_balance texts (listed numbers) s = taken (record {
  items = s.items;
  balances = s.balances + 1;
  limits = s.limits;
  doubts = s.doubts;
  titled = s.titled;
  metered = s.metered;
  toleranced = s.toleranced;
  texts = texts;
  wholes = s.wholes;
  numbers = numbers;
})

unfoldable pub balance_named : Named → State → Line
balance_named (unnamed e w) s = wrong e w
balance_named (named t texts) s = with_balance texts (terms true (48 + 16 * s.balances) texts (words_of t) s.numbers) s

unfoldable pub balance_line : (kind text : List ℕ) → State → Line
balance_line kind text s =
    cond (not s.metered) (wrong MeterBefore kind)
    (cond (leb 16 s.balances) (wrong FewBalances kind)
    (balance_named (name_at (16 + s.balances) text s.texts) s))

-- ---- floor NAME AMOUNT TERM .., ceiling NAME AMOUNT TERM ..

abbrev pub with_limit : (ceiling : ℕ) (texts : List ℕ) → Listed → State → Line
with_limit ceiling texts (unlisted e w) s = wrong e w
with_limit ceiling texts (listed numbers) s = taken (record {
  items = s.items;
  balances = s.balances;
  limits = s.limits + 1;
  doubts = s.doubts;
  titled = s.titled;
  metered = s.metered;
  toleranced = s.toleranced;
  texts = texts;
  wholes = set s.wholes (48 + s.limits) ceiling;
  numbers = numbers;
})

abbrev pub limit_read : (ceiling : ℕ) (amount : Option Float) → (a t texts : List ℕ) → State → Line
limit_read ceiling None a t texts s = wrong Decimal a
limit_read ceiling (Some x) a t texts s = with_limit ceiling texts (terms false (320 + 16 * s.limits) texts (words_of t) (set s.numbers (304 + s.limits) x)) s

unfoldable pub limit_named : (ceiling : ℕ) → Named → State → Line
limit_named ceiling (unnamed e w) s = wrong e w
limit_named ceiling (named t texts) s = cond (begins_letter (word t)) (wrong OneName (word t)) (limit_read ceiling (decimal_of (word t)) (word t) (rest t) texts s)

unfoldable pub limit_line : (ceiling : ℕ) (kind text : List ℕ) → State → Line
limit_line ceiling kind text s =
    cond (not s.metered) (wrong MeterBefore kind)
    (cond (leb 16 s.limits) (wrong FewLimits kind)
    (limit_named ceiling (name_at (32 + s.limits) text s.texts) s))

-- ---- tolerance T

abbrev pub tolerance_read : Option Float → (a after : List ℕ) → State → Line
tolerance_read None a after s = wrong NotBelow a
tolerance_read (Some x) a after s = ended after (record {
  items = s.items;
  balances = s.balances;
  limits = s.limits;
  doubts = s.doubts;
  titled = s.titled;
  metered = s.metered;
  toleranced = true;
  texts = s.texts;
  wholes = s.wholes;
  numbers = set s.numbers 576 x;
})

unfoldable pub tolerance_line : (kind text : List ℕ) → State → Line
tolerance_line kind text s = cond s.toleranced (wrong OneTolerance kind) (tolerance_read (not_below_zero (word text)) (word text) (word (rest text)) s)
