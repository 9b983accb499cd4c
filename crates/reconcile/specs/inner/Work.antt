-- What the functions that write the day's problem are handed and leave. No promise of a public operation rests on these.
use Rattle.std.specs.Prelude.{ℕ, ◌*◌, ◌<◌, ◌≤◌, ◌≡◌, List, length, replicate, Float}
use Rattle.numbers.specs.Numbers.{+0, at, nth}
use Rattle.workspace.specs.Readings.{vec, stack}
use Rattle.totaliser.specs.Volume.{largest}
use Rattle.lsei.specs.inner.Work.{sides}
use Rattle.lsei_nullspace.specs.inner.Places.{LSEI_C, LSEI_X, LSEI_E, LSEI_F, LSEI_G}
use Rattle.reconcile.specs.Day.{scales, targets, identity}

-- every reading is one of a totaliser
abbrev pub AreReadings : List ℕ → Type 0
AreReadings rs = (i : ℕ) → i < length rs → nth rs i ≤ largest

-- meters whose sizes, lengths and readings are right
pub record Readable (n : ℕ) (before after : List ℕ) (spreads : List Float) : Type 0 where
  pub n16 : n ≤ 16
  pub lb : length before ≡ n
  pub la : length after ≡ n
  pub ls : length spreads ≡ n
  pub old : AreReadings before
  pub new : AreReadings after

-- the rows of E
pub record Scaled (n : ℕ) (spreads w w' : List Float) : Type 0 where
  pub the_e : stack LSEI_E n n w' ≡ scales n spreads
  pub before : (x : ℕ) → x < LSEI_E → at w' x ≡ at w x
  pub after : (x : ℕ) → LSEI_F ≤ x → at w' x ≡ at w x

-- the rows of G, each with its side behind it
pub record Floored (n : ℕ) (w w' : List Float) : Type 0 where
  pub the_g : stack LSEI_G n n w' ≡ identity n
  pub the_h : sides LSEI_G n n w' ≡ replicate n +0
  pub before : (x : ℕ) → x < LSEI_G → at w' x ≡ at w x

-- the whole problem
pub record DayIn (n m : ℕ) (before after : List ℕ) (spreads balances w : List Float) : Type 0 where
  pub the_c : stack LSEI_C m n w ≡ balances
  pub the_d : vec LSEI_X m w ≡ replicate m +0
  pub the_e : stack LSEI_E n n w ≡ scales n spreads
  pub the_f : vec LSEI_F n w ≡ targets n before after spreads
  pub the_g : stack LSEI_G n n w ≡ identity n
  pub the_h : sides LSEI_G n n w ≡ replicate n +0
