-- What the functions behind the public operations take and leave. No promise of a public operation rests on these.
use Rattle.std.specs.Prelude.{◌≡◌, List, ℕ, ◌*◌, ◌<◌, ◌≤◌, length, Float}
use Rattle.numbers.specs.Numbers.{at}
use Rattle.workspace.specs.Tables.{Answer, outcome_of, output}
use Rattle.workspace.specs.Tables.{Outcome}
use Rattle.workspace.specs.Readings.{vec, mat, stack}
use Rattle.lsei.specs.Lsei.{Solution}
use Rattle.lsei.specs.inner.Work.{sides}
use Rattle.lsei.specs.inner.Places.{LSI_E, LSI_F, LSI_G}
use Rattle.lsei_nullspace.specs.inner.Places.{LSEI_C, LSEI_X, LSEI_E, LSEI_F, LSEI_G}

-- ---- inputs whose sizes and lengths are right

pub record LdpInput (m n : ℕ) (g h : List Float) : Type 0 where
  pub m66 : m ≤ 66
  pub n17 : n ≤ 17
  pub lg : length g ≡ m * n
  pub lh : length h ≡ m

pub record LsiInput (n me mg : ℕ) (e f g h : List Float) : Type 0 where
  pub e17 : me ≤ 17
  pub le : length e ≡ me * n
  pub lf : length f ≡ me
  pub rows : LdpInput mg n g h

pub record LseiInput (n mc me mg : ℕ) (c d e f g h : List Float) : Type 0 where
  pub c16 : mc ≤ 16
  pub lc : length c ≡ mc * n
  pub ld : length d ≡ mc
  pub others : LsiInput n me mg e f g h

-- ---- inputs in the workspace

-- the m rows of g with the sides h behind them, from o on, and the rest as it was
pub record RowsLoaded (o m n : ℕ) (g h w w' : List Float) : Type 0 where
  pub rows : stack o m n w' ≡ g
  pub bounds : sides o m n w' ≡ h
  pub before : (x : ℕ) → x < o → at w' x ≡ at w x

-- LSI's
pub record LsiLoaded (n me mg : ℕ) (e f g h w' : List Float) : Type 0 where
  pub matrix : mat LSI_E me n w' ≡ e
  pub side : vec LSI_F me w' ≡ f
  pub rows : stack LSI_G mg n w' ≡ g
  pub bounds : sides LSI_G mg n w' ≡ h

-- LSEI's
pub record LseiLoaded (n mc me mg : ℕ) (c d e f g h w' : List Float) : Type 0 where
  pub equalities : stack LSEI_C mc n w' ≡ c
  pub values : vec LSEI_X mc w' ≡ d
  pub matrix : stack LSEI_E me n w' ≡ e
  pub side : vec LSEI_F me w' ≡ f
  pub rows : stack LSEI_G mg n w' ≡ g
  pub bounds : sides LSEI_G mg n w' ≡ h

-- ---- the answer out: its outcome, x and the multipliers

pub record SolutionGiven (a : Answer Solution) (o : Outcome) (x x' l l' : List Float) : Type 0 where
  pub the_outcome : o ≡ outcome_of a
  pub the_x : x' ≡ output a (λ s. s.x) x
  pub the_multipliers : l' ≡ output a (λ s. s.multipliers) l
