-- What the functions behind the operation take and leave. No promise rests on these.
use Rattle.std.specs.Prelude.{◌≡◌, List, ℕ, Float}
use Rattle.numbers.specs.Numbers.{+0}
use Rattle.workspace.specs.Tables.{done, outcome_of, cleared}
use Rattle.workspace.specs.Tables.{Outcome}
use Rattle.workspace.specs.Readings.{stack, nums}
use Rattle.suspect.specs.Suspect.{Tests}
use Rattle.suspect.specs.declared.Finding.{Finding}
use Rattle.suspect.specs.inner.Places.{SUSPECT_SHARES, SUSPECT_GROUPS, SUSPECT_MARKS}
use Rattle.suspect_call.specs.Promise.{meters, numbers_of}

-- what the tests of n meters from meter i on come to, where nothing follows
abbrev pub tested_outcome : (v s : List Float) → (n i : ℕ) → Outcome
tested_outcome v s n i = outcome_of (meters {A = Unit} v s n i (done tt))

-- the answer out
pub record Given (n : ℕ) (w : List Float) (iw : List ℕ) (x : List Float) (groups marks : List ℕ) : Type 0 where
  pub numbers : x ≡ stack SUSPECT_SHARES 3 n w
  pub group : groups ≡ nums SUSPECT_GROUPS n iw
  pub mark : marks ≡ nums SUSPECT_MARKS n iw

-- a call that reached the arithmetic
pub record Left (t : Tests) (d : Finding) (x : List Float) (groups marks : List ℕ) (w w' : List Float) (iw iw' : List ℕ) : Type 0 where
  pub finding : d ≡ t.finding
  pub numbers : x ≡ numbers_of t
  pub group : groups ≡ t.groups
  pub mark : marks ≡ t.marks
  pub floats : w' ≡ cleared +0 8192 w
  pub words : iw' ≡ cleared 0 512 iw
