-- What calls of the public LDP, LSI and LSEI answer and leave. Definitions only.
use Rattle.std.specs.Prelude.{ℕ, ◌+◌, ◌*◌, ◌≡◌, true, ◌&&◌, List, Float}
use Rattle.workspace.specs.Tables.{Answer, call, outcome_of, output, floats, words, is_width, is_equalities, is_inequalities, is_room, has}
use Rattle.workspace.specs.Tables.{Outcome}
use Rattle.lsei.specs.Lsei.{Solution, ldp, lsi, lsei}

-- the whole calls, on all that they are lent
abbrev pub ldp_call : (m n : ℕ) (g h x multipliers w : List Float) (iw : List ℕ) → Answer Solution
ldp_call m n g h x l w iw =
    call (is_inequalities m && is_width n) (has g (m * n) && has h m && has x n && has l m) (is_room w iw) true (ldp m n g h).answer

abbrev pub lsi_call : (n me mg : ℕ) (e f g h x multipliers w : List Float) (iw : List ℕ) → Answer Solution
lsi_call n me mg e f g h x l w iw =
    call (is_width n && is_width me && is_inequalities mg) (has e (me * n) && has f me && has g (mg * n) && has h mg && has x n && has l mg) (is_room w iw) true
    (lsi n me mg e f g h).answer

abbrev pub lsei_call : (n mc me mg : ℕ) (c d e f g h x multipliers w : List Float) (iw : List ℕ) → Answer Solution
lsei_call n mc me mg c d e f g h x l w iw =
    call (is_width n && is_equalities mc && is_width me && is_inequalities mg)
    (has c (mc * n) && has d mc && has e (me * n) && has f me && has g (mg * n) && has h mg && has x n && has l (mc + mg))
    (is_room w iw) true (lsei n mc me mg c d e f g h).answer

-- From the answer c of such a call: the outcome o, and what x, the multipliers l and the workspaces hold before and, primed, afterwards.
pub record Solves (c : Answer Solution) (o : Outcome) (x x' l l' w w' : List Float) (iw iw' : List ℕ) : Type 0 where
  pub the_outcome : o ≡ outcome_of c
  pub the_x : x' ≡ output c (λ s. s.x) x
  pub the_multipliers : l' ≡ output c (λ s. s.multipliers) l
  pub the_floats : w' ≡ floats c w
  pub the_words : iw' ≡ words c iw
