-- What a call of the public check answers and leaves. Definitions only.
use Rattle.std.specs.Prelude.{ℕ, ◌≡◌, Bool, ◌&&◌, List, Float, Result, Ok, Err}
use Rattle.workspace.specs.declared.Refusal.{Refusal}
use Rattle.workspace.specs.declared.Refusal.TheVariants.{Width, Tolerance}
use Rattle.workspace.specs.Tables.{Answer, done, refused, call, test, floats, words, is_dimension, is_constraints, is_room, is_tolerance, has}
use Rattle.step_rows.specs.Problem.{Problem}
use Rattle.step_call.specs.Promise.{are_kinds, are_widths, are_lengths}
use Rattle.step_check.specs.Check.{Pasted, Verdict, verdict}

-- those of the step, d and multipliers among them, and of the multipliers of both sides
abbrev pub are_pasted : Problem → Pasted → Bool
are_pasted p s = are_lengths p s.d s.multipliers && (has s.lowers p.n && has s.uppers p.n)

-- the whole call, on all that it is lent: the tolerance is tested after the widths
abbrev pub check_call : Problem → Pasted → (tolerance : Float) (w : List Float) (iw : List ℕ) → Answer Verdict
check_call p s tol w iw =
    call (is_dimension p.n && is_constraints p.m) (are_pasted p s) (is_room w iw) (are_kinds p.kinds)
    (test (are_widths p.kinds p.widths p.m) Width (test (is_tolerance tol) Tolerance (done (verdict p s tol))))

-- what it tells: where it is done, the verdict
abbrev pub Outcome : Type 0
Outcome = Result Verdict Refusal

abbrev pub outcome_of : Answer Verdict → Outcome
outcome_of (done v) = Ok v
outcome_of (refused r) = Err r

-- From its answer c: the outcome o, and what the workspaces hold before and, primed, afterwards.
pub record Checks (c : Answer Verdict) (o : Outcome) (w w' : List Float) (iw iw' : List ℕ) : Type 0 where
  pub the_outcome : o ≡ outcome_of c
  pub the_floats : w' ≡ floats c w
  pub the_words : iw' ≡ words c iw
