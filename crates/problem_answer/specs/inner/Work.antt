-- What the inner functions are handed and tell. Definitions only.
use Rattle.std.specs.Prelude.{List, Float, Result, Ok, Err}
use Rattle.workspace.specs.Tables.{Answer, done, refused}
use Rattle.step.specs.Step.{Step}
use Rattle.workspace.specs.declared.Refusal.{Refusal}

-- a step's whole answer, with the lists that it leaves
abbrev pub step_from : Float → (d multipliers : List Float) → Step
step_from relaxation d l = record { d = d; multipliers = l; relaxation = relaxation }

abbrev pub step_answer_of : Result Float Refusal → (d multipliers : List Float) → Answer Step
step_answer_of (Ok relaxation) d l = done (step_from relaxation d l)
step_answer_of (Err r) d l = refused r
