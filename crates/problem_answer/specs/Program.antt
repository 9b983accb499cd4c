-- What the record program writes for what it reads (docs/RULES.md, "The record program"). Definitions only.
use Rattle.std.specs.Prelude.{List, ◌++◌, ℕ}
use Prim.Native.Char.{code}
use Rattle.workspace.specs.Tables.{Answer, done, refused, number_of, test}
use Rattle.workspace.specs.declared.Refusal.TheVariants.{Width}
use Rattle.nnls.specs.Counted.{Counted}
use Rattle.step_rows.specs.Problem.{Problem}
use Rattle.step.specs.Step.{Step, step}
use Rattle.step_call.specs.Promise.{are_widths}
use Rattle.step_call.specs.Strict.{bounds}
use Rattle.problem_read.specs.Input.{Decoded, fault, too_large, problem, read_numbers}
use Rattle.ascii.specs.Text.{ascii, decimal_text}
use Rattle.problem_answer.specs.Text.{float_text, lines_text}

-- `refused 9 at K`
unfoldable pub fault_text : ℕ → List ℕ
fault_text k = ascii "refused 9 at " ++ (decimal_text k ++ ascii "\n")

-- `refused N`
unfoldable pub refused_text : ℕ → List ℕ
refused_text k = ascii "refused " ++ (decimal_text k ++ ascii "\n")

-- `ok`, `relaxation H`, a line `d I H` for each variable, a line `m J H` for each constraint
unfoldable pub done_text : Step → List ℕ
done_text s =
    ascii "ok\nrelaxation "
    ++ (float_text s.relaxation ++ (ascii "\n" ++ (lines_text (code "d") 0 s.d ++ lines_text (code "m") 0 s.multipliers)))

abbrev pub step_text : Answer Step → List ℕ
step_text (done s) = done_text s
step_text (refused r) = refused_text (number_of r)

-- the strict step on a problem that was read: its sizes, lengths and kinds are right, so of the tests before the arithmetic those of the widths and of the bounds are left
abbrev pub step_answer : Problem → Answer Step
step_answer p = test (are_widths p.kinds p.widths p.m) Width (bounds p.lower p.upper p.n 0 (step p).answer)

abbrev pub decoded_text : Decoded Problem → List ℕ
decoded_text (fault k) = fault_text k
decoded_text too_large = refused_text 1
decoded_text (problem p) = step_text (step_answer p)

-- the program: the bytes written for the bytes read
unfoldable pub program_text : List ℕ → List ℕ
program_text bs = decoded_text (read_numbers bs)
