-- What the functions behind the operation take and leave. No promise rests on these.
use Rattle.std.specs.Prelude.{ℕ, ◌+◌, Bool, ◌&&◌, List, map, leb, length}
use Rattle.numbers.specs.Numbers.{nth}
use Rattle.workspace.specs.declared.Refusal.TheVariants.{Width, Output, Triangle}
use Rattle.workspace.specs.Tables.{Outcome}
use Rattle.workspace.specs.Tables.{Answer, done, call, test, outcome_of, is_dimension, is_constraints}
use Rattle.step_call.specs.Promise.{are_kinds, are_widths}
use Rattle.step_call.specs.Strict.{bounds}
use Rattle.step_call.specs.inner.Work.{bounds_outcome}
use Rattle.problem_read.specs.Bits.{number}
use Rattle.problem_write.specs.File.{file}
use Rattle.problem_write.specs.Lent.{Lent, problem_in}
use Rattle.problem_write_call.specs.Promise.{are_lengths, is_clear, are_clear}

-- the tests in three parts, by what each comes to where nothing follows: of n variables from variable i on,
abbrev pub bounds_told : (lower upper : List ℕ) (n i : ℕ) → Outcome
bounds_told lower upper n i = bounds_outcome (map number lower) (map number upper) n i

-- all of the strict step's, with workspaces of these lengths, before whatever follows,
abbrev pub strict_tests : {A : Type 0} → Lent → (w iw : ℕ) → Answer A → Answer A
strict_tests p w iw a =
    call (is_dimension p.n && is_constraints p.m) (are_lengths p) (leb 8192 w && leb 512 iw) (are_kinds p.kinds)
    (test (are_widths p.kinds (map number p.widths) p.m) Width (bounds (map number p.lower) (map number p.upper) p.n 0 a))

abbrev pub strict_told : Lent → (w iw : ℕ) → Outcome
strict_told p w iw = outcome_of {A = Unit} (strict_tests p w iw (done tt))

-- and those of the factor and of an output of this length
abbrev pub file_tests : {A : Type 0} → Lent → (out : ℕ) → Answer A → Answer A
file_tests p out a = test (are_clear p.n p.factor) Triangle (test (leb (length (file (problem_in p))) out) Output a)

abbrev pub file_told : Lent → (out : ℕ) → Outcome
file_told p out = outcome_of {A = Unit} (file_tests p out (done tt))

abbrev pub call_told : Lent → (out w iw : ℕ) → Outcome
call_told p out w iw = outcome_of {A = Unit} (strict_tests p w iw (file_tests p out (done tt)))

-- entry j of row i of the factor, which stands from a place on
abbrev pub clear_at : List ℕ → (i from j : ℕ) → Bool
clear_at factor i from j = is_clear i j (nth factor (from + j))
