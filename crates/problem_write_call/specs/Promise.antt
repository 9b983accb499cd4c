-- What a call that writes a problem file answers and leaves. Definitions only.
use Rattle.std.specs.Prelude.{ℕ, ◌+◌, ◌*◌, ◌≡◌, Bool, true, cond, ◌&&◌, List, ◌++◌, map, leb, ltb, eqb, length, drop, Float, Result, Ok, Err}
use Rattle.numbers.specs.Numbers.{nth}
use Rattle.workspace.specs.declared.Refusal.TheVariants.{Width, Output, Triangle}
use Rattle.workspace.specs.Tables.{Answer, done, refused, call, test, output, floats, words, is_dimension, is_constraints, is_room, has}
use Rattle.step_rows.specs.Problem.{Problem, problem_of}
use Rattle.step_call.specs.Promise.{are_kinds, are_widths}
use Rattle.step_call.specs.Strict.{bounds}
use Rattle.problem_read.specs.Bits.{number}
use Rattle.problem_read.specs.Input.{all_below}
use Rattle.problem_write.specs.File.{file}
use Rattle.problem_write.specs.Lent.{Lent, problem_in}
use Rattle.workspace.specs.declared.Refusal.{Refusal}

-- the problem in numbers: those of its bits
abbrev pub numbers_in : Lent → Problem
numbers_in p =
    problem_of p.n p.m (map number p.factor) (map number p.gradient) p.kinds (map number p.values) (map number p.widths) (map number p.jacobian) (map number p.lower)
    (map number p.upper)

abbrev pub are_lengths : Lent → Bool
are_lengths p =
    has p.factor (p.n * p.n) && has p.gradient p.n && has p.kinds p.m && has p.values p.m && has p.jacobian (p.m * p.n)
    && has p.widths p.m && has p.lower p.n && has p.upper p.n

-- the strict step's tests before its arithmetic, on these numbers, and then what follows
abbrev pub strictly : {A : Type 0} → Lent → (w : List Float) (iw : List ℕ) → Answer A → Answer A
strictly p w iw a =
    let q = numbers_in p in
    call (is_dimension q.n && is_constraints q.m) (are_lengths p) (is_room w iw) (are_kinds q.kinds)
    (test (are_widths q.kinds q.widths q.m) Width (bounds q.lower q.upper q.n 0 a))

-- the bits of a factor entry above the diagonal are those of +0
abbrev pub is_clear : (i j bits : ℕ) → Bool
is_clear i j bits = cond (ltb i j) (eqb bits 0) true

unfoldable pub are_clear : (n : ℕ) → List ℕ → Bool
are_clear n factor = all_below n (λ i. all_below n (λ j. is_clear i j (nth factor (i * n + j))))

-- the whole call: then the factor, and last the room for the file
abbrev pub write_call : Lent → (out : List ℕ) (w : List Float) (iw : List ℕ) → Answer (List ℕ)
write_call p out w iw =
    let f = file (problem_in p) in
    strictly p w iw (test (are_clear p.n p.factor) Triangle (test (leb (length f) (length out)) Output (done f)))

-- what it tells: where it is done, how many bytes were written
abbrev pub outcome_of : Answer (List ℕ) → Result ℕ Refusal
outcome_of (done f) = Ok (length f)
outcome_of (refused r) = Err r

-- From its answer c: the outcome, and what the output and the workspaces hold before and, primed, afterwards. Behind the file the output is as it was.
pub record WritesFile (c : Answer (List ℕ)) (o : Result ℕ Refusal) (out out' : List ℕ) (w w' : List Float) (iw iw' : List ℕ) : Type 0 where
  pub the_outcome : o ≡ outcome_of c
  pub the_output : out' ≡ output c (λ f. f ++ drop (length f) out) out
  pub the_floats : w' ≡ floats c w
  pub the_words : iw' ≡ words c iw
