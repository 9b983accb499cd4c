-- What a call of `respond` answers and leaves. Definitions only.
use Rattle.std.specs.Prelude.{◌≡◌, List, ◌++◌, ℕ, length, drop}
use Rattle.problem_answer.specs.Program.{program_text}

-- From the bytes read: the count r, and what the buffer holds before and, primed, afterwards: the program's output, and then what stood there.
pub record Responds (bs : List ℕ) (r : ℕ) (out out' : List ℕ) : Type 0 where
  pub the_count : r ≡ length (program_text bs)
  pub the_buffer : out' ≡ program_text bs ++ drop r out
