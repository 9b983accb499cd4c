-- What a call of `decode` answers and leaves. Definitions only.
use Rattle.std.specs.Prelude.{◌≡◌, List, ℕ, length, Float, Result}
use Rattle.problem_read.specs.Input.{read_numbers}
use Rattle.problem_read.specs.Tables.{decoded_in}
use Rattle.problem_read.specs.declared.Sizes.{Sizes}
use Rattle.problem_read.specs.declared.Unread.{Unread}

-- From the bytes: the answer r, and what the tables of marks and of values hold before and, primed, afterwards.
pub record Decodes (bs : List ℕ) (r : Result Sizes Unread) (marks marks' : List ℕ) (vals vals' : List Float) : Type 0 where
  -- the answer, with the problem that stands in the tables, is what the definition says, in numbers
  pub the_input : decoded_in r marks' vals' ≡ read_numbers bs
  pub marks_size : length marks' ≡ length marks
  pub vals_size : length vals' ≡ length vals
