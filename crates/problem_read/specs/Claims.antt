-- What is promised of the input: its first 9,504 bytes, 594 records, decide what it says in numbers; and of `decode`: its promise allows one answer only.
-- Definitions only.
use Rattle.std.specs.Prelude.{◌≡◌, List, ◌++◌, ℕ, length, Float, Result}
use Rattle.problem_read.specs.Input.{read_numbers}
use Rattle.problem_read.specs.Tables.{decoded_in}
use Rattle.problem_read.specs.Promise.{Decodes}
use Rattle.problem_read.specs.declared.Sizes.{Sizes}
use Rattle.problem_read.specs.declared.Unread.{Unread}

abbrev pub FirstBytesSay : Type 0
FirstBytesSay = (p q : List ℕ) → length p ≡ 9504 → read_numbers (p ++ q) ≡ read_numbers p

-- two calls on the same bytes answer the same, with the same problem, whatever the tables held
abbrev pub OneDecoding : Type 0
OneDecoding =
    (bs : List ℕ) (r q : Result Sizes Unread) (marks marks₁ marks₂ marks₃ : List ℕ) (vals vals₁ vals₂ vals₃ : List Float)
    → Decodes bs r marks marks₁ vals vals₁ → Decodes bs q marks₂ marks₃ vals₂ vals₃ → (r ≡ q) × (decoded_in r marks₁ vals₁ ≡ decoded_in q marks₃ vals₃)
