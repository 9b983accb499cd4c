-- What is promised of the program: the first 9,504 bytes that it reads decide what it writes; and of `respond`: its promise allows one answer only.
-- Definitions only.
use Rattle.std.specs.Prelude.{◌≡◌, List, ◌++◌, ℕ, length}
use Rattle.problem_answer.specs.Program.{program_text}
use Rattle.problem_answer.specs.Promise.{Responds}

abbrev pub FirstBytesDecide : Type 0
FirstBytesDecide = (p q : List ℕ) → length p ≡ 9504 → program_text (p ++ q) ≡ program_text p

-- two calls on the same bytes and buffer answer and leave the same
abbrev pub OneResponse : Type 0
OneResponse = (bs : List ℕ) (r q : ℕ) (out out₁ out₂ : List ℕ) → Responds bs r out out₁ → Responds bs q out out₂ → (r ≡ q) × (out₁ ≡ out₂)
