-- What reading an input tells. Definitions only.
use Rattle.std.specs.Prelude.{List, ℕ, Option, Result, IfOk, ◌<◌, length, take}
use Rattle.std.specs.Io.KnownBytes.{Consumes, IsAtEnd}

-- where it did not fail, these bytes are the first that the reader had left, where those are known, and it has lost them
abbrev pub Takes : {E : Type 0} → Option (List ℕ) → Option (List ℕ) → Result ℕ E → List ℕ → Type 0
Takes old new r buf = IfOk r (λ n. Consumes old new (take n buf))

-- the reader has none left where they are fewer than the buffer holds
abbrev pub Ends : {E : Type 0} → Option (List ℕ) → Result ℕ E → List ℕ → Type 0
Ends new r buf = IfOk r (λ n. n < length buf → IsAtEnd new)
