-- What is shown of calls that write a problem file: their tests are the strict step's, the file reads back, equal files are equal problems, how much room suffices, and that the promise allows one answer only. Definitions only.
use Rattle.std.specs.Prelude.{ℕ, ◌≤◌, ◌≡◌, true, List, ◌↔◌, length, take, Float, Result, Ok}
use Rattle.workspace.specs.declared.Refusal.TheVariants.{Triangle}
use Rattle.workspace.specs.Tables.{Answer, done, test, has}
use Rattle.nnls.specs.Counted.{Counted}
use Rattle.step.specs.Step.{step}
use Rattle.step_call.specs.Strict.{strict_call}
use Rattle.problem_read.specs.Bits.{numbers_of}
use Rattle.problem_read.specs.Input.{problem, decode, read_numbers}
use Rattle.problem_write.specs.File.{file}
use Rattle.problem_write.specs.Lent.{Lent, problem_in}
use Rattle.problem_write.specs.Claims.{Patterns, Writable}
use Rattle.problem_write_call.specs.Promise.{numbers_in, strictly, are_clear, write_call, WritesFile}
use Rattle.workspace.specs.declared.Refusal.{Refusal}

-- its tests are those of the strict step on the numbers of the bits: the strict step's call is the step behind them
abbrev pub SameTests : Type 0
SameTests = (p : Lent) (d l w : List Float) (iw : List ℕ) → has d p.n ≡ true → has l p.m ≡ true → strict_call (numbers_in p) d l w iw ≡ strictly p w iw (step (numbers_in p)).answer

-- what is lent is u64s
pub record AllPatterns (p : Lent) : Type 0 where
  pub factor_bits : Patterns p.factor
  pub gradient_bits : Patterns p.gradient
  pub value_bits : Patterns p.values
  pub width_bits : Patterns p.widths
  pub jacobian_bits : Patterns p.jacobian
  pub lower_bits : Patterns p.lower
  pub upper_bits : Patterns p.upper

-- a call that is done writes the file of a problem that can be read back
abbrev pub WritesWritable : Type 0
WritesWritable = (p : Lent) (out : List ℕ) (w : List Float) (iw : List ℕ) (f : List ℕ) → AllPatterns p → write_call p out w iw ≡ done f
    → Writable (problem_in p) × (f ≡ file (problem_in p))

-- so the bytes that it tells say the problem that was lent, bit for bit, and the numbers that the record program reads in them are those of the bits
abbrev pub Rereads : Type 0
Rereads = (p : Lent) (k : ℕ) (out out' : List ℕ) (w w' : List Float) (iw iw' : List ℕ) → AllPatterns p → WritesFile (write_call p out w iw) (Ok k) out out' w w' iw iw'
    → (decode (take k out') ≡ problem (problem_in p)) × (read_numbers (take k out') ≡ problem (numbers_of (problem_in p)))

-- two files are equal exactly when their problems are, bit for bit
abbrev pub SameCalls : Type 0
SameCalls = (p q : Lent) (out out₁ : List ℕ) (w w₁ : List Float) (iw iw₁ : List ℕ) (f g : List ℕ) → AllPatterns p → AllPatterns q → write_call p out w iw ≡ done f → write_call q out₁ w₁ iw₁ ≡ done g
    → (problem_in p ≡ problem_in q) ↔ (f ≡ g)

-- room of 7,568 bytes always suffices: the call is what it is without the test of the room
abbrev pub RoomSuffices : Type 0
RoomSuffices = (p : Lent) (out : List ℕ) (w : List Float) (iw : List ℕ) → 7568 ≤ length out
    → write_call p out w iw ≡ strictly p w iw (test (are_clear p.n p.factor) Triangle (done (file (problem_in p))))

-- whatever the answer c, the outcome and all that is left are fixed by what was there before
abbrev pub OneAnswer : Type 0
OneAnswer = (c : Answer (List ℕ)) (o p : Result ℕ Refusal) (out out' out'' : List ℕ) (w w' w'' : List Float) (iw iw' iw'' : List ℕ)
    → WritesFile c o out out' w w' iw iw' → WritesFile c p out out'' w w'' iw iw'' → (o ≡ p) × (out' ≡ out'') × (w' ≡ w'') × (iw' ≡ iw'')
