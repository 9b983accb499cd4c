-- The first 9,504 bytes decide what the program writes.
use mathlib.Core.Path.{ap}
use Rattle.problem_answer.specs.Program.{decoded_text, program_text}
use Rattle.problem_answer.specs.Claims.{FirstBytesDecide}
use Rattle.problem_read.proofs.Enough as input

pub first-bytes : FirstBytesDecide
unfolding program_text
first-bytes p q h = ap decoded_text (input.first-bytes p q h)
