-- `put_padded`: the blanks, and the text.
use Prim.Native.Nat.{ℕ}
use native.Mathlib.Omega.{arith}
use lib.ListN.{length-replicate}
use Rattle.ascii.proofs.Writing.{wrote-padded}
use Rattle.ascii.proofs.put_padded.Goals as goal

pub put_blanks-start-requires : goal.put_blanks-start-requires
put_blanks-start-requires c = omega (arith, c.saturating_sub.ensures)

pub put_text-requires : goal.put_text-requires
put_text-requires c = omega (arith, c.saturating_sub.ensures, c.put_blanks-start.ensures.until, length-replicate {A = ℕ} c.saturating_sub.result 32)

pub returns : goal.returns
returns c = wrote-padded c.args.width c.saturating_sub.result c.saturating_sub.ensures c.put_blanks-start.ensures c.put_text.ensures
