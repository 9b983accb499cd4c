-- `put_balance_table`: its parts one after the other.
use native.Mathlib.Omega.{arith}
use Rattle.ascii.proofs.Writing.{wrote_then}
use Rattle.ascii.specs.Text.{ascii}
use Rattle.day_text.specs.Tables.{balance_table}
use Rattle.numbers.specs.Numbers.{tab}
use Rattle.day_text.proofs.tables.put_balance_table.Goals as goal

pub put_text-a-requires : goal.put_text-a-requires
put_text-a-requires c = omega (arith, c.requires.0)

pub put_balances-b-requires : goal.put_balances-b-requires
put_balances-b-requires c = (omega (arith, c.put_text-a.ensures.until, c.requires.0), omega (arith, c.requires.1), c.requires.2, c.requires.3, c.requires.4)

pub put_byte-requires : goal.put_byte-requires
put_byte-requires c = omega (arith, c.put_balances-b.ensures.upper_bound, c.put_text-a.ensures.until, c.requires.0)

pub shape_of-out : goal.shape_of-out
shape_of-out c = omega arith

pub returns : goal.returns
unfolding ascii tab balance_table
returns c = record { wrote = wrote_then c.put_text-a.ensures (wrote_then c.put_balances-b.ensures.wrote c.put_byte.ensures); upper_bound = omega (arith, c.put_byte.ensures.until, c.put_balances-b.ensures.upper_bound, c.put_text-a.ensures.until) }
