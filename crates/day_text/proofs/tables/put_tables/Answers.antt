-- `put_tables`: its parts one after the other.
use native.Mathlib.Omega.{arith}
use Rattle.ascii.proofs.Writing.{wrote_then}
use Rattle.day_text.specs.Report.{tables_text}
use Rattle.day_text.proofs.tables.put_tables.Goals as goal

pub put_item_table-a-requires : goal.put_item_table-a-requires
put_item_table-a-requires c = (omega (arith, c.requires.0), omega (arith, c.requires.1, c.requires.2, c.requires.3), c.requires.4)

pub put_balance_table-b-requires : goal.put_balance_table-b-requires
put_balance_table-b-requires c = (omega (arith, c.put_item_table-a.ensures.upper_bound, c.requires.0), omega (arith, c.requires.1, c.requires.2, c.requires.3), c.requires.4.lt, c.requires.4.lf, c.requires.4.ls)

pub put_limit_table-requires : goal.put_limit_table-requires
put_limit_table-requires c = (omega (arith, c.put_balance_table-b.ensures.upper_bound, c.put_item_table-a.ensures.upper_bound, c.requires.0), omega (arith, c.requires.1, c.requires.2, c.requires.3), c.requires.4)

pub shape_of-out : goal.shape_of-out
shape_of-out c = omega arith

pub returns : goal.returns
unfolding tables_text
returns c = record { wrote = wrote_then c.put_item_table-a.ensures.wrote (wrote_then c.put_balance_table-b.ensures.wrote c.put_limit_table.ensures.wrote); upper_bound = omega (arith, c.put_limit_table.ensures.upper_bound, c.put_balance_table-b.ensures.upper_bound, c.put_item_table-a.ensures.upper_bound) }
