use Rattle.search_next.proofs.Sloped.{row-ended, row-going}
use mathlib.Core.Path.{sym, ◌∙◌}
use Rattle.search_next.proofs.differences.row_next.Goals as goal

pub returns-then-not-is_row : goal.returns-then-not-is_row
returns-then-not-is_row c = let a = c.args in let r = c.requires in row-ended a.n a.m a.rows a.f.now _ a.u.now _ r.0 r.1 r.2 (sym c.is_row.ensures ∙ c.if-not-is_row.true) c.end_goal.ensures

pub returns : goal.returns
returns c = let a = c.args in let r = c.requires in row-going a.n a.m a.rows a.f.now _ a.u.now _ r.0 r.1 r.2 (sym c.is_row.ensures ∙ c.if-not-is_row.false) c.ask_moved.ensures
