-- What is shown of the rows: the solvers take them all. Definitions only.
use Rattle.std.specs.Prelude.{◌+◌, ◌*◌, ◌≤◌, length}
use Rattle.step_rows.specs.Problem.{Problem, inequality_rows, relaxed_rows}

-- two rows at most of each constraint and of each variable, and two of delta: of 16 and 16 that is 64 exact and 66 relaxed ones
abbrev pub RowsFit : Type 0
RowsFit = (p : Problem) → (length (inequality_rows p) ≤ 2 * p.m + 2 * p.n) × (length (relaxed_rows p) ≤ 2 * p.m + 2 * p.n + 2)
