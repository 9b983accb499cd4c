-- `limit_of`: by whether they are limited.
use mathlib.Core.Path.{sym, ap}
use native.Mathlib.Omega.{arith}
use Rattle.plant_lines.specs.Table.{limit_of}
use Rattle.plant_lines.proofs.limit_of.Goals as goal
