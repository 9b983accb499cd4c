-- `digit`: a digit's code.
use mathlib.Core.Path.{sym}
use native.Mathlib.Omega.{arith}
use Rattle.ascii.proofs.Numerals.{glyph-is}
use Rattle.ascii.proofs.digit.Goals as goal

pub returns : goal.returns
returns c = sym (glyph-is _ (omega arith))
