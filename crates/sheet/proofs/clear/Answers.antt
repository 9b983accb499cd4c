-- `clear`: one table after another.
use mathlib.Core.Path.{◌∙◌}
use native.Mathlib.Omega.{arith}
use Rattle.sheet.proofs.Lines.{no-texts, no-wholes, no-numbers}
use Rattle.sheet.proofs.clear.Goals as goal

pub put_blanks-requires : goal.put_blanks-requires
put_blanks-requires c = omega arith

pub wipe_words-requires : goal.wipe_words-requires
wipe_words-requires c = omega arith

pub wipe-requires : goal.wipe-requires
wipe-requires c = omega arith

pub shape_of-texts : goal.shape_of-texts
shape_of-texts c = omega arith

pub shape_of-wholes : goal.shape_of-wholes
shape_of-wholes c = omega arith

pub shape_of-numbers : goal.shape_of-numbers
shape_of-numbers c = omega arith

pub returns : goal.returns
returns c = let a = c.args in (no-texts a.texts.now _ _ (omega arith) c.put_blanks.ensures, c.wipe_words.ensures ∙ no-wholes a.wholes.now (omega arith), c.wipe.ensures ∙ no-numbers a.numbers.now (omega arith))
