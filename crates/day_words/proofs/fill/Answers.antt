-- `fill`: the name over blanks.
use native.Mathlib.Omega.{arith}
use Rattle.day_words.proofs.Items.{filled_is}
use Rattle.day_words.proofs.fill.Goals as goal

pub slice_bounds-put_text-end : goal.slice_bounds-put_text-end
slice_bounds-put_text-end c = omega arith

pub put_text-requires : goal.put_text-requires
put_text-requires c = omega arith

pub returns : goal.returns
returns c = filled_is _ _ _ c.put_text.ensures
