use Rattle.certain.proofs.Laws.{kept-first, kept-both}
use Rattle.interval.proofs.Answers.{not-true, not-false}
use Rattle.certain.proofs.kept.Goals as goal

pub all_close-requires : goal.all_close-requires
all_close-requires c = (c.requires.0, c.requires.3)

pub returns-then-not-all_close : goal.returns-then-not-all_close
returns-then-not-all_close c = kept-first _ _ _ _ _ _ _ _ _ c.all_close.ensures (not-true _ c.if-not-all_close.true-raw)

pub all_keep-requires : goal.all_keep-requires
all_keep-requires c = (c.requires.1, c.requires.2, c.requires.3)

pub returns : goal.returns
returns c = kept-both _ _ _ _ _ _ _ _ _ _ c.all_close.ensures (not-false _ c.if-not-all_close.false-raw) c.all_keep.ensures
