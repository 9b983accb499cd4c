-- `is_blank`: the space and the tab.
use Rattle.day_words.proofs.Words.{blank-space, blank-tab}
use Rattle.day_words.proofs.is_blank.Goals as goal

pub returns-then-c-eq32 : goal.returns-then-c-eq32
returns-then-c-eq32 c = blank-space _ c.if-c-eq32.true

pub returns : goal.returns
returns c = blank-tab _ c.if-c-eq32.false
