-- `is_alike`: the library compares without regard to capitals.
use Rattle.sheet_words.proofs.Laws.{alike_is}
use Rattle.sheet_words.proofs.is_alike.Goals as goal

pub returns : goal.returns
returns c = alike_is c.args.a.now c.args.b.now c.eq_ignore_ascii_case.result c.eq_ignore_ascii_case.ensures.test
