use Rattle.search_next.proofs.Ended.{end-turned}
use Rattle.search_next.proofs.ends.end_with.Goals as goal

pub returns : goal.returns
returns c = end-turned c.args.ending c.args.f.now _ c.args.u.now _ c.requires.0 c.requires.2 c.requires.3 c.empty.ensures c.set_words.ensures
