-- `reset_turn`: what stands in the three slices is what was laid.
use Rattle.search.proofs.Lent.{set-laid}
use Rattle.search_open.proofs.reset_turn.Goals as goal

pub identity_into-requires : goal.identity_into-requires
identity_into-requires c = c.requires.3

pub returns : goal.returns
returns c = (c.identity_in.ensures, set-laid 3 1 c.args.u.now, c.identity_into.ensures)
