-- `begin_bounded`: refused, or begun and cleared.
use mathlib.Core.Path.{sym, ◌∙◌}
use Rattle.search.specs.Promise.{setup_of}
use Rattle.search_call.proofs.Calls.{crossed-refused, begun}
use Rattle.search_call.proofs.begin_bounded.Goals as goal

pub are_ordered-requires : goal.are_ordered-requires
are_ordered-requires c = let q = c.requires.0.posed in (q.lower, q.upper)

pub returns-then-not-are_ordered : goal.returns-then-not-are_ordered
returns-then-not-are_ordered c = let a = c.args in
    crossed-refused (setup_of a.n a.m a.kinds.now a.lower.now a.upper.now a.ftol a.scheme) a.machine.now a.w.now a.words.now a.iw.now _ _ (sym c.are_ordered.ensures ∙ c.if-not-are_ordered.true)

pub begin_posed-r-requires : goal.begin_posed-r-requires
begin_posed-r-requires c = (c.requires.0, c.requires.1)

pub clear-requires : goal.clear-requires
clear-requires c = (c.requires.2, c.requires.3)

pub returns : goal.returns
returns c = let a = c.args in
    begun (setup_of a.n a.m a.kinds.now a.lower.now a.upper.now a.ftol a.scheme) a.x.now a.budget _ _ a.machine.now _ a.w.now _ a.words.now _ a.iw.now _
    (sym c.are_ordered.ensures ∙ c.if-not-are_ordered.false) c.begin_posed-r.ensures c.clear.ensures
