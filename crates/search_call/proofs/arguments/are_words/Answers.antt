-- `are_words`: each way out by its tests.
use mathlib.Core.Path.{sym, ◌∙◌}
use native.Mathlib.Omega.{arith}
use Rattle.search_call.proofs.Questions.{words-bad, words-places, words-kinds, counts-fit}
use Rattle.search_call.proofs.arguments.are_words.Goals as goal

pub bounds-u-8 : goal.bounds-u-8
bounds-u-8 c = omega arith

pub wide-n-requires : goal.wide-n-requires
wide-n-requires c = tt

pub bounds-u-9 : goal.bounds-u-9
bounds-u-9 c = omega arith

pub wide-m-requires : goal.wide-m-requires
wide-m-requires c = tt

pub bounds-u-10 : goal.bounds-u-10
bounds-u-10 c = omega arith

pub bounds-u-1 : goal.bounds-u-1
bounds-u-1 c = omega arith

pub bounds-u-2 : goal.bounds-u-2
bounds-u-2 c = omega arith

pub are_counts-requires : goal.are_counts-requires
are_counts-requires c = tt

pub returns-then-not-are_counts : goal.returns-then-not-are_counts
returns-then-not-are_counts c = words-bad c.args.u.now _ _ c.wide-n.ensures c.wide-m.ensures (sym c.are_counts.ensures ∙ c.if-not-are_counts.true)

pub bounds-u-8-2 : goal.bounds-u-8-2
bounds-u-8-2 c = omega arith

pub bounds-u-9-2 : goal.bounds-u-9-2
bounds-u-9-2 c = omega arith

pub bounds-u-3 : goal.bounds-u-3
bounds-u-3 c = omega arith

pub bounds-u-4 : goal.bounds-u-4
bounds-u-4 c = omega arith

pub bounds-u-5 : goal.bounds-u-5
bounds-u-5 c = omega arith

pub bounds-u-6 : goal.bounds-u-6
bounds-u-6 c = omega arith

pub are_places-requires : goal.are_places-requires
are_places-requires c = tt

pub returns-then-not-are_places : goal.returns-then-not-are_places
returns-then-not-are_places c = words-places c.args.u.now _ _ c.wide-n.ensures c.wide-m.ensures (sym c.are_counts.ensures ∙ c.if-not-are_counts.false) (sym c.are_places.ensures ∙ c.if-not-are_places.true)

pub hold_kinds-requires : goal.hold_kinds-requires
hold_kinds-requires c = let h = counts-fit c.args.u.now _ _ c.wide-n.ensures c.wide-m.ensures (sym c.are_counts.ensures ∙ c.if-not-are_counts.false) in omega (arith, h)

pub returns : goal.returns
returns c = words-kinds c.args.u.now _ _ c.wide-n.ensures c.wide-m.ensures _ (sym c.are_counts.ensures ∙ c.if-not-are_counts.false) (sym c.are_places.ensures ∙ c.if-not-are_places.false) c.hold_kinds.ensures
