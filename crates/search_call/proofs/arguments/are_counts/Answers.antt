-- `are_counts`: each way out rewrites with its tests.
use mathlib.Core.Path.{sym, ◌∙◌}
use borrow.Author.Tests.{le-leb, lt-leb}
use Rattle.search_call.proofs.arguments.are_counts.Goals as goal

pub are_sizes-requires : goal.are_sizes-requires
are_sizes-requires c = tt

pub returns-then-not-are_sizes : goal.returns-then-not-are_sizes
returns-then-not-are_sizes c = rw (sym c.are_sizes.ensures ∙ c.if-not-are_sizes.true)

pub returns-then-scheme-gt-SCHEME_CENTRAL : goal.returns-then-scheme-gt-SCHEME_CENTRAL
returns-then-scheme-gt-SCHEME_CENTRAL c = rw (sym c.are_sizes.ensures ∙ c.if-not-are_sizes.false, lt-leb _ _ c.if-scheme-gt-SCHEME_CENTRAL.true)

pub returns-then-budget-gt-MOST_VALUES : goal.returns-then-budget-gt-MOST_VALUES
returns-then-budget-gt-MOST_VALUES c = rw (sym c.are_sizes.ensures ∙ c.if-not-are_sizes.false, le-leb _ _ c.if-scheme-gt-SCHEME_CENTRAL.false, lt-leb _ _ c.if-budget-gt-MOST_VALUES.true)

pub returns-then-again-gt-BACKTRACKS : goal.returns-then-again-gt-BACKTRACKS
returns-then-again-gt-BACKTRACKS c = rw (sym c.are_sizes.ensures ∙ c.if-not-are_sizes.false, le-leb _ _ c.if-scheme-gt-SCHEME_CENTRAL.false, le-leb _ _ c.if-budget-gt-MOST_VALUES.false, lt-leb _ _ c.if-again-gt-BACKTRACKS.true)

pub returns : goal.returns
returns c = rw (sym c.are_sizes.ensures ∙ c.if-not-are_sizes.false, le-leb _ _ c.if-scheme-gt-SCHEME_CENTRAL.false, le-leb _ _ c.if-budget-gt-MOST_VALUES.false, le-leb _ _ c.if-again-gt-BACKTRACKS.false)
