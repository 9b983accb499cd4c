-- `test_strict`: each way out by its tests.
use mathlib.Core.Path.{sym, ◌∙◌}
use Rattle.problem_write.specs.Lent.{lent_of}
use Rattle.problem_write_call.proofs.Told.{sizes-are, sized, told-size, told-first, told-others, told-room, told-kind, told-width, told_bounds}
use Rattle.problem_write_call.proofs.arguments.test_strict.Goals as goal

pub returns-then-not-are_sizes : goal.returns-then-not-are_sizes
returns-then-not-are_sizes c = let a = c.args in
    told-size (lent_of a.n a.m a.factor.now a.gradient.now a.kinds.now a.values.now a.widths.now a.jacobian.now a.lower.now a.upper.now) a.w a.«iw» (sym c.are_sizes.ensures ∙ c.if-not-are_sizes.true)

pub are_lengths-requires : goal.are_lengths-requires
are_lengths-requires c = let a = c.args in sizes-are (lent_of a.n a.m a.factor.now a.gradient.now a.kinds.now a.values.now a.widths.now a.jacobian.now a.lower.now a.upper.now) (sym c.are_sizes.ensures ∙ c.if-not-are_sizes.false)

pub returns-then-not-are_lengths : goal.returns-then-not-are_lengths
returns-then-not-are_lengths c = let a = c.args in
    told-first (lent_of a.n a.m a.factor.now a.gradient.now a.kinds.now a.values.now a.widths.now a.jacobian.now a.lower.now a.upper.now) a.w a.«iw» (sym c.are_sizes.ensures ∙ c.if-not-are_sizes.false) (sym c.are_lengths.ensures ∙ c.if-not-are_lengths.true)

pub returns-then-not-are_other_lengths : goal.returns-then-not-are_other_lengths
returns-then-not-are_other_lengths c = let a = c.args in
    told-others (lent_of a.n a.m a.factor.now a.gradient.now a.kinds.now a.values.now a.widths.now a.jacobian.now a.lower.now a.upper.now) a.w a.«iw» (sym c.are_sizes.ensures ∙ c.if-not-are_sizes.false) (sym c.are_lengths.ensures ∙ c.if-not-are_lengths.false) (sym c.are_other_lengths.ensures ∙ c.if-not-are_other_lengths.true)

pub returns-then-not-is_room : goal.returns-then-not-is_room
returns-then-not-is_room c = let a = c.args in
    told-room (lent_of a.n a.m a.factor.now a.gradient.now a.kinds.now a.values.now a.widths.now a.jacobian.now a.lower.now a.upper.now) a.w a.«iw» (sym c.are_sizes.ensures ∙ c.if-not-are_sizes.false) (sym c.are_lengths.ensures ∙ c.if-not-are_lengths.false) (sym c.are_other_lengths.ensures ∙ c.if-not-are_other_lengths.false) (sym c.is_room.ensures ∙ c.if-not-is_room.true)

pub returns-then-not-are_kinds : goal.returns-then-not-are_kinds
returns-then-not-are_kinds c = let a = c.args in
    told-kind (lent_of a.n a.m a.factor.now a.gradient.now a.kinds.now a.values.now a.widths.now a.jacobian.now a.lower.now a.upper.now) a.w a.«iw» (sym c.are_sizes.ensures ∙ c.if-not-are_sizes.false) (sym c.are_lengths.ensures ∙ c.if-not-are_lengths.false) (sym c.are_other_lengths.ensures ∙ c.if-not-are_other_lengths.false) (sym c.is_room.ensures ∙ c.if-not-is_room.false) (sym c.are_kinds.ensures ∙ c.if-not-are_kinds.true)

pub are_widths-requires : goal.are_widths-requires
are_widths-requires c = let a = c.args in
    let z = sized (lent_of a.n a.m a.factor.now a.gradient.now a.kinds.now a.values.now a.widths.now a.jacobian.now a.lower.now a.upper.now) (sym c.are_sizes.ensures ∙ c.if-not-are_sizes.false) (sym c.are_lengths.ensures ∙ c.if-not-are_lengths.false) (sym c.are_other_lengths.ensures ∙ c.if-not-are_other_lengths.false) in
    (z.the_kinds, z.the_widths)

pub returns-then-not-are_widths : goal.returns-then-not-are_widths
returns-then-not-are_widths c = let a = c.args in
    told-width (lent_of a.n a.m a.factor.now a.gradient.now a.kinds.now a.values.now a.widths.now a.jacobian.now a.lower.now a.upper.now) a.w a.«iw» (sym c.are_sizes.ensures ∙ c.if-not-are_sizes.false) (sym c.are_lengths.ensures ∙ c.if-not-are_lengths.false) (sym c.are_other_lengths.ensures ∙ c.if-not-are_other_lengths.false) (sym c.is_room.ensures ∙ c.if-not-is_room.false) (sym c.are_kinds.ensures ∙ c.if-not-are_kinds.false) (sym c.are_widths.ensures ∙ c.if-not-are_widths.true)

pub test_bounds-requires : goal.test_bounds-requires
test_bounds-requires c = let a = c.args in
    let z = sized (lent_of a.n a.m a.factor.now a.gradient.now a.kinds.now a.values.now a.widths.now a.jacobian.now a.lower.now a.upper.now) (sym c.are_sizes.ensures ∙ c.if-not-are_sizes.false) (sym c.are_lengths.ensures ∙ c.if-not-are_lengths.false) (sym c.are_other_lengths.ensures ∙ c.if-not-are_other_lengths.false) in
    (z.variables, z.the_lower, z.the_upper)

pub returns : goal.returns
returns c = let a = c.args in
    told_bounds (lent_of a.n a.m a.factor.now a.gradient.now a.kinds.now a.values.now a.widths.now a.jacobian.now a.lower.now a.upper.now) a.w a.«iw» (sym c.are_sizes.ensures ∙ c.if-not-are_sizes.false) (sym c.are_lengths.ensures ∙ c.if-not-are_lengths.false) (sym c.are_other_lengths.ensures ∙ c.if-not-are_other_lengths.false) c.test_bounds.result (sym c.is_room.ensures ∙ c.if-not-is_room.false) (sym c.are_kinds.ensures ∙ c.if-not-are_kinds.false) (sym c.are_widths.ensures ∙ c.if-not-are_widths.false) c.test_bounds.ensures
