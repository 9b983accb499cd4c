-- `take_term`: by what the word is.
use native.Mathlib.Omega.{arith}
use mathlib.Core.Path.{refl, ap, ◌∙◌}
use lib.ListN.{length-set}
use lib.Ieee.{of_bits}
use Rattle.std.specs.Prelude.{Ok}
use Rattle.sheet_words.proofs.Laws.{err-is}
use Rattle.sheet_terms.specs.declared.Term.{Term}
use Rattle.sheet_terms.specs.inner.Work.{turn}
use Rattle.sheet_terms.proofs.Laws.{told-stop, named-inside, turned-not, turned-sign, turned-times, turned-once, turned-name}
use Rattle.sheet_terms.proofs.take_term.Goals as goal

pub judge_term-requires : goal.judge_term-requires
judge_term-requires c = omega arith

pub overflow_add-q : goal.overflow_add-q
overflow_add-q c = omega (arith, named-inside c.judge_term.result _ c.judge_term.ensures.names_inside (c.in_ok-judge_term.was ∙ ap (λ (r : Term). Ok r) c.in-Names.is))

pub offset_bounds-numbers-q : goal.offset_bounds-numbers-q
offset_bounds-numbers-q c = omega (arith, named-inside c.judge_term.result _ c.judge_term.ensures.names_inside (c.in_ok-judge_term.was ∙ ap (λ (r : Term). Ok r) c.in-Names.is))

pub bounds-numbers-q : goal.bounds-numbers-q
bounds-numbers-q c = omega (arith, named-inside c.judge_term.result _ c.judge_term.ensures.names_inside (c.in_ok-judge_term.was ∙ ap (λ (r : Term). Ok r) c.in-Names.is))

pub offset_bounds-numbers-q-then-numbers-q : goal.offset_bounds-numbers-q-then-numbers-q
offset_bounds-numbers-q-then-numbers-q c = omega (arith, named-inside c.judge_term.result _ c.judge_term.ensures.names_inside (c.in_ok-judge_term.was ∙ ap (λ (r : Term). Ok r) c.in-Names.is))

pub bounds-numbers-q-then-numbers-q : goal.bounds-numbers-q-then-numbers-q
bounds-numbers-q-then-numbers-q c = omega (arith, named-inside c.judge_term.result _ c.judge_term.ensures.names_inside (c.in_ok-judge_term.was ∙ ap (λ (r : Term). Ok r) c.in-Names.is))

pub shape_of-numbers-then-numbers-q : goal.shape_of-numbers-then-numbers-q
shape_of-numbers-then-numbers-q c = simp length-set

pub returns-then-numbers-q : goal.returns-then-numbers-q
unfolding of_bits
returns-then-numbers-q c = record { numbers_after = turned-name c.args.p c.args.balance c.args.word.now c.args.texts.now (turn c.args.t c.args.numbers.now) c.is_some.result c.is_some.ensures c.judge_term.result c.judge_term.ensures.value _ (c.in_ok-judge_term.was ∙ ap (λ (r : Term). Ok r) c.in-Names.is) c.if-numbers-q.true _ c.coefficient.ensures; numbers_len_unchanged = simp length-set }

pub returns-in_err-judge_term : goal.returns-in_err-judge_term
returns-in_err-judge_term c = record { numbers_after = told-stop c.from_residual.result c.args.numbers.now _ (err-is c.from_residual.result _ c.from_residual.ensures.1) ∙ turned-not c.args.p c.args.balance c.args.word.now c.args.texts.now (turn c.args.t c.args.numbers.now) c.is_some.result c.is_some.ensures c.judge_term.result c.judge_term.ensures.value _ c.in_err-judge_term.was; numbers_len_unchanged = refl }

pub returns-in-Sign : goal.returns-in-Sign
returns-in-Sign c = record { numbers_after = turned-sign c.args.p c.args.balance c.args.word.now c.args.texts.now (turn c.args.t c.args.numbers.now) c.is_some.result c.is_some.ensures c.judge_term.result c.judge_term.ensures.value (c.in_ok-judge_term.was ∙ ap (λ (r : Term). Ok r) c.in-Sign.is); numbers_len_unchanged = refl }

pub returns-in-Times : goal.returns-in-Times
returns-in-Times c = record { numbers_after = turned-times c.args.p c.args.balance c.args.word.now c.args.texts.now (turn c.args.t c.args.numbers.now) c.is_some.result c.is_some.ensures c.judge_term.result c.judge_term.ensures.value _ (c.in_ok-judge_term.was ∙ ap (λ (r : Term). Ok r) c.in-Times.is); numbers_len_unchanged = refl }

pub returns-else-numbers-q : goal.returns-else-numbers-q
unfolding of_bits
returns-else-numbers-q c = record { numbers_after = turned-once c.args.p c.args.balance c.args.word.now c.args.texts.now (turn c.args.t c.args.numbers.now) c.is_some.result c.is_some.ensures c.judge_term.result c.judge_term.ensures.value _ (c.in_ok-judge_term.was ∙ ap (λ (r : Term). Ok r) c.in-Names.is) c.if-numbers-q.false; numbers_len_unchanged = refl }
