-- `judge_term`: test by test.
use native.Mathlib.Omega.{arith}
use mathlib.Core.Path.{◌∙◌}
use Rattle.sheet_words.specs.Names.{not_zero}
use Rattle.sheet_terms.proofs.Laws.{term-sign, term-joined, term-plus, term-times, term-name, term-none, sign-inside, times-inside}
use Rattle.sheet_terms.proofs.judge_term.Goals as goal

pub is_lone-requires : goal.is_lone-requires
is_lone-requires c = tt

pub judge_sign-requires : goal.judge_sign-requires
judge_sign-requires c = tt

pub returns-then-is_lone : goal.returns-then-is_lone
returns-then-is_lone c = record { value = c.judge_sign.ensures ∙ term-sign c.args.balance c.args.equals c.args.here c.args.pending c.args.word.now c.args.texts.now c.is_lone.result c.is_lone.ensures c.if-is_lone.true; names_inside = rw c.judge_sign.ensures (sign-inside c.args.balance c.args.equals c.args.here) }

pub is_joined-requires : goal.is_joined-requires
is_joined-requires c = tt

pub returns-then-is_joined : goal.returns-then-is_joined
returns-then-is_joined c = record { value = term-joined c.args.balance c.args.equals c.args.here c.args.pending c.args.word.now c.args.texts.now c.is_lone.result c.is_lone.ensures c.if-is_lone.false c.is_joined.result c.is_joined.ensures c.if-is_joined.true; names_inside = tt }

pub is_sign-requires : goal.is_sign-requires
is_sign-requires c = tt

pub returns-then-is_sign : goal.returns-then-is_sign
returns-then-is_sign c = record { value = term-plus c.args.balance c.args.equals c.args.here c.args.pending c.args.word.now c.args.texts.now c.is_lone.result c.is_lone.ensures c.if-is_lone.false c.is_joined.result c.is_joined.ensures c.if-is_joined.false c.is_sign.result c.is_sign.ensures c.if-is_sign.true; names_inside = tt }

pub is_number-requires : goal.is_number-requires
is_number-requires c = tt

pub judge_times-requires : goal.judge_times-requires
judge_times-requires c = tt

pub returns-then-is_number : goal.returns-then-is_number
returns-then-is_number c = record { value = c.judge_times.ensures ∙ term-times c.args.balance c.args.equals c.args.here c.args.pending c.args.word.now c.args.texts.now c.is_lone.result c.is_lone.ensures c.if-is_lone.false c.is_joined.result c.is_joined.ensures c.if-is_joined.false c.is_sign.result c.is_sign.ensures c.if-is_sign.false c.is_number.result c.is_number.ensures c.if-is_number.true; names_inside = rw c.judge_times.ensures (times-inside (not_zero c.args.word.now)) }

pub begins_letter-requires : goal.begins_letter-requires
begins_letter-requires c = tt

pub judge_place-requires : goal.judge_place-requires
judge_place-requires c = omega arith

pub returns-then-begins_letter : goal.returns-then-begins_letter
returns-then-begins_letter c = record { value = c.judge_place.ensures.value ∙ term-name c.args.balance c.args.equals c.args.here c.args.pending c.args.word.now c.args.texts.now c.is_lone.result c.is_lone.ensures c.if-is_lone.false c.is_joined.result c.is_joined.ensures c.if-is_joined.false c.is_sign.result c.is_sign.ensures c.if-is_sign.false c.is_number.result c.is_number.ensures c.if-is_number.false c.begins_letter.result c.begins_letter.ensures c.if-begins_letter.true; names_inside = c.judge_place.ensures.names_inside }

pub returns : goal.returns
returns c = record { value = term-none c.args.balance c.args.equals c.args.here c.args.pending c.args.word.now c.args.texts.now c.is_lone.result c.is_lone.ensures c.if-is_lone.false c.is_joined.result c.is_joined.ensures c.if-is_joined.false c.is_sign.result c.is_sign.ensures c.if-is_sign.false c.is_number.result c.is_number.ensures c.if-is_number.false c.begins_letter.result c.begins_letter.ensures c.if-begins_letter.false; names_inside = tt }
