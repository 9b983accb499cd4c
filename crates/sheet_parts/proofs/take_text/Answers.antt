-- `take_text`: a text, and its place.
use native.Mathlib.Omega.{arith}
use mathlib.Core.Path.{◌≡◌, ap, ◌∙◌}
use mathlib.Core.List.{List, []}
use Prim.Native.Nat.{ℕ, ◌+◌}
use lib.ListN.{drop}
use Rattle.sheet_words.specs.declared.Expected.TheVariants.{Text}
use Rattle.sheet_parts.specs.Parts.{untexted, text_at}
use Rattle.sheet_words.specs.Lines.{between}
use Rattle.sheet_words.proofs.Laws.{nothing}
use Rattle.sheet_words.proofs.Laws.{found-in}
use Rattle.sheet_parts.proofs.Laws.{text-wrong, between-size, between-later, text-none, text-bad, text-good}
use Rattle.sheet_parts.proofs.take_text.Goals as goal

pub returns-then-start-end : goal.returns-then-start-end
returns-then-start-end c = let w = c.find_text-w.result in
    let y = between-size c.args.line.now w.start w.end c.find_text-w.ensures.low c.find_text-w.ensures.high in
    let n : between w.start w.end c.args.line.now ≡ [] = rw c.if-start-end.true (nothing w.end (drop w.end c.args.line.now)) in
    record {
      texts_after = text-wrong c.args.line.now c.new.result _ w c.new.ensures c.args.texts.now _ (ap (untexted Text) n ∙ text-none c.args.p (between w.start w.end c.args.line.now) c.args.texts.now (omega (arith, y, c.if-start-end.true)) ∙ ap (λ (l : List ℕ). text_at c.args.p l c.args.texts.now) c.find_text-w.ensures.text);
      inside = found-in c.args.line.now c.new.result _ w c.new.ensures (c.find_text-w.ensures.low, c.find_text-w.ensures.high);
    }

pub returns-then-n-text : goal.returns-then-n-text
returns-then-n-text c = let w = c.find_text-w.result in
    let y = between-size c.args.line.now w.start w.end c.find_text-w.ensures.low c.find_text-w.ensures.high in
    record {
      texts_after = text-wrong c.args.line.now c.new-then-n-text.result _ (record { start = w.start + c.sound_size-n.result; end = w.end }) c.new-then-n-text.ensures c.args.texts.now _ (ap (untexted Text) (between-later c.args.line.now w.start w.end c.sound_size-n.result) ∙ text-bad c.args.p (between w.start w.end c.args.line.now) c.args.texts.now (λ z. omega (arith, y, z, c.find_text-w.ensures.low, c.if-start-end.false)) c.sound_size-n.result c.sound_size-n.ensures.0 c.if-n-text.true ∙ ap (λ (l : List ℕ). text_at c.args.p l c.args.texts.now) c.find_text-w.ensures.text);
      inside = found-in c.args.line.now c.new-then-n-text.result _ (record { start = w.start + c.sound_size-n.result; end = w.end }) c.new-then-n-text.ensures (omega (arith, y, c.find_text-w.ensures.low, c.if-n-text.true), c.find_text-w.ensures.high);
    }

pub returns : goal.returns
returns c = record { texts_after = text-good c.args.p (between c.find_text-w.result.start c.find_text-w.result.end c.args.line.now) c.args.texts.now (λ z. let y = between-size c.args.line.now c.find_text-w.result.start c.find_text-w.result.end c.find_text-w.ensures.low c.find_text-w.ensures.high in omega (arith, y, z, c.find_text-w.ensures.low, c.if-start-end.false)) c.sound_size-n.result c.sound_size-n.ensures.0 c.if-n-text.false _ c.put_text.ensures.held ∙ ap (λ (l : List ℕ). text_at c.args.p l c.args.texts.now) c.find_text-w.ensures.text; inside = c.find_text-w.ensures.high }
