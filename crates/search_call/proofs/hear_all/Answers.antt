-- `hear_all`: the answer is heard in the fronts of the workspaces, which are cleared.
use mathlib.Core.Path.{sym, ◌∙◌}
use native.Mathlib.Omega.{arith}
use lib.Seq.{length-take-le}
use Rattle.numbers.specs.Numbers.{+0}
use Rattle.workspace.proofs.Parts.{front-cleared}
use Rattle.step_call.proofs.Calls.{front_long}
use Rattle.search_call.proofs.hear_all.Goals as goal

pub slice_bounds-v-end : goal.slice_bounds-v-end
slice_bounds-v-end c = c.requires.1

pub slice_bounds-v-end-2 : goal.slice_bounds-v-end-2
slice_bounds-v-end-2 c = sym (length-take-le 8192 c.args.w.now c.requires.1)

pub slice_bounds-l-end : goal.slice_bounds-l-end
slice_bounds-l-end c = c.requires.2

pub slice_bounds-l-end-2 : goal.slice_bounds-l-end-2
slice_bounds-l-end-2 c = sym (length-take-le 512 c.args.iw.now c.requires.2)

pub hear-requires : goal.hear-requires
hear-requires c = (c.requires.0, omega (arith, length-take-le 8192 c.args.w.now c.requires.1), omega (arith, length-take-le 512 c.args.iw.now c.requires.2))

pub clear-requires : goal.clear-requires
clear-requires c = let h = c.hear in
    let lv = h.auto.w ∙ length-take-le 8192 c.args.w.now c.requires.1 in
    let lu = h.auto.iw ∙ length-take-le 512 c.args.iw.now c.requires.2 in
    (front_long 8192 h.new.w c.args.w.now lv, front_long 512 h.new.iw c.args.iw.now lu)

pub bounds-words-0 : goal.bounds-words-0
bounds-words-0 c = omega (arith, c.requires.0.words)

pub outcome_of-requires : goal.outcome_of-requires
outcome_of-requires c = tt

pub returns : goal.returns
returns c = let h = c.hear in
    let k = c.clear.ensures in
    let lv = h.auto.w ∙ length-take-le 8192 c.args.w.now c.requires.1 in
    let lu = h.auto.iw ∙ length-take-le 512 c.args.iw.now c.requires.2 in (
      h.ensures,
      record {
        floats = k.floats ∙ front-cleared +0 8192 h.new.w c.args.w.now lv;
        words = k.words ∙ front-cleared 0 512 h.new.iw c.args.iw.now lu;
      },
      c.outcome_of.ensures,
    )
