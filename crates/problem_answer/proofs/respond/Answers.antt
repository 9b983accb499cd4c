-- `respond`: what the input says, and what is written for it.
use mathlib.Core.Path.{◌∙◌, ap, sym}
use native.Mathlib.Omega.{arith}
use Rattle.std.specs.Prelude.{Ok, Err}
use Rattle.problem_read.specs.declared.Unread.TheVariants.{Fault, Large}
use Rattle.problem_read.proofs.Decoded.{whole-sizes}
use Rattle.problem_answer.proofs.Writing.{responds}
use Rattle.problem_answer.proofs.Answers.{output-is}
use Rattle.problem_answer.proofs.respond.Goals as goal

pub slice_bounds-put_step-end : goal.slice_bounds-put_step-end
slice_bounds-put_step-end c = c.blank_marks-marks.ensures ∙ sym c.decode.ensures.promise.marks_size

pub slice_bounds-put_step-end-in-Ok : goal.slice_bounds-put_step-end-in-Ok
slice_bounds-put_step-end-in-Ok c = c.blank_values-vals.ensures ∙ sym c.decode.ensures.promise.vals_size

pub put_step-requires : goal.put_step-requires
put_step-requires c = let k = c.decode in
    let s = whole-sizes c.args.bytes.now k.result _ _ k.new.marks k.new.vals c.in-Ok.is k.ensures.promise.the_input in
    (s.few, s.some, s.most, k.ensures.promise.marks_size ∙ sym c.blank_marks-marks.ensures, k.ensures.promise.vals_size ∙ sym c.blank_values-vals.ensures, omega arith)

pub returns-in-Err-Fault : goal.returns-in-Err-Fault
returns-in-Err-Fault c = let bs = c.args.bytes.now in let k = c.decode in let r = responds bs _ (output-is bs k.result (Err (Fault c.in-Err-Fault.k)) k.new.marks k.new.vals (c.in-Err-Fault.is ∙ ap Err c.in-Err-Fault.field-0-is) k.ensures.promise.the_input) (rw c.in-Err-Fault.field-0-is at c.put_fault.ensures) in record { responds = r.0; upper_bound = r.1 }

pub returns-in-Err-Large : goal.returns-in-Err-Large
returns-in-Err-Large c = let bs = c.args.bytes.now in let k = c.decode in let r = responds bs _ (output-is bs k.result (Err Large) k.new.marks k.new.vals (c.in-Err-Large.is ∙ ap Err c.in-Err-Large.field-0-is) k.ensures.promise.the_input) c.put_refused.ensures in record { responds = r.0; upper_bound = r.1 }

pub returns-in-Ok : goal.returns-in-Ok
returns-in-Ok c = let bs = c.args.bytes.now in let k = c.decode in let r = responds bs _ (output-is bs k.result (Ok _) k.new.marks k.new.vals c.in-Ok.is k.ensures.promise.the_input) c.put_step.ensures in record { responds = r.0; upper_bound = r.1 }
