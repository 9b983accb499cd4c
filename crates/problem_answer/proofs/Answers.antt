-- The step's answer, from its promise, and the problem, from the parts of the tables.
use mathlib.Core.Path.{◌≡◌, sym, ap, ◌∙◌}
use mathlib.Core.Bool.{Bool, true, false}
use mathlib.Core.List.{List, ◌++◌}
use Prim.Native.Nat.{ℕ}
use lib.ListN.{drop}
use lib.Ieee.{Float}
use Rattle.workspace.specs.Tables.{Answer, done, refused, is_late, number_of}
use Rattle.workspace.specs.declared.Refusal.{Refusal}
use Rattle.step.specs.Step.{Step}
use Rattle.step.specs.declared.Report.{Report}
use Rattle.step_call.specs.Promise.{Outcome, refused_by, Steps}
use Rattle.problem_read.specs.Tables.{factor_in, gradient_in, kinds_in, values_in, widths_in, jacobian_in, lower_in, upper_in, problem_in, decoded_in}
use Rattle.problem_read.specs.declared.Sizes.{Sizes}
use Rattle.problem_read.specs.declared.Unread.{Unread}
use Rattle.problem_read.specs.Input.{read_numbers}
use Rattle.step_rows.specs.Problem.{problem_of}
use Rattle.problem_answer.specs.Program.{refused_text, done_text, step_text, decoded_text, program_text}
use Rattle.problem_answer.specs.Claims.{OneResponse}
use Rattle.problem_answer.specs.inner.Work.{step_answer_of, step_from}
use Rattle.std.specs.Prelude.{Result, Ok, Err}

-- what a call of the step tells of its relaxation
abbrev pub relaxation_of : Outcome → Result Float Refusal
relaxation_of (Ok s) = s.relaxation
relaxation_of (Err r) = Err r

-- either way to refuse tells the same reason
refusal_is : (b : Bool) (r : Refusal) (t : Report) (e : Outcome) (d l : List Float) → e ≡ refused_by b r t → step_answer_of (relaxation_of e) d l ≡ refused r
refusal_is false r t e d l h = rw h
refusal_is true r t e d l h = rw h

-- what a call of the step promises tells its whole answer
pub answer-is : (c : Answer Step) (t : Report) (e : Outcome) (d d' l l' w w' : List Float) (iw iw' : List ℕ)
    → Steps c t e d d' l l' w w' iw iw' → step_answer_of (relaxation_of e) d' l' ≡ c
answer-is (done s) t e d d' l l' w w' iw iw' h = rw h.the_outcome (ap done (rw (h.the_d, h.the_multipliers)))
answer-is (refused k) t e d d' l l' w w' iw iw' h = refusal_is (is_late k) k t e d' l' h.the_outcome

-- the parts that the step is lent
pub parts_are : (m n k : ℕ) (marks : List ℕ) (vals factor gradient : List Float) (kinds : List ℕ) (values widths jacobian lower upper : List Float)
    → factor ≡ factor_in n vals → gradient ≡ gradient_in n vals → kinds ≡ kinds_in k marks → k ≡ m → values ≡ values_in m vals → widths ≡ widths_in m vals → jacobian ≡ jacobian_in m n vals
    → lower ≡ lower_in n vals → upper ≡ upper_in n vals → problem_of n m factor gradient kinds values widths jacobian lower upper ≡ problem_in m n marks vals
unfolding problem_in
parts_are m n k marks vals factor gradient kinds values widths jacobian lower upper f g s z v x j l u = rw (f, g, s, z, v, x, j, l, u)

-- ---- its text

pub done-text : (e : Result Float Refusal) (r : Float) (d l : List Float) → e ≡ Ok r → done_text (step_from r d l) ≡ step_text (step_answer_of e d l)
done-text e r d l q = ap (λ (x : Result Float Refusal). step_text (step_answer_of x d l)) (sym q)

pub refused-text : (e : Result Float Refusal) (k : Refusal) (d l : List Float) → e ≡ Err k → refused_text (number_of k) ≡ step_text (step_answer_of e d l)
refused-text e k d l q = ap (λ (x : Result Float Refusal). step_text (step_answer_of x d l)) (sym q)

-- ---- the whole output, from what `decode` answers

pub output-is : (bs : List ℕ) (r q : Result Sizes Unread) (marks : List ℕ) (vals : List Float) → r ≡ q → decoded_in r marks vals ≡ read_numbers bs → decoded_text (decoded_in q marks vals) ≡ program_text bs
unfolding program_text
output-is bs r q marks vals e h = ap decoded_text (sym (ap (λ (x : Result Sizes Unread). decoded_in x marks vals) e) ∙ h)

-- the promise allows one answer only
pub one-response : OneResponse
one-response bs r q out out₁ out₂ h k =
    let e : r ≡ q = h.the_count ∙ sym k.the_count in
    (e, h.the_buffer ∙ ap (λ (j : ℕ). program_text bs ++ drop j out) e ∙ sym k.the_buffer)
