-- What was written from the start is the program's output.
use mathlib.Core.Path.{◌≡◌, sym, ap, ◌∙◌}
use mathlib.Core.List.{List, ◌++◌}
use Prim.Native.Nat.{ℕ, ◌≤◌}
use native.Mathlib.Nat.{zero-add}
use lib.ListN.{length, take, drop}
use Rattle.endian.specs.Little.{placed}
use Rattle.ascii.specs.inner.Work.{Wrote}
use Rattle.ascii.proofs.Writing.{wrote-all}
use Rattle.problem_answer.specs.Program.{program_text}
use Rattle.problem_answer.specs.Promise.{Responds}

-- the program's output, and the rest as it was
pub responds : {b a : List ℕ} {r : ℕ} (bs t : List ℕ) → t ≡ program_text bs → Wrote b 0 t a r → Responds bs r b a × ((r ≤ length a) × (r ≡ length (take r a)))
unfolding placed
responds {b} {a} {r} bs t e w =
    let z : r ≡ length t = w.until ∙ zero-add (length t) in
    let q : a ≡ t ++ drop r b = w.held ∙ ap (λ (k : ℕ). t ++ drop k b) (sym w.until) in
    (record { the_count = z ∙ ap length e; the_buffer = q ∙ ap (λ (x : List ℕ). x ++ drop r b) e }, wrote-all w)
