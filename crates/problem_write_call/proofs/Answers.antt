-- What a call leaves.
use mathlib.Core.Path.{◌≡◌, refl, ap, ◌∙◌}
use mathlib.Core.Bool.{false}
use mathlib.Core.List.{List, ◌++◌}
use Prim.Native.Nat.{ℕ, ◌≤◌}
use native.Mathlib.Nat.{zero-add}
use native.Mathlib.Omega.{arith}
use lib.ListN.{length, drop}
use lib.Ieee.{Float}
use Rattle.endian.specs.Little.{placed}
use Rattle.workspace.specs.Tables.{Answer, done, refused, is_late}
use Rattle.workspace.specs.declared.Refusal.{Refusal}
use Rattle.workspace.specs.Readings.{Cleared}
use Rattle.problem_write.specs.File.{records_of, joined, file}
use Rattle.problem_write.specs.Lent.{Lent, problem_in}
use Rattle.problem_write.specs.inner.Work.{Room, Wrote}
use Rattle.problem_write_call.specs.Promise.{WritesFile}
use Rattle.std.specs.Prelude.{Result, Ok, Err}

pub room-is : (p : Lent) (out : List ℕ) → length (file (problem_in p)) ≤ length out → Room 0 (records_of (problem_in p)) out
unfolding file
room-is p out h = omega (arith, h)

front : (f out : List ℕ) → placed 0 f out ≡ f ++ drop (length f) out
unfolding placed
front f out = ap (λ (x : ℕ). f ++ drop x out) (zero-add (length f))

pub written : (p : Lent) (r : ℕ) (out out' : List ℕ) (w w' : List Float) (iw iw' : List ℕ) → Wrote 0 (records_of (problem_in p)) r out out' → Cleared w w' iw iw'
    → WritesFile (done (file (problem_in p))) (Ok r) out out' w w' iw iw'
unfolding file
written p r out out' w w' iw iw' h c = record { the_outcome = ap Ok (h.the_place ∙ zero-add (length (joined (records_of (problem_in p))))); the_output = h.the_bytes ∙ front (joined (records_of (problem_in p))) out; the_floats = c.floats; the_words = c.words }

pub all-passed : (c d : Answer (List ℕ)) (o : Result ℕ Refusal) (out out' : List ℕ) (w w' : List Float) (iw iw' : List ℕ) → c ≡ d → WritesFile d o out out' w w' iw iw' → WritesFile c o out out' w w' iw iw'
all-passed c d o out out' w w' iw iw' e h = rw e h

pub none_written : (c : Answer (List ℕ)) (k : Refusal) (out : List ℕ) (w : List Float) (iw : List ℕ) → (c ≡ refused k) × (is_late k ≡ false) → WritesFile c (Err k) out out w w iw iw
none_written c k out w iw h = rw h.0 (record { the_outcome = refl; the_output = refl; the_floats = rw h.1 refl; the_words = rw h.1 refl })
