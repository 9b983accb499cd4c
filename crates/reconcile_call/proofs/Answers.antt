-- Laws of answers: what is given by an ending, and what a call then leaves.
use mathlib.Core.Path.{◌≡◌, refl, ap, ◌∙◌}
use mathlib.Core.List.{List, [], ◌++◌}
use Prim.Native.Nat.{ℕ}
use lib.ListN.{length, drop}
use lib.Ieee.{Float}
use Rattle.workspace.specs.Tables.{output}
use Rattle.workspace.specs.Tables.{Outcome}
use Rattle.std.specs.Prelude.{Result, Ok, Err, ⊤}
use Rattle.workspace.specs.Readings.{Cleared}
use Rattle.nnls.specs.Counted.{Counted}
use Rattle.lsei.specs.Lsei.{Solution}
use Rattle.lsei.specs.inner.Work.{refusal_of, ending_answer, ended_solution}
use Rattle.lsei.specs.declared.Ended.{Ended}
use Rattle.lsei.specs.declared.Unsolved.{Unsolved}
use Rattle.lsei_call.proofs.Giving.{solved}
use Rattle.reconcile.specs.Day.{named}
use Rattle.reconcile_call.specs.Promise.{Reconciles}
use Rattle.reconcile_call.specs.inner.Work.{DayGiven}

pub given-none : (n : ℕ) (o : Result ⊤ Unsolved) (s : Solution) (u : Unsolved) (x : List Float) (marks : List ℕ) → o ≡ Err u → DayGiven n (ending_answer o s) (Err (refusal_of u)) x x marks marks
given-none n o s u x marks h = rw h (record { the_outcome = refl; the_volumes = refl; the_marks = refl })

pub given-all : (n : ℕ) (o : Result ⊤ Unsolved) (s : Solution) (x x' : List Float) (marks marks' : List ℕ) {v : ⊤} → o ≡ Ok v → x' ≡ s.x → marks' ≡ named n x' → DayGiven n (ending_answer o s) (Ok tt) x x' marks marks'
given-all n o s x x' marks marks' d ex em = rw d (record { the_outcome = refl; the_volumes = ex; the_marks = em ∙ ap (named n) ex })

-- a call that reached the arithmetic leaves what LSEI's leaves, and the marks: v and u are what the kernel left in the first 8,192 and 512 entries
pub reconciled : (n : ℕ) (c : Counted Solution) (o : Ended) (s : Solution) (k : Outcome) (x x' : List Float) (marks marks' : List ℕ) (w v w' : List Float) (iw u iw' : List ℕ) → length v ≡ 8192 → length u ≡ 512
    → ended_solution o s ≡ c → DayGiven n (ending_answer o.ending s) k x x' marks marks' → Cleared (v ++ drop 8192 w) w' (u ++ drop 512 iw) iw' → Reconciles n c.answer k x x' marks marks' w w' iw iw'
reconciled n c o s k x x' marks marks' w v w' iw u iw' lv lu t G C =
    let S = solved c o s k x x' [] (output (ending_answer o.ending s) (λ (r : Solution). r.multipliers) []) w v w' iw u iw' lv lu t (record { the_outcome = G.the_outcome; the_x = G.the_volumes; the_multipliers = refl }) C in
    record {
      the_outcome = S.the_outcome;
      the_volumes = S.the_x;
      the_marks = G.the_marks ∙ ap (λ (d : Counted Solution). output d.answer (λ (r : Solution). named n r.x) marks) t;
      the_floats = S.the_floats;
      the_words = S.the_words;
    }
