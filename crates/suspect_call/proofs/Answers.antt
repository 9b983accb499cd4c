-- Laws of the answer: what is read out of the front of the workspaces, and what a call then leaves.
use mathlib.Core.Path.{◌≡◌, refl, ap, ◌∙◌}
use mathlib.Core.List.{List, [], ◌++◌}
use Prim.Native.Nat.{ℕ, ◌≤◌}
use native.Mathlib.Omega.{arith}
use lib.ListN.{length, drop}
use lib.Ieee.{Float}
use Rattle.numbers.specs.Numbers.{+0, rows}
use Rattle.workspace.specs.Readings.{vec, stack, Cleared}
use Rattle.workspace.proofs.Parts.{stack-front, nums-front, front-cleared}
use Rattle.suspect.specs.Suspect.{Tests}
use Rattle.suspect.specs.declared.Finding.{Finding}
use Rattle.suspect.specs.inner.Work.{tests_in}
use Rattle.suspect_call.specs.Promise.{numbers_of}
use Rattle.suspect_call.specs.inner.Work.{Given, Left}

-- the three vectors, one after the other
three : (n : ℕ) (w : List Float) → stack 1020 3 n w ≡ vec 1020 n w ++ (vec 1038 n w ++ (vec 1056 n w ++ []))
unfolding stack rows
three n w = refl

-- v and u are what the kernel left in the first 8,192 and 512 entries
pub left_is : (n : ℕ) (t : Tests) (d : Finding) (x : List Float) (g k : List ℕ) (w v w' : List Float) (iw u iw' : List ℕ) → n ≤ 16 → length v ≡ 8192 → length u ≡ 512
    → tests_in n d v u ≡ t → Given n (v ++ drop 8192 w) (u ++ drop 512 iw) x g k → Cleared (v ++ drop 8192 w) w' (u ++ drop 512 iw) iw' → Left t d x g k w w' iw iw'
left_is n t d x g k w v w' iw u iw' n16 lv lu e G C = record {
  finding = ap (λ (q : Tests). q.finding) e;
  numbers = G.numbers ∙ stack-front v (drop 8192 w) 1020 3 n (omega arith) (omega arith) ∙ three n v ∙ ap numbers_of e;
  group = G.group ∙ nums-front u (drop 512 iw) 18 n (omega arith) ∙ ap (λ (q : Tests). q.groups) e;
  mark = G.mark ∙ nums-front u (drop 512 iw) 36 n (omega arith) ∙ ap (λ (q : Tests). q.marks) e;
  floats = C.floats ∙ front-cleared +0 8192 v w lv;
  words = C.words ∙ front-cleared 0 512 u iw lu;
}
