-- What is shown of the operations on B as its lower triangle: they agree with the square form's after any calls. Definitions only.
use Rattle.std.specs.Prelude.{ℕ, ◌≡◌, List, [], ◌∷◌, Float}
use Rattle.workspace.specs.Tables.{Answer}
use Rattle.workspace.specs.Tables.{Outcome}
use Rattle.hessian.specs.Hessian as Square
use Rattle.hessian_call.specs.Promise.{Writes, times_call, cholesky_call}
use Rattle.hessian_call.specs.Claims.{Call, reset, update, lent_floats, lent_words, Seen, Run}
use Rattle.hessian_packed.specs.Packed as Packed
use Rattle.hessian_packed.specs.Claims.{Same}
use Rattle.hessian_packed_call.specs.Promise.{packed_identity_call, packed_times_call, packed_cholesky_call, packed_update_call}

-- what the packed operation answers to the square form's call, where the triangle is p
abbrev pub packed_answer : Call → List Float → Answer (List Float)
packed_answer (reset n w iw) p = packed_identity_call n p w iw
packed_answer (update n s y w iw) p = packed_update_call n p s y w iw

-- a call as it was made and seen, with the triangle before and after it, met its promise
abbrev pub PackedMet : Seen → Type 0
PackedMet s = Writes (packed_answer s.made s.old) s.outcome s.old s.new (lent_floats s.made) s.floats (lent_words s.made) s.words

-- the triangle was p before the first call and is p' after the last, each of which met its promise, and nobody else wrote it in between
abbrev pub PackedRun : List Seen → List Float → List Float → Type 0
PackedRun [] p p' = p ≡ p'
PackedRun (s ∷ ss) p p' = (s.old ≡ p) × PackedMet s × PackedRun ss s.new p'

-- the same calls were made, one after the other
abbrev pub SameMade : List Seen → List Seen → Type 0
SameMade [] [] = Unit
SameMade [] (t ∷ ts) = ⊥
SameMade (s ∷ ss) [] = ⊥
SameMade (s ∷ ss) (t ∷ ts) = (s.made ≡ t.made) × SameMade ss ts

-- and each had the same outcome and left the same workspaces
abbrev pub SameEnds : List Seen → List Seen → Type 0
SameEnds [] [] = Unit
SameEnds [] (t ∷ ts) = ⊥
SameEnds (s ∷ ss) [] = ⊥
SameEnds (s ∷ ss) (t ∷ ts) = (s.outcome ≡ t.outcome) × (s.floats ≡ t.floats) × (s.words ≡ t.words) × SameEnds ss ts

-- two calls that met their promises of answers a and c, with the same output and workspaces lent, tell and leave the same
abbrev pub WriteAlike : (a c : Answer (List Float)) (out w : List Float) (iw : List ℕ) → Type 0
WriteAlike a c out w iw = (o q : Outcome) (out' out'' w' w'' : List Float) (iw' iw'' : List ℕ)
    → Writes a o out out' w w' iw iw' → Writes c q out out'' w w'' iw iw'' → (o ≡ q) × (out' ≡ out'') × (w' ≡ w'') × (iw' ≡ iw'')

-- Of two runs, on a triangle that is now p and on a square that is now b: every call ended alike, each matrix is what the other stands for, and product and factor, of whatever size, tell and leave the same.
pub record SameRuns (n : ℕ) (ss ts : List Seen) (p b : List Float) : Type 0 where
  pub ends : SameEnds ss ts
  pub matrices : Same n p b
  pub products : (m : ℕ) (v out w : List Float) (iw : List ℕ) → WriteAlike (packed_times_call m p v out w iw) (times_call m b v out w iw) out w iw
  pub factors : (m : ℕ) (out w : List Float) (iw : List ℕ) → WriteAlike (packed_cholesky_call m p out w iw) (cholesky_call m b out w iw) out w iw

-- after the same calls from the identity, refused ones and those of other sizes among them, of every dimension at once
abbrev pub RunsAgree : Type 0
RunsAgree = (n : ℕ) (ss ts : List Seen) (p b : List Float) → PackedRun ss (Packed.identity n) p → Run ts (Square.identity n) b → SameMade ss ts → SameRuns n ss ts p b
