-- What is shown of calls: what a done call tells is sound, and the promise allows one answer only. Definitions only.
use Rattle.std.specs.Prelude.{ℕ, ◌+◌, ◌*◌, ◌≤◌, ◌≡◌, List, Float, Result, Ok}
use Rattle.workspace.specs.Tables.{Answer}
use Rattle.nnls_passive.specs.Passive.{solve_of}
use Rattle.nnls.specs.Nnls.{dual_of}
use Rattle.nnls.specs.Claims.{Sound}
use Rattle.nnls_call.specs.Promise.{Told, nnls_call, Nnls}
use Rattle.nnls.specs.declared.memory.Counts.{Counts}
use Rattle.workspace.specs.declared.Refusal.{Refusal}

-- What a done call tells is sound: its x, rounds and factorings. The passive set and the rejected marks are those of the last pass.
pub record SoundCall (m n k : ℕ) (a b x : List Float) (rounds factorings : ℕ) : Type 0 where
  pub passive : List ℕ
  pub rejected : List ℕ
  pub sound : Sound n (dual_of m n a b) (solve_of m n a b) (record { x = x; passive = passive; rejected = rejected })
  pub rounds_most : rounds ≤ k
  pub factorings_most : factorings ≤ n * (k + 1) + k

abbrev pub CallSound : Type 0
CallSound = (m n k : ℕ) (a b x x' w w' : List Float) (iw iw' : List ℕ) (rounds factorings : ℕ)
    → Nnls (nnls_call m n k a b x w iw) (Ok (record { past = rounds; factorings = factorings })) x x' w w' iw iw' → SoundCall m n k a b x' rounds factorings

-- whatever the answer c, the outcome and all that is left are fixed by what was there before
abbrev pub OneAnswer : Type 0
OneAnswer = (c : Answer Told) (o p : Result Counts Refusal) (x x' x'' w w' w'' : List Float) (iw iw' iw'' : List ℕ)
    → Nnls c o x x' w w' iw iw' → Nnls c p x x'' w w'' iw iw'' → (o ≡ p) × (x' ≡ x'') × (w' ≡ w'') × (iw' ≡ iw'')
