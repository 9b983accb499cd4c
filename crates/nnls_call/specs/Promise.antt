-- What a call of the public NNLS answers and leaves. Definitions only.
use Rattle.std.specs.Prelude.{ℕ, ◌*◌, ◌≡◌, true, ◌&&◌, List, leb, Float, Result, Ok, Err}
use Rattle.workspace.specs.Tables.{Answer, done, refused, call, output, floats, words, is_matrix, is_room, has}
use Rattle.nnls.specs.Counted.{Counted, then}
use Rattle.nnls.specs.Nnls.{Accepted, nnls}
use Rattle.nnls.specs.declared.memory.Counts.{Counts}
use Rattle.workspace.specs.declared.Refusal.{Refusal}

-- what a done call tells
pub record Told : Type 0 where
  pub x : List Float
  pub rounds : ℕ
  pub factorings : ℕ

abbrev pub tell : Counted Accepted → Answer Told
tell c = then c.answer (λ a. done (record { x = a.x; rounds = c.rounds; factorings = c.factorings }))

-- the whole call, on all that it is lent
abbrev pub nnls_call : (m n k : ℕ) (a b x w : List Float) (iw : List ℕ) → Answer Told
nnls_call m n k a b x w iw =
    call (is_matrix m n && leb k (3 * n)) (has a (m * n) && has b m && has x n) (is_room w iw) true (tell (nnls m n a b k))

-- what it tells: its counts, where it is done
abbrev pub outcome_of : Answer Told → Result Counts Refusal
outcome_of (done t) = Ok (record { past = t.rounds; factorings = t.factorings })
outcome_of (refused r) = Err r

-- From its answer c: the outcome o, and what x and the workspaces hold before and, primed, afterwards.
pub record Nnls (c : Answer Told) (o : Result Counts Refusal) (x x' w w' : List Float) (iw iw' : List ℕ) : Type 0 where
  pub the_outcome : o ≡ outcome_of c
  pub the_x : x' ≡ output c (λ t. t.x) x
  pub the_floats : w' ≡ floats c w
  pub the_words : iw' ≡ words c iw
