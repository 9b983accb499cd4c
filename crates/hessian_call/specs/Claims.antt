-- What is shown of the operations on B: Cholesky reads the lower triangle, the promise allows one answer only, and B is its own mirror after any calls. Definitions only.
use Rattle.std.specs.Prelude.{◌≡◌, List, [], ◌∷◌, ℕ, Float}
use Rattle.numbers.specs.Numbers.{SameLower}
use Rattle.workspace.specs.Tables.{Answer, output}
use Rattle.workspace.specs.Tables.{Outcome}
use Rattle.std.specs.Prelude.{Ok}
use Rattle.hessian.specs.Hessian.{identity, cholesky}
use Rattle.hessian.specs.Claims.{Mirror}
use Rattle.hessian_call.specs.Promise.{Writes, identity_call, update_call}

abbrev pub ReadsLower : Type 0
ReadsLower = (n : ℕ) (b b' : List Float) → SameLower n b b' → cholesky n b ≡ cholesky n b'

-- whatever the answer c, the outcome and all that is left are fixed by what was there before
abbrev pub OneAnswer : Type 0
OneAnswer = (c : Answer (List Float)) (o p : Outcome) (out out' out'' w w' w'' : List Float) (iw iw' iw'' : List ℕ)
    → Writes c o out out' w w' iw iw' → Writes c p out out'' w w'' iw iw'' → (o ≡ p) × (out' ≡ out'') × (w' ≡ w'') × (iw' ≡ iw'')

-- ---- B over any number of calls

-- A call that B is lent to be written, with all else that it is lent: a reset, or an update. The product and the factor only read B.
pub data Call : Type 0 where
  reset : (n : ℕ) (w : List Float) (iw : List ℕ) → Call
  update : (n : ℕ) (s y w : List Float) (iw : List ℕ) → Call

-- its answer where B is b
abbrev pub answer_of : Call → List Float → Answer (List Float)
answer_of (reset n w iw) b = identity_call n b w iw
answer_of (update n s y w iw) b = update_call n b s y w iw

-- B after it, and after some, from the first to the last: a refused one leaves B
unfoldable pub next : Call → List Float → List Float
next c b = output (answer_of c b) (λ v. v) b

unfoldable pub after : List Call → List Float → List Float
after [] b = b
after (c ∷ cs) b = after cs (next c b)

-- B is its own mirror (`Mirror` says what that is) after any calls from the identity, refused ones and those of other sizes among them
abbrev pub CallsMirror : Type 0
CallsMirror = (n : ℕ) (cs : List Call) → Mirror n (after cs (identity n))

-- ---- the same of calls as a caller sees them, by their promise alone

-- the workspaces that a call is lent
abbrev pub lent_floats : Call → List Float
lent_floats (reset n w iw) = w
lent_floats (update n s y w iw) = w

abbrev pub lent_words : Call → List ℕ
lent_words (reset n w iw) = iw
lent_words (update n s y w iw) = iw

-- a call as it was made, its outcome, B before and after it, and the workspaces as it left them
pub record Seen : Type 0 where
  pub made : Call
  pub outcome : Outcome
  pub old : List Float
  pub new : List Float
  pub floats : List Float
  pub words : List ℕ

-- it met its promise
abbrev pub Met : Seen → Type 0
Met s = Writes (answer_of s.made s.old) s.outcome s.old s.new (lent_floats s.made) s.floats (lent_words s.made) s.words

-- B was b before the first call and is b' after the last, each of which met its promise, and nobody else wrote B in between
abbrev pub Run : List Seen → List Float → List Float → Type 0
Run [] b b' = b ≡ b'
Run (s ∷ ss) b b' = (s.old ≡ b) × Met s × Run ss s.new b'

abbrev pub RunsMirror : Type 0
RunsMirror = (n : ℕ) (ss : List Seen) (b : List Float) → Run ss (identity n) b → Mirror n b

-- so B is its own mirror since any reset that was done, whatever it held before
abbrev pub SinceReset : Type 0
SinceReset = (n : ℕ) (w : List Float) (iw : List ℕ) (s : Seen) (ss : List Seen) (b b' : List Float)
    → s.made ≡ reset n w iw → s.outcome ≡ Ok tt → Run (s ∷ ss) b b' → Mirror n b'
