-- What the C function that mends a day's readings promises, and that it allows one answer only. Definitions only.
use Rattle.std.specs.Prelude.{◌≡◌, List, ℕ, length}
use Rattle.workspace.specs.Tables.{Answer, number, output}
use Rattle.mend.specs.Mend.{Mended}
use Rattle.mend_call.specs.Promise.{bits, outcome_of, Mends}

pub record MendLeaves (c : Answer Mended) (k bytes bytes' meters meters' : ℕ) (kept kept' reasons reasons' totals totals' rollovers rollovers' : List ℕ) : Type 0 where
  pub the_number : k ≡ number c
  pub the_call : Mends c (outcome_of c) kept kept' reasons reasons' totals totals' rollovers rollovers'
  pub the_bytes : bytes' ≡ output c (λ v. length v.file) bytes
  pub the_meters : meters' ≡ output c (λ v. bits v.there) meters

abbrev pub OneMend : Type 0
OneMend = (c : Answer Mended) (k l n n' n'' m m' m'' : ℕ) (a a' a'' w w' w'' t t' t'' o o' o'' : List ℕ)
    → MendLeaves c k n n' m m' a a' w w' t t' o o' → MendLeaves c l n n'' m m'' a a'' w w'' t t'' o o''
    → (k ≡ l) × (n' ≡ n'') × (m' ≡ m'') × (a' ≡ a'') × (w' ≡ w'') × (t' ≡ t'') × (o' ≡ o'')
