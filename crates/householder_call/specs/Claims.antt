-- What is shown of calls: the rank, what stands past it, and that the promise allows one answer only. Definitions only.
use Rattle.std.specs.Prelude.{◌≡◌, false, List, ℕ, ◌≤◌, ◌<◌, min, Float, Result, Ok}
use Rattle.std.specs.Float.{nan, inf}
use Rattle.numbers.specs.Numbers.{+0, at, entry, column}
use Rattle.norms.specs.Norm.{norm}
use Rattle.workspace.specs.Tables.{Answer}
use Rattle.householder.specs.Qr.{Factors}
use Rattle.householder_call.specs.Promise.{qr_call, Factored}
use Rattle.workspace.specs.declared.Refusal.{Refusal}

-- Of the rank told for an m by n matrix, and the reflectors left: it is at most min(m, n), and past it u and b are all +0.
-- Where every column has a NaN for its norm, or one an infinite one, it is 0.
pub record RankTold (m n : ℕ) (a : List Float) (rank : ℕ) (u b : List Float) : Type 0 where
  pub at_most : rank ≤ min m n
  pub past_u : (i t : ℕ) → rank ≤ i → i < min m n → t < m → entry m u i t ≡ +0
  pub past_b : (i : ℕ) → rank ≤ i → i < min m n → at b i ≡ +0
  pub all_nan : ((j : ℕ) → j < n → norm (column m n j a) ≡ nan) → rank ≡ 0
  pub infinite : (j : ℕ) → j < n → norm (column m n j a) ≡ inf false → rank ≡ 0

-- so of every done call
abbrev pub CallRank : Type 0
CallRank = (m n : ℕ) (a r r' : List Float) (perm perm' : List ℕ) (u u' b b' w w' : List Float) (iw iw' : List ℕ) (rank : ℕ)
    → Factored (qr_call m n a r perm u b w iw) (Ok rank) r r' perm perm' u u' b b' w w' iw iw' → RankTold m n a rank u' b'

-- whatever the answer c, the outcome and all that is left are fixed by what was there before
abbrev pub OneAnswer : Type 0
OneAnswer = (c : Answer Factors) (o p : Result ℕ Refusal) (r r' r'' : List Float) (perm perm' perm'' : List ℕ) (u u' u'' b b' b'' w w' w'' : List Float) (iw iw' iw'' : List ℕ)
    → Factored c o r r' perm perm' u u' b b' w w' iw iw' → Factored c p r r'' perm perm'' u u'' b b'' w w'' iw iw''
    → (o ≡ p) × (r' ≡ r'') × (perm' ≡ perm'') × (u' ≡ u'') × (b' ≡ b'') × (w' ≡ w'') × (iw' ≡ iw'')
