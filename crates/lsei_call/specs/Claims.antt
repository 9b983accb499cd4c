-- What is shown of LDP, LSI and LSEI, and of their calls: the multipliers, LDP's denominator, where rank was lost, and that the promise allows one answer only. Definitions only.
use Rattle.std.specs.Prelude.{◌≡◌, true, List, [], ℕ, ◌+◌, ◌-◌, ◌*◌, ◌<◌, replicate, Float}
use Rattle.std.specs.Float.{nan}
use Rattle.numbers.specs.Numbers.{at, nth, transposed, -0}
use Rattle.workspace.specs.Tables.{Answer, done, refused, is_late}
use Rattle.householder.specs.Qr.{Factors, factor, standing}
use Rattle.workspace.specs.declared.Refusal.{Refusal}
use Rattle.workspace.specs.declared.Refusal.TheVariants.{Deficient, Dependent}
use Rattle.workspace.specs.Tables.{Outcome}
use Rattle.std.specs.Prelude.{Ok, Err}
use Rattle.nnls.specs.Counted.{at_once}
use Rattle.nnls.specs.Nnls.{Accepted, nnls}
use Rattle.nnls.specs.Claims.{NotNegative}
use Rattle.lsei.specs.Lsei.{Solution, dual_matrix, dual_side, dual_residual, ldp, lsi, turned, tail_of, lsei}
use Rattle.lsei_call.specs.Promise.{ldp_call, lsi_call, lsei_call, Solves}

-- of a solution: none of the m multipliers from place o on is negative or -0
abbrev pub ClearFrom : ℕ → ℕ → Answer Solution → Type 0
ClearFrom o m (done s) = (i : ℕ) → i < m → NotNegative (at s.multipliers (o + i))
ClearFrom o m (refused r) = Unit

-- no inequality multiplier is negative or -0, on all inputs
abbrev pub LdpClear : Type 0
LdpClear = (m n : ℕ) (g h : List Float) → ClearFrom 0 m (ldp m n g h).answer

abbrev pub LsiClear : Type 0
LsiClear = (n me mg : ℕ) (e f g h : List Float) → ClearFrom 0 mg (lsi n me mg e f g h).answer

abbrev pub LseiClear : Type 0
LseiClear = (n mc me mg : ℕ) (c d e f g h : List Float) → ClearFrom mc mg (lsei n mc me mg c d e f g h).answer

-- a NaN denominator passes on: where the dual is solved and 1 - h'u is a NaN, LDP is done
abbrev pub NanPasses : Type 0
NanPasses = (m n : ℕ) (g h : List Float) (a : Accepted) → (nnls (n + 1) m (dual_matrix m n g h) (dual_side n) (3 * m)).answer ≡ done a
    → at (dual_residual m n (dual_matrix m n g h) a.x) n ≡ nan → (s : Solution) × ((ldp m n g h).answer ≡ done s)

-- LDP with no inequalities is done at once, with -0 in each place
abbrev pub Unconstrained : Type 0
Unconstrained = (n : ℕ) (g h : List Float) → ldp 0 n g h ≡ at_once (done (record { x = replicate n -0; multipliers = [] }))

-- ---- of calls

-- where a call is done, no inequality multiplier that it leaves is negative or -0
abbrev pub LdpCallClear : Type 0
LdpCallClear = (m n : ℕ) (g h x x' l l' w w' : List Float) (iw iw' : List ℕ) → Solves (ldp_call m n g h x l w iw) (Ok tt) x x' l l' w w' iw iw'
    → (i : ℕ) → i < m → NotNegative (at l' i)

abbrev pub LsiCallClear : Type 0
LsiCallClear = (n me mg : ℕ) (e f g h x x' l l' w w' : List Float) (iw iw' : List ℕ) → Solves (lsi_call n me mg e f g h x l w iw) (Ok tt) x x' l l' w w' iw iw'
    → (i : ℕ) → i < mg → NotNegative (at l' i)

-- the equalities' multipliers stand first
abbrev pub LseiCallClear : Type 0
LseiCallClear = (n mc me mg : ℕ) (c d e f g h x x' l l' w w' : List Float) (iw iw' : List ℕ)
    → Solves (lsei_call n mc me mg c d e f g h x l w iw) (Ok tt) x x' l l' w w' iw iw' → (i : ℕ) → i < mg → NotNegative (at l' (mc + i))

-- ---- where rank was lost

-- A matrix of n columns, factored to q, fell short of full rank, and a place is the column that stood next: one of its columns, and none of those taken.
pub record IsNext (n : ℕ) (q : Factors) (place : ℕ) : Type 0 where
  pub short : q.rank < n
  pub stood : place ≡ standing q
  pub below : place < n
  pub not_taken : (t : ℕ) → t < q.rank → nth q.perm t ≡ place → ⊥

-- no test before the arithmetic has refused
abbrev pub Reached : Outcome → Type 0
Reached o = (r : Refusal) → o ≡ Err r → is_late r ≡ true

-- LSI, where E is factored to q: 5 names a column of E, and is told wherever E falls short; 11 is never told
pub record LsiPlaces (n : ℕ) (q : Factors) (o : Outcome) : Type 0 where
  pub five : (place : ℕ) → o ≡ Err (Deficient place) → IsNext n q place
  pub always : Reached o → q.rank < n → o ≡ Err (Deficient (standing q))
  pub never_eleven : (place : ℕ) → o ≡ Err (Dependent place) → ⊥

abbrev pub LsiPlaced : Type 0
LsiPlaced = (n me mg : ℕ) (e f g h x x' l l' w w' : List Float) (iw iw' : List ℕ) (o : Outcome) → Solves (lsi_call n me mg e f g h x l w iw) o x x' l l' w w' iw iw'
    → LsiPlaces n (factor me n e) o

-- the factors of C', and of what is left of E Q without its first mc columns
abbrev pub of_equalities : (n mc : ℕ) (c : List Float) → Factors
of_equalities n mc c = factor n mc (transposed mc n c)

abbrev pub of_rest : (n mc me : ℕ) (c e : List Float) → Factors
of_rest n mc me c e = factor me (n - mc) (tail_of n mc me (turned n me (of_equalities n mc c) e))

-- LSEI, where these are q and s: 11 names an equality, a column of C', and is told wherever C' falls short, as it does with more equalities than variables;
-- 5 names a column of what is left of E, where C' does not fall short, and is told wherever that does
pub record LseiPlaces (n mc : ℕ) (q s : Factors) (o : Outcome) : Type 0 where
  pub eleven : (place : ℕ) → o ≡ Err (Dependent place) → IsNext mc q place
  pub always_eleven : Reached o → q.rank < mc → o ≡ Err (Dependent (standing q))
  pub too_many : Reached o → n < mc → o ≡ Err (Dependent (standing q))
  pub five : (place : ℕ) → o ≡ Err (Deficient place) → (q.rank ≡ mc) × IsNext (n - mc) s place
  pub always_five : Reached o → q.rank ≡ mc → s.rank < n - mc → o ≡ Err (Deficient (standing s))

abbrev pub LseiPlaced : Type 0
LseiPlaced = (n mc me mg : ℕ) (c d e f g h x x' l l' w w' : List Float) (iw iw' : List ℕ) (o : Outcome)
    → Solves (lsei_call n mc me mg c d e f g h x l w iw) o x x' l l' w w' iw iw' → LseiPlaces n mc (of_equalities n mc c) (of_rest n mc me c e) o

-- ---- one answer only

-- whatever the answer c, the outcome and all that is left are fixed by what was there before
abbrev pub OneAnswer : Type 0
OneAnswer = (c : Answer Solution) (o p : Outcome) (x x' x'' l l' l'' w w' w'' : List Float) (iw iw' iw'' : List ℕ)
    → Solves c o x x' l l' w w' iw iw' → Solves c p x x'' l l'' w w'' iw iw'' → (o ≡ p) × (x' ≡ x'') × (l' ≡ l'') × (w' ≡ w'') × (iw' ≡ iw'')
