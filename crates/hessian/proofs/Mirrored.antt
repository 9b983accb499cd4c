-- B is its own mirror: the two matrices that events make are, where B was.
use mathlib.Core.Path.{◌≡◌, refl, sym, ◌∙◌}
use mathlib.Core.Bool.{Bool, true, false, cond}
use mathlib.Core.List.{List, [], ◌∷◌}
use Prim.Native.Nat.{ℕ, zero, suc, ◌*◌, ◌<◌}
use lib.Dec.{eqb}
use lib.Dec
use lib.ListN.{length}
use lib.Ieee.{Float, le}
use Rattle.numbers.specs.Numbers.{+0, one, at, entry, grid, dot, ◌⊕◌, ◌⊖◌, ◌⊗◌, ◌⊘◌}
use Rattle.numbers.proofs.Lists.{entry-grid}
use Rattle.hessian.specs.Hessian.{identity, times, theta, damped, revised, curved}
use Rattle.hessian.specs.Hessian as Definition
use Rattle.hessian.specs.Claims.{Event, reset, update, refused, next, after, Mirror, AlwaysMirror, UpdateMirrors}
use Rattle.hessian.proofs.Lengths.{length-identity, length-update}
use Rattle.hessian.proofs.Products.{⊗-comm}

eqb_comm : (i j : ℕ) → eqb i j ≡ eqb j i
eqb_comm zero zero = refl
eqb_comm zero (suc j) = Dec.eqb-zero-suc j ∙ sym (Dec.eqb-suc-zero j)
eqb_comm (suc i) zero = Dec.eqb-suc-zero i ∙ sym (Dec.eqb-zero-suc i)
eqb_comm (suc i) (suc j) = Dec.eqb-suc-suc i j ∙ eqb_comm i j ∙ sym (Dec.eqb-suc-suc j i)

mirror-grid : (n : ℕ) (f : ℕ → ℕ → Float) → ((i j : ℕ) → i < n → j < n → f i j ≡ f j i) → Mirror n (grid n n f)
mirror-grid n f h i j p q = entry-grid n n f i j p q ∙ h i j p q ∙ sym (entry-grid n n f j i q p)

mirror-identity : (n : ℕ) → Mirror n (identity n)
unfolding identity
mirror-identity n = mirror-grid n (λ i j. cond (eqb i j) one +0) (λ i j p q. rw (eqb_comm i j))

mirror-revised : (n : ℕ) (b r bs : List Float) (sr sbs : Float) → Mirror n b → Mirror n (revised n b r bs sr sbs)
unfolding revised
mirror-revised n b r bs sr sbs m =
    mirror-grid n (λ i j. entry n b i j ⊕ (at r i ⊗ at r j ⊘ sr ⊖ at bs i ⊗ at bs j ⊘ sbs))
    (λ i j p q. rw (m i j p q, ⊗-comm (at r i) (at r j), ⊗-comm (at bs i) (at bs j)))

mirror-cond : (n : ℕ) (t : Bool) (b b' : List Float) → Mirror n b → Mirror n b' → Mirror n (cond t b b')
mirror-cond n true b b' m m' = m
mirror-cond n false b b' m m' = m'

pub update-mirrors : UpdateMirrors
unfolding Definition.update curved
update-mirrors n b s y m =
    let bs = times n b s in
    let sbs = dot n s bs in
    let r = damped n (theta sbs (dot n s y)) y bs in
    mirror-cond n (le sbs +0) b (revised n b r bs (dot n s r) sbs) m (mirror-revised n b r bs (dot n s r) sbs m)

-- ---- what is kept by every event: B has n by n entries, and is its own mirror

pub record Kept (n : ℕ) (b : List Float) : Type 0 where
  pub size : length b ≡ n * n
  pub mirror : Mirror n b

pub kept-identity : (n : ℕ) → Kept n (identity n)
kept-identity n = record { size = length-identity n; mirror = mirror-identity n }

pub kept-update : (n : ℕ) (b s y : List Float) → Kept n b → Kept n (Definition.update n b s y)
kept-update n b s y k = record { size = length-update n b s y k.size; mirror = update-mirrors n b s y k.mirror }

pub kept_next : (n : ℕ) (e : Event) (b : List Float) → Kept n b → Kept n (next n e b)
unfolding next
kept_next n reset b k = kept-identity n
kept_next n (update s y) b k = kept-update n b s y k
kept_next n (refused r) b k = k

pub kept-after : (n : ℕ) (es : List Event) (b : List Float) → Kept n b → Kept n (after n es b)
unfolding after
kept-after n [] b k = k
kept-after n (e ∷ es) b k = kept-after n es (next n e b) (kept_next n e b k)

pub always-mirror : AlwaysMirror
always-mirror n es = (kept-after n es (identity n) (kept-identity n)).mirror
