-- B is its own mirror after any calls.
use mathlib.Core.Path.{◌≡◌, refl, sym, ap, ◌∙◌, subst}
use mathlib.Core.Logic.{⊎_elim}
use mathlib.Core.Bool.{Bool, true, false, ◌&&◌}
use mathlib.Core.List.{List, [], ◌∷◌}
use Prim.Native.Nat.{ℕ, suc, ◌*◌, ◌<◌, ◌≤◌}
use native.Mathlib.Nat.{mul-le-mul}
use native.Mathlib.Omega.{arith}
use lib.Ieee.{Float}
use Rattle.numbers.proofs.Cases.{lt-or-ge}
use Rattle.workspace.specs.Tables.{Answer, done, call, outcome_of, outcome_number, output, is_dimension, is_room, has}
use Rattle.std.specs.Prelude.{Ok}
use Rattle.workspace.proofs.Tests.{and-true, has-length}
use Rattle.hessian.specs.Hessian.{identity}
use Rattle.hessian.specs.Hessian as Definition
use Rattle.hessian.proofs.Mirrored.{Kept, kept-identity, kept-update}
use Rattle.hessian_call.specs.Claims.{Call, reset, update, answer_of, next, after, CallsMirror, Seen, Run, RunsMirror, SinceReset}

-- ---- a call

-- squares are equal only of equal numbers
pub roots-same : (m n : ℕ) → m * m ≡ n * n → m ≡ n
roots-same m n e =
    ⊎_elim (λ (h : m < n). let l : suc m * suc m ≤ n * n = mul-le-mul h h in absurd (omega arith))
    (λ (g : n ≤ m). ⊎_elim (λ (h : n < m). let l : suc n * suc n ≤ m * m = mul-le-mul h h in absurd (omega arith)) (λ (h : m ≤ n). omega arith) (lt-or-ge n m))
    (lt-or-ge m n)

-- so a call of another dimension is refused
pub same_size : (n m : ℕ) (b : List Float) → Kept n b → has b (m * m) ≡ true → n ≡ m
same_size n m b k h = roots-same n m (sym k.size ∙ has-length b (m * m) h)

-- a call that is done wrote v, and any other left b
kept-call : (n : ℕ) (sizes lengths room : Bool) (b v : List Float) → Kept n b → (lengths ≡ true → Kept n v)
    → Kept n (output (call sizes lengths room true (done v)) (λ u. u) b)
kept-call n false lengths room b v k h = k
kept-call n true false room b v k h = k
kept-call n true true false b v k h = k
kept-call n true true true b v k h = h refl

kept-output : (n : ℕ) (c : Call) (b : List Float) → Kept n b → Kept n (output (answer_of c b) (λ v. v) b)
kept-output n (reset m w iw) b k =
    kept-call n (is_dimension m) (has b (m * m)) (is_room w iw) b (identity m) k
    (λ h. subst (λ (x : ℕ). Kept n (identity x)) (same_size n m b k h) (kept-identity n))
kept-output n (update m s y w iw) b k =
    kept-call n (is_dimension m) (has b (m * m) && has s m && has y m) (is_room w iw) b (Definition.update m b s y) k
    (λ h. let e = (and-true (has b (m * m) && has s m) (has y m) h).0 in
    subst (λ (x : ℕ). Kept n (Definition.update x b s y)) (same_size n m b k (and-true (has b (m * m)) (has s m) e).0) (kept-update n b s y k))

pub kept_next : (n : ℕ) (c : Call) (b : List Float) → Kept n b → Kept n (next c b)
unfolding next
kept_next n c b k = kept-output n c b k

-- ---- calls

pub kept-after : (n : ℕ) (cs : List Call) (b : List Float) → Kept n b → Kept n (after cs b)
unfolding after
kept-after n [] b k = k
kept-after n (c ∷ cs) b k = kept-after n cs (next c b) (kept_next n c b k)

pub calls-mirror : CallsMirror
calls-mirror n cs = (kept-after n cs (identity n) (kept-identity n)).mirror

-- ---- calls as they are seen

kept_run : (n : ℕ) (ss : List Seen) (b b' : List Float) → Kept n b → Run ss b b' → Kept n b'
kept_run n [] b b' k r = subst (λ (x : List Float). Kept n x) r k
kept_run n (s ∷ ss) b b' k r =
    let o : Kept n s.old = subst (λ (x : List Float). Kept n x) (sym r.0) k in
    kept_run n ss s.new b' (subst (λ (x : List Float). Kept n x) (sym r.1.the_output) (kept-output n s.made s.old o)) r.2

pub runs-mirror : RunsMirror
runs-mirror n ss b r = (kept_run n ss (identity n) b (kept-identity n) r).mirror

-- a call that answers done wrote its value
wrote : (sizes lengths room : Bool) (v b : List Float) → (Ok tt) ≡ outcome_of (call sizes lengths room true (done v)) → output (call sizes lengths room true (done v)) (λ u. u) b ≡ v
wrote false lengths room v b e = let z : ◌≡◌ {A = ℕ} 0 1 = ap outcome_number e in absurd (omega arith)
wrote true false room v b e = let z : ◌≡◌ {A = ℕ} 0 2 = ap outcome_number e in absurd (omega arith)
wrote true true false v b e = let z : ◌≡◌ {A = ℕ} 0 3 = ap outcome_number e in absurd (omega arith)
wrote true true true v b e = refl

pub since-reset : SinceReset
since-reset n w iw s ss b b' m d r =
    let f = r.1 in
    let a : answer_of s.made s.old ≡ answer_of (reset n w iw) s.old = ap (λ (c : Call). answer_of c s.old) m in
    let o : (Ok tt) ≡ outcome_of (answer_of (reset n w iw) s.old) = sym d ∙ f.the_outcome ∙ ap (λ (x : Answer (List Float)). outcome_of x) a in
    let v : s.new ≡ identity n =
    f.the_output ∙ ap (λ (x : Answer (List Float)). output x (λ u. u) s.old) a ∙ wrote (is_dimension n) (has s.old (n * n)) (is_room w iw) (identity n) s.old o in
    (kept_run n ss s.new b' (subst (λ (x : List Float). Kept n x) (sym v) (kept-identity n)) r.2).mirror
