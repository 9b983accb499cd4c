-- What the public edge rests on: the lengths that its test shows, and the promise where no test refuses.
use mathlib.Core.Path.{◌≡◌, ap, ◌∙◌}
use mathlib.Core.Bool.{true, ◌&&◌}
use mathlib.Core.List.{List, ◌++◌}
use Prim.Native.Nat.{ℕ, ◌*◌, ◌≤◌, min}
use native.Mathlib.Omega.{arith}
use lib.Dec.{eqb}
use lib.ListN.{length, drop}
use lib.Ieee.{Float}
use borrow.Author.Tests.{eqb-true}
use Rattle.numbers.specs.Numbers.{+0}
use Rattle.workspace.specs.Tables.{done}
use Rattle.workspace.specs.Readings.{vec, mat, stack, nums, Cleared}
use Rattle.workspace.proofs.Parts.{vec-front, mat-front, stack-front, nums-front, front-cleared}
use Rattle.workspace.proofs.Tests.{and-true}
use Rattle.householder.specs.Qr.{Factors, factor}
use Rattle.householder.specs.inner.Work.{held}
use Rattle.householder_call.specs.Promise.{Factored}
use Rattle.workspace.specs.declared.Refusal.{Refusal}
use Rattle.std.specs.Prelude.{Result, Ok}

pub record Lengths (m n a r perm u b : ℕ) : Type 0 where
  pub a-is : a ≡ m * n
  pub r_is : r ≡ m * n
  pub perm_is : perm ≡ n
  pub u-is : u ≡ min m n * m
  pub b-is : b ≡ min m n

pub lengths-of : (m n a r perm u b : ℕ) → (eqb a (m * n) && eqb r (m * n) && eqb perm n && eqb u (min m n * m) && eqb b (min m n)) ≡ true
    → Lengths m n a r perm u b
lengths-of m n a r perm u b h =
    let p = and-true (eqb a (m * n) && eqb r (m * n) && eqb perm n && eqb u (min m n * m)) (eqb b (min m n)) h in
    let q = and-true (eqb a (m * n) && eqb r (m * n) && eqb perm n) (eqb u (min m n * m)) p.0 in
    let s = and-true (eqb a (m * n) && eqb r (m * n)) (eqb perm n) q.0 in
    let t = and-true (eqb a (m * n)) (eqb r (m * n)) s.0 in
    record { a-is = eqb-true _ _ t.0; r_is = eqb-true _ _ t.1; perm_is = eqb-true _ _ s.1; u-is = eqb-true _ _ q.1; b-is = eqb-true _ _ p.1 }

abbrev ranked : ℕ → Result ℕ Refusal
ranked k = Ok k

-- the first entries of the workspaces came back as v and l, with the factors in them; those were handed out, and both workspaces cleared
pub factored-is : (m n k : ℕ) (a r r' : List Float) (perm perm' : List ℕ) (u u' b b' w w' v : List Float) (iw iw' l : List ℕ) → m ≤ 18 → n ≤ 66
    → length v ≡ 8192 → length l ≡ 512 → held m n k v l ≡ factor m n a
    → r' ≡ mat 426 m n (v ++ drop 8192 w) → perm' ≡ nums 0 n (l ++ drop 512 iw)
    → u' ≡ stack 0 (min m n) m (v ++ drop 8192 w) → b' ≡ vec 324 (min m n) (v ++ drop 8192 w)
    → Cleared (v ++ drop 8192 w) w' (l ++ drop 512 iw) iw'
    → Factored (done (factor m n a)) (Ok k) r r' perm perm' u u' b b' w w' iw iw'
factored-is m n k a r r' perm perm' u u' b b' w w' v iw iw' l m18 n66 lv ll h er ep eu eb c = record {
  the_outcome = ap (λ (f : Factors). ranked f.rank) h;
  the_r = er ∙ mat-front v (drop 8192 w) 426 m n m18 (omega arith) ∙ ap (λ (f : Factors). f.r) h;
  the_perm = ep ∙ nums-front l (drop 512 iw) 0 n (omega arith) ∙ ap (λ (f : Factors). f.perm) h;
  the_u = eu ∙ stack-front v (drop 8192 w) 0 (min m n) m m18 (omega arith) ∙ ap (λ (f : Factors). f.u) h;
  the_b = eb ∙ vec-front v (drop 8192 w) 324 (min m n) (omega arith) ∙ ap (λ (f : Factors). f.b) h;
  the_floats = c.floats ∙ front-cleared +0 8192 v w lv;
  the_words = c.words ∙ front-cleared 0 512 l iw ll;
}
