-- The sizes of a problem that was decoded are in the table, and one answer is promised.
use mathlib.Core.Path.{◌∙◌, sym, ◌≡◌, refl, ap, ap₂}
use mathlib.Core.Bool.{Bool, true, false, cond, ◌&&◌}
use mathlib.Core.List.{List, [], ◌∷◌}
use Prim.Native.Nat.{ℕ, zero, suc, ◌+◌, ◌-◌, ◌/◌, ◌%◌}
use native.Mathlib.Omega.{arith}
use lib.Dec.{leb, eqb}
use lib.ListN.{length}
use lib.Ieee.{Float}
use Rattle.workspace.specs.Tables.{is_dimension, is_constraints}
use Rattle.step_rows.specs.Problem.{Problem}
use Rattle.problem_read.specs.Tables.{problem_in, decoded_in}
use Rattle.problem_read.specs.inner.Filling.{Filling, filling, Fills, sized}
use Rattle.problem_read.specs.Claims.{OneDecoding}
use Rattle.problem_read.specs.Input.{record_row, record_column, record_at, is_sound, given_bits, is_complete, Decoded, fault, too_large, problem, walk, is_head, decode, in_numbers, read_numbers}
use Rattle.problem_read.specs.Bits.{numbers_of}
use Rattle.problem_read.proofs.Heads.{InTable, sizes-in}
use Rattle.std.specs.Prelude.{Ok, Err, Result}
use Rattle.problem_read.specs.declared.Sizes.{Sizes}
use Rattle.problem_read.specs.declared.Unread.{Unread}
use Rattle.problem_read.specs.declared.Unread.TheVariants.{Fault, Large}

fault-not : {A : Type 0} (k : ℕ) (p : Problem) → ◌≡◌ {A = Decoded Problem} (fault k) (problem p) → A
fault-not k p e = let z : ◌≡◌ {A = ℕ} 0 1 = cc in absurd (omega arith)

large-not : {A : Type 0} (p : Problem) → ◌≡◌ {A = Decoded Problem} too_large (problem p) → A
large-not p e = let z : ◌≡◌ {A = ℕ} 0 1 = cc in absurd (omega arith)

module _ (m n : ℕ) (bs : List ℕ) (p : Problem) where
  walk-sizes : (left k : ℕ) (rs : List (List ℕ)) → in_numbers (walk m n bs left k rs) ≡ problem p → (m ≡ p.m) × (n ≡ p.n)
  unfolding walk given_bits numbers_of
  walk-sizes zero k rs e = go (eqb (length bs % 16) 0 && is_complete m rs) e
    where
      go : (b : Bool) → in_numbers (cond b (problem (given_bits m n rs)) (fault k)) ≡ problem p → (m ≡ p.m) × (n ≡ p.n)
      go true q = let z : numbers_of (given_bits m n rs) ≡ p = cc in (ap (λ (x : Problem). x.m) z, ap (λ (x : Problem). x.n) z)
      go false q = fault-not k p q
  walk-sizes (suc left) k rs e = go (is_sound m n rs (record_at bs k)) (λ q. walk-sizes left (k + 1) (record_at bs k ∷ rs) q) e
    where
      go : (b : Bool) → (in_numbers (walk m n bs left (k + 1) (record_at bs k ∷ rs)) ≡ problem p → (m ≡ p.m) × (n ≡ p.n))
          → in_numbers (cond b (walk m n bs left (k + 1) (record_at bs k ∷ rs)) (fault k)) ≡ problem p → (m ≡ p.m) × (n ≡ p.n)
      go true ih q = ih q
      go false ih q = fault-not k p q

pub problem-sizes : (bs : List ℕ) (p : Problem) → read_numbers bs ≡ problem p → InTable p.m p.n
unfolding read_numbers decode
problem-sizes bs p e = go (leb 16 (length bs) && is_head (record_at bs 0)) (is_dimension (record_column (record_at bs 0)) && is_constraints (record_row (record_at bs 0))) refl e
  where
    go : (s t : Bool) → (is_dimension (record_column (record_at bs 0)) && is_constraints (record_row (record_at bs 0))) ≡ t
        → in_numbers (cond s (cond t (walk (record_row (record_at bs 0)) (record_column (record_at bs 0)) bs (length bs / 16 - 1) 1 []) too_large) (fault 0)) ≡ problem p → InTable p.m p.n
    go true true h q =
        let w = sizes-in (record_row (record_at bs 0)) (record_column (record_at bs 0)) h in
        let s = walk-sizes (record_row (record_at bs 0)) (record_column (record_at bs 0)) bs p (length bs / 16 - 1) 1 [] q in
        record { few = omega (arith, w.few, s.0); some = omega (arith, w.some, s.1); most = omega (arith, w.most, s.1) }
    go true false h q = large-not p q
    go false t h q = fault-not 0 p q

-- of the code's answer, where it says that there is a problem
pub whole-sizes : (bs : List ℕ) (r : Result Sizes Unread) (m n : ℕ) (marks : List ℕ) (vals : List Float) → r ≡ Ok (sized m n) → decoded_in r marks vals ≡ read_numbers bs → InTable m n
unfolding problem_in
whole-sizes bs r m n marks vals e h = problem-sizes bs (problem_in m n marks vals) (sym h ∙ ap (λ (q : Result Sizes Unread). decoded_in q marks vals) e)

-- the promise allows one answer only
same_answer : (r q : Result Sizes Unread) (marks marks₁ : List ℕ) (vals vals₁ : List Float) → decoded_in r marks vals ≡ decoded_in q marks₁ vals₁ → r ≡ q
unfolding problem_in
same_answer (Err (Fault k)) (Err (Fault j)) marks marks₁ vals vals₁ e = cc
same_answer (Err (Fault k)) (Err Large) marks marks₁ vals vals₁ e = let z : ◌≡◌ {A = ℕ} 0 1 = cc in absurd (omega arith)
same_answer (Err (Fault k)) (Ok s) marks marks₁ vals vals₁ e = fault-not k _ e
same_answer (Err Large) (Err (Fault k)) marks marks₁ vals vals₁ e = let z : ◌≡◌ {A = ℕ} 0 1 = cc in absurd (omega arith)
same_answer (Err Large) (Err Large) marks marks₁ vals vals₁ e = refl
same_answer (Err Large) (Ok s) marks marks₁ vals vals₁ e = large-not _ e
same_answer (Ok s) (Err (Fault k)) marks marks₁ vals vals₁ e = fault-not k _ (sym e)
same_answer (Ok s) (Err Large) marks marks₁ vals vals₁ e = large-not _ (sym e)
same_answer (Ok s) (Ok t) marks marks₁ vals vals₁ e =
    let z : problem_in s.constraints s.variables marks vals ≡ problem_in t.constraints t.variables marks₁ vals₁ = cc in
    ap₂ (λ (m n : ℕ). Ok (sized m n)) (ap (λ (p : Problem). p.m) z) (ap (λ (p : Problem). p.n) z)

pub one-decoding : OneDecoding
one-decoding bs r q marks marks₁ marks₂ marks₃ vals vals₁ vals₂ vals₃ h k =
    let e : decoded_in r marks₁ vals₁ ≡ decoded_in q marks₃ vals₃ = h.the_input ∙ sym k.the_input in
    (same_answer r q marks₁ marks₃ vals₁ vals₃ e, e)

-- and so do the tables: where they held the same before, they hold the same afterwards
pub one-filling : (bs : List ℕ) (r q : Result Sizes Unread) (marks marks₁ marks₂ : List ℕ) (vals vals₁ vals₂ : List Float) → Fills bs r marks marks₁ vals vals₁ → Fills bs q marks marks₂ vals vals₂
    → (r ≡ q) × (marks₁ ≡ marks₂) × (vals₁ ≡ vals₂)
one-filling bs r q marks marks₁ marks₂ vals vals₁ vals₂ h k =
    let e : filling r marks₁ vals₁ ≡ filling q marks₂ vals₂ = h.tables ∙ sym k.tables in
    (ap (λ (f : Filling). f.answer) e, ap (λ (f : Filling). f.marks) e, ap (λ (f : Filling). f.vals) e)
