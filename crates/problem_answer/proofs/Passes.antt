-- On the parts of the tables no test of the strict step refuses before that of the widths.
use mathlib.Core.Path.{◌≡◌, refl}
use mathlib.Core.Bool.{Bool, true, false, cond, ◌&&◌}
use mathlib.Core.List.{List}
use Prim.Native.Nat.{ℕ, zero, suc, ◌+◌, ◌*◌, ◌≤◌}
use native.Mathlib.Omega.{arith}
use borrow.Author.Tests.{eq-eqb, le-leb}
use lib.Dec.{leb, eqb}
use lib.ListN.{length, get_or, take, drop, length-drop}
use lib.Seq.{length-take-le}
use lib.Ieee.{Float}
use Rattle.numbers.specs.Numbers.{tab}
use Rattle.numbers.proofs.Lists.{length-tab}
use Rattle.workspace.specs.Tables.{Answer, call, is_dimension, is_constraints, is_room}
use Rattle.step_call.specs.Promise.{are_kinds, are_lengths}
use Rattle.step_call.specs.Strict.{strict_call}
use Rattle.problem_answer.specs.Program.{step_answer}
use Rattle.problem_read.specs.Tables.{kind_at, problem_in}
use Rattle.problem_read.proofs.Areas.{square}
use Rattle.problem_read.proofs.Heads.{InTable}

passed : {A : Type 0} (s l r k : Bool) (a : Answer A) → s ≡ true → l ≡ true → r ≡ true → k ≡ true → call s l r k a ≡ a
passed s l r k a hs hl hr hk = rw (hs, hl, hr, hk)

-- every kind is 0, 1 or 2
kind-of : (marks : List ℕ) (i : ℕ) → leb (kind_at marks i) 2 ≡ true
unfolding kind_at
kind-of marks i = go (eqb (get_or marks (272 + i) 0) 2) (eqb (get_or marks (576 + i) 0) 0)
  where
    go : (b c : Bool) → leb (cond b (cond c 1 2) 0) 2 ≡ true
    go true true = refl
    go true false = refl
    go false c = refl

kinds-of : (m : ℕ) (f : ℕ → ℕ) → ((i : ℕ) → leb (f i) 2 ≡ true) → are_kinds (tab m f) ≡ true
unfolding tab are_kinds
kinds-of zero f h = refl
kinds-of (suc m) f h = rw (h zero, kinds-of m (λ i. f (suc i)) (λ i. h (suc i)))

part_length : (vals : List Float) (o k : ℕ) → o + k ≤ length vals → length (take k (drop o vals)) ≡ k
part_length vals o k h = length-take-le k (drop o vals) (simp length-drop (omega arith))

pub passes : (m n : ℕ) (marks : List ℕ) (vals d l w : List Float) (iw : List ℕ) → InTable m n → length vals ≡ 592 → length d ≡ n → length l ≡ m
    → 8192 ≤ length w → 512 ≤ length iw → strict_call (problem_in m n marks vals) d l w iw ≡ step_answer (problem_in m n marks vals)
unfolding problem_in
passes m n marks vals d l w iw t hv hd hl hw hi =
    let nn = square n n t.most t.most in
    let mn = square m n t.few t.most in
    let a : length (take (n * n) vals) ≡ n * n = length-take-le (n * n) vals (omega (arith, nn)) in
    let b = part_length vals 256 n (omega (arith, t.most)) in
    let c = part_length vals 272 m (omega (arith, t.few)) in
    let e = part_length vals 288 (m * n) (omega (arith, mn)) in
    let f = part_length vals 544 n (omega (arith, t.most)) in
    let g = part_length vals 560 n (omega (arith, t.most)) in
    let h = part_length vals 576 m (omega (arith, t.few)) in
    let s : (is_dimension n && is_constraints m) ≡ true = simp (le-leb 1 n t.some, le-leb n 16 t.most, le-leb m 16 t.few) in
    let r : is_room w iw ≡ true = simp (le-leb 8192 (length w) hw, le-leb 512 (length iw) hi) in
    let k : are_kinds (tab m (kind_at marks)) ≡ true = kinds-of m (kind_at marks) (λ i. kind-of marks i) in
    let z : are_lengths (problem_in m n marks vals) d l ≡ true =
    simp (eq-eqb _ _ a, eq-eqb _ _ b, eq-eqb _ _ (length-tab m (kind_at marks)), eq-eqb _ _ c, eq-eqb _ _ h, eq-eqb _ _ e, eq-eqb _ _ f, eq-eqb _ _ g, eq-eqb _ _ hd, eq-eqb _ _ hl) in
    passed _ _ _ _ _ s z r k
