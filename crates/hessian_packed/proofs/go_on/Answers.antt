-- `go_on`: at j the total is the sum of the first j products, and q is the place of entry (i, j).
use mathlib.Core.Path.{ap, ◌∙◌}
use Prim.Native.Nat.{ℕ, ◌+◌}
use native.Mathlib.Omega.{arith}
use Rattle.numbers.specs.Numbers.{at, ◌⊕◌, ◌⊗◌}
use Rattle.numbers.proofs.Sums.{Σ-more, Σ-done}
use Rattle.hessian_packed.specs.Packed.{place}
use Rattle.hessian_packed.proofs.Triangles.{count-up, count-on, count_small, place-above}
use Rattle.hessian_packed.proofs.go_on.Goals as goal

pub overflow_add-a : goal.overflow_add-a
overflow_add-a c = omega arith

pub count_of-requires : goal.count_of-requires
count_of-requires c = omega arith

pub overflow_add-q : goal.overflow_add-q
overflow_add-q c = omega (arith, c.count_of.ensures, count_small (c.args.i + 1) (omega arith))

pub loop-j-init : goal.loop-j-init
loop-j-init c = (omega arith, omega arith, rw c.count_of.ensures, c.requires.4)

pub offset_bounds-p-q : goal.offset_bounds-p-q
offset_bounds-p-q c = let a = c.args in let l = c.loop-j in omega (arith, l.invariant.2, count-up l.j a.n (omega arith), count_small a.n (omega arith))

pub bounds-p-q : goal.bounds-p-q
bounds-p-q c = let a = c.args in let l = c.loop-j in omega (arith, l.invariant.2, count-up l.j a.n (omega arith))

pub offset_bounds-v-j : goal.offset_bounds-v-j
offset_bounds-v-j c = omega arith

pub bounds-v-j : goal.bounds-v-j
bounds-v-j c = omega arith

pub overflow_add-q-in-loop-j : goal.overflow_add-q-in-loop-j
overflow_add-q-in-loop-j c = omega arith

pub overflow_add-q-in-loop-j-2 : goal.overflow_add-q-in-loop-j-2
overflow_add-q-in-loop-j-2 c = let a = c.args in let l = c.loop-j in omega (arith, l.invariant.2, count-up l.j a.n (omega arith), count_small a.n (omega arith))

pub overflow_step-j : goal.overflow_step-j
overflow_step-j c = omega arith

pub loop-j-smaller : goal.loop-j-smaller
loop-j-smaller c = omega arith

pub loop-j-preserved : goal.loop-j-preserved
loop-j-preserved c = let a = c.args in
    let l = c.loop-j in (
      omega arith,
      omega arith,
      count-on a.i l.j l.q l.invariant.2,
      ap (λ (z : ℕ). l.total ⊕ at a.p.now z ⊗ at a.v.now l.j) (l.invariant.2 ∙ place-above a.i l.j (omega arith))
          ∙ Σ-more l.j (λ k. at a.p.now (place a.i k) ⊗ at a.v.now k) l.total l.invariant.3,
    )

pub returns : goal.returns
returns c = let a = c.args in
    let l = c.loop-j in
    Σ-done l.j a.n (λ k. at a.p.now (place a.i k) ⊗ at a.v.now k) l.total (omega arith) (omega arith) l.invariant.3
