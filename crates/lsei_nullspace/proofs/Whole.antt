-- The whole of LSEI, from the factors of C' and the answer of LSI.
use mathlib.Core.Path.{◌≡◌, refl, sym, ap, ap₂, ◌∙◌}
use mathlib.Core.Bool.{Bool, true, false}
use mathlib.Core.List.{List, [], ◌∷◌, ◌++◌}
use Prim.Native.Nat.{ℕ, ◌+◌, ◌-◌}
use lib.Dec.{ltb}
use lib.Ieee.{Float}
use Rattle.numbers.specs.Numbers.{transposed}
use Rattle.workspace.specs.Tables.{Answer, done, dependent}
use Rattle.householder.specs.Qr.{Factors, factor, apply_q, standing}
use Rattle.nnls.specs.Counted.{Counted, and_then, factored, unless, at_once}
use Rattle.lsei.specs.Lsei.{Solution, lsi, fixed, turned, tail_of, shifted, gradient, equality_multipliers, rejoined, lsei_from, lsei}
use Rattle.lsei.specs.inner.Work.{ended_solution}
use Rattle.lsei.specs.declared.Ended.{Ended}
use Rattle.lsei.specs.declared.Unsolved.{Unsolved}
use Rattle.lsei.specs.declared.Unsolved.TheVariants.{Dependent}
use Rattle.std.specs.Prelude.{Ok, Err, ⊤}
use Rattle.lsei.proofs.Answers.{further, refused-on, done_on}

module _ (n mc me mg : ℕ) (c d e f g h : List Float) (q : Factors) (fq : q ≡ factor n mc (transposed mc n c)) where
  tested : (b : Bool) → ltb q.rank mc ≡ b → factored (unless b (dependent (standing q)) (lsei_from n mc me mg q d e f g h)) ≡ lsei n mc me mg c d e f g h
  unfolding lsei
  tested b t =
      ap (λ (z : Bool). factored (unless z (dependent (standing q)) (lsei_from n mc me mg q d e f g h))) (sym t)
      ∙ ap (λ (p : Factors). factored (unless (ltb p.rank mc) (dependent (standing p)) (lsei_from n mc me mg p d e f g h))) fq

  pub lsei-dependent : ltb q.rank mc ≡ true → (place : ℕ) → place ≡ standing q → (s : Solution) → ended_solution (record { ending = Err (Dependent place); rounds = 0; factorings = 1 }) s ≡ lsei n mc me mg c d e f g h
  lsei-dependent t place h s = ap (λ (j : ℕ). factored (at_once (dependent j))) h ∙ tested true t

  module _ (full : ltb q.rank mc ≡ false) (y eq fs gq hs : List Float) (ey : y ≡ fixed mc q d) (ee : eq ≡ tail_of n mc me (turned n me q e))
      (ef : fs ≡ shifted n mc me (turned n me q e) y f) (eg : gq ≡ tail_of n mc mg (turned n mg q g)) (eh : hs ≡ shifted n mc mg (turned n mg q g) y h) (E : Ended)
      (s : Solution) (L : ended_solution E s ≡ lsi (n - mc) me mg eq fs gq hs) where
    abbrev onward : Solution → Answer Solution
    onward s = done (rejoined n mc me mg q (fixed mc q d) e f g s)

    reduced : lsi (n - mc) me mg eq fs gq hs
        ≡ lsi (n - mc) me mg (tail_of n mc me (turned n me q e)) (shifted n mc me (turned n me q e) (fixed mc q d) f) (tail_of n mc mg (turned n mg q g)) (shifted n mc mg (turned n mg q g) (fixed mc q d) h)
    reduced = rw (ee, ef, eg, eh, ey)

    whole : factored (and_then (ended_solution E s) onward) ≡ lsei n mc me mg c d e f g h
    unfolding lsei_from
    whole = ap (λ (c : Counted Solution). factored (and_then c onward)) (L ∙ reduced) ∙ tested false full

    pub lsei-refused : (t : Solution) → {u : Unsolved} → E.ending ≡ Err u → ended_solution (further E) t ≡ lsei n mc me mg c d e f g h
    lsei-refused t o = refused-on E s onward t o ∙ whole

    pub lsei-done : (x mu u : List Float) → {v : ⊤} → E.ending ≡ Ok v → x ≡ apply_q n q (y ++ s.x) → u ≡ s.multipliers
        → mu ≡ equality_multipliers n mc q (gradient n me mg e f g x u) → ended_solution (further E) (record { x = x; multipliers = mu ++ u }) ≡ lsei n mc me mg c d e f g h
    unfolding rejoined
    lsei-done x mu u o ex eu em =
        let x_is : x ≡ apply_q n q (fixed mc q d ++ s.x) = ex ∙ ap (λ (a : List Float). apply_q n q (a ++ s.x)) ey in
        done_on E s onward (record { x = x; multipliers = mu ++ u }) o (rw (em, eu, x_is)) ∙ whole
