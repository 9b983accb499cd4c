-- From the answer of LSEI or LSI to that of a problem of the step.
use mathlib.Core.Path.{◌≡◌, refl, sym, ap, ◌∙◌}
use mathlib.Core.Bool.{true}
use mathlib.Core.List.{List}
use lib.Ieee.{Float}
use Rattle.workspace.specs.Tables.{Answer, done, refused, is_late}
use Rattle.workspace.specs.declared.Refusal.{Refusal}
use Rattle.std.specs.Prelude.{Result, Ok, Err, ⊤}
use Rattle.nnls.specs.Counted.{Counted, then, and_then}
use Rattle.lsei.specs.Lsei.{Solution}
use Rattle.step.specs.Step.{Step}
use Rattle.lsei.specs.inner.Work.{refusal_of, ending_answer, ended_solution}
use Rattle.lsei.specs.declared.Unsolved.{Unsolved}
use Rattle.lsei.specs.declared.Ended.{Ended}
use Rattle.step.specs.inner.Work.{tried_step}
use Rattle.step.specs.declared.Tried.{Tried}

-- a refusal of the arithmetic is one of those after which the workspaces are cleared
pub refusal-late : (u : Unsolved) → is_late (refusal_of u) ≡ true
refusal-late (Unsolved.Deficient place) = refl
refusal-late (Unsolved.Dependent place) = refl
refusal-late Unsolved.Infeasible = refl
refusal-late Unsolved.Capped = refl

-- how a problem ended, with the counts of its ending
abbrev pub tried : Result Float Refusal → Ended → Tried
tried x e = record { relaxation = x; rounds = e.rounds; factorings = e.factorings }

-- c is answered with the solution s, and q makes a step of it
module _ (e : Ended) (s : Solution) (c : Counted Solution) (q : Solution → Step) (h : ended_solution e s ≡ c) where
  made : and_then (ended_solution e s) (λ x. done (q x)) ≡ and_then c (λ x. done (q x))
  made = ap (λ (a : Counted Solution). and_then a (λ x. done (q x))) h

  pub refused-is : (u : Unsolved) (r : Refusal) (d l : List Float) → e.ending ≡ Err u → r ≡ refusal_of u
      → tried_step (tried (Err r) e) d l ≡ and_then c (λ x. done (q x))
  refused-is u r d l i f =
      ap (λ (a : Answer Step). record { answer = a; rounds = e.rounds; factorings = e.factorings })
      (ap (λ (k : Refusal). refused k) f ∙ ap (λ (o : Result ⊤ Unsolved). then (ending_answer o s) (λ x. done (q x))) (sym i))
      ∙ made

  pub done-is : {v : ⊤} → e.ending ≡ Ok v → (x : Float) (d l : List Float) → record { d = d; multipliers = l; relaxation = x } ≡ q s
      → tried_step (tried (Ok x) e) d l ≡ and_then c (λ x. done (q x))
  done-is o x d l f =
      ap (λ (a : Answer Step). record { answer = a; rounds = e.rounds; factorings = e.factorings })
      (ap (λ (a : Step). done a) f ∙ ap (λ (i : Result ⊤ Unsolved). then (ending_answer i s) (λ x. done (q x))) (sym o))
      ∙ made

  pub rounds-are : e.rounds ≡ c.rounds
  rounds-are = ap (λ (a : Counted Solution). a.rounds) h

  pub factorings-are : e.factorings ≡ c.factorings
  factorings-are = ap (λ (a : Counted Solution). a.factorings) h
