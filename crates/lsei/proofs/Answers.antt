-- Laws of endings: what becomes of a solve's answer in the caller, and its counts with one factoring more.
use mathlib.Core.Path.{◌≡◌, sym, ap, ap₂, ◌∙◌}
use Prim.Native.Nat.{ℕ, suc, ◌+◌}
use native.Mathlib.Numerals.{add-one}
use Rattle.std.specs.Prelude.{Result, Ok, Err, ⊤}
use Rattle.workspace.specs.Tables.{Answer, done}
use Rattle.nnls.specs.Counted.{Counted, then, and_then, factored}
use Rattle.lsei.specs.Lsei.{Solution}
use Rattle.lsei.specs.inner.Work.{ending_answer, ended_solution}
use Rattle.lsei.specs.declared.Ended.{Ended}
use Rattle.lsei.specs.declared.Unsolved.{Unsolved}

-- with one factoring more
abbrev pub further : Ended → Ended
further E = record { ending = E.ending; rounds = E.rounds; factorings = E.factorings + 1 }

counted : (E : Ended) (a b : Answer Solution) → a ≡ b
    → ◌≡◌ {A = Counted Solution} (record { answer = a; rounds = E.rounds; factorings = E.factorings + 1 }) (record { answer = b; rounds = E.rounds; factorings = suc E.factorings })
counted E a b e = ap₂ {C = Counted Solution} (λ (c : Answer Solution) (n : ℕ). record { answer = c; rounds = E.rounds; factorings = n }) e (add-one E.factorings)

module _ (E : Ended) (s : Solution) (f : Solution → Answer Solution) where
  -- a refusal passes on, whatever is left
  pub refused-on : (t : Solution) → {u : Unsolved} → E.ending ≡ Err u → ended_solution (further E) t ≡ factored (and_then (ended_solution E s) f)
  refused-on t h =
      counted E (ending_answer E.ending t) (then (ending_answer E.ending s) f)
      (ap (λ (o : Result ⊤ Unsolved). ending_answer o t) h ∙ ap (λ (o : Result ⊤ Unsolved). then (ending_answer o s) f) (sym h))

  pub done_on : (t : Solution) → {v : ⊤} → E.ending ≡ Ok v → done t ≡ f s → ended_solution (further E) t ≡ factored (and_then (ended_solution E s) f)
  done_on t h e =
      counted E (ending_answer E.ending t) (then (ending_answer E.ending s) f)
      (ap (λ (o : Result ⊤ Unsolved). ending_answer o t) h ∙ e ∙ ap (λ (o : Result ⊤ Unsolved). then (ending_answer o s) f) (sym h))
