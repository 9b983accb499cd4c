-- What the machine asks under a larger budget, and against an answerer.
use Prim.Native.Nat.{ℕ, zero, suc}
use mathlib.Core.Path.{◌≡◌, refl, sym, ap, ◌∙◌, subst}
use mathlib.Core.List.{List, [], ◌∷◌, map}
use mathlib.Core.Option.{Option, none, some}
use lib.ListN.{take, get_elem?}
use lib.Ieee.{Float}
use Rattle.search.specs.Setup.{Report, Question, Ending, converged, infeasible, exhausted, nonfinite}
use Rattle.search.specs.Written.{Script, ends, asks, Standing, over, waits, written, stands, follow, follow_all, play}
use Rattle.search.specs.Claims.{BeginsEnd, Begins, SameQuestion, Answered}
use Rattle.search.proofs.Budgets.{larger-budget}
use Rattle.search.proofs.Machines.{step-for-step}

-- ---- a larger budget

end-follows : (e : Ending) (r : Report) (t : Script) (v : List Float) → BeginsEnd e r t → BeginsEnd e r (follow t v)
end-follows converged r t v h = ap (λ u. follow u v) h
end-follows infeasible r t v h = ap (λ u. follow u v) h
end-follows exhausted r t v h = tt
end-follows nonfinite r t v h = ap (λ u. follow u v) h

begins-follow : (s t : Script) (v : List Float) → Begins s t → Begins (follow s v) (follow t v)
begins-follow (ends e r) t v h = end-follows e r t v h
begins-follow (asks q k) t v h = subst (λ u. Begins (k v) (follow u v)) (sym h.1) (h.2 v)

begins-all : (vs : List (List Float)) (s t : Script) → Begins s t → Begins (follow_all s vs) (follow_all t vs)
unfolding follow_all
begins-all [] s t h = h
begins-all (v ∷ vs) s t h = begins-all vs (follow s v) (follow t v) (begins-follow s t v h)

abbrev Waiting : Standing → Type 0
Waiting (over e r) = ⊥
Waiting (waits q) = Unit {0}

begins-stands : (s t : Script) (q : Question) → Begins s t → stands s ≡ waits q → stands t ≡ waits q
begins-stands (ends e r) t q h w = absurd (subst Waiting (sym w) tt)
begins-stands (asks q' k) t q h w = ap stands h.1 ∙ w

pub same-question : SameQuestion
same-question p x b c l vs q h =
    step-for-step p x c vs
    ∙ begins-stands (follow_all (written p x b) vs) (follow_all (written p x c) vs) q (begins-all vs _ _ (larger-budget p x b c l)) (sym (step-for-step p x b vs) ∙ h)

-- ---- an answerer

abbrev inside : Question → Option Question → Question
inside q none = q
inside q (some z) = z

abbrev Given : Option Question → Type 0
Given none = ⊥
Given (some q) = Unit {0}

asked-stands : (a : Question → List Float) (s : Script) (i : ℕ) (q : Question)
    → get_elem? (play a s).asked i ≡ some q → stands (follow_all s (take i (map a (play a s).asked))) ≡ waits q
unfolding play follow_all
asked-stands a (ends e r) i q h = absurd (subst Given (sym h) tt)
asked-stands a (asks q' k) zero q h = ap (λ o. waits (inside q o)) h
asked-stands a (asks q' k) (suc i) q h = asked-stands a (k (a q')) i q h

ends-stands : (a : Question → List Float) (s : Script) → stands (follow_all s (map a (play a s).asked)) ≡ over (play a s).ending (play a s).report
unfolding play follow_all
ends-stands a (ends e r) = refl
ends-stands a (asks q k) = ends-stands a (k (a q))

pub answered : Answered
answered p x b a = (
  λ i q h. step-for-step p x b _ ∙ asked-stands a (written p x b) i q h,
  step-for-step p x b _ ∙ ends-stands a (written p x b),
)
