-- What a done call says is the definition's verdict, so what is shown of that holds of calls.
use mathlib.Core.Path.{◌≡◌, sym}
use mathlib.Core.Bool.{Bool, true, false, ◌&&◌}
use mathlib.Core.List.{List}
use Prim.Native.Nat.{ℕ}
use lib.Ieee.{Float}
use Rattle.workspace.specs.Tables.{done, call, test, is_dimension, is_constraints, is_room, is_tolerance}
use Rattle.workspace.specs.declared.Refusal.{Refusal}
use Rattle.workspace.specs.declared.Refusal.TheVariants.{Width, Tolerance}
use Rattle.step_rows.specs.Problem.{Problem}
use Rattle.step_call.specs.Promise.{are_kinds, are_widths}
use Rattle.std.specs.Prelude.{Ok, Err}
use Rattle.step_check.specs.Check.{Pasted, Verdict, verdict}
use Rattle.step_check.proofs.Shown.{names-first}
use Rattle.step_check_call.specs.Promise.{are_pasted, check_call, Outcome, outcome_of, Checks}
use Rattle.step_check_call.specs.Claims.{CallNamesFirst}

never : {A : Type 0} (v : Verdict) (r : Refusal) → ◌≡◌ {A = Outcome} (Ok v) (Err r) → A
never v r e = absurd (let y : ⊥ = cc in y)

said : (s l m k x t : Bool) (u v : Verdict) → Ok v ≡ outcome_of (call s l m k (test x Width (test t Tolerance (done u)))) → v ≡ u
said false l m k x t u v e = never v _ e
said true false m k x t u v e = never v _ e
said true true false k x t u v e = never v _ e
said true true true false x t u v e = never v _ e
said true true true true false t u v e = never v _ e
said true true true true true false u v e = never v _ e
said true true true true true true u v e = cc

pub the_verdict : (p : Problem) (s : Pasted) (tol : Float) (v : Verdict) (w w' : List Float) (iw iw' : List ℕ) → Checks (check_call p s tol w iw) (Ok v) w w' iw iw' → v ≡ verdict p s tol
the_verdict p s tol v w w' iw iw' c =
    said (is_dimension p.n && is_constraints p.m) (are_pasted p s) (is_room w iw) (are_kinds p.kinds) (are_widths p.kinds p.widths p.m) (is_tolerance tol) (verdict p s tol) v c.the_outcome

pub call-names-first : CallNamesFirst
call-names-first p s tol t name index w w' iw iw' c = names-first p s tol t name index (sym (the_verdict p s tol _ w w' iw iw' c))
