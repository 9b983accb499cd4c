-- The strict step: open means open (docs/RULES.md, "The strict step"). It is the step with one test more. Definitions only.
use Rattle.std.specs.Prelude.{ℕ, zero, suc, Bool, true, false, not, ◌&&◌, List, Float}
use Rattle.std.specs.Float.{nan, inf, fin}
use Rattle.numbers.specs.Numbers.{at}
use Rattle.workspace.specs.declared.Refusal.TheVariants.{Width, Bound}
use Rattle.workspace.specs.Tables.{Answer, call, test, is_dimension, is_constraints, is_room}
use Rattle.step_rows.specs.Problem.{Problem}
use Rattle.step.specs.Step.{Step, step}
use Rattle.step_call.specs.Promise.{are_lengths, are_kinds, are_widths}

-- a lower bound is a number or -infinity, which is open
abbrev pub is_lower : Float → Bool
is_lower nan = false
is_lower (inf negative) = negative
is_lower (fin s m e) = true

-- an upper bound is a number or +infinity, which is open
abbrev pub is_upper : Float → Bool
is_upper nan = false
is_upper (inf negative) = not negative
is_upper (fin s m e) = true

abbrev pub is_bounded : (lower upper : List Float) → ℕ → Bool
is_bounded lower upper i = is_lower (at lower i) && is_upper (at upper i)

-- the bounds of n variables from variable i on, the lowest first, and then what follows
unfoldable pub bounds : {A : Type 0} → (lower upper : List Float) → (n i : ℕ) → Answer A → Answer A
bounds lower upper zero i a = a
bounds lower upper (suc n) i a = test (is_bounded lower upper i) (Bound i) (bounds lower upper n (suc i) a)

-- the whole call, on all that it is lent: the bounds are tested directly after the widths
abbrev pub strict_call : Problem → (d multipliers w : List Float) (iw : List ℕ) → Answer Step
strict_call p d l w iw =
    call (is_dimension p.n && is_constraints p.m) (are_lengths p d l) (is_room w iw) (are_kinds p.kinds)
    (test (are_widths p.kinds p.widths p.m) Width (bounds p.lower p.upper p.n 0 (step p).answer))
