-- `put_three`: three digits one after the other.
use mathlib.Core.Path.{ap}
use mathlib.Core.List.{[], ◌∷◌}
use Prim.Native.Nat.{ℕ}
use Rattle.ascii.proofs.Writing.{wrote_then, as-text}
use Rattle.ascii.proofs.put_three.Goals as goal

pub returns : goal.returns
returns c = wrote_then (as-text (ap (λ (d : ℕ). d ∷ []) c.digit.ensures) c.put_byte-a.ensures)
    (wrote_then (as-text (ap (λ (d : ℕ). d ∷ []) c.digit-2.ensures) c.put_byte-b.ensures) (as-text (ap (λ (d : ℕ). d ∷ []) c.digit-3.ensures) c.put_byte.ensures))
