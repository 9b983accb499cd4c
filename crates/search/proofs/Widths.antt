-- The step of a turn does not read the widths.
use mathlib.Core.Path.{◌≡◌, refl, sym, ap, ◌∙◌}
use mathlib.Core.Bool.{Bool, ◌&&◌}
use mathlib.Core.List.{List, [], ◌∷◌}
use Prim.Native.Nat.{ℕ}
use lib.Dec.{leb}
use lib.ListN.{replicate}
use Rattle.numbers.specs.Numbers.{+0}
use Rattle.step_call.specs.NoBands as NoBands
use Rattle.step_call.proofs.Before.{as_before}
use Rattle.search.specs.Setup.{are_kinds}
use Rattle.search.specs.Turn.{model_of}
use Rattle.search.specs.Claims.{NoWidths}

no-bands : (ks : List ℕ) → NoBands.are_kinds ks ≡ are_kinds ks
unfolding NoBands.are_kinds are_kinds
no-bands [] = refl
no-bands (k ∷ ks) = ap (λ (t : Bool). leb k 1 && t) (no-bands ks)

pub no-widths : NoWidths
unfolding model_of
no-widths p l s ws h =
    let g = no-bands p.kinds ∙ h in
    (as_before (model_of p l s) ws g).0 ∙ sym (as_before (model_of p l s) (replicate p.m +0) g).0
