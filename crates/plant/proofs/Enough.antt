-- Bytes enough.
use mathlib.Core.Path.{◌≡◌, sym, ap, ◌∙◌}
use mathlib.Core.Logic.{⊎_elim}
use mathlib.Core.List.{List}
use Prim.Native.Nat.{ℕ, ◌≤◌, ◌<◌}
use native.Mathlib.Omega.{arith}
use lib.ListN.{length, take, length-take}
use lib.Seq.{take_all}
use borrow.Author.Tests.{lt-ltb}
use Rattle.numbers.proofs.Cases.{lt-or-ge}
use Rattle.plant.specs.Plant.{plant_sheet}
use Rattle.plant.specs.Claims.{EnoughBytes}

enough-plant : (kept plant : List ℕ) → plant_sheet kept plant ≡ plant_sheet kept (take 65537 plant)
unfolding plant_sheet
enough-plant kept plant = ⊎_elim
    (λ (h : length plant < 65538). ap (plant_sheet kept) (sym (take_all 65537 plant (omega arith))))
    (λ (h : 65538 ≤ length plant). let l = length-take 65537 plant in rw (lt-ltb 65536 (length plant) (omega arith), lt-ltb 65536 (length (take 65537 plant)) (omega arith)))
    (lt-or-ge (length plant) 65538)

pub enough-bytes : EnoughBytes
unfolding plant_sheet
enough-bytes kept plant = ⊎_elim
    (λ (h : length kept < 524290). enough-plant kept plant ∙ ap (λ (k : List ℕ). plant_sheet k (take 65537 plant)) (sym (take_all 524289 kept (omega arith))))
    (λ (h : 524290 ≤ length kept). let l = length-take 524289 kept in rw (lt-ltb 524288 (length kept) (omega arith), lt-ltb 524288 (length (take 524289 kept)) (omega arith)))
    (lt-or-ge (length kept) 524290)
