-- Laying what is read changes nothing: so a call that keeps a part need not write it.
use Prim.Native.Nat.{ℕ, suc, ◌+◌, ◌*◌, ◌≤◌}
use mathlib.Core.Path.{◌≡◌, ap, ◌∙◌}
use mathlib.Core.List.{List}
use native.Mathlib.Omega.{arith}
use lib.ListN.{length}
use lib.Ieee.{Float}
use Rattle.workspace.specs.Readings.{vec}
use Rattle.search.specs.Layout.{laid, point_in, new_in, iterate_in, point_floats, new_floats, iterate_floats}
use Rattle.search.proofs.Laying.{laid-again}

-- one part more, where those before changed nothing
pub more : (o n : ℕ) (f g : List Float) → g ≡ f → o + n ≤ length f → laid o (vec o n f) g ≡ f
more o n f g e l = ap (λ (t : List Float). laid o (vec o n f) t) e ∙ laid-again o n f l

pub point-again : (n m : ℕ) (f : List Float) → n ≤ 16 → m ≤ 16 → length f ≡ 1024 → point_floats (point_in n m f) f ≡ f
point-again n m f l k e = more 48 n f _ (laid-again 128 (suc m) f (omega arith)) (omega arith)

pub new-again : (n m : ℕ) (f : List Float) → n ≤ 16 → m ≤ 16 → length f ≡ 1024 → new_floats (new_in n m f) f ≡ f
new-again n m f l k e = more 112 n f _ (laid-again 152 (suc m) f (omega arith)) (omega arith)

pub iterate-again : (n m : ℕ) (f : List Float) (u : List ℕ) → n ≤ 16 → m ≤ 16 → suc m * n ≤ 272 → n * n ≤ 256 → length f ≡ 1024 → iterate_floats (iterate_in n m f u) f ≡ f
iterate-again n m f u l k a b e =
    more 176 (suc m * n) f _
    (more 720 (n * n) f _
    (more 80 m f _
    (more 96 m f _ (point-again n m f l k e) (omega arith))
    (omega arith))
    (omega arith))
    (omega arith)
