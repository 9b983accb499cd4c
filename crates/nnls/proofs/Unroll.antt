-- One step of each loop of the definition, as equations: what the kernel's loops go by.
use mathlib.Core.Path.{◌≡◌, refl, ap, ◌∙◌}
use mathlib.Core.Bool.{Bool, true, false}
use mathlib.Core.List.{List}
use Rattle.std.specs.Prelude.{Option, None, Some}
use Prim.Native.Nat.{ℕ, zero, suc, ◌+◌, ◌<◌}
use native.Mathlib.Nat.{not-suc-le-zero}
use native.Mathlib.Omega.{arith}
use lib.ListN.{set}
use lib.Ieee.{Float}
use Rattle.workspace.specs.Tables.{iteration_cap}
use Rattle.nnls_passive.specs.Passive.{Solved}
use Rattle.nnls.specs.Nnls.{choose, Obstacle, free, block, blocking, move_x, move_p, PassEnd, kept, ended, accept, keeps, judge, try_next, tries, turn_next, turns, pass, lastly, round_next, rounds}

module _ (n : ℕ) (solve : List ℕ → Solved) where
  -- ---- a pass
  module _ (w : List Float) (p rej : List ℕ) (f : ℕ) where
    pub tries-none : (left : ℕ) → choose w p rej n ≡ None → tries n solve left w p rej f ≡ ended rej f
    unfolding tries try_next
    tries-none zero e = refl
    tries-none (suc left) e = ap (λ (c : Option ℕ). try_next n solve c p rej f (tries n solve left w p)) e

    pub tries-out : (left : ℕ) → left ≡ 0 → tries n solve left w p rej f ≡ ended rej f
    unfolding tries
    tries-out left e = ap (λ (l : ℕ). tries n solve l w p rej f) e

    pub tries-kept : (left t : ℕ) → 0 < left → choose w p rej n ≡ Some t → keeps (solve (set p t 1)) t ≡ true → tries n solve left w p rej f ≡ kept (set p t 1) (solve (set p t 1)).z (f + 1)
    unfolding tries try_next judge
    tries-kept zero t l e k = absurd (not-suc-le-zero l)
    tries-kept (suc left) t l e k =
        ap (λ (c : Option ℕ). try_next n solve c p rej f (tries n solve left w p)) e
        ∙ ap (λ (b : Bool). judge b (set p t 1) (solve (set p t 1)).z (suc f) (tries n solve left w p (set rej t 1))) k
        ∙ ap (kept (set p t 1) (solve (set p t 1)).z) (omega arith)

    pub tries-again : (left rest t : ℕ) → left ≡ suc rest → choose w p rej n ≡ Some t → keeps (solve (set p t 1)) t ≡ false → tries n solve left w p rej f ≡ tries n solve rest w p (set rej t 1) (f + 1)
    unfolding tries try_next judge
    tries-again left rest t l e k =
        ap (λ (l : ℕ). tries n solve l w p rej f) l
        ∙ ap (λ (c : Option ℕ). try_next n solve c p rej f (tries n solve rest w p)) e
        ∙ ap (λ (b : Bool). judge b (set p t 1) (solve (set p t 1)).z (suc f) (tries n solve rest w p (set rej t 1))) k
        ∙ ap (λ (g : ℕ). tries n solve rest w p (set rej t 1) g) (omega arith)

  -- ---- the turns
  module _ (x z : List Float) (p : List ℕ) (f : ℕ) where
    pub turns-free : (left : ℕ) → blocking x z p n ≡ free → turns n solve left x z p f ≡ record { x = z; passive = p; factorings = f }
    unfolding turns turn_next
    turns-free zero e = refl
    turns-free (suc left) e = ap (λ (c : Obstacle). turn_next n solve c x z p f (turns n solve left)) e

    pub turns-out : (left : ℕ) → left ≡ 0 → turns n solve left x z p f ≡ record { x = z; passive = p; factorings = f }
    unfolding turns
    turns-out left e = ap (λ (l : ℕ). turns n solve l x z p f) e

    pub turns-again : (left rest q : ℕ) (r : Float) → left ≡ suc rest → blocking x z p n ≡ block q r
        → turns n solve left x z p f ≡ turns n solve rest (move_x n q r x z p) (solve (move_p n q r x z p)).z (move_p n q r x z p) (f + 1)
    unfolding turns turn_next
    turns-again left rest q r l e =
        ap (λ (l : ℕ). turns n solve l x z p f) l
        ∙ ap (λ (c : Obstacle). turn_next n solve c x z p f (turns n solve rest)) e
        ∙ ap (λ (g : ℕ). turns n solve rest (move_x n q r x z p) (solve (move_p n q r x z p)).z (move_p n q r x z p) g) (omega arith)

-- ---- the rounds
module _ (n : ℕ) (dual : List Float → List Float) (solve : List ℕ → Solved) (x : List Float) (p : List ℕ) (past f : ℕ) where
  pub rounds-ended : (left : ℕ) (rej : List ℕ) (g : ℕ) → pass n dual solve x p f ≡ ended rej g
      → rounds n dual solve left x p past f ≡ accept x p rej past g
  unfolding rounds lastly round_next
  rounds-ended zero rej g e = ap (λ (t : PassEnd). lastly t x p past) e
  rounds-ended (suc left) rej g e = ap (λ (t : PassEnd). round_next n dual solve t x p past (rounds n dual solve left)) e

  pub rounds-last : (left : ℕ) (p' : List ℕ) (z : List Float) (g : ℕ) → left ≡ 0 → pass n dual solve x p f ≡ kept p' z g → rounds n dual solve left x p past f ≡ record { answer = iteration_cap; rounds = past; factorings = g }
  unfolding rounds lastly
  rounds-last left p' z g l e = ap (λ (l : ℕ). rounds n dual solve l x p past f) l ∙ ap (λ (t : PassEnd). lastly t x p past) e

  pub rounds-again : (left rest : ℕ) (p' : List ℕ) (z : List Float) (g : ℕ) → left ≡ suc rest → pass n dual solve x p f ≡ kept p' z g
      → let s = turns n solve n x z p' g in rounds n dual solve left x p past f ≡ rounds n dual solve rest s.x s.passive (past + 1) s.factorings
  unfolding rounds round_next
  rounds-again left rest p' z g l e =
      let s = turns n solve n x z p' g in
      ap (λ (l : ℕ). rounds n dual solve l x p past f) l
      ∙ ap (λ (t : PassEnd). round_next n dual solve t x p past (rounds n dual solve rest)) e
      ∙ ap (λ (d : ℕ). rounds n dual solve rest s.x s.passive d s.factorings) (omega arith)
