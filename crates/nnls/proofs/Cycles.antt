-- Rounds that come back to where they were repeat: whole periods only raise the counts.
use mathlib.Core.Path.{◌≡◌, refl, sym, ap, ap₂, ◌∙◌}
use mathlib.Core.Bool.{Bool, true, false, true≢false}
use mathlib.Core.List.{List}
use Rattle.std.specs.Prelude.{Option, None, Some}
use Prim.Native.Nat.{ℕ, zero, suc, ◌+◌, ◌-◌, ◌*◌, ◌≤◌}
use native.Mathlib.Omega.{arith}
use lib.ListN.{set, replicate}
use lib.Ieee.{Float}
use Rattle.nnls_passive.specs.Passive.{Solved}
use Rattle.nnls.specs.Nnls.{choose, Obstacle, free, block, blocking, move_x, move_p, PassEnd, kept, ended, Settled, keeps, judge, try_next, tries, turn_next, turns, pass, rounds}
use Rattle.nnls.proofs.Unroll.{rounds-again}

-- ---- the counts before a pass or the turns are only added to

abbrev pub raised : ℕ → PassEnd → PassEnd
raised e (kept p z f) = kept p z (f + e)
raised e (ended rej f) = ended rej (f + e)

abbrev pub raised_end : ℕ → Settled → Settled
raised_end e s = record { x = s.x; passive = s.passive; factorings = s.factorings + e }

module _ (n : ℕ) (solve : List ℕ → Solved) where
  pub tries-raised : (left : ℕ) (w : List Float) (p rej : List ℕ) (f e : ℕ) → tries n solve left w p rej (f + e) ≡ raised e (tries n solve left w p rej f)
  unfolding tries try_next judge
  tries-raised zero w p rej f e = refl
  tries-raised (suc left) w p rej f e = go (choose w p rej n) (tries-raised left w p)
    where
      go : (c : Option ℕ) → ((rej : List ℕ) (f e : ℕ) → tries n solve left w p rej (f + e) ≡ raised e (tries n solve left w p rej f))
          → try_next n solve c p rej (f + e) (tries n solve left w p) ≡ raised e (try_next n solve c p rej f (tries n solve left w p))
      go None again = refl
      go (Some t) again = judged (keeps (solve (set p t 1)) t)
        where
          judged : (b : Bool) → judge b (set p t 1) (solve (set p t 1)).z (suc (f + e)) (tries n solve left w p (set rej t 1))
              ≡ raised e (judge b (set p t 1) (solve (set p t 1)).z (suc f) (tries n solve left w p (set rej t 1)))
          judged true = ap (kept (set p t 1) (solve (set p t 1)).z) (omega arith)
          judged false = ap (tries n solve left w p (set rej t 1)) (omega arith) ∙ again (set rej t 1) (suc f) e

  pub turns-raised : (left : ℕ) (x z : List Float) (p : List ℕ) (f e : ℕ) → turns n solve left x z p (f + e) ≡ raised_end e (turns n solve left x z p f)
  unfolding turns turn_next
  turns-raised zero x z p f e = refl
  turns-raised (suc left) x z p f e = go (blocking x z p n) (turns-raised left)
    where
      go : (c : Obstacle) → ((x z : List Float) (p : List ℕ) (f e : ℕ) → turns n solve left x z p (f + e) ≡ raised_end e (turns n solve left x z p f))
          → turn_next n solve c x z p (f + e) (turns n solve left) ≡ raised_end e (turn_next n solve c x z p f (turns n solve left))
      go free again = refl
      go (block q r) again =
          ap (turns n solve left (move_x n q r x z p) (solve (move_p n q r x z p)).z (move_p n q r x z p)) (omega arith)
          ∙ again (move_x n q r x z p) (solve (move_p n q r x z p)).z (move_p n q r x z p) (suc f) e

-- ---- a pass that keeps a column keeps it whatever was counted before

is_kept : PassEnd → Bool
is_kept (kept p z f) = true
is_kept (ended rej f) = false

marks_of : PassEnd → List ℕ
marks_of (kept p z f) = p
marks_of (ended rej f) = rej

trials_of : List Float → PassEnd → List Float
trials_of v (kept p z f) = z
trials_of v (ended rej f) = v

count_of : PassEnd → ℕ
count_of (kept p z f) = f
count_of (ended rej f) = f

same_kept : (f f₀ : ℕ) (p' : List ℕ) (z : List Float) (g : ℕ) (t : PassEnd) → raised f t ≡ kept p' z g → (raised f₀ t ≡ kept p' z (g - f + f₀)) × (f ≤ g)
unfolding is_kept marks_of trials_of count_of
same_kept f f₀ p' z g (kept p₁ z₁ e) h =
    let c : e + f ≡ g = ap count_of h in
    (ap₂ (λ (q : List ℕ) (v : List Float). kept q v (e + f₀)) (ap marks_of h) (ap (trials_of z) h) ∙ ap (kept p' z) (omega (arith, c)), omega (arith, c))
same_kept f f₀ p' z g (ended rej e) h = absurd (true≢false (sym (ap is_kept h)))

-- ---- from one place to another

module _ (n : ℕ) (dual : List Float → List Float) (solve : List ℕ → Solved) where
  pub pass-raised : (x : List Float) (p : List ℕ) (f e : ℕ) → pass n dual solve x p (f + e) ≡ raised e (pass n dual solve x p f)
  unfolding pass
  pass-raised x p f e = tries-raised n solve n (dual x) p (replicate n 0) f e

  -- d rounds lead from x and p to x' and p', with e factorings
  abbrev pub Leads : (x : List Float) (p : List ℕ) (d e : ℕ) (x' : List Float) (p' : List ℕ) → Type 0
  Leads x p d e x' p' = (left past f : ℕ) → rounds n dual solve (left + d) x p past f ≡ rounds n dual solve left x' p' (past + d) (f + e)

  from : (x : List Float) (p : List ℕ) {l l' past past' f f' : ℕ} → l ≡ l' → past ≡ past' → f ≡ f' → rounds n dual solve l x p past f ≡ rounds n dual solve l' x p past' f'
  from x p {l} {l'} {past} {past'} {f} {f'} a b c =
      ap (λ (i : ℕ). rounds n dual solve i x p past f) a ∙ ap₂ (λ (i j : ℕ). rounds n dual solve l' x p i j) b c

  pub leads-none : (x : List Float) (p : List ℕ) → Leads x p 0 0 x p
  leads-none x p left past f = from x p (omega arith) (omega arith) (omega arith)

  pub leads-then : (x x' x'' : List Float) (p p' p'' : List ℕ) (d d' e e' : ℕ) → Leads x p d e x' p' → Leads x' p' d' e' x'' p'' → Leads x p (d + d') (e + e') x'' p''
  leads-then x x' x'' p p' p'' d d' e e' a b left past f =
      from x p (omega arith) refl refl ∙ a (left + d') past f ∙ b left (past + d) (f + e) ∙ from x'' p'' refl (omega arith) (omega arith)

  -- as often as one likes
  pub leads-around : (x : List Float) (p : List ℕ) (d e : ℕ) → Leads x p d e x p → (q : ℕ) → Leads x p (q * d) (q * e) x p
  leads-around x p d e a zero left past f = from x p (omega arith) (omega arith) (omega arith)
  leads-around x p d e a (suc q) left past f =
      from x p (omega arith) refl refl ∙ a (left + q * d) past f ∙ leads-around x p d e a q left (past + d) (f + e) ∙ from x p refl (omega arith) (omega arith)

  -- the same pass after f₀ factorings
  pub pass-moved : (x : List Float) (p : List ℕ) (f : ℕ) (p' : List ℕ) (z : List Float) (g : ℕ) → pass n dual solve x p f ≡ kept p' z g → (f₀ : ℕ) → pass n dual solve x p f₀ ≡ kept p' z (g - f + f₀)
  pass-moved x p f p' z g h f₀ =
      ap (pass n dual solve x p) (omega arith)
      ∙ pass-raised x p 0 f₀
      ∙ (same_kept f f₀ p' z g (pass n dual solve x p 0) (sym (pass-raised x p 0 f) ∙ ap (pass n dual solve x p) (omega arith) ∙ h)).0

  -- a round that begins with a pass after f factorings
  pub leads-once : (x : List Float) (p : List ℕ) (f : ℕ) (p' : List ℕ) (z : List Float) (g : ℕ) → pass n dual solve x p f ≡ kept p' z g
      → Leads x p 1 ((turns n solve n x z p' g).factorings - f) (turns n solve n x z p' g).x (turns n solve n x z p' g).passive
  leads-once x p f p' z g h left past f₀ =
      let a = same_kept f f₀ p' z g (pass n dual solve x p 0) (sym (pass-raised x p 0 f) ∙ ap (pass n dual solve x p) (omega arith) ∙ h) in
      let b : pass n dual solve x p f₀ ≡ kept p' z (g - f + f₀) = ap (pass n dual solve x p) (omega arith) ∙ pass-raised x p 0 f₀ ∙ a.0 in
      let s = turns n solve n x z p' 0 in
      let c : turns n solve n x z p' g ≡ raised_end g s = ap (turns n solve n x z p') (omega arith) ∙ turns-raised n solve n x z p' 0 g in
      let c₀ : turns n solve n x z p' (g - f + f₀) ≡ raised_end (g - f + f₀) s = ap (turns n solve n x z p') (omega arith) ∙ turns-raised n solve n x z p' 0 (g - f + f₀) in
      let k = a.1 in
      rounds-again n dual solve x p past f₀ (left + 1) left p' z (g - f + f₀) (omega arith) b
      ∙ ap (λ (u : Settled). rounds n dual solve left u.x u.passive (past + 1) u.factorings) c₀
      ∙ from s.x s.passive refl refl (omega arith)
      ∙ sym (ap (λ (u : Settled). rounds n dual solve left u.x u.passive (past + 1) (f₀ + (u.factorings - f))) c)

  -- the counts of a round only grow
  pub pass-more : (x : List Float) (p : List ℕ) (f : ℕ) (p' : List ℕ) (z : List Float) (g : ℕ) → pass n dual solve x p f ≡ kept p' z g → f ≤ g
  pass-more x p f p' z g h = (same_kept f f p' z g (pass n dual solve x p 0) (sym (pass-raised x p 0 f) ∙ ap (pass n dual solve x p) (omega arith) ∙ h)).1

  pub turns_more : (x z : List Float) (p : List ℕ) (g : ℕ) → g ≤ (turns n solve n x z p g).factorings
  turns_more x z p g =
      let e : (turns n solve n x z p g).factorings ≡ (turns n solve n x z p 0).factorings + g =
      ap (λ (u : Settled). u.factorings) (ap (turns n solve n x z p) (omega arith) ∙ turns-raised n solve n x z p 0 g) in
      omega (arith, e)
