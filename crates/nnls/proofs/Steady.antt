-- Every x on the way is +0, above zero or a NaN, so no ratio has a sign, and the accepted answer is a place on the way. It rests on what `Solver` asks of the solver.
use mathlib.Core.Path.{◌≡◌, refl, sym, ap, ◌∙◌, subst}
use mathlib.Core.Logic.{inl, inr}
use mathlib.Core.Bool.{Bool, true, false, not, cond, ◌&&◌, ◌||◌, true≢false}
use mathlib.Core.List.{List}
use Prim.Native.Nat.{ℕ, zero, suc, ◌+◌, ◌≤◌, ◌<◌}
use native.Mathlib.Omega.{arith}
use lib.Dec.{T, eqb}
use lib.ListN.{length, replicate, length-set, length-replicate, get_or-replicate}
use lib.Ieee.{Float, nan, inf, fin, lt, eq, is_nan}
use Rattle.numbers.specs.Numbers.{+0, ◌⊖◌, ◌⊘◌, at, nth}
use Rattle.numbers.proofs.Lists.{length-tab, get_d-tab}
use Rattle.workspace.specs.Tables.{Answer, done}
use Rattle.nnls_passive.specs.Passive.{is_in, Solved}
use Rattle.nnls.specs.Nnls.{above0, up_to0, Obstacle, free, block, blocking, ratio_of, ranks_before, step_to, next_x, move_x, move_p, PassEnd, kept, ended, Accepted, turn_next, turns, pass, lastly, round_next, rounds, active_set}
use Rattle.nnls.specs.Claims.{ZeroOrAbove, Solver, Place, round, turn, Passes, begins, enters, moves, settles, total_before, Steady}
use Rattle.nnls.proofs.Signs.{negative, not-up_to0, above-sign, div-sign, clear-sign}
use Rattle.nnls.proofs.Count.{count, count-both, count-some}
use Rattle.nnls.proofs.Picks.{blocking-free, blocking-at}
use Rattle.nnls.proofs.Loops.{outside, Keeps, PassOk, pass-ok, fewer-passive}

-- ---- one value

-- what stays after a move
next-above : (q j : ℕ) (r x z : Float) (mark : ℕ) → ZeroOrAbove x → ZeroOrAbove (next_x q j r x z mark)
unfolding next_x
next-above q j r x z mark h = go (not (eqb mark 0)) (eqb j q) (up_to0 (step_to r x z)) refl
  where
    go : (m b u : Bool) → up_to0 (step_to r x z) ≡ u → ZeroOrAbove (cond m (cond (b || u) +0 (step_to r x z)) x)
    go true true u e = inl refl
    go true false true e = inl refl
    go true false false e = inr (not-up_to0 (step_to r x z) e)
    go false b u e = h

moved-above : (n q : ℕ) (r : Float) (x z : List Float) (p : List ℕ) → ((j : ℕ) → j < n → ZeroOrAbove (at x j)) → (j : ℕ) → j < n → ZeroOrAbove (at (move_x n q r x z p) j)
unfolding move_x
moved-above n q r x z p g j h = subst ZeroOrAbove (sym (get_d-tab n (λ j. next_x q j r (at x j) (at z j) (nth p j)) nan j h)) (next-above q j r (at x j) (at z j) (nth p j) (g j h))

length-move_p : (n q : ℕ) (r : Float) (x z : List Float) (p : List ℕ) → length (move_p n q r x z p) ≡ n
unfolding move_p
length-move_p n q r x z p = length-tab n _

clear : (v : Float) → ZeroOrAbove v → negative v ≡ false
unfolding negative
clear v (inl e) = ap negative e
clear v (inr (inl t)) = above-sign v t
clear v (inr (inr e)) = ap negative e

ratio-clear : (x z : Float) → ZeroOrAbove x → negative (ratio_of x z) ≡ false
unfolding ratio_of negative
ratio-clear x z h = go (above0 (x ⊖ z)) refl
  where
    go : (b : Bool) → above0 (x ⊖ z) ≡ b → negative (cond b (x ⊘ (x ⊖ z)) +0) ≡ false
    go true e = div-sign x (x ⊖ z) (clear x h) (above-sign (x ⊖ z) (subst T (sym e) tt))
    go false e = refl

-- two numbers of which the first has no sign
same-order : (r s : Float) → negative r ≡ false → (r ≡ nan → ⊥) → (s ≡ nan → ⊥) → ranks_before r s ≡ total_before r s
unfolding ranks_before is_nan
same-order r s h a b = first r a ∙ second s b ∙ sym (last (lt r s) (eq r s) (not (negative s)) ∙ refl)
  where
    first : (r : Float) → (r ≡ nan → ⊥) → ranks_before r s ≡ (is_nan s || lt r s)
    first nan a = absurd (a refl)
    first (inf t) a = refl
    first (fin t m e) a = refl

    second : (s : Float) → (s ≡ nan → ⊥) → (is_nan s || lt r s) ≡ lt r s
    second nan b = absurd (b refl)
    second (inf t) b = refl
    second (fin t m e) b = refl

    none : (e : Bool) → (e && false) ≡ false
    none true = refl
    none false = refl

    or-none : (l : Bool) → (l || false) ≡ l
    or-none true = refl
    or-none false = refl

    last : (l e u : Bool) → (l || (e && (negative r && u))) ≡ l
    last l e u = ap (λ (v : Bool). l || (e && (v && u))) h ∙ ap (λ (v : Bool). l || v) (none e) ∙ or-none l

-- ---- every place

module _ (n : ℕ) (dual : List Float → List Float) (solve : List ℕ → Solved) (S : Solver n solve) where
  -- what holds at a place
  Good : Place → Type 0
  Good (round x p) = ((j : ℕ) → j < n → ZeroOrAbove (at x j)) × (length p ≡ n)
  Good (turn x z p) = ((j : ℕ) → j < n → ZeroOrAbove (at x j)) × (length p ≡ n) × (z ≡ (solve p).z)

  place-good : {s : Place} → Passes n dual solve s → Good s
  unfolding Good
  place-good begins = (λ j h. inl (get_or-replicate n j +0 nan h), length-replicate n 0)
  place-good (enters {x} {z} {p} {p'} {f'} f r e) =
      let g = place-good r in
      let k : Keeps n dual solve p p' z = (subst (PassOk n dual solve (dual x) p (f + count n (outside p))) e (pass-ok n dual solve x p f)).0 in
      (g.0, ap length k.entered ∙ length-set p k.column 1 ∙ g.1, k.values)
  place-good (moves {x} {z} {p} {q} {r} s e) =
      let g = place-good s in
      (moved-above n q r x z p g.0, length-move_p n q r x z p, refl)
  place-good (settles {x} {z} {p} r e) =
      let g = place-good r in
      (λ j h. go j h (is_in p j) refl g.1 g.2, g.1)
    where
      pick : (a b : Bool) → (a && b) ≡ false → a ≡ true → b ≡ false
      pick true b e i = e
      pick false b e i = absurd (true≢false (sym i))

      go : (j : ℕ) → j < n → (b : Bool) → is_in p j ≡ b → length p ≡ n → z ≡ (solve p).z → ZeroOrAbove (at z j)
      go j h true i l v = inr (not-up_to0 (at z j) (pick (is_in p j) (up_to0 (at z j)) (blocking-free x z p n e j h) i))
      go j h false i l v = inl (ap (λ (w : List Float). at w j) v ∙ S.outside p l j h i)

  -- ---- the definition's loops go by such places

  none-blocks : (x z : List Float) (p : List ℕ) → count n (is_in p) ≤ 0 → blocking x z p n ≡ free
  none-blocks x z p l = go (blocking x z p n) refl
    where
      go : (c : Obstacle) → blocking x z p n ≡ c → blocking x z p n ≡ free
      go free e = e
      go (block q r) e = let a = blocking-at x z p n q r e in absurd (let b = count-some n (is_in p) q a.0 a.1 in let c : ⊥ = omega arith in c)

  turns-pass : (left : ℕ) (x z : List Float) (p : List ℕ) (f : ℕ) → Passes n dual solve (turn x z p) → count n (is_in p) ≤ left
      → Passes n dual solve (round (turns n solve left x z p f).x (turns n solve left x z p f).passive)
  unfolding turns turn_next
  turns-pass zero x z p f s l = settles s (none-blocks x z p l)
  turns-pass (suc left) x z p f s l = go (blocking x z p n) refl (turns-pass left)
    where
      go : (c : Obstacle) → blocking x z p n ≡ c
          → ((x z : List Float) (p : List ℕ) (f : ℕ) → Passes n dual solve (turn x z p) → count n (is_in p) ≤ left → Passes n dual solve (round (turns n solve left x z p f).x (turns n solve left x z p f).passive))
          → Passes n dual solve (round (turn_next n solve c x z p f (turns n solve left)).x (turn_next n solve c x z p f (turns n solve left)).passive)
      go free e again = settles s e
      go (block q r) e again = again (move_x n q r x z p) (solve (move_p n q r x z p)).z (move_p n q r x z p) (suc f) (moves s e) (omega (arith, fewer-passive n x z p q r e))

  accepted-is : (x : List Float) (p rej : List ℕ) (a : Accepted) → Passes n dual solve (round x p) → ◌≡◌ {A = Answer Accepted} (done (record { x = x; passive = p; rejected = rej })) (done a)
      → Passes n dual solve (round a.x a.passive)
  accepted-is x p rej a s e = let q : record { x = x; passive = p; rejected = rej } ≡ a = cc in subst (λ (b : Accepted). Passes n dual solve (round b.x b.passive)) q s

  rounds-pass : (left : ℕ) (x : List Float) (p : List ℕ) (past f : ℕ) → Passes n dual solve (round x p) → (a : Accepted) → (rounds n dual solve left x p past f).answer ≡ done a
      → Passes n dual solve (round a.x a.passive)
  unfolding rounds lastly round_next
  rounds-pass zero x p past f s a e = go (pass n dual solve x p f) e
    where
      go : (t : PassEnd) → (lastly t x p past).answer ≡ done a → Passes n dual solve (round a.x a.passive)
      go (ended rej f') e = accepted-is x p rej a s e
      go (kept p' z f') e = let y : ◌≡◌ {A = ℕ} 0 1 = cc in absurd (let b : ⊥ = omega arith in b)
  rounds-pass (suc left) x p past f s a e = go (pass n dual solve x p f) refl (rounds-pass left) e
    where
      go : (t : PassEnd) → pass n dual solve x p f ≡ t
          → ((x : List Float) (p : List ℕ) (past f : ℕ) → Passes n dual solve (round x p) → (a : Accepted) → (rounds n dual solve left x p past f).answer ≡ done a → Passes n dual solve (round a.x a.passive))
          → (round_next n dual solve t x p past (rounds n dual solve left)).answer ≡ done a → Passes n dual solve (round a.x a.passive)
      go (ended rej f') d again e = accepted-is x p rej a s e
      go (kept p' z f') d again e =
          let t = turns n solve n x z p' f' in
          again t.x t.passive (suc past) t.factorings (turns-pass n x z p' f' (enters f s d) (omega (arith, count-both n (is_in p')))) a e

  pub active-set-steady : Steady n dual solve
  unfolding Good active_set
  active-set-steady = record {
    values = λ s j h. (place-good s).0 j h;
    ratios = λ {x} {z} s j h. clear-sign (ratio_of (at x j) (at z j)) (ratio-clear (at x j) (at z j) ((place-good s).0 j h));
    order = λ {x} {z} s i j hi hj a b. same-order (ratio_of (at x i) (at z i)) (ratio_of (at x j) (at z j)) (ratio-clear (at x i) (at z i) ((place-good s).0 i hi)) a b;
    answer = λ k a e. rounds-pass k (replicate n +0) (replicate n 0) 0 0 begins a e;
  }
