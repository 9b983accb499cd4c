-- Laws of the tries, of the choice, and of the whole.
use mathlib.Core.Path.{◌≡◌, refl, sym, ap, ap₂, ◌∙◌, subst}
use mathlib.Core.Bool.{Bool, true, false, cond}
use mathlib.Core.Logic.{⊎_elim}
use mathlib.Core.List.{List, [], ◌∷◌, ◌++◌}
use Prim.Native.Nat.{ℕ, zero, suc, ◌+◌, ◌-◌, ◌*◌, ◌≤◌, ◌<◌}
use native.Mathlib.Omega.{arith}
use lib.Dec.{leb, ltb}
use lib.ListN.{length, take, drop, get_or-append}
use lib.Seq.{get_or-take, get_or-drop, get_or-append-add}
use lib.Ieee.{Float, nan, inf, fin, binary64, of_bits, lt, le}
use borrow.Author.Tests.{le-leb, lt-leb}
use Rattle.numbers.specs.Numbers.{near, at, nth, tab, rows}
use Rattle.numbers.proofs.Lists.{tab-same, get_d-tab}
use Rattle.workspace.specs.Tables.{Answer, done}
use Rattle.workspace.specs.Readings.{vec, stack, nums, Block}
use Rattle.workspace.proofs.Readings.{length-vec, vec-is, vec-same, stack_same, at-vec, nums-same}
use Rattle.workspace.proofs.Parts.{vec-front}
use Rattle.nnls.specs.Counted.{Counted}
use Rattle.lsei.specs.Lsei.{Solution, lsei}
use Rattle.lsei.specs.inner.Work.{sides, ending_answer, ended_solution}
use Rattle.std.specs.Prelude.{Result, Ok, Err, ⊤}
use Rattle.lsei.specs.declared.Unsolved.{Unsolved}
use Rattle.lsei.specs.declared.Ended.{Ended}
use Rattle.lsei_nullspace.specs.inner.Work.{solution_in}
use Rattle.interval.proofs.Answers.{TOP, top-is}
use Rattle.settle.specs.Settle.{Measured, Settled, again, none, certified, first, first_of, pinned, pinned_of, next, tries, without, second, positives, is_kept, is_ordinary, is_better, better, chosen, choose, settled}
use Rattle.settle.specs.declared.Step.{Step}
use Rattle.settle.specs.declared.Step.TheVariants.{Found, Let, Stop}
use Rattle.settle.specs.inner.Work.{Held, HeldFound, LetGo, FirstStored, AgainStored, PinnedIn, FirstStays, again_in, other_in, settled_in, settled_by, step_of, after, Tried, TriedAll, told_again, WorkedAgain, first_in, Judged, JudgedAgain}
use Rattle.settle.specs.declared.Standing.{Standing}
use Rattle.settle.proofs.Working.{is_found, onward-told, stop-found, let-found}
use types.Run.{OneOf}
use denote.Enum.Declared.{tag_of}
use Rattle.settle.specs.contracts.Step.{the_type}
use lib.Ieee.{of_fields, odd, round, units, size, span, climb}
use lib.Count.{count_trailing_zeros}
use lib.ListN.{length-append, length-drop}

-- ---- the front of the workspace is lent
at_front : (k x : ℕ) (w : List Float) → x < k → at (take k w) x ≡ at w x
at_front k x w h = get_or-take k w x nan h

none_left : (n : ℕ) (w : List Float) → stack 1056 0 n w ≡ []
unfolding stack rows
none_left n w = refl

no_sides : (n : ℕ) (w : List Float) → sides 1056 0 n w ≡ []
unfolding sides tab
no_sides n w = refl

pub solved : (d : Measured) (c : ℕ) (iw : List ℕ) (w w₁ u : List Float) (r : Ended) → d.n ≤ 16 → d.m + c ≤ 16 → PinnedIn d c iw w w₁
    → ended_solution r (solution_in d.n (d.m + c) 0 u) ≡ lsei d.n (d.m + c) d.n 0 (stack 426 (d.m + c) d.n (take 6030 w₁)) (vec 714 (d.m + c) (take 6030 w₁)) (stack 732 d.n d.n (take 6030 w₁)) (vec 1038 d.n (take 6030 w₁)) (stack 1056 0 d.n (take 6030 w₁)) (sides 1056 0 d.n (take 6030 w₁))
    → ended_solution r (solution_in d.n (d.m + c) 0 u) ≡ pinned d c (nums 300 c iw)
unfolding pinned
solved d c iw w w₁ u r n16 mc P e =
    let C = stack_same 426 (d.m + c) d.n w₁ (take 6030 w₁) (λ k i hk hi. at_front 6030 (426 + k * 18 + i) w₁ (omega arith)) ∙ P.the_c in
    let D = vec-same 714 (d.m + c) w₁ (take 6030 w₁) (λ i hi. at_front 6030 (714 + i) w₁ (omega arith)) ∙ P.the_d in
    let E = stack_same 732 d.n d.n w₁ (take 6030 w₁) (λ k i hk hi. at_front 6030 (732 + k * 18 + i) w₁ (omega arith)) ∙ P.the_e in
    let F = vec-same 1038 d.n w₁ (take 6030 w₁) (λ i hi. at_front 6030 (1038 + i) w₁ (omega arith)) ∙ P.the_f in
    e ∙ rw (C, D, E, F, none_left d.n (take 6030 w₁), no_sides d.n (take 6030 w₁)) refl

-- what lies behind is as it was
pub behind : (k x : ℕ) (u w : List Float) → length u ≡ k → k ≤ x → at (u ++ drop k w) x ≡ at w x
behind k x u w e h =
    ap (λ (y : ℕ). at (u ++ drop k w) y) (let q : x ≡ length u + (x - k) = omega arith in q)
    ∙ get_or-append-add u (drop k w) (x - k) nan ∙ get_or-drop k w (x - k) nan ∙ ap (λ (y : ℕ). at w y) (let q : k + (x - k) ≡ x = omega arith in q)

pub behind-words : (k x : ℕ) (u l : List ℕ) → length u ≡ k → k ≤ x → nth (u ++ drop k l) x ≡ nth l x
behind-words k x u l e h =
    ap (λ (y : ℕ). nth (u ++ drop k l) y) (let q : x ≡ length u + (x - k) = omega arith in q)
    ∙ get_or-append-add u (drop k l) (x - k) 0 ∙ get_or-drop k l (x - k) 0 ∙ ap (λ (y : ℕ). nth l y) (let q : k + (x - k) ≡ x = omega arith in q)

-- ---- the tries
answer-of : (r : Ended) (s : Solution) (a : Counted Solution) → ended_solution r s ≡ a → ending_answer r.ending s ≡ a.answer
answer-of r s a e = ap (λ (x : Counted Solution). x.answer) e

-- no answer of its own
pub tried-on : (d : Measured) (c : ℕ) (q : Step) (r : Ended) (s : Solution) (iw iw' : List ℕ) (w w' : List Float) → ended_solution r s ≡ pinned d c (nums 300 c iw) → q ≡ step_of d.m r.ending → (q ≡ Found → ⊥)
    → FirstStays w w' → ((x : ℕ) → 300 ≤ x → nth iw' x ≡ nth iw x) → Tried d c q iw iw' w w'
tried-on d c q r s iw iw' w w' e k h f g = record {
  told = λ on. ap (λ (a : Answer Solution). next d c (nums 300 c iw) a on) (sym (answer-of r s (pinned d c (nums 300 c iw)) e))
      ∙ onward-told d c (nums 300 c iw) r.ending s (again_in d w') on (λ z. h (k ∙ z)) ∙ ap (λ (t : Step). after t (again_in d w') on) (sym k);
  first = f;
  words = g;
}

-- an answer
pub tried-found : (d : Measured) (c : ℕ) (q : Step) (r : Ended) (iw iw' : List ℕ) (w w₂ w' : List Float) → ended_solution r (solution_in d.n (d.m + c) 0 w₂) ≡ pinned d c (nums 300 c iw) → q ≡ step_of d.m r.ending → q ≡ Found
    → AgainStored d c iw w₂ w' → FirstStays w w' → ((x : ℕ) → 300 ≤ x → nth iw' x ≡ nth iw x) → Tried d c q iw iw' w w'
tried-found d c q r iw iw' w w₂ w' e k h a f g =
    let s = solution_in d.n (d.m + c) 0 w₂ in
    let i : r.ending ≡ Ok tt = is_found d.m r.ending (sym k ∙ h) in
    let j : done s ≡ (pinned d c (nums 300 c iw)).answer = ap (λ (z : Result ⊤ Unsolved). ending_answer z s) (sym i) ∙ answer-of r s (pinned d c (nums 300 c iw)) e in
    record {
      told = λ on. ap (λ (z : Answer Solution). next d c (nums 300 c iw) z on) (sym j) ∙ ap again (sym a.answer) ∙ ap (λ (t : Step). after t (again_in d w') on) (sym h);
      first = f;
      words = g;
    }

-- what is left, once entry t is let go
without_is : (d : Measured) (c : ℕ) (iw iw₁ iw' : List ℕ) (t : ℕ) (w w' : List Float) → Tried d (suc c) (Let t) iw iw₁ w w' → LetGo c t iw₁ iw' → without c t (nums 300 (suc c) iw) ≡ nums 300 c iw'
unfolding without nums
without_is d c iw iw₁ iw' t w w' T G =
    tab-same c _ _ (λ i h. get_d-tab (suc c) (λ j. nth iw (300 + j)) 0 (cond (ltb i t) i (suc i)) (inside i (ltb i t) h) ∙ sym (T.words (300 + cond (ltb i t) i (suc i)) (omega arith)) ∙ sym (G.left i h))
  where
    inside : (i : ℕ) (b : Bool) → i < c → cond b i (suc i) < suc c
    inside i true h = omega arith
    inside i false h = omega arith

-- c limits are left: what is still to do
pub tries-step : (d : Measured) (c : ℕ) (iw iw₁ iw' : List ℕ) (t : ℕ) (w w' : List Float) → Tried d (suc c) (Let t) iw iw₁ w w' → LetGo c t iw₁ iw' → tries d (suc c) (nums 300 (suc c) iw) ≡ tries d c (nums 300 c iw')
unfolding tries
tries-step d c iw iw₁ iw' t w w' T G = T.told (λ u. tries d c (without c u (nums 300 (suc c) iw))) ∙ ap (tries d c) (same)
  where
    same : without c t (nums 300 (suc c) iw) ≡ nums 300 c iw'
    same = without_is d c iw iw₁ iw' t w w' T G

pub tries-found : (d : Measured) (c : ℕ) (iw iw₁ : List ℕ) (w w' : List Float) → Tried d c Found iw iw₁ w w' → again (again_in d w') ≡ tries d c (nums 300 c iw)
unfolding tries
tries-found d zero iw iw₁ w w' T = sym (T.told (λ u. none))
tries-found d (suc c) iw iw₁ w w' T = sym (T.told (λ u. tries d c (without c u (nums 300 (suc c) iw))))

pub tries-stop : (d : Measured) (c : ℕ) (iw iw₁ : List ℕ) (w w' : List Float) → Tried d c Stop iw iw₁ w w' → none ≡ tries d c (nums 300 c iw)
unfolding tries
tries-stop d zero iw iw₁ w w' T = sym (T.told (λ u. none))
tries-stop d (suc c) iw iw₁ w w' T = sym (T.told (λ u. tries d c (without c u (nums 300 (suc c) iw))))

pub tries-out : (d : Measured) (c t : ℕ) (iw iw₁ : List ℕ) (w w' : List Float) → c ≡ 0 → Tried d c (Let t) iw iw₁ w w' → none ≡ tries d c (nums 300 c iw)
unfolding tries
tries-out d zero t iw iw₁ w w' e T = sym (T.told (λ u. none))
tries-out d (suc c) t iw iw₁ w w' e T = absurd (omega arith)

-- ---- the choice
lt-top : (y : Float) → lt (inf false) y ≡ false
unfolding lt
lt-top nan = refl
lt-top (inf true) = refl
lt-top (inf false) = refl
lt-top (fin s m e) = refl

-- one that is not kept, with no bound, is never better
never-better : (d : Measured) (t : Float) (k : Bool) (a o : Settled) → cond (is_better k false a.far TOP) o a ≡ a
never-better d t true a o = refl
never-better d t false a o = ap (λ (b : Bool). cond b o a) (ap (λ (u : Float). lt u a.far) top-is ∙ lt-top a.far)

pub judged-none : (d : Measured) (t : Float) (z : List Float) (b : Bool) (w w' : List Float) → b ≡ false → WorkedAgain d z b w w' → JudgedAgain d t z (record { far = TOP; kept = false }) w w'
judged-none d t z b w w' e W = record {
  told = λ a. ap (better d t a) (sym W.told ∙ ap (λ (u : Bool). told_again u (again_in d w')) e) ∙ sym (never-better d t (is_kept d t a) a (other_in d.n d.m d.p w' TOP));
  first = W.first;
}

pub judged-found : (d : Measured) (t : Float) (z : List Float) (b : Bool) (r : Standing) (w w' : List Float) → b ≡ true → WorkedAgain d z b w w'
    → Judged d t (again_in d w') r → JudgedAgain d t z r w w'
judged-found d t z b r w w' e W J = record {
  told = λ a. ap (better d t a) (sym W.told ∙ ap (λ (u : Bool). told_again u (again_in d w')) e)
      ∙ ap₂ (λ (u : Float) (k : Bool). cond (is_better (is_kept d t a) k a.far u) (other_in d.n d.m d.p w' u) a) (sym J.far) (sym J.kept);
  first = W.first;
}

-- ---- what a match knows
pub not_found : (q : Step) → OneOf (1 ∷ 2 ∷ []) (tag_of the_type q) → q ≡ Found → ⊥
not_found Found h e = ⊎_elim (λ e. omega arith) (λ e. omega arith) h
not_found (Let t) h e = let-found t e
not_found Stop h e = stop-found e

-- ---- the whole
-- those held stay, behind the part that is lent
pub held_stays : (p c : ℕ) (u iw : List ℕ) → length u ≡ 300 → Held p c iw → Held p c (u ++ drop 300 iw)
held_stays p c u iw e h =
    let l : length (u ++ drop 300 iw) ≡ length u + length (drop 300 iw) = length-append u (drop 300 iw) in
    let k : length (drop 300 iw) ≡ length iw - 300 = length-drop 300 iw in
    record { room = omega (arith, l, k, e, h.room); few = h.few; below = λ t q. let s : nth (u ++ drop 300 iw) (300 + t) ≡ nth iw (300 + t) = behind-words 300 (300 + t) u iw e (omega arith) in omega (arith, s, h.below t q) }

pub held-less : (p c t : ℕ) (iw iw₁ iw' : List ℕ) → length iw' ≡ length iw → ((x : ℕ) → 300 ≤ x → nth iw₁ x ≡ nth iw x) → LetGo c t iw₁ iw' → Held p (suc c) iw → Held p c iw'
held-less p c t iw iw₁ iw' l g G h = record {
  room = omega (arith, l, h.room);
  few = omega (arith, h.few);
  below = λ i q. let s = G.left i q ∙ g (300 + cond (ltb i t) i (suc i)) (omega arith) in let b = h.below (cond (ltb i t) i (suc i)) (inside i (ltb i t) q) in omega (arith, s, b);
}
  where
    inside : (i : ℕ) (b : Bool) → i < c → cond b i (suc i) < suc c
    inside i true h = omega arith
    inside i false h = omega arith

pub solution-front : (n k : ℕ) (u r : List Float) → n ≤ 16 → k ≤ 16 → length u ≡ 6030 → solution_in n k 0 (u ++ r) ≡ solution_in n k 0 u
solution-front n k u r n16 k16 e = ap₂ (λ (x y : List Float). solution x y) (vec-front u r 714 n (omega arith)) (ap₂ (λ (x y : List Float). x ++ y) (vec-front u r 360 k (omega arith)) (vec-front u r 4332 0 (omega arith)))
  where
    solution : List Float → List Float → Solution
    solution x y = record { x = x; multipliers = y }

-- the limits that are held, read behind the part that was lent
pub again-same : (d : Measured) (c : ℕ) (l iw : List ℕ) (w w' : List Float) → ((x : ℕ) → 300 ≤ x → nth l x ≡ nth iw x) → AgainStored d c l w w' → AgainStored d c iw w w'
again-same d c l iw w w' g K = record { answer = K.answer ∙ ap (λ (hs : List ℕ). pinned_of d c hs (solution_in d.n (d.m + c) 0 w)) (nums-same 300 c iw l (λ i h. g (300 + i) (omega arith))); first = K.first }

-- one limit less
pub one_less : (d : Measured) (c t p : ℕ) (q : Step) (iw iw₁ iw' : List ℕ) (w w' : List Float) → (c ≡ 0 → ⊥) → q ≡ Let t → Tried d c q iw iw₁ w w' → LetGo (c - 1) t iw₁ iw' → length iw' ≡ length iw → Held p c iw
    → (tries d (c - 1) (nums 300 (c - 1) iw') ≡ tries d c (nums 300 c iw)) × Held p (c - 1) iw'
one_less d zero t p q iw iw₁ iw' w w' h e T G l H = absurd (h refl)
one_less d (suc c) t p q iw iw₁ iw' w w' h e T G l H =
    let k : suc c - 1 ≡ c = omega arith in
    let G' : LetGo c t iw₁ iw' = subst (λ (u : ℕ). LetGo u t iw₁ iw') k G in
    let T' : Tried d (suc c) (Let t) iw iw₁ w w' = subst (λ (z : Step). Tried d (suc c) z iw iw₁ w w') e T in
    (ap (λ (u : ℕ). tries d u (nums 300 u iw')) k ∙ sym (tries-step d c iw iw₁ iw' t w w' T' G'), subst (λ (u : ℕ). Held p u iw') (sym k) (held-less p c t iw iw₁ iw' l T.words G' H))

-- after some limits are gone: what is still to do gives the answer, or nothing is left to try
pub record Trying (d : Measured) (held gone : ℕ) (iw iw' : List ℕ) (w w' : List Float) : Type 0 where
  pub on : gone ≤ held → tries d (held - gone) (nums 300 (held - gone) iw') ≡ tries d held (nums 300 held iw)
  pub left : gone ≤ held → Held d.p (held - gone) iw'
  pub out : held < gone → none ≡ tries d held (nums 300 held iw)
  pub first : FirstStays w w'

pub trying-none : (d : Measured) (held : ℕ) (iw : List ℕ) (w : List Float) → Held d.p held iw → Trying d held 0 iw iw w w
trying-none d held iw w H =
    let e : held ≡ held - 0 = omega arith in
    record { on = λ h. ap (λ (u : ℕ). tries d u (nums 300 u iw)) (sym e); left = λ h. subst (λ (u : ℕ). Held d.p u iw) e H; out = λ h. absurd (omega arith); first = λ x h k. refl }

module _ (d : Measured) (held gone t : ℕ) (q : Step) (iw iw₀ iw₁ : List ℕ) (w w₀ w₁ : List Float) (K : Trying d held gone iw iw₀ w w₀) (e : q ≡ Let t) (T : Tried d (held - gone) q iw₀ iw₁ w₀ w₁) where
  -- one is let go
  pub trying-less : (iw₂ : List ℕ) → gone < held → LetGo (held - gone - 1) t iw₁ iw₂ → length iw₂ ≡ length iw₀ → Trying d held (gone + 1) iw iw₂ w w₁
  trying-less iw₂ h G l =
      let k : held - gone - 1 ≡ held - (gone + 1) = omega arith in
      let o = one_less d (held - gone) t d.p q iw₀ iw₁ iw₂ w₀ w₁ (λ z. omega arith) e T G l (K.left (omega arith)) in
      record {
        on = λ u. sym (ap (λ (v : ℕ). tries d v (nums 300 v iw₂)) k) ∙ o.0 ∙ K.on (omega arith);
        left = λ u. subst (λ (v : ℕ). Held d.p v iw₂) k o.1;
        out = λ u. absurd (omega arith);
        first = λ x a b. T.first x a b ∙ K.first x a b;
      }

  -- and there is none to let go
  pub trying-out : held ≡ gone → Trying d held (gone + 1) iw iw₁ w w₁
  trying-out h =
      let T' : Tried d (held - gone) (Let t) iw₀ iw₁ w₀ w₁ = subst (λ (z : Step). Tried d (held - gone) z iw₀ iw₁ w₀ w₁) e T in
      record {
        on = λ u. absurd (omega arith);
        left = λ u. absurd (omega arith);
        out = λ u. tries-out d (held - gone) t iw₀ iw₁ w₀ w₁ (omega arith) T' ∙ K.on (omega arith);
        first = λ x a b. T.first x a b ∙ K.first x a b;
      }

-- ---- the second working
pub worked-none : (d : Measured) (c : ℕ) (z : List Float) (iw : List ℕ) (w : List Float) → 16 < d.m + c → HeldFound d.p c z iw → WorkedAgain d z false w w
unfolding second
worked-none d c z iw w h H = record {
  told = sym (ap (λ (u : ℕ). cond (leb (d.m + u) 16) (tries d (length (positives d.p z)) (positives d.p z)) none) (sym H.how_many) ∙ ap (λ (b : Bool). cond b (tries d (length (positives d.p z)) (positives d.p z)) none) (lt-leb (d.m + c) 16 h));
  first = λ x a b. refl;
}

pub worked : (d : Measured) (c : ℕ) (z : List Float) (r : Bool) (iw : List ℕ) (w w' : List Float) → d.m + c ≤ 16 → HeldFound d.p c z iw → TriedAll d c (nums 300 c iw) r w w' → WorkedAgain d z r w w'
unfolding second
worked d c z r iw w w' h H T = record {
  told = T.told
      ∙ ap₂ (λ (u : ℕ) (hs : List ℕ). tries d u hs) H.how_many H.which
      ∙ sym (ap (λ (u : ℕ). cond (leb (d.m + u) 16) (tries d (length (positives d.p z)) (positives d.p z)) none) (sym H.how_many) ∙ ap (λ (b : Bool). cond b (tries d (length (positives d.p z)) (positives d.p z)) none) (le-leb (d.m + c) 16 h));
  first = T.first;
}

-- ---- the whole
-- LSEI's own answer, where it is stored
firstly : (d : Measured) (t : Float) (r : Ended) (far : Float) (w₁ w₂ : List Float) {v : ⊤} → r.ending ≡ Ok v → ended_solution r (solution_in d.n d.m d.p w₁) ≡ first d → FirstStored d.n d.m d.p w₁ w₂
    → far ≡ (first_in d w₂).far
    → (settled_in d.n d.m d.p w₂ far ≡ first_of d (solution_in d.n d.m d.p w₁)) × (settled d t ≡ done (chosen d t (settled_in d.n d.m d.p w₂ far)))
unfolding first_of settled
firstly d t r far w₁ w₂ e h K f =
    let s = solution_in d.n d.m d.p w₁ in
    let ey : vec 6048 d.m w₂ ≡ tab d.m (λ j. at s.multipliers j) =
    K.y ∙ vec-is 360 d.m w₁ _ (λ j l. sym (get_or-append (vec 360 d.m w₁) (vec 4332 d.p w₁) nan j (omega (arith, length-vec 360 d.m w₁)) ∙ at-vec 360 d.m w₁ j l)) in
    let ez : vec 6066 d.p w₂ ≡ tab d.p (λ k. at s.multipliers (d.m + k)) =
    K.z ∙ vec-is 4332 d.p w₁ _ (λ k l. sym (ap (λ (u : ℕ). at (vec 360 d.m w₁ ++ vec 4332 d.p w₁) (u + k)) (sym (length-vec 360 d.m w₁)) ∙ get_or-append-add (vec 360 d.m w₁) (vec 4332 d.p w₁) k nan ∙ at-vec 4332 d.p w₁ k l)) in
    let one : settled_in d.n d.m d.p w₂ far ≡ first_of d s =
    ap (settled_in d.n d.m d.p w₂) f ∙ ap (λ (x : List Float). certified d x (vec 6048 d.m w₂) (vec 6066 d.p w₂)) K.x ∙ ap₂ (λ (y z : List Float). certified d (vec 714 d.n w₁) y z) ey ez in
    let a : done s ≡ (first d).answer = ap (λ (z : Result ⊤ Unsolved). ending_answer z s) (sym e) ∙ ap (λ (x : Counted Solution). x.answer) h in
    (one, ap (choose d t) (sym a) ∙ ap (λ (x : Settled). done (chosen d t x)) (sym one))

pub lit-near : of_bits binary64 4562146422526312448 ≡ near 1 1024
unfolding of_bits of_fields odd round units size span climb count_trailing_zeros
lit-near = refl

abbrev LIT : Float
LIT = of_bits binary64 4562146422526312448

pub refused-told : (d : Measured) (t : Float) (r : Ended) (sol : Solution) (s : Float → Settled) (u : Unsolved) → r.ending ≡ Err u → ended_solution r sol ≡ first d → settled_by (Err u) s ≡ settled d t
unfolding settled
refused-told d t r sol s u i e =
    ap (λ (o : Result ⊤ Unsolved). choose d t (ending_answer o sol)) (sym i) ∙ ap (choose d t) (ap (λ (x : Counted Solution). x.answer) e)

pub ordinary-is : (k : Bool) (far : Float) → k ≡ true → le far LIT ≡ is_ordinary k far
ordinary-is k far h = rw h (ap (le far) lit-near)

pub better-and : (k a : Bool) (far other : Float) → k ≡ true → a ≡ true → lt other far ≡ is_better k a far other
better-and k a far other h g = rw (h, g) refl

pub better-or-not : (k a : Bool) (far other : Float) → k ≡ false → a ≡ false → lt other far ≡ is_better k a far other
better-or-not k a far other h g = rw (h, g) refl

chosen-near : (d : Measured) (t : Float) (a : Settled) → is_ordinary (is_kept d t a) a.far ≡ true → chosen d t a ≡ a
unfolding chosen
chosen-near d t a h = rw h refl

chosen-far : (d : Measured) (t : Float) (a : Settled) → is_ordinary (is_kept d t a) a.far ≡ false → chosen d t a ≡ better d t a (second d a.z)
unfolding chosen
chosen-far d t a h = rw h refl

settled_same : (n m p : ℕ) (far : Float) (w w' : List Float) → n ≤ 16 → m ≤ 16 → p ≤ 48 → FirstStays w w' → settled_in n m p w' far ≡ settled_in n m p w far
settled_same n m p far w w' n16 m16 p48 F =
    ap (λ (x : List Float). triple x (vec 6048 m w') (vec 6066 p w')) (vec-same 6030 n w w' (λ i h. F (6030 + i) (omega arith) (omega arith)))
    ∙ ap₂ (λ (y z : List Float). triple (vec 6030 n w) y z) (vec-same 6048 m w w' (λ i h. F (6048 + i) (omega arith) (omega arith))) (vec-same 6066 p w w' (λ i h. F (6066 + i) (omega arith) (omega arith)))
  where
    triple : (x y z : List Float) → Settled
    triple x y z = record { x = x; y = y; z = z; far = far }

settled-moved : (n m p : ℕ) (far : Float) (w w' : List Float) → n ≤ 16 → m ≤ 16 → p ≤ 48 → Block 6030 84 (λ t. at w (6114 + t)) w w' → settled_in n m p w' far ≡ other_in n m p w far
unfolding vec
settled-moved n m p far w w' n16 m16 p48 B =
    ap (λ (x : List Float). triple x (vec 6048 m w') (vec 6066 p w')) (tab-same n _ _ (λ i h. B.inside i (omega arith)))
    ∙ ap₂ (λ (y z : List Float). triple (vec 6114 n w) y z)
    (tab-same m _ _ (λ i h. ap (λ (x : ℕ). at w' x) (one i) ∙ B.inside (18 + i) (omega arith) ∙ ap (λ (x : ℕ). at w x) (two i)))
    (tab-same p _ _ (λ i h. ap (λ (x : ℕ). at w' x) (three i) ∙ B.inside (36 + i) (omega arith) ∙ ap (λ (x : ℕ). at w x) (four i)))
  where
    triple : (x y z : List Float) → Settled
    triple x y z = record { x = x; y = y; z = z; far = far }

    one : (i : ℕ) → 6048 + i ≡ 6030 + (18 + i)
    one i = omega arith

    two : (i : ℕ) → 6114 + (18 + i) ≡ 6132 + i
    two i = omega arith

    three : (i : ℕ) → 6066 + i ≡ 6030 + (36 + i)
    three i = omega arith

    four : (i : ℕ) → 6114 + (36 + i) ≡ 6150 + i
    four i = omega arith

module _ (d : Measured) (t : Float) (r : Ended) (J : Standing) (w₁ w₂ : List Float) (n16 : d.n ≤ 16) (m16 : d.m ≤ 16) (p48 : d.p ≤ 48) {v : ⊤} (e : r.ending ≡ Ok v)
    (h : ended_solution r (solution_in d.n d.m d.p w₁) ≡ first d) (K : FirstStored d.n d.m d.p w₁ w₂) (f : Judged d t (first_in d w₂) J) where
  abbrev a : Settled
  a = settled_in d.n d.m d.p w₂ J.far

  pub settled-first : (q : Bool) → q ≡ is_ordinary J.kept J.far → q ≡ true → settled_by (Ok J.far) (settled_in d.n d.m d.p w₂) ≡ settled d t
  settled-first q k u = ap done (sym (chosen-near d t a (ap (λ (b : Bool). is_ordinary b J.far) (sym f.kept) ∙ sym k ∙ u))) ∙ sym (firstly d t r J.far w₁ w₂ e h K f.far).1

  -- worked again
  module _ (L : Standing) (w₃ : List Float) (q : Bool) (k : q ≡ is_ordinary J.kept J.far) (u : q ≡ false) (F : JudgedAgain d t (vec 6066 d.p w₂) L w₂ w₃) where
    chosen_is : (v : Bool) → v ≡ is_better J.kept L.kept J.far L.far → chosen d t a ≡ cond v (other_in d.n d.m d.p w₃ L.far) a
    chosen_is v x =
        chosen-far d t a (ap (λ (b : Bool). is_ordinary b J.far) (sym f.kept) ∙ sym k ∙ u) ∙ F.told a
        ∙ ap (λ (b : Bool). cond b (other_in d.n d.m d.p w₃ L.far) a) (ap (λ (b : Bool). is_better b L.kept J.far L.far) (sym f.kept) ∙ sym x)

    pub settled-stays : (v : Bool) → v ≡ is_better J.kept L.kept J.far L.far → v ≡ false → settled_by (Ok J.far) (settled_in d.n d.m d.p w₃) ≡ settled d t
    settled-stays v x y =
        ap done (settled_same d.n d.m d.p J.far w₂ w₃ n16 m16 p48 F.first
        ∙ sym (chosen_is v x ∙ ap (λ (b : Bool). cond b (other_in d.n d.m d.p w₃ L.far) a) y)) ∙ sym (firstly d t r J.far w₁ w₂ e h K f.far).1

    pub settled-other : (w₄ : List Float) (v : Bool) → v ≡ is_better J.kept L.kept J.far L.far → v ≡ true → Block 6030 84 (λ t. at w₃ (6114 + t)) w₃ w₄
        → settled_by (Ok L.far) (settled_in d.n d.m d.p w₄) ≡ settled d t
    settled-other w₄ v x y B =
        ap done (settled-moved d.n d.m d.p L.far w₃ w₄ n16 m16 p48 B
        ∙ sym (chosen_is v x ∙ ap (λ (b : Bool). cond b (other_in d.n d.m d.p w₃ L.far) a) y)) ∙ sym (firstly d t r J.far w₁ w₂ e h K f.far).1
