-- Laws of the second working: which limits are held, what is let go, and the answer where it is stored.
use mathlib.Core.Path.{◌≡◌, refl, sym, ap, ap₂, ◌∙◌, subst}
use mathlib.Core.Bool.{Bool, true, false, cond, ◌&&◌, true≢false}
use mathlib.Core.Logic.{⊎_elim}
use mathlib.Core.List.{List, [], ◌∷◌, ◌++◌, append-nil}
use Prim.Native.Nat.{ℕ, suc, ◌+◌, ◌-◌, ◌≤◌, ◌<◌}
use native.Mathlib.Numerals.{add-one}
use native.Mathlib.Omega.{arith}
use lib.Dec.{eqb, leb, ltb}
use lib.ListN.{length, set, take, drop, length-append, length-drop}
use lib.Seq.{get_or-set_same, get_or-set_other, get_or-take, get_or-drop, length-take-le}
use lib.Ieee.{Float, nan, binary64, of_bits, lt, eq}
use borrow.Author.Tests.{eq-eqb, ne_eqb, ltb-true, lt-ltb, le-leb, lt-leb}
use Rattle.numbers.specs.Numbers.{+0, one, at, nth, tab}
use Rattle.numbers.proofs.Cases.{lt-or-ge}
use Rattle.numbers.proofs.Lists.{tab-same, tab-more, tab-of}
use Rattle.workspace.specs.Readings.{vec, nums, Block}
use Rattle.workspace.proofs.Readings.{lit-+0, lit-one, length-vec, at-vec, vec-is, vec-same, nums-same, nth-nums}
use Rattle.certain.specs.Bound.{kept}
use Rattle.lsei.specs.Lsei.{Solution}
use Rattle.settle.specs.Settle.{Measured, Settled, certified, positives, is_own, owned, not_below, witness, pinned_of, Again, none, next}
use Rattle.settle.specs.inner.Work.{HeldFound, LetGo, FirstStored, AgainStored, stored_at, step_of, after, Judged}
use Rattle.settle.specs.declared.Step.{Step}
use Rattle.settle.specs.declared.Step.TheVariants.{Found, Let, Stop}
use Rattle.lsei.specs.inner.Work.{ending_answer}
use Rattle.std.specs.Prelude.{Result, Ok, Err, ⊤}
use Rattle.lsei.specs.declared.Unsolved.{Unsolved}
use Rattle.lsei.specs.declared.Unsolved.TheVariants.{Deficient, Dependent, Infeasible, Capped}

-- ---- choices
pub not_below_holds : (v : Float) → lt v (of_bits binary64 0) ≡ true → of_bits binary64 0 ≡ not_below v
not_below_holds v h = let e : lt v +0 ≡ true = ap (λ (z : Float). lt v z) (sym lit-+0) ∙ h in lit-+0 ∙ rw e refl

pub not-below-not : (v : Float) → lt v (of_bits binary64 0) ≡ false → v ≡ not_below v
not-below-not v h = let e : lt v +0 ≡ false = ap (λ (z : Float). lt v z) (sym lit-+0) ∙ h in rw e refl

pub unit-is : (j i : ℕ) → j ≡ i → of_bits binary64 4607182418800017408 ≡ cond (eqb j i) one +0
unit-is j i e = lit-one ∙ rw (eq-eqb j i e) refl

pub unit-not : (j i : ℕ) → (j ≡ i → ⊥) → of_bits binary64 0 ≡ cond (eqb j i) one +0
unit-not j i h = lit-+0 ∙ rw (ne_eqb j i h) refl

-- ---- those held: of the first k limits c have a witness above zero
pub record Finding (k c : ℕ) (z : List Float) (iw : List ℕ) : Type 0 where
  pub which : nums 300 c iw ≡ positives k z
  pub how_many : c ≡ length (positives k z)
  pub few : c ≤ k
  pub below : (t : ℕ) → t < c → nth iw (300 + t) < k

pub finding-none : (z : List Float) (iw : List ℕ) → Finding 0 0 z iw
unfolding positives nums tab
finding-none z iw = record { which = refl; how_many = refl; few = omega arith; below = λ t h. absurd (omega arith) }

pub finding-held : (k c : ℕ) (z : List Float) (iw : List ℕ) → 300 + c < length iw → lt +0 (at z k) ≡ true → Finding k c z iw → Finding (k + 1) (c + 1) z (set iw (300 + c) k)
unfolding positives nums
finding-held k c z iw l e f = record {
  which = unfolded ∙ ap₂ (λ (a : List ℕ) (u : ℕ). a ++ (u ∷ [])) (same ∙ f.which) (get_or-set_same iw (300 + c) k 0 l) ∙ sym more;
  how_many = ap (λ (u : ℕ). u + 1) f.how_many ∙ sym (length-append (positives k z) (k ∷ [])) ∙ ap length (sym more);
  few = omega (arith, f.few);
  below = λ t h. ⊎_elim (λ (q : t < c). let s : nth (set iw (300 + c) k) (300 + t) ≡ nth iw (300 + t) = get_or-set_other iw (300 + c) (300 + t) k 0 (λ e. omega arith) in omega (arith, f.below t q, s))
      (λ (q : c ≤ t). let u : t ≡ c = omega arith in let s : nth (set iw (300 + c) k) (300 + t) ≡ k = rw u (get_or-set_same iw (300 + c) k 0 l) in omega (arith, s)) (lt-or-ge t c);
}
  where
    unfolded : nums 300 (c + 1) (set iw (300 + c) k) ≡ nums 300 c (set iw (300 + c) k) ++ (nth (set iw (300 + c) k) (300 + c) ∷ [])
    unfolded = tab-more c (λ i. nth (set iw (300 + c) k) (300 + i))

    same : nums 300 c (set iw (300 + c) k) ≡ nums 300 c iw
    same = nums-same 300 c iw (set iw (300 + c) k) (λ i h. get_or-set_other iw (300 + c) (300 + i) k 0 (λ e. omega arith))

    more : positives (k + 1) z ≡ positives k z ++ (k ∷ [])
    more = rw (add-one k, e) refl

pub finding-passed : (k c : ℕ) (z : List Float) (iw : List ℕ) → lt +0 (at z k) ≡ false → Finding k c z iw → Finding (k + 1) c z iw
unfolding positives
finding-passed k c z iw e f = record { which = f.which ∙ sym more; how_many = f.how_many ∙ ap length (sym more); few = omega (arith, f.few); below = λ t h. omega (arith, f.below t h) }
  where
    more : positives (k + 1) z ≡ positives k z
    more = rw (add-one k, e) refl

pub witness-at : (p k : ℕ) (w : List Float) → k < p → lt (of_bits binary64 0) (at w (6066 + k)) ≡ lt +0 (at (vec 6066 p w) k)
witness-at p k w h = ap₂ (λ (a b : Float). lt a b) lit-+0 (sym (at-vec 6066 p w k h))

pub found : (k p c : ℕ) (z : List Float) (iw : List ℕ) → k ≡ p → p ≤ 48 → 348 ≤ length iw → Finding k c z iw → HeldFound p c z iw
found k p c z iw e h l f = record {
  which = rw e at f.which;
  how_many = rw e at f.how_many;
  held = record { room = l; few = omega (arith, f.few); below = λ t q. omega (arith, f.below t q) };
}

-- ---- letting go: from t to i each place has what stood behind it
pub record Shifted (t i : ℕ) (iw iw' : List ℕ) : Type 0 where
  pub moved : (j : ℕ) → t ≤ j → j < i → nth iw' (300 + j) ≡ nth iw (300 + suc j)
  pub front : (j : ℕ) → j < t → nth iw' (300 + j) ≡ nth iw (300 + j)
  pub back : (j : ℕ) → i ≤ j → nth iw' (300 + j) ≡ nth iw (300 + j)

pub shifted_none : (t : ℕ) (iw : List ℕ) → Shifted t t iw iw
shifted_none t iw = record { moved = λ j h k. absurd (omega arith); front = λ j h. refl; back = λ j h. refl }

pub shifted-more : (t i : ℕ) (iw iw' : List ℕ) → t ≤ i → 300 + i < length iw' → Shifted t i iw iw' → Shifted t (i + 1) iw (set iw' (300 + i) (nth iw' (300 + i + 1)))
shifted-more t i iw iw' h l s =
    let v = nth iw' (300 + i + 1) in
    record {
      moved = λ j a b. ⊎_elim (λ (q : j < i). get_or-set_other iw' (300 + i) (300 + j) v 0 (λ e. omega arith) ∙ s.moved j a q)
          (λ (q : i ≤ j). let e : j ≡ i = omega arith in rw e (get_or-set_same iw' (300 + i) v 0 l ∙ ap (λ (u : ℕ). nth iw' u) (place i) ∙ s.back (suc i) (omega arith))) (lt-or-ge j i);
      front = λ j a. get_or-set_other iw' (300 + i) (300 + j) v 0 (λ e. omega arith) ∙ s.front j a;
      back = λ j a. get_or-set_other iw' (300 + i) (300 + j) v 0 (λ e. omega arith) ∙ s.back j (omega arith);
    }
  where
    place : (i : ℕ) → 300 + i + 1 ≡ 300 + suc i
    place i = omega arith

pub let_go : (c t i : ℕ) (iw iw' : List ℕ) → t ≤ i → c ≤ i → Shifted t i iw iw' → LetGo c t iw iw'
let_go c t i iw iw' h k s = record { left = λ j l. go j l (ltb j t) refl }
  where
    go : (j : ℕ) → j < c → (b : Bool) → ltb j t ≡ b → nth iw' (300 + j) ≡ nth iw (300 + cond b j (suc j))
    go j l true e = s.front j (ltb-true j t e)
    go j l false e = ⊎_elim (λ (q : j < t). absurd (true≢false (sym (lt-ltb j t q) ∙ e))) (λ (q : t ≤ j). s.moved j q (omega arith)) (lt-or-ge j t)

-- ---- the answer
pub own-none : (n : ℕ) (l f : List Float) (hs : List ℕ) (i : ℕ) (v : Float) → v ≡ owned n l f 0 hs i v
unfolding owned
own-none n l f hs i v = refl

pub own-more : (n c t k : ℕ) (l f : List Float) (iw : List ℕ) (i : ℕ) (v r r' : Float) (b : Bool) → t < c → k ≡ nth iw (300 + t) → b ≡ is_own n l k i → r ≡ owned n l f t (nums 300 c iw) i v
    → r' ≡ cond b (at f k) r → r' ≡ owned n l f (t + 1) (nums 300 c iw) i v
unfolding owned
own-more n c t k l f iw i v r r' b h ke be re e =
    let q : k ≡ nth (nums 300 c iw) t = ke ∙ sym (nth-nums 300 c iw t h) in
    e ∙ rw (add-one t) (ap₂ (λ (a : Bool) (z : Float). cond a (at f k) z) be re ∙ ap (λ (u : ℕ). cond (is_own n l u i) (at f u) (owned n l f t (nums 300 c iw) i v)) q)

pub witness-none : (m : ℕ) (hs : List ℕ) (mu : List Float) (k : ℕ) → of_bits binary64 0 ≡ witness m 0 hs mu k
unfolding witness
witness-none m hs mu k = lit-+0

witness-more : (m c t h k : ℕ) (iw : List ℕ) (w : List Float) (u r r' : Float) → t < c → h ≡ nth iw (300 + t) → u ≡ not_below (at w (360 + (m + t))) → r ≡ witness m t (nums 300 c iw) (vec 360 (m + c) w) k
    → r' ≡ cond (eqb h k) u r → r' ≡ witness m (t + 1) (nums 300 c iw) (vec 360 (m + c) w) k
unfolding witness
witness-more m c t h k iw w u r r' l he ue re e =
    let q : h ≡ nth (nums 300 c iw) t = he ∙ sym (nth-nums 300 c iw t l) in
    let p : u ≡ not_below (at (vec 360 (m + c) w) (m + t)) = ue ∙ ap not_below (sym (at-vec 360 (m + c) w (m + t) (omega arith))) in
    e ∙ rw (add-one t) (ap₂ (λ (a z : Float). cond (eqb h k) a z) p re ∙ ap (λ (g : ℕ). cond (eqb g k) (not_below (at (vec 360 (m + c) w) (m + t))) (witness m t (nums 300 c iw) (vec 360 (m + c) w) k)) q)

-- where limit k is entry t of those held, and where it is not
pub witness-here : (m c t k : ℕ) (iw : List ℕ) (w : List Float) (u r' : Float) → t < c → nth iw (300 + t) ≡ k → u ≡ not_below (at w (360 + (m + t))) → r' ≡ u → r' ≡ witness m (t + 1) (nums 300 c iw) (vec 360 (m + c) w) k
witness-here m c t k iw w u r' l e ue er =
    let r = witness m t (nums 300 c iw) (vec 360 (m + c) w) k in
    witness-more m c t (nth iw (300 + t)) k iw w u r r' l refl ue refl (er ∙ ap (λ (b : Bool). cond b u r) (sym (eq-eqb (nth iw (300 + t)) k e)))

pub witness-on : (m c t k : ℕ) (iw : List ℕ) (w : List Float) (r r' : Float) → t < c → (nth iw (300 + t) ≡ k → ⊥) → r ≡ witness m t (nums 300 c iw) (vec 360 (m + c) w) k → r' ≡ r
    → r' ≡ witness m (t + 1) (nums 300 c iw) (vec 360 (m + c) w) k
witness-on m c t k iw w r r' l h re er =
    let u = not_below (at w (360 + (m + t))) in
    witness-more m c t (nth iw (300 + t)) k iw w u r r' l refl refl re (er ∙ ap (λ (b : Bool). cond b u r) (sym (ne_eqb (nth iw (300 + t)) k h)))

-- ---- the answers, where they are stored
pub stored-first : (n m p : ℕ) (w w₁ w₂ w₃ : List Float) → n ≤ 16 → m ≤ 16 → p ≤ 48 → Block 6030 n (λ t. at w (714 + t)) w w₁ → Block 6048 m (λ t. at w₁ (360 + t)) w₁ w₂ → Block 6066 p (λ t. at w₂ (4332 + t)) w₂ w₃
    → FirstStored n m p w w₃
unfolding vec
stored-first n m p w w₁ w₂ w₃ n16 m16 p48 X Y Z = record {
  x = tab-same n _ _ (λ i h. Z.before (6030 + i) (omega arith) ∙ Y.before (6030 + i) (omega arith) ∙ X.inside i h);
  y = tab-same m _ _ (λ i h. Z.before (6048 + i) (omega arith) ∙ Y.inside i h ∙ X.before (360 + i) (omega arith));
  z = tab-same p _ _ (λ i h. Z.inside i h ∙ Y.before (4332 + i) (omega arith) ∙ X.before (4332 + i) (omega arith));
}

vec-none : (o : ℕ) (w : List Float) → vec o 0 w ≡ []
unfolding vec tab
vec-none o w = refl

is_stop : Step → Bool
is_stop Found = false
is_stop (Let t) = true
is_stop Stop = true

pub stop-found : Stop ≡ Found → ⊥
unfolding is_stop
stop-found h = true≢false (ap is_stop h)

pub let-found : (t : ℕ) → Let t ≡ Found → ⊥
unfolding is_stop
let-found t h = true≢false (ap is_stop h)

no_more : (m : ℕ) (w : List Float) → vec 360 m w ++ vec 4332 0 w ≡ vec 360 m w
no_more m w = ap (λ (v : List Float). vec 360 m w ++ v) empty ∙ append-nil (vec 360 m w)
  where
    empty : vec 4332 0 w ≡ []
    empty = vec-none 4332 w

pub stored-again : (d : Measured) (c : ℕ) (iw : List ℕ) (w w₁ w₂ w₃ : List Float) → d.n ≤ 16 → d.m + c ≤ 16 → d.p ≤ 48
    → Block 6114 d.n (λ i. owned d.n d.limits d.least c (nums 300 c iw) i (at w (714 + i))) w w₁ → Block 6132 d.m (λ t. at w₁ (360 + t)) w₁ w₂
    → Block 6150 d.p (λ k. witness d.m c (nums 300 c iw) (vec 360 (d.m + c) w₂) k) w₂ w₃ → AgainStored d c iw w w₃
unfolding pinned_of
stored-again d c iw w w₁ w₂ w₃ n16 mc p48 X Y Z =
    let hs = nums 300 c iw in
    let mu = vec 360 (d.m + c) w ++ vec 4332 0 w in
    let low : (x : ℕ) → x < 6114 → at w₂ x ≡ at w x = λ x h. Y.before x (omega arith) ∙ X.before x h in
    let ex : vec 6114 d.n w₃ ≡ tab d.n (λ i. owned d.n d.limits d.least c hs i (at (vec 714 d.n w) i)) =
    vec-is 6114 d.n w₃ _ (λ i h. Z.before (6114 + i) (omega arith) ∙ Y.before (6114 + i) (omega arith) ∙ X.inside i h ∙ ap (owned d.n d.limits d.least c hs i) (sym (at-vec 714 d.n w i h))) in
    let ey : vec 6132 d.m w₃ ≡ tab d.m (λ j. at mu j) =
    vec-is 6132 d.m w₃ _ (λ j h. Z.before (6132 + j) (omega arith) ∙ Y.inside j h ∙ X.before (360 + j) (omega arith) ∙ sym (at-vec 360 (d.m + c) w j (omega arith)) ∙ ap (λ (v : List Float). at v j) (sym (no_more (d.m + c) w))) in
    let ez : vec 6150 d.p w₃ ≡ tab d.p (λ k. witness d.m c hs mu k) =
    vec-is 6150 d.p w₃ _ (λ k h. Z.inside k h ∙ ap (λ (v : List Float). witness d.m c hs v k) (vec-same 360 (d.m + c) w w₂ (λ i q. low (360 + i) (omega arith)) ∙ sym (no_more (d.m + c) w))) in
    record {
      answer =
          ap (λ (x : List Float). certified d x (vec 6132 d.m w₃) (vec 6150 d.p w₃)) ex
          ∙ ap₂ (λ (y z : List Float). certified d (tab d.n (λ i. owned d.n d.limits d.least c hs i (at (vec 714 d.n w) i))) y z) ey ez;
      first = λ x h k. Z.before x (omega arith) ∙ low x k;
    }

-- ---- what an ending comes to
pub let-is : (m k : ℕ) (e : Result ⊤ Unsolved) → e ≡ Err (Dependent k) → m ≤ k → Let (k - m) ≡ step_of m e
let-is m k e h l = rw h (rw (le-leb m k l) refl)

pub stop_is : (m k : ℕ) (e : Result ⊤ Unsolved) → e ≡ Err (Dependent k) → k < m → Stop ≡ step_of m e
stop_is m k e h l = rw h (rw (lt-leb m k l) refl)

pub is_found : (m : ℕ) (e : Result ⊤ Unsolved) → step_of m e ≡ Found → e ≡ Ok tt
is_found m (Ok tt) h = refl
is_found m (Err (Deficient k)) h = absurd (stop-found h)
is_found m (Err (Dependent k)) h = absurd (go (leb m k) h)
  where
    go : (b : Bool) → cond b (Let (k - m)) Stop ≡ Found → ⊥
    go true h = let-found (k - m) h
    go false h = stop-found h
is_found m (Err Infeasible) h = absurd (stop-found h)
is_found m (Err Capped) h = absurd (stop-found h)

-- a try that comes to no answer of its own
pub onward-told : (d : Measured) (c : ℕ) (hs : List ℕ) (e : Result ⊤ Unsolved) (s : Solution) (t : Settled) (on : ℕ → Again) → (step_of d.m e ≡ Found → ⊥)
    → next d c hs (ending_answer e s) on ≡ after (step_of d.m e) t on
onward-told d c hs (Ok tt) s t on h = absurd (h refl)
onward-told d c hs (Err (Deficient k)) s t on h = refl
onward-told d c hs (Err (Dependent k)) s t on h = go (leb d.m k)
  where
    go : (b : Bool) → cond (true && b) (on (k - d.m)) none ≡ after (cond b (Let (k - d.m)) Stop) t on
    go true = refl
    go false = refl
onward-told d c hs (Err Infeasible) s t on h = refl
onward-told d c hs (Err Capped) s t on h = refl

-- ---- loops that are done
pub own-done : (n t c : ℕ) (l f : List Float) (hs : List ℕ) (i : ℕ) (v r : Float) → t ≡ c → r ≡ owned n l f t hs i v → r ≡ owned n l f c hs i v
own-done n t c l f hs i v r e h = h ∙ ap (λ (u : ℕ). owned n l f u hs i v) e

pub witness-done : (m t c : ℕ) (hs : List ℕ) (mu : List Float) (k : ℕ) (r : Float) → t ≡ c → r ≡ witness m t hs mu k → r ≡ witness m c hs mu k
witness-done m t c hs mu k r e h = h ∙ ap (λ (u : ℕ). witness m u hs mu k) e

pub block-done : (o i n : ℕ) (f : ℕ → Float) (w w' : List Float) → i ≡ n → Block o i f w w' → Block o n f w w'
block-done o i n f w w' e h = subst (λ (u : ℕ). Block o u f w w') e h

pub tested-as : (a z z' : Float) (b : Bool) → z ≡ z' → eq a z ≡ b → eq a z' ≡ b
tested-as a z z' b e h = ap (eq a) (sym e) ∙ h

-- ---- a part of the workspace as a vector
pub part-vec : (o n : ℕ) (w : List Float) → o + n ≤ length w → take n (drop o w) ≡ vec o n w
unfolding vec
part-vec o n w h = let d : length (drop o w) ≡ length w - o = length-drop o w in tab-of n (take n (drop o w)) (λ i. at w (o + i)) nan (length-take-le n (drop o w) (omega (arith, d))) (λ i l. get_or-take n (drop o w) i nan l ∙ get_or-drop o w i nan)

pub part-is : (o n : ℕ) (w : List Float) → o + n ≤ length w → take (o + n - o) (drop o w) ≡ vec o n w
part-is o n w h = ap (λ (k : ℕ). take k (drop o w)) (let e : o + n - o ≡ n = omega arith in e) ∙ part-vec o n w h

pub part-long : (o n : ℕ) (w : List Float) → o + n ≤ length w → n ≤ length (take (o + n - o) (drop o w))
part-long o n w h = let e : length (take (o + n - o) (drop o w)) ≡ n = ap length (part-is o n w h) ∙ length-vec o n w in omega (arith, e)

pub judged-is : (d : Measured) (t : Float) (o : ℕ) (w : List Float) (far : Float) (k : Bool) → d.n ≤ 16 → d.m ≤ 16 → d.p ≤ 48 → o + 84 ≤ length w
    → far ≡ (certified d (take (o + d.n - o) (drop o w)) (take (o + 18 + d.m - (o + 18)) (drop (o + 18) w)) (take (o + 36 + d.p - (o + 36)) (drop (o + 36) w))).far
    → k ≡ kept d.n d.m d.p d.balances d.limits d.least (take (o + d.n - o) (drop o w)) t → Judged d t (stored_at d o w) (record { far = far; kept = k })
judged-is d t o w far k n16 m16 p48 h e f =
    let x = part-is o d.n w (omega arith) in
    record {
      far = e ∙ ap (λ (x : List Float). (certified d x (take (o + 18 + d.m - (o + 18)) (drop (o + 18) w)) (take (o + 36 + d.p - (o + 36)) (drop (o + 36) w))).far) x
          ∙ ap₂ (λ (y z : List Float). (certified d (vec o d.n w) y z).far) (part-is (o + 18) d.m w (omega arith)) (part-is (o + 36) d.p w (omega arith));
      kept = f ∙ ap (λ (x : List Float). kept d.n d.m d.p d.balances d.limits d.least x t) x;
    }
