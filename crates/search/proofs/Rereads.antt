-- What is read of slices after a part was laid, and states whose parts are read.
use Prim.Native.Nat.{ℕ, zero, suc, ◌+◌, ◌*◌, ◌≤◌, ◌<◌}
use mathlib.Core.Path.{◌≡◌, refl, sym, ap, ◌∙◌, subst}
use mathlib.Core.Bool.{Bool, true, false, cond}
use mathlib.Core.List.{List, [], ◌∷◌}
use mathlib.Core.Logic.{inl, inr}
use native.Mathlib.Omega.{arith}
use lib.Dec.{eqb}
use lib.ListN.{length, replicate, length-replicate}
use lib.Ieee.{Float, nan}
use Rattle.numbers.specs.Numbers.{+0, at, nth, tab, ◌⊕◌, ◌⊗◌}
use Rattle.numbers.proofs.Lists.{get_d-tab, tab-same}
use Rattle.workspace.specs.Readings.{vec, nums}
use Rattle.workspace.proofs.Readings.{length-vec}
use Rattle.search.proofs.Laying.{size, length-laid, laid-below, laid-above, vec-below, vec-above, Apart, vec-apart, laid-again}
use Rattle.search.proofs.Layouts.{bounds, seven-length, is_one, iterate-SL, iterate-B, iterate-PE, iterate-MU, iterate-PX, iterate-PV}
use Rattle.search.proofs.Relaid.{more, iterate-again}
use Rattle.search.specs.Setup.{Setup, are_kinds, Ending}
use Rattle.search.specs.Turn.{Iterate, point_of, along, clip}
use Rattle.search.specs.Written.{begun, taken}
use Rattle.search.specs.Machine.{Machine, ended}
use Rattle.search.specs.Layout.{scheme_of, bit, fronted, laid, emptied, setup_in, new_in, iterate_in, line_in, goal_in, report_in, new_floats, iterate_floats, goal_floats, machine_floats, seven, machine_words, FitsIterate}
use Rattle.search.specs.inner.Work.{Ready, Turned}

-- ---- words

fronted-over : {A : Type 0} (v w : List A) (o : ℕ) (x : List A) → o + length x ≤ length v → fronted v (laid o x w) ≡ fronted v w
unfolding fronted laid
fronted-over [] w zero [] h = refl
fronted-over [] w zero (y ∷ x) h = absurd (omega arith)
fronted-over [] w (suc o) x h = absurd (omega arith)
fronted-over (a ∷ v) [] zero [] h = refl
fronted-over (a ∷ v) [] zero (y ∷ x) h = refl
fronted-over (a ∷ v) [] (suc o) x h = refl
fronted-over (a ∷ v) (b ∷ w) zero [] h = refl
fronted-over {A} (a ∷ v) (b ∷ w) zero (y ∷ x) h = ap (λ (t : List A). a ∷ t) (fronted-over v w zero x (omega arith))
fronted-over {A} (a ∷ v) (b ∷ w) (suc o) x h = ap (λ (t : List A). a ∷ t) (fronted-over v w o x (omega arith))

-- the seven words of a state are written over what was there
pub words-over : (M : Machine) (u : List ℕ) (o : ℕ) (x : List ℕ) → o + length x ≤ 7 → machine_words M (laid o x u) ≡ machine_words M u
unfolding machine_words laid
words-over M u o x h = let z = seven-length M in fronted-over (seven M) u o x (omega arith)

pub bit_word : (k : ℕ) → k ≤ 1 → bit (eqb k 1) ≡ k
bit_word zero h = refl
bit_word (suc zero) h = refl
bit_word (suc (suc k)) h = absurd (omega arith)

-- the words of the problem are as they were
pub record SameWords (u u' : List ℕ) : Type 0 where
  pub words : length u' ≡ length u
  pub same : (i : ℕ) → 7 ≤ i → nth u' i ≡ nth u i

pub words_same : (u : List ℕ) → SameWords u u
words_same u = record { words = refl; same = λ i l. refl }

pub words-laid : (o : ℕ) (v u : List ℕ) → o + length v ≤ 7 → SameWords u (laid o v u)
words-laid o v u h = record { words = length-laid o v u; same = λ i l. laid-above o v u i 0 (omega arith) }

-- ---- the problem

-- the places of the problem are as they were
pub record SameProblem (f f' : List Float) : Type 0 where
  pub floats : length f' ≡ length f
  pub ftol : at f' 0 ≡ at f 0
  pub bounds : (i : ℕ) → 16 ≤ i → i < 48 → at f' i ≡ at f i

pub problem-same : (f : List Float) → SameProblem f f
problem-same f = record { floats = refl; ftol = refl; bounds = λ i h l. refl }

pub problem-laid : (f g : List Float) (o : ℕ) (v : List Float) → 48 ≤ o → SameProblem f g → SameProblem f (laid o v g)
problem-laid f g o v h s =
    record {
      floats = length-laid o v g ∙ s.floats;
      ftol = laid-below o v g 0 nan (omega arith) ∙ s.ftol;
      bounds = λ i a b. laid-below o v g i nan (omega arith) ∙ s.bounds i a b;
    }

pub problem-low : (f g : List Float) (o : ℕ) (v : List Float) → 1 ≤ o → o + length v ≤ 16 → SameProblem f g → SameProblem f (laid o v g)
problem-low f g o v h l s =
    record {
      floats = length-laid o v g ∙ s.floats;
      ftol = laid-below o v g 0 nan (omega arith) ∙ s.ftol;
      bounds = λ i a b. laid-above o v g i nan (omega arith) ∙ s.bounds i a b;
    }

pub problem-iterate : (s : Iterate) (f : List Float) → SameProblem f (iterate_floats s f)
problem-iterate s f =
    problem-laid f _ 176 _ (omega arith) (problem-laid f _ 720 _ (omega arith) (problem-laid f _ 80 _ (omega arith)
    (problem-laid f _ 96 _ (omega arith) (problem-laid f _ 48 _ (omega arith) (problem-laid f _ 128 _ (omega arith) (problem-same f))))))

pub setup-after : (f f' : List Float) (u u' : List ℕ) → nth u 8 ≤ 16 → SameProblem f f' → SameWords u u' → setup_in f' u' ≡ setup_in f u
unfolding vec nums
setup-after f f' u u' l s w =
    let e₈ = w.same 8 (omega arith) in
    let e₉ = w.same 9 (omega arith) in
    let e₁₀ = w.same 10 (omega arith) in
    let k : nums 16 (nth u' 9) u' ≡ nums 16 (nth u 9) u = ap (λ t. nums 16 t u') e₉ ∙ tab-same (nth u 9) _ _ (λ i h. w.same (16 + i) (omega arith)) in
    let x : vec 16 (nth u' 8) f' ≡ vec 16 (nth u 8) f = ap (λ t. vec 16 t f') e₈ ∙ tab-same (nth u 8) _ _ (λ i h. s.bounds (16 + i) (omega arith) (omega arith)) in
    let y : vec 32 (nth u' 8) f' ≡ vec 32 (nth u 8) f = ap (λ t. vec 32 t f') e₈ ∙ tab-same (nth u 8) _ _ (λ i h. s.bounds (32 + i) (omega arith) (omega arith)) in
    λ i. record { n = e₈ i; m = e₉ i; kinds = k i; lower = x i; upper = y i; ftol = s.ftol i; scheme = scheme_of (e₁₀ i) }

pub ready-after : (n m : ℕ) (f f' : List Float) (u u' : List ℕ) → Ready n m f u → length f' ≡ length f → SameWords u u' → nth u' 3 ≤ 1 → Ready n m f' u'
unfolding nums
ready-after n m f f' u u' h e w l =
    record {
      floats = e ∙ h.floats;
      words = w.words ∙ h.words;
      some = h.some;
      few = h.few;
      constraints = h.constraints;
      variables = w.same 8 (omega arith) ∙ h.variables;
      functions = w.same 9 (omega arith) ∙ h.functions;
      kinds = ap are_kinds (tab-same m _ _ (λ i q. w.same (16 + i) (omega arith))) ∙ h.kinds;
      fresh = l;
    }

-- ---- one transition behind another

pub turned-after : (p p' : Setup) (M M' : Machine) (f f' f'' : List Float) (u u' u'' : List ℕ) → Turned p' M' f' f'' u' u'' → p' ≡ p → M' ≡ M
    → machine_floats p M f' ≡ machine_floats p M f → machine_words M u' ≡ machine_words M u → Turned p M f f'' u u''
turned-after p p' M M' f f' f'' u u' u'' t a b c d =
    record { floats = t.floats ∙ (λ i. machine_floats (a i) (b i) f') ∙ c; words = t.words ∙ (λ i. machine_words (b i) u') ∙ d }

-- ---- readings

pub iterate-apart : (n m : ℕ) (p : ℕ) (v f : List Float) (u u' : List ℕ) → Apart 48 n p (length v) → Apart 128 (suc m) p (length v) → Apart 176 (suc m * n) p (length v)
    → Apart 720 (n * n) p (length v) → Apart 80 m p (length v) → Apart 96 m p (length v) → nth u' 3 ≡ nth u 3 → iterate_in n m (laid p v f) u' ≡ iterate_in n m f u
iterate-apart n m p v f u u' a b c d e g h = λ i. record {
  point = record { x = vec-apart 48 n p v f a i; values = vec-apart 128 (suc m) p v f b i };
  slopes = vec-apart 176 (suc m * n) p v f c i;
  b = vec-apart 720 (n * n) p v f d i;
  fresh = eqb (h i) 1;
  penalty = vec-apart 80 m p v f e i;
  multipliers = vec-apart 96 m p v f g i;
}

pub goal-apart : (n m : ℕ) (f f' : List Float) (u u' : List ℕ) → iterate_in n m f' u' ≡ iterate_in n m f u → nth u' 4 ≡ nth u 4 → goal_in n m f' u' ≡ goal_in n m f u
goal-apart n m f f' u u' e h = λ i. cond (eqb (h i) 0) begun (taken (e i))

pub new_apart : (n m : ℕ) (p : ℕ) (v f : List Float) → Apart 112 n p (length v) → Apart 152 (suc m) p (length v) → new_in n m (laid p v f) ≡ new_in n m f
new_apart n m p v f a b = λ i. point_of (vec-apart 112 n p v f a i) (vec-apart 152 (suc m) p v f b i)

-- an iterate that was laid is read
pub iterate-read : (n m : ℕ) (s : Iterate) (f : List Float) (u : List ℕ) → n ≤ 16 → m ≤ 16 → FitsIterate n m s → length f ≡ 1024 → nth u 3 ≡ bit s.fresh → iterate_in n m (iterate_floats s f) u ≡ s
iterate-read n m s f u l k h z e =
    let B = bounds n m l k in
    λ i. record {
      point = record { x = iterate-PX n m l k B.0 B.1 s f h z i; values = iterate-PV n m l k B.0 B.1 s f h z i };
      slopes = iterate-SL n m l k B.0 B.1 s f h z i;
      b = iterate-B n m l k B.0 B.1 s f h z i;
      fresh = (ap (λ t. eqb t 1) e ∙ is_one n m l k B.0 B.1 s.fresh) i;
      penalty = iterate-PE n m l k B.0 B.1 s f h z i;
      multipliers = iterate-MU n m l k B.0 B.1 s f h z i;
    }

-- ---- states whose parts are read

-- what slopes at the new point are for: an iterate that stands there, or the new point where it is reported
module _ (p : Setup) (f : List Float) (u : List ℕ) (l : p.n ≤ 16) (k : p.m ≤ 16) (z : length f ≡ 1024) where
  abbrev pub goal_by : Bool → List Float
  goal_by t = goal_floats p (cond t begun (taken (iterate_in p.n p.m f u))) (new_in p.n p.m f) f

  goal-again : goal_by false ≡ f
  goal-again = let B = bounds p.n p.m l k in iterate-again p.n p.m f u l k B.0 B.1 z

  pub goal-length : (t : Bool) → length (goal_by t) ≡ 1024
  goal-length true = size _ _ _ _ (size _ _ _ _ (size _ _ _ _ z))
  goal-length false = ap length goal-again ∙ z

  -- what is apart from the report is read as it was
  pub goal-vec : (t : Bool) (o c : ℕ) → Apart o c 96 p.m → Apart o c 48 p.n → Apart o c 128 (suc p.m) → vec o c (goal_by t) ≡ vec o c f
  goal-vec true o c a b d =
      vec-apart o c 96 _ _ (subst (λ (y : ℕ). Apart o c 96 y) (sym (length-replicate p.m +0)) a)
      ∙ vec-apart o c 48 _ _ (subst (λ (y : ℕ). Apart o c 48 y) (sym (length-vec 112 p.n f)) b)
      ∙ vec-apart o c 128 _ _ (subst (λ (y : ℕ). Apart o c 128 y) (sym (length-vec 152 (suc p.m) f)) d)
  goal-vec false o c a b d = ap (λ (y : List Float). vec o c y) goal-again

  -- and so laid there again
  pub goal-more : (t : Bool) (o c : ℕ) (g : List Float) → g ≡ goal_by t → Apart o c 96 p.m → Apart o c 48 p.n → Apart o c 128 (suc p.m) → o + c ≤ 1024 → laid o (vec o c f) g ≡ goal_by t
  goal-more t o c g e a b d h =
      let y = goal-length t in
      ap (λ (v : List Float). laid o v g) (sym (goal-vec t o c a b d)) ∙ more o c (goal_by t) g e (omega arith)

  -- the new point is
  pub due-again : (t : Bool) → new_floats (new_in p.n p.m f) (goal_by t) ≡ goal_by t
  due-again t =
      goal-more t 112 p.n _
      (goal-more t 152 (suc p.m) _ refl (inr (omega arith)) (inr (omega arith)) (inr (omega arith)) (omega arith))
      (inr (omega arith)) (inr (omega arith)) (inl (omega arith)) (omega arith)

pub emptied-length : (f : List Float) → length (emptied f) ≡ length f
unfolding emptied
emptied-length f = length-laid 1 _ _ ∙ length-laid 64 _ _ ∙ length-laid 112 _ _ ∙ length-laid 152 _ _

-- an end that reports what stands: the rest is emptied
pub ended_here : (p : Setup) (e : Ending) (n m : ℕ) (f : List Float) → n ≤ 16 → m ≤ 16 → length f ≡ 1024 → machine_floats p (ended e (report_in n m f)) f ≡ emptied f
unfolding machine_floats emptied
ended_here p e n m f l k z =
    let a : length (replicate 15 +0) ≡ 15 = length-replicate 15 +0 in
    let b : length (replicate 32 +0) ≡ 32 = length-replicate 32 +0 in
    let c : length (replicate 16 +0) ≡ 16 = length-replicate 16 +0 in
    let E = emptied f in
    let y : length E ≡ 1024 = emptied-length f ∙ z in
    let r₁ : vec 96 m E ≡ vec 96 m f = vec-above 96 m 1 _ _ (omega arith) ∙ vec-above 96 m 64 _ _ (omega arith) ∙ vec-below 96 m 112 _ _ (omega arith) ∙ vec-below 96 m 152 _ _ (omega arith) in
    let r₂ : vec 48 n E ≡ vec 48 n f = vec-above 48 n 1 _ _ (omega arith) ∙ vec-below 48 n 64 _ _ (omega arith) ∙ vec-below 48 n 112 _ _ (omega arith) ∙ vec-below 48 n 152 _ _ (omega arith) in
    let r₃ : vec 128 (suc m) E ≡ vec 128 (suc m) f = vec-above 128 (suc m) 1 _ _ (omega arith) ∙ vec-above 128 (suc m) 64 _ _ (omega arith) ∙ vec-above 128 (suc m) 112 _ _ (omega arith) ∙ vec-below 128 (suc m) 152 _ _ (omega arith) in
    (λ i. laid 96 (sym r₁ i) (laid 48 (sym r₂ i) (laid 128 (sym r₃ i) E)))
    ∙ more 96 m E _ (more 48 n E _ (laid-again 128 (suc m) E (omega arith)) (omega arith)) (omega arith)

-- the line with another alpha
pub line-laid : (α : Float) (f : List Float) → 4 ≤ length f → laid 1 (α ∷ at f 2 ∷ at f 3 ∷ []) f ≡ laid 1 (α ∷ []) f
unfolding laid fronted
line-laid α [] h = absurd (omega arith)
line-laid α (a ∷ []) h = absurd (omega arith)
line-laid α (a ∷ b ∷ []) h = absurd (omega arith)
line-laid α (a ∷ b ∷ c ∷ []) h = absurd (omega arith)
line-laid α (a ∷ b ∷ c ∷ d ∷ f) h = refl

-- the point of a trial, entry by entry
pub along-in : (n m : ℕ) (f : List Float) (u : List ℕ) (α : Float) → nth u 8 ≡ n
    → tab n (λ i. clip (at f (16 + i)) (at f (32 + i)) (at f (48 + i) ⊕ α ⊗ at f (64 + i))) ≡ along (setup_in f u) (iterate_in n m f u) (line_in n f) α
unfolding along vec
along-in n m f u α e =
    rw e (tab-same n _ _ (λ i l.
    let a : at f (16 + i) ≡ at (tab n (λ k. at f (16 + k))) i = sym (get_d-tab n _ nan i l) in
    let b : at f (32 + i) ≡ at (tab n (λ k. at f (32 + k))) i = sym (get_d-tab n _ nan i l) in
    let c : at f (48 + i) ≡ at (tab n (λ k. at f (48 + k))) i = sym (get_d-tab n _ nan i l) in
    let d : at f (64 + i) ≡ at (tab n (λ k. at f (64 + k))) i = sym (get_d-tab n _ nan i l) in
    λ t. clip (a t) (b t) (c t ⊕ α ⊗ d t)))
