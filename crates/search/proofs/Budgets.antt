-- The loop is its own body, a larger budget changes no earlier question, and no more than the budget is spent.
use Prim.Native.Nat.{ℕ, zero, suc, ◌≤◌, ◌<◌}
use mathlib.Core.Path.{◌≡◌, refl, sym, ap, subst, fun_ext}
use mathlib.Core.Bool.{Bool, true, false, cond}
use mathlib.Core.List.{List}
use native.Mathlib.Omega.{arith}
use lib.Ieee.{Float}
use Rattle.search.specs.Setup.{Setup, Report, Question, values, Ending, converged, infeasible, exhausted, nonfinite, are_finite}
use Rattle.search.specs.Turn.{clipped, point_of, blank}
use Rattle.search.specs.Written.{Script, ends, asks, due, turns, loop, written, Transcript, play}
use Rattle.search.specs.Claims.{Unrolls, BeginsEnd, Begins, LargerBudget, is_charged, spent, Charged}
use Rattle.search.proofs.Agree.{IsQuiet, Relation, bodies, fueled, starts}

-- ---- equal scripts, under equal budgets

same-dues : (b : ℕ) (r : Report) (q : Question) (k k' : ℕ → List Float → Script) → ((c : ℕ) → c < b → (v : List Float) → k c v ≡ k' c v)
    → due ends b r (λ c. asks q (k c)) ≡ due ends b r (λ c. asks q (k' c))
same-dues zero r q k k' h = refl
same-dues (suc b) r q k k' h = ap (asks q) (fun_ext (h b (omega arith)))

abbrev equal : Relation
equal =
    record {
      On = λ b c. b ≡ c;
      Rel = λ b c s t. s ≡ t;
      alike = λ b c e r quiet. refl;
      asking = λ b c q k k' free h. ap (asks q) (fun_ext h);
      paying = λ b b' r q k k' paid e h.
          subst (λ t. due ends b r (λ c. asks q (k c)) ≡ due ends t r (λ c. asks q (k' c))) e (same-dues b r q k k' (λ c l. h c c refl l (subst (λ t. c < t) e l)));
    }

pub unrolls : Unrolls
unfolding loop turns
unrolls p zero s = bodies equal p s zero zero _ _ refl (λ c c' o l l' t. absurd (omega arith))
unrolls p (suc b) s =
    bodies equal p s (suc b) (suc b) (turns b p) (loop p) refl (λ c c' o l l' t. fueled equal b p t c c' o (omega arith))

-- ---- a script that begins another, under a larger budget

begins-itself : (e : Ending) (r : Report) → BeginsEnd e r (ends e r)
begins-itself converged r = refl
begins-itself infeasible r = refl
begins-itself exhausted r = tt
begins-itself nonfinite r = refl

begins-due : (b b' : ℕ) (r : Report) (q : Question) (k k' : ℕ → List Float → Script) → b ≤ b'
    → ((c c' : ℕ) → c ≤ c' → c < b → c' < b' → (v : List Float) → Begins (k c v) (k' c' v))
    → Begins (due ends b r (λ c. asks q (k c))) (due ends b' r (λ c. asks q (k' c)))
begins-due zero b' r q k k' o h = tt
begins-due (suc b) zero r q k k' o h = absurd (omega arith)
begins-due (suc b) (suc b') r q k k' o h = (k' b', refl, h b b' (omega arith) (omega arith) (omega arith))

abbrev begins : Relation
begins =
    record {
      On = λ b c. b ≤ c;
      Rel = λ b c s t. Begins s t;
      alike = λ b c e r quiet. begins-itself e r;
      asking = λ b c q k k' free h. (k', refl, h);
      paying = λ b b' r q k k' paid o h. begins-due b b' r q k k' o h;
    }

either-begins : (t : Bool) (a a' : Script) (r : Report) → Begins a a' → Begins (cond t a (ends nonfinite r)) (cond t a' (ends nonfinite r))
either-begins true a a' r h = h
either-begins false a a' r h = refl

pub larger-budget : LargerBudget
unfolding written
larger-budget p x b c o =
    let y = clipped p x in
    either-begins (are_finite x) _ _ _
    (begins-due b c _ (values y) _ _ o (λ d d' od l l' v. either-begins (are_finite v) _ _ _ (starts begins p (blank p (point_of y v)) (point_of y v) d d' od)))

-- ---- what is spent

-- the budget left is spent where the run ends as exhausted
abbrev SpentAt : Ending → ℕ → Type 0
SpentAt converged b = Unit {0}
SpentAt infeasible b = Unit {0}
SpentAt exhausted b = b ≡ 0
SpentAt nonfinite b = Unit {0}

-- one is taken from the budget, where one is charged
abbrev Taken : Bool → ℕ → (ℕ → Type 0) → Type 0
Taken false b k = k b
Taken true zero k = ⊥
Taken true (suc b) k = k b

-- a script stays within the budget b
abbrev Within : Script → ℕ → Type 0
Within (ends e r) b = SpentAt e b
Within (asks q k) b = Taken (is_charged q) b (λ c. (v : List Float) → Within (k v) c)

within-quiet : (b : ℕ) (e : Ending) (r : Report) → IsQuiet e → Within (ends e r) b
within-quiet b converged r quiet = tt
within-quiet b infeasible r quiet = tt
within-quiet b exhausted r quiet = absurd quiet
within-quiet b nonfinite r quiet = tt

within-free : (b : ℕ) (q : Question) (k : List Float → Script) → is_charged q ≡ false → ((v : List Float) → Within (k v) b) → Within (asks q k) b
within-free b q k free h = subst (λ t. Taken t b (λ c. (v : List Float) → Within (k v) c)) (sym free) h

within-due : (b : ℕ) (r : Report) (q : Question) (k : ℕ → List Float → Script) → is_charged q ≡ true
    → ((c : ℕ) → c < b → (v : List Float) → Within (k c v) c) → Within (due ends b r (λ c. asks q (k c))) b
within-due zero r q k paid h = refl
within-due (suc b) r q k paid h = subst (λ t. Taken t (suc b) (λ c. (v : List Float) → Within (k b v) c)) (sym paid) (h b (omega arith))

abbrev within : Relation
within =
    record {
      On = λ b c. b ≡ c;
      Rel = λ b c s t. Within s b;
      alike = λ b c e r quiet. within-quiet b e r quiet;
      asking = λ b c q k k' free h. within-free b q k free h;
      paying = λ b b' r q k k' paid e h. within-due b r q k paid (λ c l v. h c c refl l (subst (λ t. c < t) e l) v);
    }

either-within : (t : Bool) (a : Script) (r : Report) (b : ℕ) → Within a b → Within (cond t a (ends nonfinite r)) b
either-within true a r b h = h
either-within false a r b h = tt

written-within : (p : Setup) (x : List Float) (b : ℕ) → Within (written p x b) b
unfolding written
written-within p x b =
    let y = clipped p x in
    either-within (are_finite x) _ _ b
    (within-due b _ (values y) _ refl (λ c l v. either-within (are_finite v) _ _ c (starts within p (blank p (point_of y v)) (point_of y v) c c refl)))

-- what a transcript spends
Spends : (b : ℕ) → Transcript → Type 0
Spends b t = (spent t.asked ≤ b) × (t.ending ≡ exhausted → spent t.asked ≡ b)

abbrev IsExhausted : Ending → Type 0
IsExhausted converged = ⊥
IsExhausted infeasible = ⊥
IsExhausted exhausted = Unit {0}
IsExhausted nonfinite = ⊥

ending-spends : (e : Ending) (b : ℕ) → SpentAt e b → e ≡ exhausted → 0 ≡ b
ending-spends converged b h i = absurd (subst IsExhausted (sym i) tt)
ending-spends infeasible b h i = absurd (subst IsExhausted (sym i) tt)
ending-spends exhausted b h i = sym h
ending-spends nonfinite b h i = absurd (subst IsExhausted (sym i) tt)

taken-spends : (t : Bool) (b n : ℕ) (e : Ending) (K : ℕ → Type 0) → Taken t b K → ((c : ℕ) → K c → (n ≤ c) × (e ≡ exhausted → n ≡ c))
    → (cond t (suc n) n ≤ b) × (e ≡ exhausted → cond t (suc n) n ≡ b)
taken-spends false b n e K h g = g b h
taken-spends true zero n e K h g = absurd h
taken-spends true (suc b) n e K h g = let i = g b h in (let j = i.0 in omega arith, λ x. ap suc (i.1 x))

spends : (a : Question → List Float) (s : Script) (b : ℕ) → Within s b → Spends b (play a s)
unfolding Spends play spent
spends a (ends e r) b h = (omega arith, ending-spends e b h)
spends a (asks q k) b h = taken-spends (is_charged q) b (spent (play a (k (a q))).asked) (play a (k (a q))).ending _ h (λ c w. spends a (k (a q)) c (w (a q)))

pub charged : Charged
unfolding Spends
charged p x b a = spends a (written p x b) b (written-within p x b)
