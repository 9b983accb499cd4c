-- What is found, from its parts: the tests, the tables, and the whole.
use mathlib.Core.Path.{◌≡◌, refl, ap, ◌∙◌}
use mathlib.Core.Bool.{cond, ◌&&◌}
use mathlib.Core.List.{List, [], ◌++◌, append-nil}
use Prim.Native.Nat.{ℕ, ◌+◌, ◌-◌, ◌*◌, ◌≤◌, ◌<◌}
use native.Mathlib.Omega.{arith}
use lib.ListN.{length, set, take, length-set, get_or-append}
use lib.Seq.{get_or-append-add, get_or-set_same, get_or-set_other}
use lib.Ieee.{Float, nan}
use Rattle.numbers.specs.Numbers.{at, nth, tab}
use Rattle.numbers.proofs.Lists.{length-tab, get_d-tab, tab-same}
use Rattle.workspace.specs.Tables.{Answer, done, refused}
use Rattle.workspace.specs.Tables.{Outcome}
use Rattle.std.specs.Prelude.{Ok}
use Rattle.workspace.specs.declared.Refusal.{Refusal}
use Rattle.interval.specs.Intervals.{is_finite}
use Rattle.certain.specs.Bound.{closes, keeps, kept}
use Rattle.settle.specs.Settle.{Measured, Settled, measured, is_kept, settled}
use Rattle.settle_call.specs.Promise.{Bounded}
use Rattle.std.specs.Prelude.{Ok, Err}
use Rattle.suspect.specs.Suspect.{Tests, shares, new_spreads, tests, stills, still_of, tests_from, suspect}
use Rattle.suspect.specs.declared.Finding.{Finding}
use Rattle.suspect_call.specs.Promise.{numbers_of}
use Rattle.day_volumes.specs.Posed.{is_stock, balance_row, limit_row, tolerance_of, spreads, values, balances, posed}
use Rattle.day_volumes.specs.Found.{laid, row_times, flag, no_figures, no_signs, Found, tested, found, figures, signs}
use Rattle.day_volumes.specs.Found as FoundBy
use Rattle.day_volumes.specs.Promise.{Finds}
use Rattle.day_volumes.specs.inner.Work.{LimitsIn, SettledTo, TestedTo, all_figures, test_signs, within_signs, stills_of, TestsTold, FoundPosed}
use Rattle.day_volumes.proofs.Laid.{length-laid, laid_as, laid-two, figures-length, signs-length}

-- ---- which items stand still

pub stills-are : (n : ℕ) (z : List ℕ) (v x s : List Float) (u u' : List ℕ) → u ≡ stills n v x s → u' ≡ tab n (λ i. cond (is_stock z i) 0 (nth u i)) → u' ≡ stills_of n z v x s
unfolding stills
stills-are n z v x s u u' e h =
    h ∙ tab-same n _ _ (λ i l. ap (λ (k : ℕ). cond (is_stock z i) 0 k) (ap (λ (w : List ℕ). nth w i) e ∙ get_d-tab n (λ i. still_of (at v i) (at x i) (at s i)) 0 i l))

-- ---- the numbers of the tests, one after the other

module _ (n m : ℕ) (v s c : List Float) (z : List ℕ) where
  shares-length : length (suspect n m v s c z).shares ≡ n
  unfolding suspect tests_from shares
  shares-length = length-tab n _

  spreads-length : length (suspect n m v s c z).new_spreads ≡ n
  unfolding suspect tests_from new_spreads
  spreads-length = length-tab n _

  tests-length : length (suspect n m v s c z).tests ≡ n
  unfolding suspect tests_from tests
  tests-length = length-tab n _

module _ (n : ℕ) (a b c : List Float) (la : length a ≡ n) (lb : length b ≡ n) where
  first : (i : ℕ) → i < n → at (a ++ (b ++ (c ++ []))) (0 + i * 1) ≡ at a i
  first i h = let e : 0 + i * 1 ≡ i = omega arith in rw e (get_or-append a (b ++ (c ++ [])) nan i (omega arith))

  second : (i : ℕ) → i < n → at (a ++ (b ++ (c ++ []))) (n + i * 1) ≡ at b i
  second i h =
      let e : n + i * 1 ≡ length a + i = omega arith in
      rw e (get_or-append-add a (b ++ (c ++ [])) i nan ∙ get_or-append b (c ++ []) nan i (omega arith))

  third : (i : ℕ) → i < n → at (a ++ (b ++ (c ++ []))) (n + n + i * 1) ≡ at c i
  third i h =
      let e : n + n + i * 1 ≡ length a + (length b + i) = omega arith in
      rw e (get_or-append-add a (b ++ (c ++ [])) (length b + i) nan ∙ get_or-append-add b (c ++ []) i nan ∙ ap (λ (l : List Float). at l i) (append-nil c))

-- ---- the tests told

pub tests-told : (n m q : ℕ) (z : List ℕ) (f values balances x : List Float) (far : Float) (still : List ℕ) (d : Finding) (tests : List Float) (marks : List ℕ) (t t' : List Float) (s s' : List ℕ)
    → still ≡ stills_of n z values x (spreads n f) → TestedTo (suspect n m values (spreads n f) balances still) d tests marks → t ≡ no_figures → s ≡ no_signs
    → t' ≡ all_figures n m q f values x tests far d.misfit t → s' ≡ test_signs n marks d.freedom d.agree s → TestsTold n m q z f values balances x far t' s'
tests-told n m q z f values balances x far still d tests marks t t' s s' e k bt bs g h =
    record {
      the_figures = g ∙ rw (k.told, k.finding, bt, e) refl;
      the_signs = h ∙ rw (k.mark, k.finding, bs, e) refl;
    }

-- ---- what is posed

module _ (n m p q : ℕ) (z : List ℕ) (f values balances limits least : List Float) where
  abbrev day : Measured
  day = measured n m p values (spreads n f) balances limits least

  abbrev tests_of : List Float → Tests
  tests_of x = suspect n m values (spreads n f) balances (stills_of n z values x (spreads n f))

  figures-are : (s : Settled) → all_figures n m q f values s.x (numbers_of (tests_of s.x)) s.far (tests_of s.x).finding.misfit no_figures ≡ figures m q f (tested z day s)
  unfolding figures FoundBy.stills
  figures-are s =
      let st = stills_of n z values s.x (spreads n f) in
      let t = tests_of s.x in
      let la = shares-length n m values (spreads n f) balances st in
      let lb = spreads-length n m values (spreads n f) balances st in
      rw (
        laid_as nan 64 n _ (λ i. at t.shares i) _ (first n t.shares t.new_spreads t.tests la lb),
        laid_as nan 48 n _ (λ i. at t.tests i) _ (third n t.shares t.new_spreads t.tests la lb),
        laid_as nan 32 n _ (λ i. at t.new_spreads i) _ (second n t.shares t.new_spreads t.tests la lb),
      )
      refl

  signs-are : m ≤ 16 → q ≤ 16 → (s : Settled) → within_signs n m p q balances limits least s.x (tolerance_of f) (test_signs n (tests_of s.x).marks (tests_of s.x).finding.freedom (tests_of s.x).finding.agree no_signs) ≡ signs m q f (tested z day s)
  unfolding signs FoundBy.stills
  signs-are hm hq s =
      let t = tolerance_of f in
      let a = (tests_of s.x).finding.freedom in
      let b = flag (tests_of s.x).finding.agree in
      let g : ℕ → ℕ = λ j. flag (closes n j balances s.x t) in
      let h : ℕ → ℕ = λ j. flag (keeps n (p - q + j) limits least s.x t) in
      let u = laid 0 0 n (λ i. nth (tests_of s.x).marks i) no_signs in
      ap (λ (v : List ℕ). set v 50 (flag (is_finite t && kept n m p balances limits least s.x t)))
      (ap (λ (v : List ℕ). laid 0 32 q h v) (laid-two 16 m g u a b (omega arith)) ∙ laid-two 32 q h (laid 0 16 m g u) a b (omega arith))

  pub posed-done : m ≤ 16 → q ≤ 16 → (a : Answer Settled) (b : Bounded) (x x' : List Float) (far : Float) (t' : List Float) (s₁ s' : List ℕ) → a ≡ settled day (tolerance_of f) → SettledTo a b x x' → b ≡ Ok far
      → TestsTold n m q z f values balances x' far t' s₁ → s' ≡ within_signs n m p q balances limits least x' (tolerance_of f) s₁ → FoundPosed z f day q (Ok tt) t' s'
  posed-done hm hq (done s) b x x' far t' s₁ s' ea k eb g h =
      let o = k.the_outcome in
      let ef : far ≡ s.far = cc in
      let ex : x' ≡ s.x = k.the_volumes in
      let gf : t' ≡ figures m q f (tested z day s) = g.the_figures ∙ rw (ef, ex) (figures-are s) in
      let gs : s' ≡ signs m q f (tested z day s) = h ∙ rw (g.the_signs, ex) (signs-are hm hq s) in
      record { the_outcome = rw (← ea) refl; the_figures = rw (← ea) gf; the_signs = rw (← ea) gs }
  posed-done hm hq (refused r) b x x' far t' s₁ s' ea k eb g h = let o : ◌≡◌ {A = Bounded} b (Err r) = k.the_outcome in absurd (let w : ⊥ = cc in w)

  pub posed-refused : (a : Answer Settled) (b : Bounded) (r : Refusal) (x x' : List Float) (t : List Float) (s : List ℕ) → a ≡ settled day (tolerance_of f) → SettledTo a b x x' → b ≡ Err r
      → t ≡ no_figures → s ≡ no_signs → FoundPosed z f day q (Err r) t s
  posed-refused (done s') b r x x' t s ea k eb bt bs = let u : ◌≡◌ {A = Bounded} b (Ok s'.far) = k.the_outcome in absurd (let w : ⊥ = cc in w)
  posed-refused (refused r') b r x x' t s ea k eb bt bs =
      let u : ◌≡◌ {A = Bounded} b (Err r') = k.the_outcome in
      let e : r ≡ r' = cc in
      record { the_outcome = rw (← ea) (ap Err e); the_figures = rw (← ea) bt; the_signs = rw (← ea) bs }

-- ---- the whole

pub found-whole : (n m q : ℕ) (z : List ℕ) (f v b : List Float) (p e : ℕ) (rows least' : List Float) (o : Outcome) (t : List Float) (s : List ℕ) → v ≡ values n z f → b ≡ balances n m f → LimitsIn n q z f p rows least'
    → e ≡ p * n → FoundPosed z f (measured n m p v (spreads n f) b (take e rows) (take p least')) q o t s → Finds n m q z f o t s
unfolding found
found-whole n m q z f v b p e rows least' o t s ev eb k ee g =
    let d : measured n m p v (spreads n f) b (take e rows) (take p least') ≡ posed n m q z f = rw (ev, eb, ee, k.the_rows, k.the_least, k.count) refl in
    let w : FoundPosed z f (posed n m q z f) q o t s = rw d at g in
    record { the_outcome = w.the_outcome; the_figures = w.the_figures; the_signs = w.the_signs }

-- ---- what the verdict reads

module _ (m q : ℕ) (f : List Float) (r : Found) where
  -- the marks, and what is within
  abbrev within : List ℕ
  within =
      laid 0 32 q (λ j. flag (keeps r.day.n (r.day.p - q + j) r.day.limits r.day.least r.volumes.x (tolerance_of f)))
      (laid 0 16 m (λ j. flag (closes r.day.n j r.day.balances r.volumes.x (tolerance_of f)))
      (laid 0 0 r.day.n (λ i. nth r.tests.marks i) no_signs))

  within-length : length within ≡ 51
  within-length = simp length-laid signs-length

  pub kept-sign : nth (signs m q f r) 50 ≡ flag (is_finite (tolerance_of f) && is_kept r.day (tolerance_of f) r.volumes)
  unfolding signs
  kept-sign =
      let a = r.tests.finding.freedom in let b = flag r.tests.finding.agree in
      let l : length (set (set within 48 a) 49 b) ≡ 51 = simp length-set within-length in
      get_or-set_same (set (set within 48 a) 49 b) 50 _ 0 (omega (arith, l))

  pub agree-sign : nth (signs m q f r) 49 ≡ flag r.tests.finding.agree
  unfolding signs
  agree-sign =
      let a = r.tests.finding.freedom in let b = flag r.tests.finding.agree in
      let l : length (set within 48 a) ≡ 51 = simp length-set within-length in
      get_or-set_other (set (set within 48 a) 49 b) 50 49 _ 0 (λ (e : 49 ≡ 50). let y : ⊥ = omega arith in y) ∙ get_or-set_same (set within 48 a) 49 b 0 (omega (arith, l))

  -- the figures of items, balances and limits
  abbrev told : List Float
  told =
      laid nan 112 q (λ j. row_times r.day.n f (limit_row j) r.volumes.x)
      (laid nan 96 m (λ j. row_times r.day.n f (balance_row j) r.volumes.x)
      (laid nan 80 m (λ j. row_times r.day.n f (balance_row j) r.day.values)
      (laid nan 64 r.day.n (λ i. at r.tests.shares i)
      (laid nan 48 r.day.n (λ i. at r.tests.tests i)
      (laid nan 32 r.day.n (λ i. at r.tests.new_spreads i)
      (laid nan 16 r.day.n (λ i. at r.volumes.x i)
      (laid nan 0 r.day.n (λ i. at r.day.values i) no_figures)))))))

  told-length : length told ≡ 130
  told-length = simp length-laid figures-length

  pub bound-figure : at (figures m q f r) 128 ≡ r.volumes.far
  unfolding figures
  bound-figure =
      get_or-set_other (set told 128 r.volumes.far) 129 128 _ nan (λ (e : 128 ≡ 129). let y : ⊥ = omega arith in y)
      ∙ get_or-set_same told 128 r.volumes.far nan (omega (arith, told-length))
