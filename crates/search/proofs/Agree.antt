-- Two runs of the loop agree, or one begins the other: one argument for both, over what is asked of such a relation.
use Prim.Native.Nat.{ℕ, zero, suc, ◌-◌, ◌≤◌, ◌<◌}
use mathlib.Core.Path.{◌≡◌, refl}
use mathlib.Core.Bool.{Bool, true, false, cond, not, ◌&&◌}
use mathlib.Core.List.{List, []}
use native.Mathlib.Omega.{arith}
use lib.ListN.{set}
use lib.Ieee.{Float, le}
use Rattle.numbers.specs.Numbers.{one, at}
use Rattle.workspace.specs.Tables.{Answer, done, refused}
use Rattle.step.specs.Step.{Step}
use Rattle.search.specs.Setup.{Setup, Scheme, told, forward, central, Point, Report, Question, values, slopes, single, Ending, converged, infeasible, exhausted, nonfinite, are_finite, is_finite}
use Rattle.search.specs.Turn.{Iterate, Line, Opened, stop, go, point_of, report_of, reset, full_relaxation, is_still, stepped, factored, opened, backtracks, merit, is_enough, is_settled}
use Rattle.search.specs.Written.{Script, ends, asks, due, pay, sound, reach, row_done, values_at, value_at, lower_at, row_at, rows_at, slopes_by, slopes_at, Goal, begun, taken, arrive, trials, onward, turn, body, turns, loop}
use Rattle.search.specs.Claims.{is_charged}

-- an end other than that of the budget
abbrev pub IsQuiet : Ending → Type 0
IsQuiet converged = Unit {0}
IsQuiet infeasible = Unit {0}
IsQuiet exhausted = ⊥
IsQuiet nonfinite = Unit {0}

-- scripts are related, each under its budget; what is asked of that
pub record Relation : Type 1 where
  pub On : ℕ → ℕ → Type 0
  pub Rel : (b b' : ℕ) → Script → Script → Type 0
  pub alike : (b b' : ℕ) (e : Ending) (r : Report) → IsQuiet e → Rel b b' (ends e r) (ends e r)
  pub asking : (b b' : ℕ) (q : Question) (k k' : List Float → Script) → is_charged q ≡ false → ((v : List Float) → Rel b b' (k v) (k' v)) → Rel b b' (asks q k) (asks q k')
  pub paying : (b b' : ℕ) (r : Report) (q : Question) (k k' : ℕ → List Float → Script) → is_charged q ≡ true → On b b'
      → ((c c' : ℕ) → On c c' → c < b → c' < b' → (v : List Float) → Rel c c' (k c v) (k' c' v))
      → Rel b b' (due ends b r (λ c. asks q (k c))) (due ends b' r (λ c. asks q (k' c)))

-- a turn that does not go on ends otherwise than by its budget
abbrev QuietStop : Opened → Type 0
QuietStop (stop e s) = IsQuiet e
QuietStop (go s line) = Unit {0}

quiet-three : (t u : Bool) (s s₁ s₂ : Iterate) (line : Line) → QuietStop (cond t (stop infeasible s) (cond u (stop converged s₁) (go s₂ line)))
quiet-three true u s s₁ s₂ line = tt
quiet-three false true s s₁ s₂ line = tt
quiet-three false false s s₁ s₂ line = tt

quiet-stepped : (p : Setup) (s : Iterate) (a : Answer Step) → QuietStop (stepped p s a)
unfolding stepped
quiet-stepped p s (refused k) = tt
quiet-stepped p s (done t) = quiet-three (le full_relaxation t.relaxation) (is_still p s t) _ _ _ _

quiet-factored : (p : Setup) (s : Iterate) (a : Answer (List Float)) → QuietStop (factored p s a)
unfolding factored
quiet-factored p s (done l) = quiet-stepped p s _
quiet-factored p s (refused k) = quiet-stepped p (reset p s) _

quiet-opened : (p : Setup) (s : Iterate) → QuietStop (opened p s)
unfolding opened
quiet-opened p s = quiet-factored p s _

module _ (𝓡 : Relation) where
  open 𝓡 use {On, Rel, alike, asking, paying}

  either : (b b' : ℕ) (t : Bool) (a a' o o' : Script) → Rel b b' a a' → Rel b b' o o' → Rel b b' (cond t a o) (cond t a' o')
  either b b' true a a' o o' h g = h
  either b b' false a a' o o' h g = g

  sounds : (b b' : ℕ) (v : List Float) (r : Report) (k k' : Script) → Rel b b' k k' → Rel b b' (sound ends v r k) (sound ends v r k')
  sounds b b' v r k k' h = either b b' (are_finite v) k k' _ _ h (alike b b' _ r tt)

  reaches : (b b' : ℕ) (x : Float) (r : Report) (k k' : Script) → Rel b b' k k' → Rel b b' (reach ends x r k) (reach ends x r k')
  reaches b b' x r k k' h = either b b' (is_finite x) k k' _ _ h (alike b b' _ r tt)

  rows-done : (b b' w : ℕ) (g : List Float) (r : Report) (k k' : Script) → Rel b b' k k' → Rel b b' (row_done ends w g r k) (row_done ends w g r k')
  rows-done b b' zero g r k k' h = sounds b b' g r k k' h
  rows-done b b' (suc w) g r k k' h = h

  pays : (w b b' : ℕ) (r : Report) (z : List Float) (k k' : ℕ → List Float → Script) → On b b'
      → ((c c' : ℕ) → On c c' → c ≤ b → c' ≤ b' → (v : List Float) → Rel c c' (k c v) (k' c' v))
      → Rel b b' (pay ends w b r (λ c. asks (single w z) (k c))) (pay ends w b' r (λ c. asks (single w z) (k' c)))
  pays zero b b' r z k k' o h = paying b b' r (single zero z) k k' refl o (λ c c' oc l l' v. h c c' oc (omega arith) (omega arith) v)
  pays (suc w) b b' r z k k' o h = asking b b' (single (suc w) z) (k b) (k' b') refl (λ v. h b b' o (omega arith) (omega arith) v)

  value-at : (p : Setup) (r : Report) (rows : ℕ) (x : List Float) (cols : ℕ) (y : Float) (b b' : ℕ) (k k' : ℕ → Float → Script)
      → On b b' → ((c c' : ℕ) → On c c' → c ≤ b → c' ≤ b' → (v : Float) → Rel c c' (k c v) (k' c' v)) → Rel b b' (value_at p b r rows x cols y k) (value_at p b' r rows x cols y k')
  unfolding value_at
  value-at p r rows x cols y b b' k k' o h =
      reaches b b' y r _ _ (pays (p.m - rows) b b' r (set x (p.n - suc cols) y) _ _ o (λ c c' oc l l' v. sounds c c' v r _ _ (h c c' oc l l' (at v 0))))

  lower-at : (s : Scheme) (p : Setup) (r : Report) (rows : ℕ) (q : Point) (cols : ℕ) (b b' : ℕ) (k k' : ℕ → Float → Float → Script)
      → On b b' → ((c c' : ℕ) → On c c' → c ≤ b → c' ≤ b' → (v y : Float) → Rel c c' (k c v y) (k' c' v y)) → Rel b b' (lower_at s p b r rows q cols k) (lower_at s p b' r rows q cols k')
  lower-at told p r rows q cols b b' k k' o h = h b b' o (omega arith) (omega arith) _ _
  lower-at forward p r rows q cols b b' k k' o h = h b b' o (omega arith) (omega arith) _ _
  lower-at central p r rows q cols b b' k k' o h = value-at p r rows q.x cols _ b b' _ _ o (λ c c' oc l l' v. h c c' oc l l' v _)

  row-at : (p : Setup) (r : Report) (rows : ℕ) (q : Point) (cols : ℕ) (b b' : ℕ) (g : List Float) (k k' : ℕ → List Float → Script)
      → On b b' → ((c c' : ℕ) → On c c' → c ≤ b → c' ≤ b' → (h : List Float) → Rel c c' (k c h) (k' c' h)) → Rel b b' (row_at p r rows q cols b g k) (row_at p r rows q cols b' g k')
  unfolding row_at
  row-at p r rows q zero b b' g k k' o h = h b b' o (omega arith) (omega arith) g
  row-at p r rows q (suc cols) b b' g k k' o h =
      value-at p r rows q.x cols _ b b' _ _ o (λ c c' oc l l' v.
      lower-at p.scheme p r rows q cols c c' _ _ oc (λ d d' od m m' u z.
      row-at p r rows q cols d d' _ k k' od (λ e e' oe n n' t. h e e' oe (omega arith) (omega arith) t)))

  rows-at : (p : Setup) (r : Report) (rows : ℕ) (q : Point) (b b' : ℕ) (g : List Float) (k k' : ℕ → List Float → Script)
      → On b b' → ((c c' : ℕ) → On c c' → c ≤ b → c' ≤ b' → (h : List Float) → Rel c c' (k c h) (k' c' h)) → Rel b b' (rows_at p r rows q b g k) (rows_at p r rows q b' g k')
  unfolding rows_at
  rows-at p r zero q b b' g k k' o h = row-at p r zero q p.n b b' g _ _ o (λ c c' oc l l' t. sounds c c' t r _ _ (h c c' oc l l' t))
  rows-at p r (suc rows) q b b' g k k' o h =
      row-at p r (suc rows) q p.n b b' g _ _ o (λ c c' oc l l' t.
      rows-done c c' (p.m - suc rows) t r _ _ (rows-at p r rows q c c' t k k' oc (λ d d' od m m' u. h d d' od (omega arith) (omega arith) u)))

  slopes-by : (s : Scheme) (p : Setup) (r : Report) (q : Point) (b b' : ℕ) (k k' : ℕ → List Float → Script)
      → On b b' → ((c c' : ℕ) → On c c' → c ≤ b → c' ≤ b' → (h : List Float) → Rel c c' (k c h) (k' c' h)) → Rel b b' (slopes_by s p b r q k) (slopes_by s p b' r q k')
  slopes-by told p r q b b' k k' o h = asking b b' (slopes q.x) _ _ refl (λ g. sounds b b' g r _ _ (h b b' o (omega arith) (omega arith) g))
  slopes-by forward p r q b b' k k' o h = rows-at p r p.m q b b' [] k k' o h
  slopes-by central p r q b b' k k' o h = rows-at p r p.m q b b' [] k k' o h

  -- the values of a trial, of which one is spent
  values-at : (r : Report) (x : List Float) (b b' : ℕ) (k k' : ℕ → Point → Script)
      → On b b' → ((c c' : ℕ) → On c c' → c < b → c' < b' → (t : Point) → Rel c c' (k c t) (k' c' t)) → Rel b b' (values_at b r x k) (values_at b' r x k')
  unfolding values_at
  values-at r x b b' k k' o h = paying b b' r (values x) _ _ refl o (λ c c' oc l l' v. sounds c c' v r _ _ (h c c' oc l l' (point_of x v)))

  some-trials : (count : ℕ) (p : Setup) (s : Iterate) (line : Line) (α : Float) (q : Point) (b b' : ℕ) (k k' : ℕ → Bool → Point → Script)
      → On b b' → ((c c' : ℕ) → On c c' → c ≤ b → c' ≤ b' → (a : Bool) (t : Point) → Rel c c' (k c a t) (k' c' a t))
      → Rel b b' (trials count p b s line α q k) (trials count p b' s line α q k')
  unfolding trials
  some-trials zero p s line α q b b' k k' o h = h b b' o (omega arith) (omega arith) false q
  some-trials (suc count) p s line α q b b' k k' o h =
      values-at (report_of s) _ b b' _ _ o (λ c c' oc l l' t.
      either c c' (is_enough line α (merit p s.penalty t.values)) _ _ _ _ (h c c' oc (omega arith) (omega arith) true t)
      (some-trials count p s line _ t c c' k k' oc (λ d d' od m m' a u. h d d' od (omega arith) (omega arith) a u)))

  -- one trial at least: something is spent
  more-trials : (count : ℕ) (p : Setup) (s : Iterate) (line : Line) (α : Float) (q : Point) (b b' : ℕ) (k k' : ℕ → Bool → Point → Script)
      → On b b' → ((c c' : ℕ) → On c c' → c < b → c' < b' → (a : Bool) (t : Point) → Rel c c' (k c a t) (k' c' a t))
      → Rel b b' (trials (suc count) p b s line α q k) (trials (suc count) p b' s line α q k')
  unfolding trials
  more-trials count p s line α q b b' k k' o h =
      values-at (report_of s) _ b b' _ _ o (λ c c' oc l l' t.
      either c c' (is_enough line α (merit p s.penalty t.values)) _ _ _ _ (h c c' oc l l' true t)
      (some-trials count p s line _ t c c' k k' oc (λ d d' od m m' a u. h d d' od (omega arith) (omega arith) a u)))

  arrives : (goal : Goal) (p : Setup) (q : Point) (g : List Float) (b b' : ℕ) (next next' : ℕ → Iterate → Script)
      → ((s : Iterate) → Rel b b' (next b s) (next' b' s)) → Rel b b' (arrive ends next p goal b q g) (arrive ends next' p goal b' q g)
  arrives begun p q g b b' next next' h = h _
  arrives (taken s) p q g b b' next next' h = either b b' (is_settled p s q) _ _ _ _ (alike b b' _ _ tt) (h _)

  onwards : (p : Setup) (s : Iterate) (a : Bool) (q : Point) (b b' : ℕ) (next next' : ℕ → Iterate → Script)
      → On b b' → ((c c' : ℕ) → On c c' → c ≤ b → c' ≤ b' → (t : Iterate) → Rel c c' (next c t) (next' c' t)) → Rel b b' (onward next p s b a q) (onward next' p s b' a q)
  onwards p s a q b b' next next' o h =
      either b b' (not a && not s.fresh) _ _ _ _ (h b b' o (omega arith) (omega arith) _)
      (slopes-by p.scheme p (report_of s) q b b' _ _ o (λ c c' oc l l' g. arrives (taken s) p q g c c' next next' (λ t. h c c' oc l l' t)))

  a_turn : (w : Opened) → QuietStop w → (p : Setup) (b b' : ℕ) (next next' : ℕ → Iterate → Script)
      → On b b' → ((c c' : ℕ) → On c c' → c < b → c' < b' → (t : Iterate) → Rel c c' (next c t) (next' c' t)) → Rel b b' (turn next p b w) (turn next' p b' w)
  a_turn (stop e s) quiet p b b' next next' o h = alike b b' e (report_of s) quiet
  a_turn (go s line) quiet p b b' next next' o h =
      more-trials backtracks p s line one _ b b' _ _ o (λ c c' oc l l' a q.
      onwards p s a q c c' next next' oc (λ d d' od m m' t. h d d' od (omega arith) (omega arith) t))

  pub bodies : (p : Setup) (s : Iterate) (b b' : ℕ) (next next' : ℕ → Iterate → Script)
      → On b b' → ((c c' : ℕ) → On c c' → c < b → c' < b' → (t : Iterate) → Rel c c' (next c t) (next' c' t)) → Rel b b' (body next p b s) (body next' p b' s)
  unfolding body
  bodies p s b b' next next' o h = a_turn (opened p s) (quiet-opened p s) p b b' next next' o h

  -- with fuel for every value that is left
  some-turns : (k k' : ℕ) (p : Setup) (s : Iterate) (b b' : ℕ) → On b b' → b ≤ k → b' ≤ k' → Rel b b' (turns k p b s) (turns k' p b' s)
  unfolding turns
  some-turns zero zero p s b b' o l l' = bodies p s b b' _ _ o (λ c c' oc m m' t. absurd (omega arith))
  some-turns zero (suc k') p s b b' o l l' = bodies p s b b' _ _ o (λ c c' oc m m' t. absurd (omega arith))
  some-turns (suc k) zero p s b b' o l l' = bodies p s b b' _ _ o (λ c c' oc m m' t. absurd (omega arith))
  some-turns (suc k) (suc k') p s b b' o l l' = bodies p s b b' _ _ o (λ c c' oc m m' t. some-turns k k' p t c c' oc (omega arith) (omega arith))

  pub fueled : (k : ℕ) (p : Setup) (s : Iterate) (b b' : ℕ) → On b b' → b ≤ k → Rel b b' (turns k p b s) (loop p b' s)
  unfolding loop
  fueled k p s b b' o l = some-turns k b' p s b b' o l (omega arith)

  pub loops : (p : Setup) (s : Iterate) (b b' : ℕ) → On b b' → Rel b b' (loop p b s) (loop p b' s)
  unfolding loop
  loops p s b b' o = some-turns b b' p s b b' o (omega arith) (omega arith)

  pub starts : (p : Setup) (r : Report) (q : Point) (b b' : ℕ) → On b b'
      → Rel b b' (slopes_at p b r q (λ c g. arrive ends (loop p) p begun c q g)) (slopes_at p b' r q (λ c g. arrive ends (loop p) p begun c q g))
  starts p r q b b' o = slopes-by p.scheme p r q b b' _ _ o (λ c c' oc l l' g. loops p _ c c' oc)
