-- The two calls, by what their tests found.
use mathlib.Core.Path.{◌≡◌, refl, sym, ap, ◌∙◌}
use mathlib.Core.Bool.{Bool, true, false, cond, not, ◌&&◌, true≢false}
use mathlib.Core.List.{List, [], ◌∷◌}
use mathlib.Core.Option.{Option, none, some}
use Prim.Native.Nat.{ℕ, zero, suc, ◌≤◌, ◌<◌}
use native.Mathlib.Omega.{arith}
use lib.Dec.{leb, eqb}
use lib.ListN.{length}
use lib.Ieee.{Float}
use borrow.Author.Tests.{leb-true, leb-false, eqb-true, ne_eqb}
use Rattle.numbers.specs.Numbers.{nth}
use Rattle.workspace.specs.Tables.{Answer, done, refused, is_late, call, test, is_dimension, is_constraints, is_room, has}
use Rattle.workspace.specs.declared.Refusal.{Refusal}
use Rattle.workspace.specs.declared.Refusal.TheVariants.{Size, Length, Room, Kind, Tolerance, Crossed, Unasked}
use Rattle.workspace.specs.Tables.{Outcome}
use Rattle.std.specs.Prelude.{Err}
use Rattle.workspace.specs.Readings.{Cleared}
use Rattle.workspace.proofs.Tests.{and-true, dimension-le, dimension-ge, constraints-le, has-length}
use Rattle.search.specs.Setup.{Setup, is_budget, is_scheme, are_kinds, Report, Ending, converged, infeasible, exhausted, nonfinite}
use Rattle.search.specs.Written.{Standing, over, waits}
use Rattle.search.specs.Machine.{Machine, ended, starting, trying, sloping, raised, lowered, begin, tell, standing}
use Rattle.search.specs.Layout.{laid, fronted, setup_in, state_in, are_words, machine_in, machine_words}
use Rattle.search.specs.Promise.{setup_of, is_wanted, is_waiting, tell_in, tell_call, state_outcome, Runs}
use Rattle.search.specs.Calls.{is_silent}
use Rattle.search_next.specs.inner.Next.{wanted_at, Heard, Told}
use Rattle.search_call.specs.inner.Work.{Begins, Started, question_in, is_told, outcome_in}
use Rattle.search_call.proofs.Questions.{Asked, asked_of}

-- a refusal before the arithmetic leaves all as it was
refused-by : (first : Bool) (p : Setup) (c : Answer Machine) (q : Refusal) (f w : List Float) (u iw : List ℕ) → is_late q ≡ false → c ≡ refused q → Runs first p c (Err q) f f u u w w iw iw
refused-by first p c q f w u iw l e =
    rw e (record { the_outcome = refl; the_machine = refl; the_state = refl; the_floats = rw l refl; the_words = rw l refl })

-- ---- beginning

module _ (p : Setup) (f w : List Float) (u iw : List ℕ) where
  pub crossed-refused : (o : Bool) (a : Answer Machine) → o ≡ false → Runs true p (test o Crossed a) (Err Crossed) f f u u w w iw iw
  crossed-refused o a h = refused-by true p (test o Crossed a) Crossed f w u iw refl (rw h refl)

  module _ (a : Answer Machine) (s l r k : Bool) where
    pub size-refused : s ≡ false → Runs true p (call s l r k a) (Err Size) f f u u w w iw iw
    size-refused h = refused-by true p (call s l r k a) Size f w u iw refl (rw h refl)

    pub length-refused : s ≡ true → l ≡ false → Runs true p (call s l r k a) (Err Length) f f u u w w iw iw
    length-refused h i = refused-by true p (call s l r k a) Length f w u iw refl (rw (h, i) refl)

    pub room-refused : s ≡ true → l ≡ true → r ≡ false → Runs true p (call s l r k a) (Err Room) f f u u w w iw iw
    room-refused h i j = refused-by true p (call s l r k a) Room f w u iw refl (rw (h, i, j) refl)

    pub kind-refused : s ≡ true → l ≡ true → r ≡ true → k ≡ false → Runs true p (call s l r k a) (Err Kind) f f u u w w iw iw
    kind-refused h i j q = refused-by true p (call s l r k a) Kind f w u iw refl (rw (h, i, j, q) refl)

    module _ (t : Bool) (hs : s ≡ true) (hl : l ≡ true) (hr : r ≡ true) (hk : k ≡ true) where
      pub tolerance-refused : t ≡ false → Runs true p (call s l r k (test t Tolerance a)) (Err Tolerance) f f u u w w iw iw
      tolerance-refused h = refused-by true p (call s l r k (test t Tolerance a)) Tolerance f w u iw refl (rw (hs, hl, hr, hk, h) refl)

      pub bound-refused : (q : Refusal) → t ≡ true → (a ≡ refused q) × (is_late q ≡ false) → Runs true p (call s l r k (test t Tolerance a)) (Err q) f f u u w w iw iw
      bound-refused q h e = refused-by true p (call s l r k (test t Tolerance a)) q f w u iw e.1 (rw (hs, hl, hr, hk, h) e.0)

      pub call-answered : (b : Answer Machine) (o : Outcome) (f' w' : List Float) (u' iw' : List ℕ) → t ≡ true → a ≡ b → Runs true p b o f f' u u' w w' iw iw'
          → Runs true p (call s l r k (test t Tolerance a)) o f f' u u' w w' iw iw'
      call-answered b o f' w' u' iw' h e g = rw (hs, hl, hr, hk, h, e) g

pub begun : (p : Setup) (x : List Float) (b : ℕ) (o : Bool) (r : Outcome) (f f' w w' : List Float) (u u' iw iw' : List ℕ) → o ≡ true → Started p x b r f' u' → Cleared w w' iw iw'
    → Runs true p (test o Crossed (done (begin p x b))) r f f' u u' w w' iw iw'
begun p x b o r f f' w w' u u' iw iw' h s c =
    rw h (record { the_outcome = s.outcome; the_machine = s.floats; the_state = s.words; the_floats = c.floats; the_words = c.words })

-- the six lengths in two tests
pub lengths-bad : (a b c : Bool) → a ≡ false → (a && b && c) ≡ false
lengths-bad a b c h = rw h

pub lengths-rest : (a b c d : Bool) → a ≡ true → (b && c) ≡ d → (a && b && c) ≡ d
lengths-rest a b c d h k = rw h k

-- what the tests show where none refuses
pub begins-of : (n m b s : ℕ) (kinds : List ℕ) (lower upper x f : List Float) (u : List ℕ) (ftol : Float)
    → (is_dimension n && is_constraints m && is_budget b && is_scheme s) ≡ true → (has kinds m && has lower n && has upper n && has x n) ≡ true → (has f 1024 && has u 32) ≡ true
    → are_kinds kinds ≡ true → Begins (setup_of n m kinds lower upper ftol s) x f u × (s ≤ 2)
begins-of n m b s kinds lower upper x f u ftol hs hl hm hk =
    let s₁ = and-true (is_dimension n && is_constraints m && is_budget b) (is_scheme s) hs in
    let s₂ = and-true (is_dimension n && is_constraints m) (is_budget b) s₁.0 in
    let s₃ = and-true (is_dimension n) (is_constraints m) s₂.0 in
    let l₁ = and-true (has kinds m && has lower n && has upper n) (has x n) hl in
    let l₂ = and-true (has kinds m && has lower n) (has upper n) l₁.0 in
    let l₃ = and-true (has kinds m) (has lower n) l₂.0 in
    let m₁ = and-true (has f 1024) (has u 32) hm in
    let z = leb-true s 2 s₁.1 in (
      record {
        posed =
            record {
              some = dimension-ge n s₃.0;
              few = dimension-le n s₃.0;
              constraints = constraints-le m s₃.1;
              kinds = has-length kinds m l₃.0;
              two = hk;
              lower = has-length lower n l₃.1;
              upper = has-length upper n l₂.1;
            };
        start = has-length x n l₁.1;
        floats = has-length f 1024 m₁.0;
        words = has-length u 32 m₁.1;
      },
      omega arith,
    )

-- ---- telling: words that ask nothing

and_yes : (b : Bool) → (b && true) ≡ b
and_yes true = refl
and_yes false = refl

silent-at : (p : Setup) (M : Machine) (v : List Float) (l r : Bool) (s : Standing) → not (is_waiting s) ≡ true
    → test (l && is_wanted p s v) Length (test r Room (test (is_waiting s) Unasked (done (tell p M v)))) ≡ test l Length (test r Room (refused Unasked))
silent-at p M v l r (over e t) h = rw (and_yes l) refl
silent-at p M v l r (waits q) h = absurd (true≢false (sym h))

silent-tell : (p : Setup) (o : Option Machine) (v : List Float) (l r : Bool) → is_silent p o ≡ true → tell_in p o l v r ≡ test l Length (test r Room (refused Unasked))
silent-tell p none v l r h = refl
silent-tell p (some M) v l r h = silent-at p M v l r (standing p M) h

state-silent : (p : Setup) (k n m : ℕ) (f : List Float) (u : List ℕ) → 5 < k → is_silent p (state_in k n m f u) ≡ true
unfolding state_in
state-silent p zero n m f u h = absurd (omega arith)
state-silent p (suc zero) n m f u h = absurd (omega arith)
state-silent p (suc (suc zero)) n m f u h = absurd (omega arith)
state-silent p (suc (suc (suc zero))) n m f u h = absurd (omega arith)
state-silent p (suc (suc (suc (suc zero)))) n m f u h = absurd (omega arith)
state-silent p (suc (suc (suc (suc (suc zero))))) n m f u h = absurd (omega arith)
state-silent p (suc (suc (suc (suc (suc (suc zero)))))) n m f u h = refl
state-silent p (suc (suc (suc (suc (suc (suc (suc zero))))))) n m f u h = refl
state-silent p (suc (suc (suc (suc (suc (suc (suc (suc zero)))))))) n m f u h = refl
state-silent p (suc (suc (suc (suc (suc (suc (suc (suc (suc zero))))))))) n m f u h = refl
state-silent p (suc (suc (suc (suc (suc (suc (suc (suc (suc (suc k)))))))))) n m f u h = refl

none-silent : (p : Setup) (k n m : ℕ) (f : List Float) (u : List ℕ) → k ≡ 0 → is_silent p (state_in k n m f u) ≡ true
unfolding state_in
none-silent p k n m f u e = rw e refl

silent-by : (f : List Float) (u : List ℕ) (a b : Bool) → leb (nth u 0) 5 ≡ b → cond (a && b) (nth u 0) 0 ≡ 0
    → is_silent (setup_in f u) (cond a (state_in (nth u 0) (nth u 8) (nth u 9) f u) none) ≡ true
silent-by f u true true h e = none-silent (setup_in f u) (nth u 0) (nth u 8) (nth u 9) f u e
silent-by f u true false h e = state-silent (setup_in f u) (nth u 0) (nth u 8) (nth u 9) f u (leb-false (nth u 0) 5 h)
silent-by f u false b h e = refl

machine-silent : (f : List Float) (u : List ℕ) → question_in u ≡ 0 → is_silent (setup_in f u) (machine_in f u) ≡ true
unfolding machine_in
machine-silent f u e = silent-by f u (are_words u) (leb (nth u 0) 5) refl e

-- ---- a question stands

-- a machine that waits for w numbers
pub record Waits (p : Setup) (o : Option Machine) (w : ℕ) : Type 0 where
  pub machine : Machine
  pub is : o ≡ some machine
  pub waiting : is_waiting (standing p machine) ≡ true
  pub wanted : (v : List Float) → is_wanted p (standing p machine) v ≡ eqb (length v) w

state-waits : (f g : List Float) (u z : List ℕ) (k : ℕ) → 1 ≤ k → k ≤ 5 → Waits (setup_in f u) (state_in k (nth u 8) (nth u 9) g z) (wanted_at k (nth u 8) (nth u 9))
unfolding state_in
state-waits f g u z zero h l = absurd (omega arith)
state-waits f g u z (suc zero) h l = record { machine = _; is = refl; waiting = refl; wanted = λ v. refl }
state-waits f g u z (suc (suc zero)) h l = record { machine = _; is = refl; waiting = refl; wanted = λ v. refl }
state-waits f g u z (suc (suc (suc zero))) h l = record { machine = _; is = refl; waiting = refl; wanted = λ v. refl }
state-waits f g u z (suc (suc (suc (suc zero)))) h l = record { machine = _; is = refl; waiting = refl; wanted = λ v. refl }
state-waits f g u z (suc (suc (suc (suc (suc zero))))) h l = record { machine = _; is = refl; waiting = refl; wanted = λ v. refl }
state-waits f g u z (suc (suc (suc (suc (suc (suc k)))))) h l = absurd (omega arith)

machine-waits : (f : List Float) (u : List ℕ) (k : ℕ) → Asked k u → Waits (setup_in f u) (machine_in f u) (wanted_at k (nth u 8) (nth u 9))
unfolding machine_in
machine-waits f u k q = rw (q.good, q.phase) (state-waits f f u u (nth u 0) q.some q.few)

waits-tell : (p : Setup) (o : Option Machine) (w : ℕ) (v : List Float) (l r : Bool) (g : Waits p o w)
    → tell_in p o l v r ≡ test (l && eqb (length v) w) Length (test r Room (done (tell p g.machine v)))
waits-tell p o w v l r g =
    ap (λ (x : Option Machine). tell_in p x l v r) g.is
    ∙ (let a = g.wanted v in let b = g.waiting in λ t. test (l && a t) Length (test r Room (test (b t) Unasked (done (tell p g.machine v)))))

-- ---- what the first word says

ending-outcome : (e : Ending) (r : Report) (x : ℕ) (u : List ℕ) → outcome_in (nth (machine_words (ended e r) (x ∷ u)) 0) ≡ state_outcome (ended e r)
unfolding machine_words laid fronted
ending-outcome converged r x u = refl
ending-outcome infeasible r x u = refl
ending-outcome exhausted r x u = refl
ending-outcome nonfinite r x u = refl

first-outcome : (M : Machine) (x : ℕ) (u : List ℕ) → outcome_in (nth (machine_words M (x ∷ u)) 0) ≡ state_outcome M
unfolding machine_words laid fronted
first-outcome (ended e r) x u = ending-outcome e r x u
first-outcome (starting b y) x u = refl
first-outcome (trying b s line α again) x u = refl
first-outcome (sloping b goal q) x u = refl
first-outcome (raised b goal q rows cols g) x u = refl
first-outcome (lowered b goal q rows cols g v) x u = refl

state-outcome : (M : Machine) (u : List ℕ) → length u ≡ 32 → outcome_in (nth (machine_words M u) 0) ≡ state_outcome M
state-outcome M [] e = absurd (omega arith)
state-outcome M (x ∷ u) e = first-outcome M x u

-- ---- the tests of telling, in their order

told-suc : (k n m t : ℕ) → is_told (suc k) n m t ≡ eqb t (wanted_at (suc k) n m)
told-suc k n m t = rw (ne_eqb (suc k) 0 (λ e. absurd (let y : ⊥ = omega arith in y))) refl

short-tell : (p : Setup) (o : Option Machine) (v : List Float) (l r : Bool) → l ≡ false → tell_in p o l v r ≡ refused Length
short-tell p none v l r h = rw h refl
short-tell p (some M) v l r h = rw h refl

module _ (v f w : List Float) (u iw : List ℕ) where
  pub slices-refused : (has f 1024 && has u 32) ≡ false → Runs false (setup_in f u) (tell_call v f u w iw) (Err Length) f f u u w w iw iw
  slices-refused h = refused-by false (setup_in f u) (tell_call v f u w iw) Length f w u iw refl (short-tell (setup_in f u) (machine_in f u) v (has f 1024 && has u 32) (is_room w iw) h)

  module _ (h : (has f 1024 && has u 32) ≡ true) where
    -- the question of a phase other than 0
    asked-tell : (k : ℕ) (q : Asked (suc k) u)
        → tell_call v f u w iw ≡ test (eqb (length v) (wanted_at (suc k) (nth u 8) (nth u 9))) Length (test (is_room w iw) Room (done (tell (setup_in f u) (machine-waits f u (suc k) q).machine v)))
    asked-tell k q =
        waits-tell (setup_in f u) (machine_in f u) (wanted_at (suc k) (nth u 8) (nth u 9)) v (has f 1024 && has u 32) (is_room w iw) (machine-waits f u (suc k) q)
        ∙ ap (λ (b : Bool). test (b && eqb (length v) (wanted_at (suc k) (nth u 8) (nth u 9))) Length (test (is_room w iw) Room (done (tell (setup_in f u) (machine-waits f u (suc k) q).machine v)))) h

    quiet-tell : question_in u ≡ 0 → tell_call v f u w iw ≡ test (is_room w iw) Room (refused Unasked)
    quiet-tell e =
        silent-tell (setup_in f u) (machine_in f u) v (has f 1024 && has u 32) (is_room w iw) (machine-silent f u e)
        ∙ ap (λ (b : Bool). test b Length (test (is_room w iw) Room (refused Unasked))) h

    asked-suc : (k : ℕ) → suc k ≡ question_in u → Asked (suc k) u
    asked-suc k e = asked_of u (suc k) e (λ z. absurd (let y : ⊥ = omega arith in y))

    pub told-refused : (k : ℕ) → k ≡ question_in u → is_told k (nth u 8) (nth u 9) (length v) ≡ false → Runs false (setup_in f u) (tell_call v f u w iw) (Err Length) f f u u w w iw iw
    told-refused zero e t = absurd (true≢false t)
    told-refused (suc k) e t = let b = sym (told-suc k (nth u 8) (nth u 9) (length v)) ∙ t in refused-by false (setup_in f u) (tell_call v f u w iw) Length f w u iw refl (asked-tell k (asked-suc k e) ∙ rw b refl)

    pub told-room : (k : ℕ) → k ≡ question_in u → is_told k (nth u 8) (nth u 9) (length v) ≡ true → is_room w iw ≡ false
        → Runs false (setup_in f u) (tell_call v f u w iw) (Err Room) f f u u w w iw iw
    told-room zero e t r = refused-by false (setup_in f u) (tell_call v f u w iw) Room f w u iw refl (quiet-tell (sym e) ∙ rw r refl)
    told-room (suc k) e t r = let b = sym (told-suc k (nth u 8) (nth u 9) (length v)) ∙ t in refused-by false (setup_in f u) (tell_call v f u w iw) Room f w u iw refl (asked-tell k (asked-suc k e) ∙ rw (b, r) refl)

    pub told-unasked : (k : ℕ) → k ≡ question_in u → is_room w iw ≡ true → k ≡ 0 → Runs false (setup_in f u) (tell_call v f u w iw) (Err Unasked) f f u u w w iw iw
    told-unasked k e r z = refused-by false (setup_in f u) (tell_call v f u w iw) Unasked f w u iw refl (quiet-tell (sym e ∙ z) ∙ rw r refl)

    pub heard-of : (k : ℕ) → k ≡ question_in u → is_told k (nth u 8) (nth u 9) (length v) ≡ true → (k ≡ 0 → ⊥) → Heard v f u
    heard-of zero e t z = absurd (z refl)
    heard-of (suc k) e t z =
        let q = asked-suc k e in
        let b = sym (told-suc k (nth u 8) (nth u 9) (length v)) ∙ t in
        let s = and-true (has f 1024) (has u 32) h in
        record {
          floats = has-length f 1024 s.0;
          words = has-length u 32 s.1;
          good = q.good;
          asked = q.some;
          waiting = q.few;
          told = eqb-true (length v) (wanted_at (suc k) (nth u 8) (nth u 9)) b ∙ ap (λ (x : ℕ). wanted_at x (nth u 8) (nth u 9)) q.phase;
        }

    pub heard-runs : (k : ℕ) (r : Outcome) (f' w' : List Float) (u' iw' : List ℕ) → k ≡ question_in u → is_told k (nth u 8) (nth u 9) (length v) ≡ true → is_room w iw ≡ true → (k ≡ 0 → ⊥)
        → Told v f f' u u' × Cleared w w' iw iw' × (r ≡ outcome_in (nth u' 0)) → Runs false (setup_in f u) (tell_call v f u w iw) r f f' u u' w w' iw iw'
    heard-runs zero r f' w' u' iw' e t o z g = absurd (z refl)
    heard-runs (suc k) r f' w' u' iw' e t o z g =
        let q = asked-suc k e in
        let b = sym (told-suc k (nth u 8) (nth u 9) (length v)) ∙ t in
        let M = machine-waits f u (suc k) q in
        let N = tell (setup_in f u) M.machine v in
        let d = g.0 M.machine M.is in
        let c : tell_call v f u w iw ≡ done N = asked-tell k q ∙ rw (b, o) refl in
        let s = and-true (has f 1024) (has u 32) h in
        rw c
        (record {
          the_outcome = g.2 ∙ ap (λ (x : List ℕ). outcome_in (nth x 0)) d.words ∙ state-outcome N u (has-length u 32 s.1);
          the_machine = d.floats;
          the_state = d.words;
          the_floats = g.1.floats;
          the_words = g.1.words;
        })
