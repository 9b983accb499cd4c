-- The passive set that is remembered: the rounds lead from it to where they are, and around where it comes back.
use mathlib.Core.Path.{◌≡◌, refl, sym, ap, ap₂, ◌∙◌, subst}
use mathlib.Core.Logic.{inl, inr}
use mathlib.Core.Bool.{Bool, true, false, not, cond, ◌&&◌}
use mathlib.Core.List.{List}
use Rattle.std.specs.Prelude.{Result, Ok, Err}
use Prim.Native.Nat.{ℕ, zero, suc, ◌+◌, ◌-◌, ◌*◌, ◌≤◌, ◌<◌}
use native.Mathlib.Nat.{not-suc-le-zero}
use native.Mathlib.Omega.{arith}
use lib.Dec.{eqb}
use lib.ListN.{length, set, replicate, length-set, length-replicate, get_or-replicate}
use lib.Seq.{get_or-set_other, get_or-set_same}
use lib.Ieee.{Float, nan}
use Rattle.numbers.specs.Numbers.{+0, at, nth}
use Rattle.numbers.proofs.Cases.{eq-or-ne}
use Rattle.numbers.proofs.Lists.{tab-of, tab-replicate, get_d-tab}
use Rattle.nnls_passive.specs.Passive.{is_in, Solved}
use Rattle.workspace.specs.Tables.{iteration_cap}
use Rattle.nnls.specs.Counted.{Counted}
use Rattle.nnls.specs.Claims.{Solver}
use Rattle.nnls.specs.Nnls.{Accepted, Obstacle, free, block, blocking, leaves, step_to, next_mark, move_x, move_p, kept, turn_next, turns, pass, rounds}
use Rattle.nnls.specs.inner.Memory.{Digits, Repeated, Mark, mark_at, Behind, Recorded, CameBack, onward, ended, LookedBack, goes_on, came_back}
use Rattle.nnls.specs.declared.memory.Course.{Course}
use Rattle.nnls.specs.declared.memory.Counts.{Counts}
use Rattle.nnls.proofs.Lists.{none_in}
use Rattle.nnls.proofs.Count.{count}
use Rattle.nnls.proofs.Loops.{outside, Keeps, PassOk, pass-ok, TurnsOk, turns-suffice}
use Rattle.nnls.proofs.Cycles.{Leads, leads-none, leads-then, leads-around, pass-moved, pass-more}
use Rattle.nnls.proofs.Unroll.{rounds-last}
use Rattle.nnls.proofs.Notes.{each-mark, recorded-full}
use Rattle.nnls.proofs.Digits.{digits-told}

-- ---- marks of at most 1

abbrev pub Low : ℕ → List ℕ → Type 0
Low n p = (j : ℕ) → j < n → nth p j ≤ 1

set-low : (n t : ℕ) (p : List ℕ) → length p ≡ n → t < n → Low n p → Low n (set p t 1)
set-low n t p l h low j hj = elim (eq-or-ne j t) [
  | inl e ↦ subst (λ (v : ℕ). v ≤ 1) (sym (ap (λ (i : ℕ). nth (set p t 1) i) e ∙ get_or-set_same p t 1 0 (omega (arith, l)))) (omega arith)
  | inr d ↦ subst (λ (v : ℕ). v ≤ 1) (sym (get_or-set_other p t j 1 0 d)) (low j hj)
]

move-low : (n q : ℕ) (r : Float) (x z : List Float) (p : List ℕ) → Low n p → Low n (move_p n q r x z p)
unfolding move_p next_mark
move-low n q r x z p low j h =
    subst (λ (v : ℕ). v ≤ 1) (sym (get_d-tab n (λ j. next_mark q j r (at x j) (at z j) (nth p j)) 0 j h)) (go (not (eqb (nth p j) 0) && leaves q j (step_to r (at x j) (at z j))))
  where
    go : (b : Bool) → cond b 0 (nth p j) ≤ 1
    go true = omega arith
    go false = low j h

turns-low : (n : ℕ) (solve : List ℕ → Solved) (left : ℕ) (x z : List Float) (p : List ℕ) (f : ℕ) → Low n p → Low n (turns n solve left x z p f).passive
unfolding turns turn_next
turns-low n solve zero x z p f low = low
turns-low n solve (suc left) x z p f low = go (blocking x z p n) (turns-low n solve left)
  where
    go : (c : Obstacle) → ((x z : List Float) (p : List ℕ) (f : ℕ) → Low n p → Low n (turns n solve left x z p f).passive) → Low n (turn_next n solve c x z p f (turns n solve left)).passive
    go free again = low
    go (block q r) again = again (move_x n q r x z p) (solve (move_p n q r x z p)).z (move_p n q r x z p) (suc f) (move-low n q r x z p low)

-- ---- where a round begins, x is the solve on the passive set

pub record Fixed (n : ℕ) (solve : List ℕ → Solved) (x : List Float) (p : List ℕ) : Type 0 where
  pub size : length p ≡ n
  pub low : Low n p
  pub values : x ≡ (solve p).z

module _ (n : ℕ) (solve : List ℕ → Solved) where
  pub fixed-none : Solver n solve → Fixed n solve (replicate n +0) (replicate n 0)
  fixed-none S =
      let l : length (replicate {A = ℕ} n 0) ≡ n = length-replicate n 0 in
      record {
        size = l;
        low = λ j h. subst (λ (v : ℕ). v ≤ 1) (sym (get_or-replicate n j 0 0 h)) (omega arith);
        values = sym (tab-of n (solve (replicate n 0)).z (λ j. +0) nan (S.size (replicate n 0) l) (λ j h. S.outside (replicate n 0) l j h (none_in n j)) ∙ tab-replicate n +0);
      }

  pub fixed-again : (dual : List Float → List Float) (x : List Float) (p : List ℕ) (f : ℕ) (p' : List ℕ) (z : List Float) (g : ℕ) → Fixed n solve x p → pass n dual solve x p f ≡ kept p' z g
      → Fixed n solve (turns n solve n x z p' g).x (turns n solve n x z p' g).passive
  fixed-again dual x p f p' z g F e =
      let k : Keeps n dual solve p p' z = (subst (PassOk n dual solve (dual x) p (f + count n (outside p))) e (pass-ok n dual solve x p f)).0 in
      let l : length p' ≡ n = ap length k.entered ∙ length-set p k.column 1 ∙ F.size in
      let low : Low n p' = subst (Low n) (sym k.entered) (set-low n k.column p F.size k.below F.low) in
      let T : TurnsOk n dual solve (g + count n (is_in p')) (turns n solve n x z p' g) = subst (λ (v : List Float). TurnsOk n dual solve (g + count n (is_in p')) (turns n solve n x v p' g)) (sym k.values) (turns-suffice n dual solve x p' g l) in
      record { size = T.size; low = turns-low n solve n x z p' g low; values = T.values }

-- ---- whole periods

pub repeated-none : (d e past f k : ℕ) → past ≤ k → f ≤ 132 * past → Repeated d e past f k (record { past = past; factorings = f })
repeated-none d e past f k l w = record { times = 0; rounds = omega arith; factorings = omega arith; within = l; few = w }

pub repeated-more : (d e past f k p g : ℕ) → Repeated d e past f k (record { past = p; factorings = g }) → p + d ≤ k → e ≤ 132 * d → Repeated d e past f k (record { past = p + d; factorings = g + e })
repeated-more d e past f k p g r l w =
    let a = r.rounds in
    let b = r.factorings in
    let c = r.few in
    record { times = suc r.times; rounds = omega (arith, a); factorings = omega (arith, b); within = l; few = omega (arith, c, w) }

-- ---- the memory

-- a pass from the set `marks` after `spent` factorings keeps a column, and there are `tried` then
pub record Tries (n : ℕ) (dual : List Float → List Float) (solve : List ℕ → Solved) (marks : List ℕ) (spent tried : ℕ) : Type 0 where
  pub set : List ℕ
  pub values : List Float
  pub keeps : pass n dual solve (solve marks).z marks spent ≡ kept set values tried

-- the set was `marks`, and the rounds lead from it to x and p
pub record Memory (n : ℕ) (dual : List Float → List Float) (solve : List ℕ → Solved) (x : List Float) (p : List ℕ) (c : Mark) : Type 0 where
  pub marks : List ℕ
  pub size : length marks ≡ n
  pub low : Low n marks
  pub digits : Digits n marks c.low c.high
  pub earlier : c.since ≤ c.past
  pub more : c.spent ≤ c.factorings
  pub few : c.factorings ≤ c.spent + 132 * (c.past - c.since)
  pub trial : Tries n dual solve marks c.spent c.tried
  pub within : c.tried ≤ c.factorings + 66
  pub leads : Leads n dual solve (solve marks).z marks (c.past - c.since) (c.factorings - c.spent) x p

module _ (n : ℕ) (dual : List Float → List Float) (solve : List ℕ → Solved) where
  leads-same : (x x' : List Float) (p p' : List ℕ) (d d' e e' : ℕ) → d ≡ d' → e ≡ e' → Leads n dual solve x p d e x' p' → Leads n dual solve x p d' e' x' p'
  leads-same x x' p p' d d' e e' a b h = subst (λ (i : ℕ). Leads n dual solve x p d' i x' p') b (subst (λ (i : ℕ). Leads n dual solve x p i e x' p') a h)

  -- no round leads from a place to itself
  standing : (x : List Float) (p : List ℕ) (past f : ℕ) → Leads n dual solve x p (past - past) (f - f) x p
  standing x p past f = leads-same x x p p 0 (past - past) 0 (f - f) (omega arith) (omega arith) (leads-none n dual solve x p)

  -- two sets that are remembered: the rounds lead from the earlier one to the later
  pub record Between (a b : Mark) : Type 0 where
    pub from : List ℕ
    pub to : List ℕ
    pub from-size : length from ≡ n
    pub to-size : length to ≡ n
    pub from_low : Low n from
    pub to_low : Low n to
    pub from-digits : Digits n from a.low a.high
    pub to-digits : Digits n to b.low b.high
    pub more : a.spent ≤ b.spent
    pub leads : Leads n dual solve (solve from).z from (b.since - a.since) (b.spent - a.spent) (solve to).z to

  -- ---- a look back

  -- what it says of the rounds: from x and p they lead to x and p again
  pub record Looked (k : ℕ) (x : List Float) (p : List ℕ) (past f : ℕ) (r : Counts) : Type 0 where
    pub ahead : past ≤ r.past
    pub within : r.past ≤ k
    pub more : f ≤ r.factorings
    pub few : r.factorings ≤ 132 * r.past
    pub around : Leads n dual solve x p (r.past - past) (r.factorings - f) x p

  -- the memory after one round more
  module _ (x x' : List Float) (p p' : List ℕ) (c : Mark) (f : ℕ) (F : Fixed n solve x' p') (M : Memory n dual solve x p c) (l : c.factorings ≤ f) (u : f ≤ c.factorings + 132)
      (once : Leads n dual solve x p 1 (f - c.factorings) x' p') where
    more-since : c.spent ≤ f
    more-since = let a = M.more in omega (arith, a, l)

    few_since : f ≤ c.spent + 132 * (c.past + 1 - c.since)
    few_since = let a = M.few in let b = M.earlier in omega (arith, a, b, u)

    within-since : c.tried ≤ f + 66
    within-since = let a = M.within in omega (arith, a, l)

    pub behind : Behind c f
    behind = record { earlier = M.earlier; more = more-since; few = few_since; within = within-since }

    leads-on : Leads n dual solve (solve M.marks).z M.marks (c.past + 1 - c.since) (f - c.spent) x' p'
    leads-on =
        let a = M.earlier in
        let b = M.more in
        leads-same (solve M.marks).z x' M.marks p' (c.past - c.since + 1) (c.past + 1 - c.since) (c.factorings - c.spent + (f - c.factorings)) (f - c.spent) (omega (arith, a)) (omega (arith, b, l))
        (leads-then n dual solve (solve M.marks).z x x' M.marks p p' (c.past - c.since) 1 (c.factorings - c.spent) (f - c.factorings) M.leads once)

    module _ (k : ℕ) (w : c.past < k) (v : f ≤ 132 * (c.past + 1)) where
      pub look-onward : Memory n dual solve x' p' (record { past = c.past + 1; factorings = f; low = c.low; high = c.high; since = c.since; spent = c.spent; tried = c.tried })
      look-onward = record {
        marks = M.marks;
        size = M.size;
        low = M.low;
        digits = M.digits;
        earlier = let a = M.earlier in omega (arith, a);
        more = more-since;
        few = few_since;
        trial = M.trial;
        within = within-since;
        leads = leads-on;
      }

      same_set : (low high : ℕ) → Digits n p' low high → low ≡ c.low → high ≡ c.high → M.marks ≡ p'
      same_set low high D e₁ e₂ =
          digits-told n c.low c.high M.marks p' M.size F.size M.low F.low M.digits (record { first = sym e₁ ∙ D.first; second = sym e₂ ∙ D.second })

      period : M.marks ≡ p' → Leads n dual solve x' p' (c.past + 1 - c.since) (f - c.spent) x' p'
      period e =
          subst (λ (t : List Float). Leads n dual solve t p' (c.past + 1 - c.since) (f - c.spent) x' p') (sym F.values)
          (subst (λ (q : List ℕ). Leads n dual solve (solve q).z q (c.past + 1 - c.since) (f - c.spent) x' p') e leads-on)

      pub look-back : M.marks ≡ p' → (r : Counts) → Repeated (c.past + 1 - c.since) (f - c.spent) (c.past + 1) f k r → Looked k x' p' (c.past + 1) f r
      look-back same r R = go (c.past + 1 - c.since) (f - c.spent) (period same) R.rounds R.factorings
        where
          go : (d e : ℕ) → Leads n dual solve x' p' d e x' p' → r.past ≡ c.past + 1 + R.times * d → r.factorings ≡ f + R.times * e → Looked k x' p' (c.past + 1) f r
          go d e P er ef =
              let t = R.times in
              record {
                ahead = omega (arith, er);
                within = R.within;
                more = omega (arith, ef);
                few = R.few;
                around = leads-same x' x' p' p' (t * d) (r.past - (c.past + 1)) (t * e) (r.factorings - f) (omega (arith, er)) (omega (arith, ef)) (leads-around n dual solve x' p' d e P t);
              }

  -- ---- all that are remembered

  -- each set of those that are held, put down in h, and what leads from one to another
  pub record Trail (x : List Float) (p : List ℕ) (h : List ℕ) (held past f : ℕ) : Type 0 where
    pub each : (i : ℕ) → i < held → Memory n dual solve x p (mark_at h i past f)
    pub pairs : (i j : ℕ) → i < held → j < held → nth h (5 * i + 2) ≤ nth h (5 * j + 2) → Between (mark_at h i past f) (mark_at h j past f)

  -- the set with which a round begins
  module _ (x : List Float) (p h h' : List ℕ) (held low high past f g held' : ℕ) (F : Fixed n solve x p) (D : 4 ≤ past → Digits n p low high) (S : (i : ℕ) → i < held → nth h (5 * i + 2) < past) (T : Trail x p h held past f)
      (p₁ : List ℕ) (z₁ : List Float) (K : pass n dual solve x p f ≡ kept p₁ z₁ g) (u : g ≤ f + 66) (R : Recorded held low high past f g h h' held') where
    abbrev new : Mark
    new = record { past = past; factorings = f; low = low; high = high; since = past; spent = f; tried = g }

    between-self : 4 ≤ past → Between new new
    between-self w = record {
      from = p;
      to = p;
      from-size = F.size;
      to-size = F.size;
      from_low = F.low;
      to_low = F.low;
      from-digits = D w;
      to-digits = D w;
      more = omega arith;
      leads = standing (solve p).z p past f;
    }

    between-new : 4 ≤ past → (c : Mark) → c.past ≡ past → c.factorings ≡ f → Memory n dual solve x p c → Between c new
    between-new w c ep ef M = record {
      from = M.marks;
      to = p;
      from-size = M.size;
      to-size = F.size;
      from_low = M.low;
      to_low = F.low;
      from-digits = M.digits;
      to-digits = D w;
      more = let a = M.more in omega (arith, a, ef);
      leads =
          subst (λ (t : List Float). Leads n dual solve (solve M.marks).z M.marks (past - c.since) (f - c.spent) t p) F.values
          (leads-same (solve M.marks).z x M.marks p (c.past - c.since) (past - c.since) (c.factorings - c.spent) (f - c.spent) (ap (λ (t : ℕ). t - c.since) ep) (ap (λ (t : ℕ). t - c.spent) ef) M.leads);
    }

    new-memory : 4 ≤ past → Memory n dual solve x p new
    new-memory w = record {
      marks = p;
      size = F.size;
      low = F.low;
      digits = D w;
      earlier = omega arith;
      more = omega arith;
      few = omega arith;
      trial = record { set = p₁; values = z₁; keeps = subst (λ (t : List Float). pass n dual solve t p f ≡ kept p₁ z₁ g) F.values K };
      within = u;
      leads = subst (λ (t : List Float). Leads n dual solve t p (past - past) (f - f) x p) F.values (standing x p past f);
    }

    after-old : (i : ℕ) → i < held → (j : ℕ) → j < held' → nth h (5 * i + 2) ≤ nth h' (5 * j + 2) → Between (mark_at h i past f) (mark_at h' j past f)
    after-old i b = each-mark (λ (m : Mark). nth h (5 * i + 2) ≤ m.since → Between (mark_at h i past f) m) past f held low high g h h' held' R (λ j d. T.pairs i j b d) (λ w e. between-new w (mark_at h i past f) refl refl (T.each i b))

    after-new : 4 ≤ past → (j : ℕ) → j < held' → past ≤ nth h' (5 * j + 2) → Between new (mark_at h' j past f)
    after-new w = each-mark (λ (m : Mark). past ≤ m.since → Between new m) past f held low high g h h' held' R (λ j d e. absurd (let o : 0 < 0 = let q = S j d in omega (arith, q, e) in not-suc-le-zero o)) (λ v e. between-self v)

    pub trail-recorded : Trail x p h' held' past f
    trail-recorded = record {
      each = each-mark (Memory n dual solve x p) past f held low high g h h' held' R T.each new-memory;
      pairs = λ i j b d e. each-mark (λ (m : Mark). (j : ℕ) → j < held' → m.since ≤ nth h' (5 * j + 2) → Between m (mark_at h' j past f)) past f held low high g h h' held' R after-old after-new i b j d e;
    }

  -- ---- the round, and where a set is back

  abbrev Capped : ℕ → ℕ → Counted Accepted
  Capped r f = record { answer = iteration_cap; rounds = r; factorings = f }

  -- what it says of the rounds that go on, and of all that are remembered
  pub record GoesOn (k : ℕ) (x : List Float) (p : List ℕ) (past f : ℕ) (h : List ℕ) (r : Course) : Type 0 where
    pub trail : Trail x p h r.held r.past r.factorings
    pub strict : (i : ℕ) → i < r.held → nth h (5 * i + 2) < r.past
    pub numbers : 4 ≤ r.past → Digits n p r.low r.high
    pub full : r.held ≤ 16
    pub ahead : past ≤ r.past
    pub within : r.past ≤ k
    pub more : f ≤ r.factorings
    pub few : r.factorings ≤ 132 * r.past
    pub around : Leads n dual solve x p (r.past - past) (r.factorings - f) x p

  module _ (x x' : List Float) (p p' h : List ℕ) (held past f f' : ℕ) (F : Fixed n solve x' p') (T : Trail x p h held past f) (full : held ≤ 16) (l : f ≤ f') (u : f' ≤ f + 132)
      (once : Leads n dual solve x p 1 (f' - f) x' p') where
    pub all-behind : (i : ℕ) → i < held → Behind (mark_at h i past f) f'
    all-behind i b = behind x x' p p' (mark_at h i past f) f' F (T.each i b) l u once

    module _ (k : ℕ) (w : past < k) (v : f' ≤ 132 * (past + 1)) where
      onward-each : (i : ℕ) → i < held → Memory n dual solve x' p' (mark_at h i (past + 1) f')
      onward-each i b = look-onward x x' p p' (mark_at h i past f) f' F (T.each i b) l u once k w v

      onward-pairs : (i j : ℕ) → i < held → j < held → nth h (5 * i + 2) ≤ nth h (5 * j + 2) → Between (mark_at h i (past + 1) f') (mark_at h j (past + 1) f')
      onward-pairs i j b d e =
          let B = T.pairs i j b d e in
          record { from = B.from; to = B.to; from-size = B.from-size; to-size = B.to-size; from_low = B.from_low; to_low = B.to_low; from-digits = B.from-digits; to-digits = B.to-digits; more = B.more; leads = B.leads }

      pub round-on : (low high : ℕ) → (4 ≤ past + 1 → Digits n p' low high) → GoesOn k x' p' (past + 1) f' h (record { past = past + 1; factorings = f'; held = held; low = low; high = high })
      round-on low high D = record {
        trail = record { each = onward-each; pairs = onward-pairs };
        strict = λ i b. let a = (T.each i b).earlier in omega (arith, a);
        numbers = D;
        full = full;
        ahead = omega arith;
        within = omega (arith, w);
        more = omega arith;
        few = v;
        around = standing x' p' (past + 1) f';
      }

      module _ (i : ℕ) (b : i < held) (D : Digits n p' (nth h (5 * i)) (nth h (5 * i + 1))) (r : Counts) (R : Repeated (past + 1 - nth h (5 * i + 2)) (f' - nth h (5 * i + 3)) (past + 1) f' k r) where
        back : Looked k x' p' (past + 1) f' r
        back =
            look-back x x' p p' (mark_at h i past f) f' F (T.each i b) l u once k w v
            (digits-told n (nth h (5 * i)) (nth h (5 * i + 1)) (T.each i b).marks p' (T.each i b).size F.size (T.each i b).low F.low (T.each i b).digits D) r R

        pub back_on : (low high : ℕ) → Digits n p' low high → GoesOn k x' p' (past + 1) f' h (record { past = r.past; factorings = r.factorings; held = 0; low = low; high = high })
        back_on low high E = record {
          trail = record { each = λ j z. absurd (not-suc-le-zero z); pairs = λ j t z. absurd (not-suc-le-zero z) };
          strict = λ j z. absurd (not-suc-le-zero z);
          numbers = λ z. E;
          full = omega arith;
          ahead = back.ahead;
          within = back.within;
          more = back.more;
          few = back.few;
          around = back.around;
        }

        -- the rounds that are left lead to the set at place t, and its pass is the last
        module _ (t : ℕ) (bt : t < held) (e : nth h (5 * t + 2) ≡ nth h (5 * i + 2) + (k - r.past)) where
          between : Between (mark_at h i past f) (mark_at h t past f)
          between = T.pairs i t b bt (omega (arith, e))

          start : between.from ≡ p'
          start = digits-told n (nth h (5 * i)) (nth h (5 * i + 1)) between.from p' between.from-size F.size between.from_low F.low between.from-digits D

          end : (T.each t bt).marks ≡ between.to
          end = digits-told n (nth h (5 * t)) (nth h (5 * t + 1)) (T.each t bt).marks between.to (T.each t bt).size between.to-size (T.each t bt).low between.to_low (T.each t bt).digits between.to-digits

          keeps : pass n dual solve (solve between.to).z between.to (nth h (5 * t + 3)) ≡ kept (T.each t bt).trial.set (T.each t bt).trial.values (nth h (5 * t + 4))
          keeps = subst (λ (q : List ℕ). pass n dual solve (solve q).z q (nth h (5 * t + 3)) ≡ kept (T.each t bt).trial.set (T.each t bt).trial.values (nth h (5 * t + 4))) end (T.each t bt).trial.keeps

          from-here : Leads n dual solve x' p' (nth h (5 * t + 2) - nth h (5 * i + 2)) (nth h (5 * t + 3) - nth h (5 * i + 3)) (solve between.to).z between.to
          from-here =
              subst (λ (v : List Float). Leads n dual solve v p' (nth h (5 * t + 2) - nth h (5 * i + 2)) (nth h (5 * t + 3) - nth h (5 * i + 3)) (solve between.to).z between.to) (sym F.values)
              (subst (λ (q : List ℕ). Leads n dual solve (solve q).z q (nth h (5 * t + 2) - nth h (5 * i + 2)) (nth h (5 * t + 3) - nth h (5 * i + 3)) (solve between.to).z between.to) start between.leads)

          pub back-ended : rounds n dual solve (k - (past + 1)) x' p' (past + 1) f' ≡ Capped k (r.factorings + nth h (5 * t + 4) - nth h (5 * i + 3))
          back-ended =
              let i1 = back.ahead in
              let i2 = back.within in
              let i3 = back.more in
              let m = between.more in
              let q = pass-more n dual solve (solve between.to).z between.to (nth h (5 * t + 3)) (T.each t bt).trial.set (T.each t bt).trial.values (nth h (5 * t + 4)) keeps in
              let g = nth h (5 * t + 4) - nth h (5 * t + 3) + (f' + (r.factorings - f') + (nth h (5 * t + 3) - nth h (5 * i + 3))) in
              let s = (T.each i b).more in
              ap (λ (v : ℕ). rounds n dual solve v x' p' (past + 1) f') (omega (arith, i1, i2, e))
              ∙ back.around (0 + (nth h (5 * t + 2) - nth h (5 * i + 2))) (past + 1) f'
              ∙ from-here 0 (past + 1 + (r.past - (past + 1))) (f' + (r.factorings - f'))
              ∙ rounds-last n dual solve (solve between.to).z between.to (past + 1 + (r.past - (past + 1)) + (nth h (5 * t + 2) - nth h (5 * i + 2))) (f' + (r.factorings - f') + (nth h (5 * t + 3) - nth h (5 * i + 3))) 0
              (T.each t bt).trial.set (T.each t bt).trial.values g refl
              (pass-moved n dual solve (solve between.to).z between.to (nth h (5 * t + 3)) (T.each t bt).trial.set (T.each t bt).trial.values (nth h (5 * t + 4)) keeps (f' + (r.factorings - f') + (nth h (5 * t + 3) - nth h (5 * i + 3))))
              ∙ ap₂ Capped (omega (arith, i1, i2, e)) (omega (arith, i3, m, q, s, l))

  -- ---- a look back, after a round

  -- the rounds go on; or all that were left are counted
  abbrev pub Outcome : (k : ℕ) (x : List Float) (p : List ℕ) (past f : ℕ) (h : List ℕ) → Result Course Counts → Type 0
  Outcome k x p past f h (Ok r) = GoesOn k x p past f h r
  Outcome k x p past f h (Err r) = rounds n dual solve (k - past) x p past f ≡ Capped r.past r.factorings

  pub looked : (x x' : List Float) (p p' h h' : List ℕ) (c : Course) (g f : ℕ) → Fixed n solve x p → Fixed n solve x' p' → (4 ≤ c.past → Digits n p c.low c.high) → ((i : ℕ) → i < c.held → nth h (5 * i + 2) < c.past)
      → Trail x p h c.held c.past c.factorings → c.held ≤ 16 → (p₁ : List ℕ) (z₁ : List Float) → pass n dual solve x p c.factorings ≡ kept p₁ z₁ g → g ≤ c.factorings + 66 → c.factorings ≤ f → f ≤ c.factorings + 132
      → Leads n dual solve x p 1 (f - c.factorings) x' p' → (k : ℕ) → c.past < k → f ≤ 132 * (c.past + 1) → (r : Result Course Counts) → LookedBack n k p' c g f h h' r → Outcome k x' p' (c.past + 1) f h' r
  looked x x' p p' h h' c g f F F' D S T full p₁ z₁ K u l m once k w v _ (goes_on held R low high E) =
      let T' = trail-recorded x p h h' c.held c.low c.high c.past c.factorings g held F D S T p₁ z₁ K u R in
      let full' = recorded-full c.past c.factorings c.held c.low c.high g h h' held R full in
      round-on x x' p p' h' held c.past c.factorings f F' T' full' l m once k w v low high E
  looked x x' p p' h h' c g f F F' D S T full p₁ z₁ K u l m once k w v r (came_back held R i b E low high Eₙ r₁ C) =
      let T' = trail-recorded x p h h' c.held c.low c.high c.past c.factorings g held F D S T p₁ z₁ K u R in
      let full' = recorded-full c.past c.factorings c.held c.low c.high g h h' held R full in
      go T' full' r₁ C
    where
      go : Trail x p h' held c.past c.factorings → held ≤ 16 → (s : Result Course Counts) → CameBack h' held i low high (c.past + 1) f k s → Outcome k x' p' (c.past + 1) f h' s
      go T' full' _ (onward q Q) = back_on x x' p p' h' held c.past c.factorings f F' T' full' l m once k w v i b E q Q low high Eₙ
      go T' full' _ (ended q Q t bt et) = back-ended x x' p p' h' held c.past c.factorings f F' T' full' l m once k w v i b E q Q t bt et
