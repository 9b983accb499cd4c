-- Answers: slopes that are known, and trials that are judged.
use Prim.Native.Nat.{ℕ, zero, suc, ◌-◌, ◌*◌, ◌≤◌, ◌<◌}
use mathlib.Core.Path.{◌≡◌, refl, sym, ap, ◌∙◌, subst}
use mathlib.Core.Bool.{Bool, true, false}
use mathlib.Core.List.{List, [], ◌∷◌}
use native.Mathlib.Omega.{arith}
use lib.Dec.{eqb}
use lib.ListN.{length}
use lib.Ieee.{Float}
use Rattle.numbers.specs.Numbers.{one, at, nth}
use Rattle.workspace.specs.Readings.{vec}
use Rattle.workspace.proofs.Readings.{length-vec}
use Rattle.hessian.specs.Hessian.{identity}
use Rattle.search_open.specs.declared.Opening.{Opening}
use Rattle.search_open.specs.declared.Opening.TheVariants.{Go, Converged, Infeasible}
use Rattle.search_open.specs.inner.Work.{Opens, opened_by}
use Rattle.search_open.proofs.After.{reads-after}
use Rattle.search.specs.Setup.{Setup, Point, converged, infeasible}
use Rattle.search.specs.Turn.{Iterate, Line, Opened, first, reset, opened, backtracks, merit, is_enough, shorter, moved, is_settled}
use Rattle.search.specs.Machine.{Machine, try_next, turn_next, judge_next, shorten_next, refused_next}
use Rattle.search.specs.Layout.{bit, laid, setup_in, new_in, iterate_in, line_in, report_in, iterate_floats}
use Rattle.search.specs.inner.Work.{Ready, Turned, fresh_words, opened_floats, opened_words}
use Rattle.search.proofs.Laying.{size, laid_in, laid-below, vec-below, laid-again}
use Rattle.search.proofs.Layouts.{bounds, bit-few}
use Rattle.search.proofs.Relaid.{more, point-again}
use Rattle.search.proofs.Sizes.{fit-reset, fit-first, fit-moved}
use Rattle.search.proofs.Rereads.{words-laid, ready-after}
use Rattle.search_next.specs.inner.Next.{Ends, tried_in, turned_in, arrived_in, trial_in, taken_in, judged_in}
use Rattle.search_next.proofs.Read.{fits-new, fits-iterate, as_read}
use Rattle.search_next.proofs.Tried.{end_after, turn-after, turn_stopped, turn-goes}

-- ---- slices that are still ready

pub fresh-ready : (n m : ℕ) (t : Bool) (f f' : List Float) (u u' : List ℕ) → Ready n m f u → length f' ≡ length f → u' ≡ fresh_words t u → Ready n m f' u'
fresh-ready n m t f f' u u' r z e =
    let U = fresh_words t u in
    let l : nth U 3 ≤ 1 = subst (λ (k : ℕ). k ≤ 1) (sym (let y = r.words in laid_in 3 (bit t ∷ []) u 0 0 (omega arith) (omega arith))) (bit-few t) in
    subst (λ (x : List ℕ). Ready n m f' x) (sym e) (ready-after n m f f' u U r z (words-laid 3 (bit t ∷ []) u (omega arith)) l)

pub goal-ready : (n m k : ℕ) (f f' : List Float) (u u' : List ℕ) → Ready n m f u → length f' ≡ length f → u' ≡ laid 4 (k ∷ []) u → Ready n m f' u'
goal-ready n m k f f' u u' r z e =
    let U = laid 4 (k ∷ []) u in
    let l : nth U 3 ≤ 1 = subst (λ (t : ℕ). t ≤ 1) (sym (laid-below 4 (k ∷ []) u 3 0 (omega arith))) r.fresh in
    subst (λ (x : List ℕ). Ready n m f' x) (sym e) (ready-after n m f f' u U r z (words-laid 4 (k ∷ []) u (omega arith)) l)

-- ---- what was opened

pub goes : (n m : ℕ) (r : Opening) (f f' f'' : List Float) (u u' u'' : List ℕ) → Ready n m f u → r ≡ Go → Opens r (opened (setup_in f u) (iterate_in n m f u)) f f' u u'
    → Turned (setup_in f' u') (tried_in n m f' u' one backtracks) f' f'' u' u'' → Turned (setup_in f u) (turned_in n m f u) f f'' u u''
goes n m r f f' f'' u u' u'' h e E t =
    let o = E.opening ∙ ap (λ (x : Opening). opened_by x E.iterate E.line) e in
    let R = reads-after n m f u h r f' u' E in
    turn-goes n m E.iterate E.line f f' f'' u u' u'' h o (E.floats ∙ ap (λ (x : Opened). opened_floats x f) o) (E.words ∙ ap (λ (x : Opened). opened_words x u) o) R.problem R.iterate (R.line e) t

pub converges : (n m : ℕ) (r : Opening) (f f' f'' : List Float) (u u' u'' : List ℕ) → Ready n m f u → r ≡ Converged → Opens r (opened (setup_in f u) (iterate_in n m f u)) f f' u u'
    → Ends 6 (report_in (nth u' 8) (nth u' 9) f') f' f'' u' u'' → Turned (setup_in f u) (turned_in n m f u) f f'' u u''
converges n m r f f' f'' u u' u'' h e E t =
    let o = E.opening ∙ ap (λ (x : Opening). opened_by x E.iterate E.line) e in
    turn_stopped n m 6 converged E.iterate f f' f'' u u' u'' h refl o (E.floats ∙ ap (λ (x : Opened). opened_floats x f) o) (E.words ∙ ap (λ (x : Opened). opened_words x u) o) t

pub fails : (n m : ℕ) (r : Opening) (f f' f'' : List Float) (u u' u'' : List ℕ) → Ready n m f u → r ≡ Infeasible → Opens r (opened (setup_in f u) (iterate_in n m f u)) f f' u u'
    → Ends 7 (report_in (nth u' 8) (nth u' 9) f') f' f'' u' u'' → Turned (setup_in f u) (turned_in n m f u) f f'' u u''
fails n m r f f' f'' u u' u'' h e E t =
    let o = E.opening ∙ ap (λ (x : Opening). opened_by x E.iterate E.line) e in
    turn_stopped n m 7 infeasible E.iterate f f' f'' u u' u'' h refl o (E.floats ∙ ap (λ (x : Opened). opened_floats x f) o) (E.words ∙ ap (λ (x : Opened). opened_words x u) o) t

-- ---- slopes are known

-- at the start
abbrev ArriveFirst : (n m : ℕ) (f f' f'' w : List Float) (u u' u'' : List ℕ) → Type 0
ArriveFirst n m f f' f'' w u u' u'' =
    eqb (nth u 4) 0 ≡ true → f' ≡ iterate_floats (first (setup_in f u) (new_in n m f) (vec 0 (suc m * n) w)) f → u' ≡ fresh_words true u
    → Turned (setup_in f' u') (turned_in n m f' u') f' f'' u' u'' → Turned (setup_in f u) (arrived_in n m f u (vec 0 (suc m * n) w)) f f'' u u''

arrive-first-here : (f f' f'' w : List Float) (u u' u'' : List ℕ) → Ready (nth u 8) (nth u 9) f u → ArriveFirst (nth u 8) (nth u 9) f f' f'' w u u' u''
arrive-first-here f f' f'' w u u' u'' r e ef eu t =
    let n = nth u 8 in let m = nth u 9 in
    let g = vec 0 (suc m * n) w in
    rw e (turn-after n m (first (setup_in f u) (new_in n m f) g) f f' f'' u u' u'' (fit-first (setup_in f u) (new_in n m f) g (fits-new n m f) (length-vec 0 (suc m * n) w)) r ef eu t)

pub arrive-first : (n m : ℕ) (f f' f'' w : List Float) (u u' u'' : List ℕ) → Ready n m f u → ArriveFirst n m f f' f'' w u u' u''
arrive-first n m f f' f'' w u u' u'' r = as_read (λ n m. ArriveFirst n m f f' f'' w u u' u'') n m f u r (arrive-first-here f f' f'' w u u' u'')

-- at a point that was accepted: the run has settled, or goes on
abbrev ArriveMoved : (settled : Bool) (n m : ℕ) (f f' f'' w : List Float) (u u' u'' : List ℕ) → Type 0
ArriveMoved true n m f f' f'' w u u' u'' = Ends 6 (report_in (nth u' 8) (nth u' 9) f') f' f'' u' u'' → Turned (setup_in f u) (arrived_in n m f u (vec 0 (suc m * n) w)) f f'' u u''
ArriveMoved false n m f f' f'' w u u' u'' = Turned (setup_in f' u') (turned_in n m f' u') f' f'' u' u'' → Turned (setup_in f u) (arrived_in n m f u (vec 0 (suc m * n) w)) f f'' u u''

abbrev Arrives : (settled : Bool) (n m : ℕ) (f f' f'' w : List Float) (u u' u'' : List ℕ) → Type 0
Arrives settled n m f f' f'' w u u' u'' =
    eqb (nth u 4) 0 ≡ false → is_settled (setup_in f u) (iterate_in n m f u) (new_in n m f) ≡ settled
    → f' ≡ iterate_floats (moved (setup_in f u) (iterate_in n m f u) (new_in n m f) (vec 0 (suc m * n) w)) f → u' ≡ fresh_words false u → ArriveMoved settled n m f f' f'' w u u' u''

moved-fresh : (p : Setup) (s : Iterate) (q : Point) (g : List Float) → (moved p s q g).fresh ≡ false
unfolding moved
moved-fresh p s q g = refl

arrives-here : (settled : Bool) (f f' f'' w : List Float) (u u' u'' : List ℕ) → Ready (nth u 8) (nth u 9) f u → Arrives settled (nth u 8) (nth u 9) f f' f'' w u u' u''
arrives-here true f f' f'' w u u' u'' r e s ef eu = λ t.
    let n = nth u 8 in let m = nth u 9 in
    let g = vec 0 (suc m * n) w in
    let M = moved (setup_in f u) (iterate_in n m f u) (new_in n m f) g in
    let h = fit-moved (setup_in f u) (iterate_in n m f u) (new_in n m f) g (fits-iterate n m f u) (fits-new n m f) (length-vec 0 (suc m * n) w) in
    rw (e, s) (end_after n m 6 M f f' f'' u u' u'' r h ef (eu ∙ ap (λ (b : Bool). fresh_words b u) (sym (moved-fresh (setup_in f u) (iterate_in n m f u) (new_in n m f) g))) t converged refl)
arrives-here false f f' f'' w u u' u'' r e s ef eu = λ t.
    let n = nth u 8 in let m = nth u 9 in
    let g = vec 0 (suc m * n) w in
    let M = moved (setup_in f u) (iterate_in n m f u) (new_in n m f) g in
    let h = fit-moved (setup_in f u) (iterate_in n m f u) (new_in n m f) g (fits-iterate n m f u) (fits-new n m f) (length-vec 0 (suc m * n) w) in
    rw (e, s) (turn-after n m M f f' f'' u u' u'' h r ef (eu ∙ ap (λ (b : Bool). fresh_words b u) (sym (moved-fresh (setup_in f u) (iterate_in n m f u) (new_in n m f) g))) t)

pub arrives : (settled : Bool) (n m : ℕ) (f f' f'' w : List Float) (u u' u'' : List ℕ) → Ready n m f u → Arrives settled n m f f' f'' w u u' u''
arrives settled n m f f' f'' w u u' u'' r = as_read (λ n m. Arrives settled n m f f' f'' w u u' u'') n m f u r (arrives-here settled f f' f'' w u u' u'')

-- ---- B is reset

reset-laid : (f : List Float) (u : List ℕ) → Ready (nth u 8) (nth u 9) f u → laid 720 (identity (nth u 8)) f ≡ iterate_floats (reset (setup_in f u) (iterate_in (nth u 8) (nth u 9) f u)) f
reset-laid f u r =
    let n = nth u 8 in let m = nth u 9 in
    let z = r.floats in let l = r.few in let k = r.constraints in
    let B = bounds n m l k in
    let a = more 80 m f _ (more 96 m f _ (point-again n m f l k z) (omega arith)) (omega arith) in
    let I = laid 720 (identity n) f in
    let y : length I ≡ 1024 = size 720 _ f 1024 z in
    let v : vec 176 (suc m * n) I ≡ vec 176 (suc m * n) f = vec-below 176 (suc m * n) 720 _ _ (omega arith) in
    sym (ap (λ (t : List Float). laid 176 (vec 176 (suc m * n) f) (laid 720 (identity n) t)) a ∙ ap (λ (t : List Float). laid 176 t I) (sym v) ∙ laid-again 176 (suc m * n) I (omega arith))

abbrev Resets : (n m : ℕ) (f f' f'' : List Float) (u u' u'' : List ℕ) → Type 0
Resets n m f f' f'' u u' u'' =
    f' ≡ laid 720 (identity n) f → u' ≡ laid 3 (1 ∷ []) u → Turned (setup_in f' u') (turned_in n m f' u') f' f'' u' u''
    → Turned (setup_in f u) (turn_next (setup_in f u) (nth u 1) (reset (setup_in f u) (iterate_in n m f u))) f f'' u u''

resets-here : (f f' f'' : List Float) (u u' u'' : List ℕ) → Ready (nth u 8) (nth u 9) f u → Resets (nth u 8) (nth u 9) f f' f'' u u' u''
resets-here f f' f'' u u' u'' r ef eu t =
    let n = nth u 8 in let m = nth u 9 in
    turn-after n m (reset (setup_in f u) (iterate_in n m f u)) f f' f'' u u' u'' (fit-reset (setup_in f u) (iterate_in n m f u) (fits-iterate n m f u)) r (ef ∙ reset-laid f u r) eu t

pub resets : (n m : ℕ) (f f' f'' : List Float) (u u' u'' : List ℕ) → Ready n m f u → Resets n m f f' f'' u u' u''
resets n m f f' f'' u u' u'' r = as_read (λ n m. Resets n m f f' f'' u u' u'') n m f u r (resets-here f f' f'' u u' u'')

-- ---- a trial is judged

module _ (n m : ℕ) (v f f' : List Float) (u u' : List ℕ) (φ : Float) where
  pub judge-taken : φ ≡ merit (setup_in f u) (vec 80 m f) v → is_enough (line_in n f) (at f 1) φ ≡ true → Turned (setup_in f u) (taken_in n m f u v) f f' u u' → Turned (setup_in f u) (judged_in n m f u v) f f' u u'
  unfolding judge_next
  judge-taken e h t = rw (← e, h) t

  shorten-more : (a : ℕ) (p : Setup) (b : ℕ) (s : Iterate) (line : Line) (α : Float) (q : Point) → 0 < a → shorten_next a p b s line α q ≡ try_next b s line α (a - 1)
  shorten-more zero p b s line α q h = absurd (omega arith)
  shorten-more (suc a) p b s line α q h = let e : a ≡ suc a - 1 = omega arith in ap (λ (t : ℕ). try_next b s line α t) e

  pub judge-again : (α : Float) → φ ≡ merit (setup_in f u) (vec 80 m f) v → is_enough (line_in n f) (at f 1) φ ≡ false → 0 < nth u 2 → α ≡ shorter (line_in n f) (at f 1) φ
      → Turned (setup_in f u) (tried_in n m f u α (nth u 2 - 1)) f f' u u' → Turned (setup_in f u) (judged_in n m f u v) f f' u u'
  unfolding judge_next
  judge-again α e h l s t = rw (← e, h, shorten-more (nth u 2) (setup_in f u) (nth u 1) (iterate_in n m f u) (line_in n f) (shorter (line_in n f) (at f 1) φ) (trial_in n m f u v) l, ← s) t

  pub judge-last : φ ≡ merit (setup_in f u) (vec 80 m f) v → is_enough (line_in n f) (at f 1) φ ≡ false → nth u 2 ≡ 0 → eqb (nth u 3) 1 ≡ true → Turned (setup_in f u) (taken_in n m f u v) f f' u u'
      → Turned (setup_in f u) (judged_in n m f u v) f f' u u'
  unfolding judge_next
  judge-last e h a b t = rw (← e, h, a) (subst (λ (M : Machine). Turned (setup_in f u) M f f' u u') (sym (ap (λ (x : Bool). refused_next x (setup_in f u) (nth u 1) (iterate_in n m f u) (trial_in n m f u v)) b)) t)

  pub judge-reset : φ ≡ merit (setup_in f u) (vec 80 m f) v → is_enough (line_in n f) (at f 1) φ ≡ false → nth u 2 ≡ 0 → eqb (nth u 3) 1 ≡ false
      → Turned (setup_in f u) (turn_next (setup_in f u) (nth u 1) (reset (setup_in f u) (iterate_in n m f u))) f f' u u' → Turned (setup_in f u) (judged_in n m f u v) f f' u u'
  unfolding judge_next
  judge-reset e h a b t = rw (← e, h, a) (subst (λ (M : Machine). Turned (setup_in f u) M f f' u u') (sym (ap (λ (x : Bool). refused_next x (setup_in f u) (nth u 1) (iterate_in n m f u) (trial_in n m f u v)) b)) t)
