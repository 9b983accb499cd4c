-- Trials and turns.
use Prim.Native.Nat.{ℕ, zero, suc, ◌+◌, ◌-◌, ◌≤◌}
use mathlib.Core.Path.{◌≡◌, refl, sym, ap, ap₂, ◌∙◌, subst}
use mathlib.Core.List.{List, [], ◌∷◌}
use native.Mathlib.Omega.{arith}
use lib.ListN.{length, set}
use lib.Ieee.{Float, nan}
use Rattle.numbers.specs.Numbers.{one, at, nth, tab, ◌⊕◌, ◌⊗◌}
use Rattle.numbers.proofs.Lists.{tab-same}
use Rattle.workspace.specs.Readings.{vec}
use Rattle.hessian.specs.Hessian.{cholesky}
use Rattle.search.specs.Setup.{Setup, Report, Ending, exhausted}
use Rattle.search.specs.Turn.{Iterate, Line, Opened, stop, go, report_of, opened, backtracks, along, clip}
use Rattle.search.specs.Written.{due}
use Rattle.search.specs.Machine.{Machine, ended, trying, try_next, turn_from, turn_next}
use Rattle.search.specs.Layout.{ending_number, bit, laid, setup_in, iterate_in, line_in, report_in, iterate_floats, machine_floats, machine_words, FitsIterate}
use Rattle.search.specs.inner.Work.{Ready, Turned, fresh_words}
use Rattle.search.proofs.Laying.{laid_in, laid-below, laid-above}
use Rattle.search.proofs.Layouts.{bounds}
use Rattle.search.proofs.Relaid.{more, iterate-again}
use Rattle.search.proofs.Lent.{set-laid}
use Rattle.search.proofs.Sizes.{FitsOpened, fit-factored}
use Rattle.search.proofs.Turns.{FitsReport, covered, iterate-covered, ended-iterate, ended-line, trying-iterate, trying-line, by-due}
use Rattle.search.proofs.Rereads.{words-over, bit_word, words-laid, problem-iterate, setup-after, turned-after, iterate-read, line-laid, along-in}
use Rattle.search_next.specs.inner.Next.{seven_words, Ends, tried_in, turned_in}
use Rattle.search_next.proofs.Read.{fits-iterate, as_read}

-- ---- a trial

due-paid : (b : ℕ) (r : Report) (k : ℕ → Machine) → (b ≡ 0 → ⊥) → due ended b r k ≡ k (b - 1)
due-paid zero r k h = absurd (h refl)
due-paid (suc b) r k h = let e : b ≡ suc b - 1 = omega arith in ap k e

abbrev TryEnded : (n m : ℕ) (f f' : List Float) (u u' : List ℕ) (α : Float) (again : ℕ) → Type 0
TryEnded n m f f' u u' α again = nth u 1 ≡ 0 → Ends 8 (report_in (nth u 8) (nth u 9) f) f f' u u' → Turned (setup_in f u) (tried_in n m f u α again) f f' u u'

try-ended-here : (f f' : List Float) (u u' : List ℕ) (α : Float) (again : ℕ) → Ready (nth u 8) (nth u 9) f u → TryEnded (nth u 8) (nth u 9) f f' u u' α again
try-ended-here f f' u u' α again r e t = rw e (t exhausted refl)

pub try-ended : (n m : ℕ) (f f' : List Float) (u u' : List ℕ) (α : Float) (again : ℕ) → Ready n m f u → TryEnded n m f f' u u' α again
try-ended n m f f' u u' α again r = as_read (λ n m. TryEnded n m f f' u u' α again) n m f u r (try-ended-here f f' u u' α again)

-- the point of a trial, where alpha was written
along-again : (n m : ℕ) (f : List Float) (u : List ℕ) (α : Float) → nth u 8 ≡ n →
    let g = laid 1 (α ∷ []) f in
    tab n (λ i. clip (at g (16 + i)) (at g (32 + i)) (at g (48 + i) ⊕ α ⊗ at g (64 + i))) ≡ along (setup_in f u) (iterate_in n m f u) (line_in n f) α
along-again n m f u α e =
    tab-same n _ _ (λ i l.
    let a = laid-above 1 (α ∷ []) f (16 + i) nan (omega arith) in
    let b = laid-above 1 (α ∷ []) f (32 + i) nan (omega arith) in
    let c = laid-above 1 (α ∷ []) f (48 + i) nan (omega arith) in
    let d = laid-above 1 (α ∷ []) f (64 + i) nan (omega arith) in
    λ t. clip (a t) (b t) (c t ⊕ α ⊗ d t))
    ∙ along-in n m f u α e

-- a trial whose iterate and line are read, but for alpha
trying-here : (f : List Float) (u : List ℕ) (α : Float) (c again : ℕ) → Ready (nth u 8) (nth u 9) f u →
    let n = nth u 8 in let m = nth u 9 in
    laid 976 (along (setup_in f u) (iterate_in n m f u) (line_in n f) α) (laid 1 (α ∷ []) f) ≡ machine_floats (setup_in f u) (trying c (iterate_in n m f u) (line_in n f) α again) f
unfolding machine_floats
trying-here f u α c again r =
    let n = nth u 8 in let m = nth u 9 in
    let z = r.floats in let l = r.few in let k = r.constraints in
    let B = bounds n m l k in
    let a : laid 64 (vec 64 n f) (iterate_floats (iterate_in n m f u) f) ≡ f = more 64 n f _ (iterate-again n m f u l k B.0 B.1 z) (omega arith) in
    sym (ap (λ (t : List Float). laid 976 (along (setup_in f u) (iterate_in n m f u) (line_in n f) α) t) (ap (λ (t : List Float). laid 1 (α ∷ at f 2 ∷ at f 3 ∷ []) t) a ∙ line-laid α f (omega arith)))

abbrev TryMade : (n m : ℕ) (f f' : List Float) (u u' : List ℕ) (α : Float) (again : ℕ) → Type 0
TryMade n m f f' u u' α again =
    (nth u 1 ≡ 0 → ⊥)
    → (let g = set f 1 α in f' ≡ laid 976 (tab n (λ i. clip (at g (16 + i)) (at g (32 + i)) (at g (48 + i) ⊕ α ⊗ at g (64 + i)))) g)
    → u' ≡ seven_words 2 (nth u 1 - 1) again (nth u 3) 1 0 0 u → Turned (setup_in f u) (tried_in n m f u α again) f f' u u'

try-made-here : (f f' : List Float) (u u' : List ℕ) (α : Float) (again : ℕ) → Ready (nth u 8) (nth u 9) f u → TryMade (nth u 8) (nth u 9) f f' u u' α again
unfolding machine_words
try-made-here f f' u u' α again r h ef eu =
    let n = nth u 8 in let m = nth u 9 in
    let g : f' ≡ laid 976 (along (setup_in f u) (iterate_in n m f u) (line_in n f) α) (laid 1 (α ∷ []) f) =
    ef ∙ ap (λ (g : List Float). laid 976 (tab n (λ i. clip (at g (16 + i)) (at g (32 + i)) (at g (48 + i) ⊕ α ⊗ at g (64 + i)))) g) (set-laid 1 α f)
    ∙ ap (λ (t : List Float). laid 976 t (laid 1 (α ∷ []) f)) (along-again n m f u α refl) in
    subst (λ (M : Machine). Turned (setup_in f u) M f f' u u') (sym (due-paid (nth u 1) (report_of (iterate_in n m f u)) (λ c. trying c (iterate_in n m f u) (line_in n f) α again) h))
    (record { floats = g ∙ trying-here f u α (nth u 1 - 1) again r; words = eu ∙ ap (λ (t : ℕ). seven_words 2 (nth u 1 - 1) again t 1 0 0 u) (sym (bit_word (nth u 3) r.fresh)) })

pub try-made : (n m : ℕ) (f f' : List Float) (u u' : List ℕ) (α : Float) (again : ℕ) → Ready n m f u → TryMade n m f f' u u' α again
try-made n m f f' u u' α again r = as_read (λ n m. TryMade n m f f' u u' α again) n m f u r (try-made-here f f' u u' α again)

-- ---- an iterate that was written

-- the run ends with it
abbrev EndAfter : (n m k : ℕ) (s : Iterate) (f f' f'' : List Float) (u u' u'' : List ℕ) → Type 0
EndAfter n m k s f f' f'' u u' u'' =
    f' ≡ iterate_floats s f → u' ≡ fresh_words s.fresh u → Ends k (report_in (nth u' 8) (nth u' 9) f') f' f'' u' u'' → Ends k (report_of s) f f'' u u''

pub end_after : (n m k : ℕ) (s : Iterate) (f f' f'' : List Float) (u u' u'' : List ℕ) → Ready n m f u → FitsIterate (nth u 8) (nth u 9) s → EndAfter n m k s f f' f'' u u' u''
end_after n m k s f f' f'' u u' u'' r h ef eu E e q =
    as_read (λ n m. Turned (setup_in f u) (ended e (report_of s)) f f'' u u'') n m f u r (λ r.
    let n = nth u 8 in let m = nth u 9 in
    let F = iterate_floats s f in let U = fresh_words s.fresh u in
    let w = words-laid 3 (bit s.fresh ∷ []) u (omega arith) in
    let B = bounds n m r.few r.constraints in
    let T₁ : Turned (setup_in F u') (ended e (report_in (nth u' 8) (nth u' 9) F)) F f'' u' u'' = subst (λ (t : List Float). Turned (setup_in t u') (ended e (report_in (nth u' 8) (nth u' 9) t)) t f'' u' u'') ef (E e q) in
    let T : Turned (setup_in F U) (ended e (report_in (nth U 8) (nth U 9) F)) F f'' U u'' = subst (λ (t : List ℕ). Turned (setup_in F t) (ended e (report_in (nth t 8) (nth t 9) F)) F f'' t u'') eu T₁ in
    let c₃ : nth U 3 ≡ bit s.fresh = let z = r.words in laid_in 3 (bit s.fresh ∷ []) u 0 0 (omega arith) (omega arith) in
    let it = iterate-read n m s f U r.few r.constraints h r.floats c₃ in
    let rep : report_in (nth U 8) (nth U 9) F ≡ report_of s = ap₂ (λ (a b : ℕ). report_in a b F) (w.same 8 (omega arith)) (w.same 9 (omega arith)) ∙ ap report_of it in
    turned-after (setup_in f u) (setup_in F U) (ended e (report_of s)) _ f F f'' u U u'' T
    (setup-after f F u U r.few (problem-iterate s f) w)
    (ap (λ (t : Report). ended e t) rep)
    (iterate-covered (setup_in f u) (ended e (report_of s)) s f (h.point, h.multipliers) h (ended-iterate n m r.few r.constraints B.0 B.1 e (report_of s)))
    (words-over (ended e (report_of s)) u 3 _ (omega arith)))

-- what it was written over does not show behind a turn
absorb-end : (p : Setup) (s : Iterate) (f : List Float) → p.n ≤ 16 → p.m ≤ 16 → FitsIterate p.n p.m s → (e : Ending) (r : Report) → FitsReport p.n p.m r
    → machine_floats p (ended e r) (iterate_floats s f) ≡ machine_floats p (ended e r) f
absorb-end p s f l k h e r q = let B = bounds p.n p.m l k in iterate-covered p (ended e r) s f q h (ended-iterate p.n p.m l k B.0 B.1 e r)

absorb-turn : (p : Setup) (s : Iterate) (f : List Float) (b : ℕ) (o : Opened) → p.n ≤ 16 → p.m ≤ 16 → FitsIterate p.n p.m s → FitsOpened p o
    → machine_floats p (turn_from b o) (iterate_floats s f) ≡ machine_floats p (turn_from b o) f
absorb-turn p s f b (stop e t) l k h g = absorb-end p s f l k h e (report_of t) (g.point, g.multipliers)
absorb-turn p s f b (go t line) l k h g =
    by-due (λ M. machine_floats p M (iterate_floats s f) ≡ machine_floats p M f) (FitsReport p.n p.m) (absorb-end p s f l k h) b (report_of t) _ (g.0.point, g.0.multipliers)
    (λ c. iterate-covered p (trying c t line one backtracks) s f g h (trying-iterate p.n p.m c t line one backtracks))

fits-opened : (p : Setup) (s : Iterate) → FitsIterate p.n p.m s → FitsOpened p (opened p s)
unfolding opened
fits-opened p s h = fit-factored p s (cholesky p.n s.b) h

abbrev TurnAfter : (n m : ℕ) (s : Iterate) (f f' f'' : List Float) (u u' u'' : List ℕ) → Type 0
TurnAfter n m s f f' f'' u u' u'' =
    f' ≡ iterate_floats s f → u' ≡ fresh_words s.fresh u → Turned (setup_in f' u') (turned_in n m f' u') f' f'' u' u'' → Turned (setup_in f u) (turn_next (setup_in f u) (nth u 1) s) f f'' u u''

turn-after-here : (s : Iterate) (f f' f'' : List Float) (u u' u'' : List ℕ) → FitsIterate (nth u 8) (nth u 9) s → Ready (nth u 8) (nth u 9) f u → TurnAfter (nth u 8) (nth u 9) s f f' f'' u u' u''
unfolding turn_next
turn-after-here s f f' f'' u u' u'' h r ef eu t =
    let n = nth u 8 in let m = nth u 9 in
    let p = setup_in f u in
    let F = iterate_floats s f in let U = fresh_words s.fresh u in
    let w = words-laid 3 (bit s.fresh ∷ []) u (omega arith) in
    let T : Turned (setup_in F U) (turned_in n m F U) F f'' U u'' =
    subst (λ (x : List ℕ). Turned (setup_in F x) (turned_in n m F x) F f'' x u'') eu (subst (λ (x : List Float). Turned (setup_in x u') (turned_in n m x u') x f'' u' u'') ef t) in
    let c₃ : nth U 3 ≡ bit s.fresh = let z = r.words in laid_in 3 (bit s.fresh ∷ []) u 0 0 (omega arith) (omega arith) in
    let c₁ : nth U 1 ≡ nth u 1 = laid-below 3 (bit s.fresh ∷ []) u 1 0 (omega arith) in
    let it = iterate-read n m s f U r.few r.constraints h r.floats c₃ in
    let ep = setup-after f F u U r.few (problem-iterate s f) w in
    turned-after p (setup_in F U) (turn_next p (nth u 1) s) (turned_in n m F U) f F f'' u U u'' T ep
    (λ i. turn_next (ep i) (c₁ i) (it i))
    (absorb-turn p s f (nth u 1) (opened p s) r.few r.constraints h (fits-opened p s h))
    (words-over (turn_next p (nth u 1) s) u 3 _ (omega arith))

pub turn-after : (n m : ℕ) (s : Iterate) (f f' f'' : List Float) (u u' u'' : List ℕ) → FitsIterate (nth u 8) (nth u 9) s → Ready n m f u → TurnAfter n m s f f' f'' u u' u''
turn-after n m s f f' f'' u u' u'' h r = as_read (λ n m. TurnAfter n m s f f' f'' u u' u'') n m f u r (turn-after-here s f f' f'' u u' u'' h)

-- ---- a turn

-- its step is refused, or within the tolerance
abbrev TurnStopped : (n m k : ℕ) (e : Ending) (s : Iterate) (f f' f'' : List Float) (u u' u'' : List ℕ) → Type 0
TurnStopped n m k e s f f' f'' u u' u'' =
    k ≡ ending_number e → opened (setup_in f u) (iterate_in n m f u) ≡ stop e s → f' ≡ iterate_floats s f → u' ≡ fresh_words s.fresh u
    → Ends k (report_in (nth u' 8) (nth u' 9) f') f' f'' u' u'' → Turned (setup_in f u) (turned_in n m f u) f f'' u u''

turn-stopped-here : (k : ℕ) (e : Ending) (s : Iterate) (f f' f'' : List Float) (u u' u'' : List ℕ) → Ready (nth u 8) (nth u 9) f u → TurnStopped (nth u 8) (nth u 9) k e s f f' f'' u u' u''
unfolding turn_next
turn-stopped-here k e s f f' f'' u u' u'' r q o ef eu E =
    let n = nth u 8 in let m = nth u 9 in
    let h : FitsIterate n m s = subst (λ (t : Opened). FitsOpened (setup_in f u) t) o (fits-opened (setup_in f u) (iterate_in n m f u) (fits-iterate n m f u)) in
    rw o (end_after n m k s f f' f'' u u' u'' r h ef eu E e q)

pub turn_stopped : (n m k : ℕ) (e : Ending) (s : Iterate) (f f' f'' : List Float) (u u' u'' : List ℕ) → Ready n m f u → TurnStopped n m k e s f f' f'' u u' u''
turn_stopped n m k e s f f' f'' u u' u'' r = as_read (λ n m. TurnStopped n m k e s f f' f'' u u' u'') n m f u r (turn-stopped-here k e s f f' f'' u u' u'')

-- there is a line
abbrev lined : Iterate → Line → List Float → List Float
lined s line f = laid 1 (one ∷ line.merit ∷ line.slope ∷ []) (laid 64 line.d (iterate_floats s f))

absorb-line : (p : Setup) (s : Iterate) (line : Line) (f : List Float) (b : ℕ) → p.n ≤ 16 → p.m ≤ 16 → FitsIterate p.n p.m s → length line.d ≡ p.n
    → machine_floats p (try_next b s line one backtracks) (lined s line f) ≡ machine_floats p (try_next b s line one backtracks) f
absorb-line p s line f b l k h d =
    let n = p.n in let m = p.m in
    let B = bounds n m l k in
    let q : FitsReport n m (report_of s) = (h.point, h.multipliers) in
    by-due (λ M. machine_floats p M (lined s line f) ≡ machine_floats p M f) (FitsReport n m)
    (λ e r q. let c = ended-line n m l k B.0 B.1 e r in covered p (ended e r) 1 3 _ _ q refl c.1 ∙ covered p (ended e r) 64 n _ _ q d c.0 ∙ absorb-end p s f l k h e r q)
    b (report_of s) _ q
    (λ c. let M = trying c s line one backtracks in let g = trying-line n m c s line one backtracks in
    covered p M 1 3 _ _ (h, d) refl g.1 ∙ covered p M 64 n _ _ (h, d) d g.0 ∙ iterate-covered p M s f (h, d) h (trying-iterate n m c s line one backtracks))

abbrev TurnGoes : (n m : ℕ) (s : Iterate) (line : Line) (f f' f'' : List Float) (u u' u'' : List ℕ) → Type 0
TurnGoes n m s line f f' f'' u u' u'' =
    opened (setup_in f u) (iterate_in n m f u) ≡ go s line → f' ≡ lined s line f → u' ≡ fresh_words s.fresh u
    → setup_in f' u' ≡ setup_in f u → iterate_in n m f' u' ≡ s → line_in n f' ≡ line
    → Turned (setup_in f' u') (tried_in n m f' u' one backtracks) f' f'' u' u'' → Turned (setup_in f u) (turned_in n m f u) f f'' u u''

turn-goes-here : (s : Iterate) (line : Line) (f f' f'' : List Float) (u u' u'' : List ℕ) → Ready (nth u 8) (nth u 9) f u → TurnGoes (nth u 8) (nth u 9) s line f f' f'' u u' u''
unfolding turn_next
turn-goes-here s line f f' f'' u u' u'' r o ef eu ep it li t =
    let n = nth u 8 in let m = nth u 9 in
    let p = setup_in f u in
    let M = try_next (nth u 1) s line one backtracks in
    let g = subst (λ (t : Opened). FitsOpened p t) o (fits-opened p (iterate_in n m f u) (fits-iterate n m f u)) in
    let c₁ : nth u' 1 ≡ nth u 1 = ap (λ (x : List ℕ). nth x 1) eu ∙ laid-below 3 (bit s.fresh ∷ []) u 1 0 (omega arith) in
    rw o (turned-after p (setup_in f' u') M (tried_in n m f' u' one backtracks) f f' f'' u u' u'' t ep
    (λ i. try_next (c₁ i) (it i) (li i) one backtracks)
    (ap (λ (x : List Float). machine_floats p M x) ef ∙ absorb-line p s line f (nth u 1) r.few r.constraints g.0 g.1)
    (ap (λ (x : List ℕ). machine_words M x) eu ∙ words-over M u 3 _ (omega arith)))

pub turn-goes : (n m : ℕ) (s : Iterate) (line : Line) (f f' f'' : List Float) (u u' u'' : List ℕ) → Ready n m f u → TurnGoes n m s line f f' f'' u u' u''
turn-goes n m s line f f' f'' u u' u'' r = as_read (λ n m. TurnGoes n m s line f f' f'' u u' u'') n m f u r (turn-goes-here s line f f' f'' u u' u'')
