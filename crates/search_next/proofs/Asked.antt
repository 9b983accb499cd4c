-- Slopes by differences, and what is asked for them.
use Prim.Native.Nat.{ℕ, zero, suc, ◌+◌, ◌-◌, ◌*◌, ◌≤◌, ◌<◌}
use mathlib.Core.Path.{◌≡◌, refl, sym, ap, ap₂, ◌∙◌, subst}
use mathlib.Core.Bool.{Bool, true, false}
use mathlib.Core.List.{List, [], ◌∷◌}
use mathlib.Core.Logic.{inl, inr}
use native.Mathlib.Nat.{zero-add, suc-add}
use native.Mathlib.Omega.{arith}
use borrow.Author.Tests.{eq-eqb, ne_eqb}
use lib.Dec.{eqb}
use lib.ListN.{length, set}
use lib.Ieee.{Float, nan}
use Rattle.numbers.specs.Numbers.{at, nth, tab, ◌⊕◌, ◌⊖◌}
use Rattle.numbers.proofs.Lists.{get_d-tab}
use Rattle.workspace.specs.Readings.{vec, Block}
use Rattle.workspace.proofs.Readings.{length-vec}
use Rattle.search.specs.Setup.{Setup, Point, Report, exhausted, nonfinite, is_finite}
use Rattle.search.specs.Turn.{move_of, raise, lower}
use Rattle.search.specs.Written.{Goal, report_for, pay}
use Rattle.search.specs.Machine.{Machine, ended, sloping, move_next, slopes_next}
use Rattle.search.specs.Layout.{scheme_of, fronted, laid, setup_in, new_in, goal_in, known, goal_floats, machine_floats, machine_words}
use Rattle.search.specs.inner.Work.{Ready, Turned}
use Rattle.search.proofs.Layouts.{bounds, known-few}
use Rattle.search.proofs.Parts.{copied}
use Rattle.search.proofs.Rereads.{goal-vec, goal-more, due-again}
use Rattle.search_next.specs.inner.Next.{moved_to, moved_state, moved_in, phase_of, price_of, goal_words, Ends, ask_moved, asked_in, sloped_in}
use Rattle.search_next.proofs.Read.{as_read}

-- ---- a coordinate

pub moved_down : (x : Float) (d : Bool) (t : Float) → d ≡ true → t ≡ move_of x → x ⊖ t ≡ moved_to d x
unfolding lower
moved_down x d t e h = rw e (ap (λ (y : Float). x ⊖ y) h)

pub moved_up : (x : Float) (d : Bool) (t : Float) → d ≡ false → t ≡ move_of x → x ⊕ t ≡ moved_to d x
unfolding raise
moved_up x d t e h = rw e (ap (λ (y : Float). x ⊕ y) h)

pub coordinate : (n i cols : ℕ) (f : List Float) → i + suc cols ≡ n → at (vec 112 n f) (n - suc cols) ≡ at f (112 + i)
unfolding vec
coordinate n i cols f h =
    let e : n - suc cols ≡ i = omega arith in
    ap (λ (t : ℕ). at (tab n (λ k. at f (112 + k))) t) e ∙ get_d-tab n (λ k. at f (112 + k)) nan i (omega arith)

-- ---- a point with a coordinate moved

fronted-set : {A : Type 0} (v w : List A) (i : ℕ) (y : A) → i < length v → set (fronted v w) i y ≡ fronted (set v i y) w
unfolding fronted
fronted-set [] w i y h = absurd (omega arith)
fronted-set (a ∷ v) [] zero y h = refl
fronted-set (a ∷ v) [] (suc i) y h = refl
fronted-set (a ∷ v) (b ∷ w) zero y h = refl
fronted-set {A} (a ∷ v) (b ∷ w) (suc i) y h = ap (λ (t : List A). a ∷ t) (fronted-set v w i y (omega arith))

laid-set : {A : Type 0} (o : ℕ) (v w : List A) (i : ℕ) (y : A) → i < length v → set (laid o v w) (o + i) y ≡ laid o (set v i y) w
unfolding laid
laid-set zero v w i y h = rw zero-add (fronted-set v w i y h)
laid-set (suc o) v [] i y h = refl
laid-set {A} (suc o) v (b ∷ w) i y h = rw suc-add (ap (λ (t : List A). b ∷ t) (laid-set o v w i y h))

pub point-written : (n i : ℕ) (y : Float) (f g : List Float) → length f ≡ 1024 → n ≤ 16 → i < n → length g ≡ length f → Block 976 n (λ t. at f (112 + t)) f g
    → set g (976 + i) y ≡ laid 976 (moved_in n i y f) f
point-written n i y f g z l h e b =
    let s = length-vec 112 n f in
    ap (λ (t : List Float). set t (976 + i) y) (copied 976 112 n f g e (omega arith) b) ∙ laid-set 976 (vec 112 n f) f i y (omega arith)

-- ---- what a value costs

abbrev price_by : ℕ → ℕ
price_by zero = 1
price_by (suc w) = 0

price-is : (w rows m : ℕ) → m ≡ rows + w → price_of rows m ≡ price_by w
price-is zero rows m e = let h : rows ≡ m = omega arith in rw (eq-eqb rows m h) refl
price-is (suc w) rows m e = rw (ne_eqb rows m (λ h. absurd (omega arith))) refl

unpaid : (w b : ℕ) (r : Report) (k : ℕ → Machine) → b < price_by w → pay ended w b r k ≡ ended exhausted r
unpaid zero zero r k h = refl
unpaid zero (suc b) r k h = absurd (omega arith)
unpaid (suc w) b r k h = absurd (omega arith)

paid : (w b : ℕ) (r : Report) (k : ℕ → Machine) → price_by w ≤ b → pay ended w b r k ≡ k (b - price_by w)
paid zero zero r k h = absurd (omega arith)
paid zero (suc b) r k h = let e : b ≡ suc b - 1 = omega arith in ap k e
paid (suc w) b r k h = let e : b ≡ b - 0 = omega arith in ap k e

-- ---- a value at a moved point is due

-- the state that asks for it, whose parts are read
moved_here : (p : Setup) (f : List Float) (u : List ℕ) (down : Bool) (c rows cols : ℕ) → p.n ≤ 16 → p.m ≤ 16 → length f ≡ 1024 →
    let n = p.n in let m = p.m in let i = n - suc cols in
    laid 976 (set (vec 112 n f) i (moved_to down (at (vec 112 n f) i))) (goal_floats p (goal_in n m f u) (new_in n m f) f)
    ≡ machine_floats p (moved_state down c (goal_in n m f u) (new_in n m f) rows cols (vec 448 (known n m rows cols) f) (at f 4)) f
unfolding machine_floats vec tab
moved_here p f u false c rows cols l k z =
    let n = p.n in let m = p.m in let t = eqb (nth u 4) 0 in
    let X = set (vec 112 n f) (n - suc cols) (moved_to false (at (vec 112 n f) (n - suc cols))) in
    let B = bounds n m l k in
    let h = known-few n m rows cols B.0 in
    sym (ap (λ (g : List Float). laid 976 X g) (goal-more p f u l k z t 448 (known n m rows cols) _ (due-again p f u l k z t) (inr (omega arith)) (inr (omega arith)) (inr (omega arith)) (omega arith)))
moved_here p f u true c rows cols l k z =
    let n = p.n in let m = p.m in let t = eqb (nth u 4) 0 in
    let X = set (vec 112 n f) (n - suc cols) (moved_to true (at (vec 112 n f) (n - suc cols))) in
    let B = bounds n m l k in
    let h = known-few n m rows cols B.0 in
    sym (ap (λ (g : List Float). laid 976 X g) (goal-more p f u l k z t 4 1 _
    (goal-more p f u l k z t 448 (known n m rows cols) _ (due-again p f u l k z t) (inr (omega arith)) (inr (omega arith)) (inr (omega arith)) (omega arith))
    (inl (omega arith)) (inl (omega arith)) (inl (omega arith)) (omega arith)))

moved-words : (down : Bool) (c : ℕ) (goal : Goal) (q : Point) (rows cols : ℕ) (g : List Float) (v : Float) (u : List ℕ) → goal_words goal (phase_of down) c rows cols u ≡ machine_words (moved_state down c goal q rows cols g v) u
unfolding machine_words
moved-words false c goal q rows cols g v u = refl
moved-words true c goal q rows cols g v u = refl

-- it is asked for, or the run ends
abbrev AskBroken : (n m : ℕ) (f f' : List Float) (u u' : List ℕ) (down : Bool) (rows cols i : ℕ) (y : Float) → Type 0
AskBroken n m f f' u u' down rows cols i y =
    i + suc cols ≡ n → y ≡ moved_to down (at f (112 + i)) → is_finite y ≡ false → Ends 9 (report_for (setup_in f u) (goal_in n m f u) (new_in n m f)) f f' u u'
    → Turned (setup_in f u) (asked_in n m f u down rows cols) f f' u u'

ask-broken-here : (f f' : List Float) (u u' : List ℕ) (down : Bool) (rows cols i : ℕ) (y : Float) → Ready (nth u 8) (nth u 9) f u → AskBroken (nth u 8) (nth u 9) f f' u u' down rows cols i y
ask-broken-here f f' u u' down rows cols i y r h e b t =
    let a : is_finite (moved_to down (at (vec 112 (nth u 8) f) (nth u 8 - suc cols))) ≡ false = ap (λ (x : Float). is_finite (moved_to down x)) (coordinate (nth u 8) i cols f h) ∙ ap is_finite (sym e) ∙ b in
    rw a (t nonfinite refl)

pub ask-broken : (n m : ℕ) (f f' : List Float) (u u' : List ℕ) (down : Bool) (rows cols i : ℕ) (y : Float) → Ready n m f u → AskBroken n m f f' u u' down rows cols i y
ask-broken n m f f' u u' down rows cols i y r = as_read (λ n m. AskBroken n m f f' u u' down rows cols i y) n m f u r (ask-broken-here f f' u u' down rows cols i y)

abbrev AskUnpaid : (n m : ℕ) (f f' : List Float) (u u' : List ℕ) (down : Bool) (rows cols i price : ℕ) (y : Float) → Type 0
AskUnpaid n m f f' u u' down rows cols i price y =
    i + suc cols ≡ n → rows ≤ m → y ≡ moved_to down (at f (112 + i)) → is_finite y ≡ true → price ≡ price_of rows m → nth u 1 < price
    → Ends 8 (report_for (setup_in f u) (goal_in n m f u) (new_in n m f)) f f' u u' → Turned (setup_in f u) (asked_in n m f u down rows cols) f f' u u'

ask-unpaid-here : (f f' : List Float) (u u' : List ℕ) (down : Bool) (rows cols i price : ℕ) (y : Float) → Ready (nth u 8) (nth u 9) f u → AskUnpaid (nth u 8) (nth u 9) f f' u u' down rows cols i price y
ask-unpaid-here f f' u u' down rows cols i price y r h l e b c d t =
    let a : is_finite (moved_to down (at (vec 112 (nth u 8) f) (nth u 8 - suc cols))) ≡ true = ap (λ (x : Float). is_finite (moved_to down x)) (coordinate (nth u 8) i cols f h) ∙ ap is_finite (sym e) ∙ b in
    let g = price-is (nth u 9 - rows) rows (nth u 9) (omega arith) in
    rw (a, unpaid (nth u 9 - rows) (nth u 1) (report_for (setup_in f u) (goal_in (nth u 8) (nth u 9) f u) (new_in (nth u 8) (nth u 9) f)) _ (omega arith)) (t exhausted refl)

pub ask-unpaid : (n m : ℕ) (f f' : List Float) (u u' : List ℕ) (down : Bool) (rows cols i price : ℕ) (y : Float) → Ready n m f u → AskUnpaid n m f f' u u' down rows cols i price y
ask-unpaid n m f f' u u' down rows cols i price y r = as_read (λ n m. AskUnpaid n m f f' u u' down rows cols i price y) n m f u r (ask-unpaid-here f f' u u' down rows cols i price y)

abbrev AskMade : (n m : ℕ) (f g f' : List Float) (u u' : List ℕ) (down : Bool) (rows cols i price phase : ℕ) (y : Float) → Type 0
AskMade n m f g f' u u' down rows cols i price phase y =
    i + suc cols ≡ n → rows ≤ m → y ≡ moved_to down (at f (112 + i)) → is_finite y ≡ true → price ≡ price_of rows m → price ≤ nth u 1 → phase ≡ phase_of down
    → g ≡ goal_floats (setup_in f u) (goal_in n m f u) (new_in n m f) f → f' ≡ laid 976 (moved_in n i y g) g → u' ≡ goal_words (goal_in n m f u) phase (nth u 1 - price) rows cols u
    → Turned (setup_in f u) (asked_in n m f u down rows cols) f f' u u'

ask-made-here : (f g f' : List Float) (u u' : List ℕ) (down : Bool) (rows cols i price phase : ℕ) (y : Float) → Ready (nth u 8) (nth u 9) f u → AskMade (nth u 8) (nth u 9) f g f' u u' down rows cols i price phase y
ask-made-here f g f' u u' down rows cols i price phase y r h l e b c d q eg ef eu =
    let n = nth u 8 in let m = nth u 9 in
    let x = coordinate n i cols f h in
    let a : is_finite (moved_to down (at (vec 112 n f) (n - suc cols))) ≡ true = ap (λ (t : Float). is_finite (moved_to down t)) x ∙ ap is_finite (sym e) ∙ b in
    let w : price_of rows m ≡ price_by (m - rows) = price-is (m - rows) rows m (omega arith) in
    let s : nth u 1 - price ≡ nth u 1 - price_by (m - rows) = ap (λ (t : ℕ). nth u 1 - t) (c ∙ w) in
    let j : i ≡ n - suc cols = omega arith in
    let X = set (vec 112 n f) (n - suc cols) (moved_to down (at (vec 112 n f) (n - suc cols))) in
    let G = goal_floats (setup_in f u) (goal_in n m f u) (new_in n m f) f in
    let o : vec 112 n G ≡ vec 112 n f = goal-vec (setup_in f u) f u r.few r.constraints r.floats (eqb (nth u 4) 0) 112 n (inr (omega (arith, r.constraints))) (inr (omega (arith, r.few))) (inl (omega (arith, r.few))) in
    let v : moved_in n i y g ≡ X =
    ap (λ (t : List Float). moved_in n i y t) eg ∙ ap (λ (t : List Float). set t i y) o ∙ ap₂ (λ (t : ℕ) (k : Float). set (vec 112 n f) t k) j (e ∙ ap (λ (t : Float). moved_to down t) (sym x)) in
    rw (a, paid (m - rows) (nth u 1) (report_for (setup_in f u) (goal_in n m f u) (new_in n m f)) (λ c. moved_state down c (goal_in n m f u) (new_in n m f) rows cols (vec 448 (known n m rows cols) f) (at f 4)) (omega arith))
    (record {
      floats = ef ∙ ap₂ (λ (t k : List Float). laid 976 t k) v eg ∙ moved_here (setup_in f u) f u down _ rows cols r.few r.constraints r.floats;
      words = eu ∙ ap₂ (λ (t k : ℕ). goal_words (goal_in n m f u) t k rows cols u) q s ∙ moved-words down _ (goal_in n m f u) (new_in n m f) rows cols _ _ u;
    })

pub ask-made : (n m : ℕ) (f g f' : List Float) (u u' : List ℕ) (down : Bool) (rows cols i price phase : ℕ) (y : Float) → Ready n m f u → AskMade n m f g f' u u' down rows cols i price phase y
ask-made n m f g f' u u' down rows cols i price phase y r = as_read (λ n m. AskMade n m f g f' u u' down rows cols i price phase y) n m f u r (ask-made-here f g f' u u' down rows cols i price phase y)

-- ---- slopes are due

abbrev SlopesTold : (n m : ℕ) (f g f' : List Float) (u u' : List ℕ) → Type 0
SlopesTold n m f g f' u u' =
    nth u 10 ≡ 0 → g ≡ goal_floats (setup_in f u) (goal_in n m f u) (new_in n m f) f → f' ≡ laid 976 (vec 112 n g) g → u' ≡ goal_words (goal_in n m f u) 3 (nth u 1) 0 0 u → Turned (setup_in f u) (sloped_in n m f u) f f' u u'

slopes-told-here : (f g f' : List Float) (u u' : List ℕ) → Ready (nth u 8) (nth u 9) f u → SlopesTold (nth u 8) (nth u 9) f g f' u u'
unfolding machine_floats machine_words
slopes-told-here f g f' u u' r e eg ef eu =
    let n = nth u 8 in let m = nth u 9 in
    let p = setup_in f u in let goal = goal_in n m f u in let q = new_in n m f in
    let t = eqb (nth u 4) 0 in
    let M : sloped_in n m f u ≡ sloping (nth u 1) goal q = ap (λ (j : ℕ). slopes_next (scheme_of j) p goal (nth u 1) q) e in
    let l = r.few in let k = r.constraints in
    let o : vec 112 n g ≡ vec 112 n f = ap (λ (y : List Float). vec 112 n y) eg ∙ goal-vec p f u l k r.floats t 112 n (inr (omega arith)) (inr (omega arith)) (inl (omega arith)) in
    subst (λ (N : Machine). Turned p N f f' u u') (sym M)
    (record {
      floats = ef ∙ ap₂ (λ (y w : List Float). laid 976 y w) o eg ∙ sym (ap (λ (y : List Float). laid 976 (vec 112 n f) y) (due-again p f u l k r.floats t));
      words = eu;
    })

pub slopes-told : (n m : ℕ) (f g f' : List Float) (u u' : List ℕ) → Ready n m f u → SlopesTold n m f g f' u u'
slopes-told n m f g f' u u' r = as_read (λ n m. SlopesTold n m f g f' u u') n m f u r (slopes-told-here f g f' u u')

-- a coordinate that is moved next
pub move_asks : (p : Setup) (goal : Goal) (q : Point) (rows cols b : ℕ) (g : List Float) (v : Float) → move_next p goal q rows (suc cols) b g ≡ ask_moved p false b goal q rows cols g v
unfolding move_next
move_asks p goal q zero cols b g v = refl
move_asks p goal q (suc rows) cols b g v = refl

slopes-by : (k : ℕ) (p : Setup) (goal : Goal) (b : ℕ) (q : Point) → (k ≡ 0 → ⊥) → slopes_next (scheme_of k) p goal b q ≡ move_next p goal q p.m p.n b []
slopes-by zero p goal b q h = absurd (h refl)
slopes-by (suc zero) p goal b q h = refl
slopes-by (suc (suc k)) p goal b q h = refl

-- none is known before the first
pub none-length : (n m cols : ℕ) → suc cols ≡ n → 0 ≡ known n m m cols
none-length n m cols e =
    let a : (m - m) * n ≡ 0 * n = ap (λ (t : ℕ). t * n) (let d : m - m ≡ 0 = omega arith in d) in
    omega arith

none-known : (n m cols : ℕ) (f : List Float) → suc cols ≡ n → vec 448 (known n m m cols) f ≡ []
unfolding vec tab
none-known n m cols f e = ap (λ (t : ℕ). vec 448 t f) (sym (none-length n m cols e))

abbrev SlopesMoved : (n m : ℕ) (f f' : List Float) (u u' : List ℕ) (cols : ℕ) → Type 0
SlopesMoved n m f f' u u' cols = suc cols ≡ n → (nth u 10 ≡ 0 → ⊥) → Turned (setup_in f u) (asked_in n m f u false m cols) f f' u u' → Turned (setup_in f u) (sloped_in n m f u) f f' u u'

slopes-moved-here : (f f' : List Float) (u u' : List ℕ) (cols : ℕ) → Ready (nth u 8) (nth u 9) f u → SlopesMoved (nth u 8) (nth u 9) f f' u u' cols
slopes-moved-here f f' u u' cols r e h t =
    let n = nth u 8 in let m = nth u 9 in
    let p = setup_in f u in
    let a : sloped_in n m f u ≡ asked_in n m f u false m cols =
    slopes-by (nth u 10) p (goal_in n m f u) (nth u 1) (new_in n m f) h
    ∙ ap (λ (k : ℕ). move_next p (goal_in n m f u) (new_in n m f) m k (nth u 1) []) (sym e)
    ∙ move_asks p (goal_in n m f u) (new_in n m f) m cols (nth u 1) [] (at f 4)
    ∙ ap (λ (g : List Float). ask_moved p false (nth u 1) (goal_in n m f u) (new_in n m f) m cols g (at f 4)) (sym (none-known n m cols f e)) in
    subst (λ (M : Machine). Turned p M f f' u u') (sym a) t

pub slopes-moved : (n m : ℕ) (f f' : List Float) (u u' : List ℕ) (cols : ℕ) → Ready n m f u → SlopesMoved n m f f' u u' cols
slopes-moved n m f f' u u' cols r = as_read (λ n m. SlopesMoved n m f f' u u' cols) n m f u r (slopes-moved-here f f' u u' cols)
