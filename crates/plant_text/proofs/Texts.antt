-- What is written is the text defined, case by case.
use mathlib.Core.Path.{◌≡◌, refl, ap, ◌∙◌}
use mathlib.Core.Bool.{Bool, true, false}
use mathlib.Core.List.{List, [], ◌∷◌, ◌++◌, append-nil}
use Prim.Native.Nat.{ℕ, zero, suc, ◌+◌, ◌≤◌, ◌<◌}
use native.Mathlib.Omega.{arith}
use lib.ListN.{length}
use borrow.Author.Tests.{lt-ltb, le-ltb}
use Rattle.numbers.specs.Numbers.{tab}
use Rattle.endian.proofs.Placed.{length-placed}
use Rattle.ascii.specs.Text.{ascii, decimal_text}
use Rattle.ascii.specs.inner.Work.{Wrote}
use Rattle.ascii.proofs.Writing.{wrote_then, as-text}
use Rattle.sheet_parts.specs.Shown.{shown_word}
use Rattle.plant.specs.declared.Wanted.{Wanted}
use Rattle.plant.specs.Texts.{after_blank, also, begins_text, ends_text, still_text, doubt_of, stranger_text, is_last, quoted, found_text}
use Rattle.plant.specs.Plant.{stranger_if}
use Rattle.plant_text.specs.inner.Work.{behind}
use Rattle.std.specs.Prelude.{Option, Some, None}

-- ---- a meter's line

pub wrote-size : {a s b : List ℕ} {i j : ℕ} → Wrote a i s b j → length b ≡ length a
wrote-size {a} {s} {b} {i} {j} w = ap length w.held ∙ length-placed i s a (omega (arith, w.until, w.fits))

pub remark-none : (t : List ℕ) → length t ≡ 0 → after_blank t ≡ []
remark-none [] h = refl
remark-none (c ∷ cs) h = absurd (omega arith)

pub remark-some : (t : List ℕ) → (length t ≡ 0 → ⊥) → (32 ∷ []) ++ t ≡ after_blank t
remark-some [] n = absurd (n refl)
remark-some (c ∷ cs) n = refl

-- ---- parts behind others

pub also-first : (at : ℕ) (t : List ℕ) → at ≡ 0 → t ≡ behind at t
also-first zero t e = refl
also-first (suc k) t e = absurd (omega arith)

pub also-later : (at : ℕ) (t : List ℕ) → (at ≡ 0 → ⊥) → 0 < length t → ascii ", " ++ t ≡ behind at t
also-later zero t n h = absurd (n refl)
also-later (suc k) [] n h = absurd (omega arith)
also-later (suc k) (c ∷ cs) n h = refl

nothing-behind : (at : ℕ) → [] ≡ behind at []
nothing-behind zero = refl
nothing-behind (suc k) = refl

pub behind-none : (at : ℕ) (t : List ℕ) → t ≡ [] → [] ≡ behind at t
behind-none at t e = rw e (nothing-behind at)

joined : (p t : List ℕ) (at : ℕ) → at ≡ 0 + length p → p ++ behind at t ≡ also p t
joined [] t at e = rw e refl
joined (c ∷ cs) [] at e = let u : at ≡ suc (length cs) = omega (arith, e) in rw u (append-nil (c ∷ cs))
joined (c ∷ cs) (d ∷ ds) at e = let u : at ≡ suc (length cs) = omega (arith, e) in rw u refl

pub wrote-also : {o b a : List ℕ} {i j : ℕ} (p t : List ℕ) → Wrote o 0 p b i → Wrote b i (behind i t) a j → Wrote o 0 (also p t) a j
wrote-also {o} {b} {a} {i} {j} p t v w = as-text (joined p t i v.until) (wrote_then v w)

-- ---- the parts

pub begins-late : (start from : ℕ) → start < from → ascii "begins late" ≡ begins_text start from
unfolding begins_text
begins-late start from h = rw (lt-ltb start from h) refl

pub begins-early : (start from : ℕ) → from < start → ascii "begins early" ≡ begins_text start from
unfolding begins_text
begins-early start from h = let e : from ≤ start = omega (arith, h) in rw (le-ltb start from e, lt-ltb from start h) refl

pub begins-well : (start from : ℕ) → from ≤ start → start ≤ from → begins_text start from ≡ []
unfolding begins_text
begins-well start from h k = rw (le-ltb start from h, le-ltb from start k) refl

pub ends-early : (end to : ℕ) → to < end → ascii "ends early" ≡ ends_text end to
unfolding ends_text
ends-early end to h = rw (lt-ltb to end h) refl

pub ends-late : (end to : ℕ) → end < to → ascii "ends late" ≡ ends_text end to
unfolding ends_text
ends-late end to h = let e : end ≤ to = omega (arith, h) in rw (le-ltb to end e, lt-ltb end to h) refl

pub ends-well : (end to : ℕ) → end ≤ to → to ≤ end → ends_text end to ≡ []
unfolding ends_text
ends-well end to h k = rw (le-ltb to end h, le-ltb end to k) refl

pub still-ever : (allowed : Option ℕ) (still : ℕ) → allowed ≡ None → still_text allowed still ≡ []
unfolding still_text
still-ever allowed still e = rw e refl

pub still-short : (allowed : Option ℕ) (longest still : ℕ) → allowed ≡ Some longest → still ≤ longest → still_text allowed still ≡ []
unfolding still_text
still-short allowed longest still e h = rw (e, le-ltb longest still h) refl

stands : (at still : ℕ) → behind at (ascii "still for ") ++ (decimal_text still ++ ascii " minutes") ≡ behind at (ascii "still for " ++ (decimal_text still ++ ascii " minutes"))
unfolding ascii tab
stands zero still = refl
stands (suc k) still = refl

pub still-long : (at : ℕ) (allowed : Option ℕ) (longest still : ℕ) → allowed ≡ Some longest → longest < still
    → behind at (ascii "still for ") ++ (decimal_text still ++ ascii " minutes") ≡ behind at (still_text allowed still)
unfolding still_text
still-long at allowed longest still e h = rw (e, lt-ltb longest still h) (stands at still)

-- ---- the doubts

pub own-none : {n : ℕ} (name ps : List ℕ) → n ≡ 0 → n ≡ 0 + length ps → [] ≡ doubt_of name ps
own-none name [] z u = refl
own-none name (c ∷ cs) z u = absurd (omega arith)

pub own-some : {n : ℕ} (name t ps : List ℕ) → (n ≡ 0 → ⊥) → n ≡ 0 + length ps → t ≡ ps → ascii "doubt " ++ (name ++ (ascii ": " ++ (t ++ ascii "\n"))) ≡ doubt_of name ps
own-some name t [] z u e = absurd (z u)
own-some name t (c ∷ cs) z u e = rw e refl

pub stranger-some : (there : Bool) (m : ℕ) → there ≡ true → ascii "doubt meter " ++ (decimal_text m ++ ascii " has records, and the plant file has no such meter\n") ≡ stranger_if there m
unfolding stranger_text
stranger-some there m e = rw e refl

pub stranger-none : (there : Bool) (m : ℕ) → there ≡ false → stranger_if there m ≡ []
stranger-none there m e = rw e refl

-- ---- what was found

pub found-last : (e : Wanted) (w : List ℕ) → is_last e ≡ true → ascii "the end of the plant file" ≡ found_text e w
unfolding found_text
found-last e w h = rw h refl

quoted-end : (w : List ℕ) → length w ≡ 0 → ascii "the end of the line" ≡ quoted w
quoted-end [] h = refl
quoted-end (c ∷ cs) h = absurd (omega arith)

quoted-word : (w : List ℕ) → (length w ≡ 0 → ⊥) → (34 ∷ []) ++ (shown_word w ++ (34 ∷ [])) ≡ quoted w
unfolding ascii tab
quoted-word [] n = absurd (n refl)
quoted-word (c ∷ cs) n = refl

pub found-end : (e : Wanted) (w : List ℕ) → is_last e ≡ false → length w ≡ 0 → ascii "the end of the line" ≡ found_text e w
unfolding found_text
found-end e w h z = rw h (quoted-end w z)

pub found_word : (e : Wanted) (w : List ℕ) → is_last e ≡ false → (length w ≡ 0 → ⊥) → (34 ∷ []) ++ (shown_word w ++ (34 ∷ [])) ≡ found_text e w
unfolding found_text
found_word e w h n = rw h (quoted-word w n)
