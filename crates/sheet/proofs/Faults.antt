-- The fault told is the first; one answer only; 65,537 bytes decide.
use mathlib.Core.Path.{◌≡◌, sym, ap, ◌∙◌, subst}
use mathlib.Core.Logic.{⊎_elim}
use mathlib.Core.Bool.{Bool, true, false, cond, not}
use mathlib.Core.List.{List, [], ◌∷◌}
use Prim.Native.Nat.{ℕ, zero, suc, ◌+◌, ◌≤◌, ◌<◌}
use native.Mathlib.Omega.{arith}
use borrow.Author.Tests.{lt-ltb}
use lib.Dec.{ltb, eqb}
use lib.ListN.{length, take, length-take}
use lib.Seq.{take_all}
use lib.Ieee.{Float}
use Rattle.std.specs.Prelude.{Result, Ok, Err}
use Rattle.numbers.proofs.Cases.{lt-or-ge}
use Rattle.day_words.specs.Words.{lines_of, without_return}
use Rattle.sheet_words.specs.declared.Expected.{Expected}
use Rattle.sheet_words.specs.declared.Expected.TheVariants.{TitleLine, MeterLine, BalanceLine, ToleranceLine}
use Rattle.sheet_words.specs.Lines.{after_mark}
use Rattle.sheet_lines.specs.Lines.{State, Line, taken, wrong}
use Rattle.sheet.specs.declared.Sizes.{Sizes}
use Rattle.sheet.specs.declared.Unread.{Unread}
use Rattle.sheet.specs.declared.Unread.TheVariants.{Fault, Long}
use Rattle.sheet.specs.Sheet.{line_read, whole, fault, long, sheet_end, onward, lines_read, at_start, sheet_of}
use Rattle.sheet.specs.Promise.{told, BlankUnlessWhole}
use Rattle.sheet.specs.Claims.{NoneWithin, First, FirstFault, Same, OneAnswer, EnoughBytes}

-- ---- faults are told apart

same_line : {a b : ℕ} {e f : Expected} {w v : List ℕ} → fault a e w ≡ fault b f v → a ≡ b
same_line h = cc

not_long : {A : Type 0} {line : ℕ} {e : Expected} {w : List ℕ} → long ≡ fault line e w → A
not_long h = absurd (let z : ◌≡◌ {A = ℕ} 0 1 = cc in omega arith)

-- ---- the end tells the line after the last

end-late : (k : ℕ) (s : State) → NoneWithin k (sheet_end (k + 1) s)
unfolding sheet_end
end-late k s = go s.titled s.metered (eqb s.balances 0) s.toleranced
  where
    go : (p q b r : Bool) → NoneWithin k (cond (not p) (fault (k + 1) TitleLine []) (cond (not q) (fault (k + 1) MeterLine []) (cond b (fault (k + 1) BalanceLine []) (cond (not r) (fault (k + 1) ToleranceLine []) (whole s.items s.balances s.limits s.doubts s.texts s.wholes s.numbers)))))
    go false q b r = omega arith
    go true false b r = omega arith
    go true true true r = omega arith
    go true true false false = omega arith
    go true true false true = tt

end_line : (k : ℕ) (s : State) (line : ℕ) (e : Expected) (w : List ℕ) → sheet_end (k + 1) s ≡ fault line e w → line ≡ k + 1
unfolding sheet_end
end_line k s line e w h = go s.titled s.metered (eqb s.balances 0) s.toleranced h
  where
    go : (p q b r : Bool) → cond (not p) (fault (k + 1) TitleLine []) (cond (not q) (fault (k + 1) MeterLine []) (cond b (fault (k + 1) BalanceLine []) (cond (not r) (fault (k + 1) ToleranceLine []) (whole s.items s.balances s.limits s.doubts s.texts s.wholes s.numbers)))) ≡ fault line e w → line ≡ k + 1
    go false q b r h = sym (same_line h)
    go true false b r h = sym (same_line h)
    go true true true r h = sym (same_line h)
    go true true false false h = sym (same_line h)
    go true true false true h = absurd (let z : ◌≡◌ {A = ℕ} 0 1 = cc in omega arith)

-- ---- line by line

-- a fault is told at a line that is still to be read, or at the end
pub fault-late : (ls : List (List ℕ)) (k : ℕ) (s : State) (line : ℕ) (e : Expected) (w : List ℕ) → lines_read ls k s ≡ fault line e w → k < line
unfolding lines_read
fault-late [] k s line e w h = let z = end_line k s line e w h in omega arith
fault-late (l ∷ ls) k s line e w h = go (line_read (without_return l) s) h (λ (t : State) (g : lines_read ls (k + 1) t ≡ fault line e w). fault-late ls (k + 1) t line e w g)
  where
    go : (x : Line) → onward (k + 1) x (lines_read ls (k + 1)) ≡ fault line e w → ((t : State) → lines_read ls (k + 1) t ≡ fault line e w → k + 1 < line) → k < line
    go (taken t) h f = let z = f t h in omega arith
    go (wrong x v) h f = let z = same_line h in omega arith

before-it : (ls : List (List ℕ)) (k : ℕ) (s : State) (line : ℕ) (e : Expected) (w : List ℕ) → lines_read ls k s ≡ fault line e w → (j : ℕ) → k + j < line → NoneWithin (k + j) (lines_read (take j ls) k s)
unfolding lines_read
before-it ls k s line e w h zero l = let z : k + 0 ≡ k = omega arith in subst (λ (i : ℕ). NoneWithin i (sheet_end (k + 1) s)) (sym z) (end-late k s)
before-it [] k s line e w h (suc j) l = let z = end_line k s line e w h in absurd (omega arith)
before-it (l ∷ ls) k s line e w h (suc j) m = go (line_read (without_return l) s) h
    (λ (t : State) (g : lines_read ls (k + 1) t ≡ fault line e w). before-it ls (k + 1) t line e w g j (omega arith))
  where
    go : (x : Line) → onward (k + 1) x (lines_read ls (k + 1)) ≡ fault line e w
        → ((t : State) → lines_read ls (k + 1) t ≡ fault line e w → NoneWithin (k + 1 + j) (lines_read (take j ls) (k + 1) t))
        → NoneWithin (k + suc j) (onward (k + 1) x (lines_read (take j ls) (k + 1)))
    go (taken t) h f = let z : k + 1 + j ≡ k + suc j = omega arith in subst (λ (i : ℕ). NoneWithin i (lines_read (take j ls) (k + 1) t)) z (f t h)
    go (wrong x v) h f = let z = same_line h in absurd (omega arith)

same_head : {l m : List ℕ} {ls ms : List (List ℕ)} → l ∷ ls ≡ m ∷ ms → (l ≡ m) × (ls ≡ ms)
same_head h = (cc, cc)

after-it : (ls ms : List (List ℕ)) (k : ℕ) (s : State) (line n : ℕ) (e : Expected) (w : List ℕ) → lines_read ls k s ≡ fault line e w → line ≡ k + n → n ≤ length ls → take n ms ≡ take n ls → lines_read ms k s ≡ fault line e w
unfolding lines_read
after-it ls ms k s line zero e w h g l t = let z = fault-late ls k s line e w h in absurd (omega arith)
after-it [] ms k s line (suc n) e w h g l t = absurd (omega arith)
after-it (a ∷ ls) [] k s line (suc n) e w h g l t = absurd (let z : ◌≡◌ {A = ℕ} 0 1 = cc in omega arith)
after-it (a ∷ ls) (b ∷ ms) k s line (suc n) e w h g l t =
    let p = same_head t in
    ap (λ (c : List ℕ). onward (k + 1) (line_read (without_return c) s) (lines_read ms (k + 1))) p.0
    ∙ go (line_read (without_return a) s) h (λ (u : State) (q : lines_read ls (k + 1) u ≡ fault line e w). after-it ls ms (k + 1) u line n e w q (omega arith) (omega arith) p.1)
  where
    go : (x : Line) → onward (k + 1) x (lines_read ls (k + 1)) ≡ fault line e w → ((u : State) → lines_read ls (k + 1) u ≡ fault line e w → lines_read ms (k + 1) u ≡ fault line e w)
        → onward (k + 1) x (lines_read ms (k + 1)) ≡ fault line e w
    go (taken u) h f = f u h
    go (wrong x v) h f = h

first-of : (ls : List (List ℕ)) (line : ℕ) (e : Expected) (w : List ℕ) → lines_read ls 0 at_start ≡ fault line e w → First ls line e w
first-of ls line e w h = record {
  before = λ k l. let z : 0 + k ≡ k = omega arith in subst (λ (i : ℕ). NoneWithin i (lines_read (take k ls) 0 at_start)) z (before-it ls 0 at_start line e w h k (omega arith));
  after = λ l ms t. after-it ls ms 0 at_start line line e w h (omega arith) l t;
}

pub first-fault : FirstFault
unfolding sheet_of
first-fault bytes line e w h = go (ltb 65536 (length bytes)) h
  where
    go : (b : Bool) → cond b long (lines_read (lines_of (after_mark bytes)) 0 at_start) ≡ fault line e w → First (lines_of (after_mark bytes)) line e w
    go true h = not_long h
    go false h = first-of (lines_of (after_mark bytes)) line e w h

-- ---- one answer only

unlike : {A : Type 0} {i b l d line : ℕ} {e : Expected} {w t v : List ℕ} {x : List Float} → whole i b l d t v x ≡ fault line e w → A
unlike h = absurd (let z : ◌≡◌ {A = ℕ} 0 1 = cc in omega arith)

whole_long : {A : Type 0} {i b l d : ℕ} {t v : List ℕ} {x : List Float} → whole i b l d t v x ≡ long → A
whole_long h = absurd (let z : ◌≡◌ {A = ℕ} 0 1 = cc in omega arith)

same : (bytes : List ℕ) (r q : Result Sizes Unread) (a b : List ℕ) (x : List Float) (c d : List ℕ) (y : List Float) → told bytes r a b x ≡ told bytes q c d y → BlankUnlessWhole r a b x → BlankUnlessWhole q c d y → Same bytes r q a b x c d y
same bytes (Ok n) (Ok m) a b x c d y h f g = record { answer = (cc, cc, cc, cc); same_texts = cc; same_wholes = cc; same_numbers = cc }
same bytes (Err (Fault n w)) (Err (Fault m v)) a b x c d y h f g = record { answer = (cc, cc, cc); same_texts = f.0 ∙ sym g.0; same_wholes = f.1 ∙ sym g.1; same_numbers = f.2 ∙ sym g.2 }
same bytes (Err Long) (Err Long) a b x c d y h f g = record { answer = tt; same_texts = f.0 ∙ sym g.0; same_wholes = f.1 ∙ sym g.1; same_numbers = f.2 ∙ sym g.2 }
same bytes (Ok n) (Err (Fault m v)) a b x c d y h f g = unlike h
same bytes (Ok n) (Err Long) a b x c d y h f g = whole_long h
same bytes (Err (Fault m v)) (Ok n) a b x c d y h f g = unlike (sym h)
same bytes (Err (Fault m v)) (Err Long) a b x c d y h f g = not_long (sym h)
same bytes (Err Long) (Ok n) a b x c d y h f g = whole_long (sym h)
same bytes (Err Long) (Err (Fault m v)) a b x c d y h f g = not_long h

pub one_answer : OneAnswer
one_answer bytes r q a b x c d y h k = same bytes r q a b x c d y (h.answer ∙ sym k.answer) h.blank k.blank

-- ---- bytes enough

pub enough-bytes : EnoughBytes
unfolding sheet_of
enough-bytes bytes = ⊎_elim
    (λ (h : length bytes < 65538). ap sheet_of (sym (take_all 65537 bytes (omega arith))))
    (λ (h : 65538 ≤ length bytes). let l = length-take 65537 bytes in rw (lt-ltb 65536 (length bytes) (omega arith), lt-ltb 65536 (length (take 65537 bytes)) (omega arith)))
    (lt-or-ge (length bytes) 65538)
