-- A given meter has a line, and a meter's line gives one.
use mathlib.Core.Path.{◌≡◌, refl, sym, ap, ◌∙◌}
use mathlib.Core.Bool.{Bool, true, false, cond, false≢true}
use mathlib.Core.Logic.{◌⊎◌, inl, inr, ⊎_elim}
use mathlib.Core.List.{List, [], ◌∷◌, ◌++◌}
use Prim.Native.Nat.{ℕ, zero, suc, ◌+◌, ◌<◌}
use native.Mathlib.Omega.{arith}
use lib.Dec.{eqb}
use lib.ListN.{length, get_or}
use borrow.Author.Tests.{eqb-true, eq-eqb}
use Rattle.numbers.specs.Numbers.{tab}
use Rattle.ascii.specs.Text.{ascii, same_text}
use Rattle.day_words.specs.Words.{up_to, without_return, skip_blanks, word, rest}
use Rattle.sheet_words.specs.Names.{name_judged}
use Rattle.sheet_words.specs.Lines.{unremarked}
use Rattle.plant.specs.declared.Wanted.TheVariants as wanted
use Rattle.plant.specs.Lines.{Meter, none, one, find, is_one, is_given, Line, copied, metered, wrong, no_names, name_by, number_by, meter_number, meter_line, line_of, sound, onward, lines_from}
use Rattle.plant.proofs.Taken.{is_metered}
use Rattle.plant.proofs.Sheeted.{not-fault, lines_end_lem}
use Rattle.std.specs.Prelude.{Option, Some, None}

-- ---- a meter's line is one whatever was given before it

number-alone : (c : Option ℕ) (t : List ℕ) (ms : List Meter) (m : Meter) → number_by c t ms ≡ metered m → number_by c t [] ≡ metered m
unfolding find
number-alone (Some n) t ms m e = go (is_given n ms) e
  where
    go : (b : Bool) → cond b (wrong wanted.NewNumber (word t)) (name_by (name_judged (word (rest t)) no_names) (rest t) n) ≡ metered m → name_by (name_judged (word (rest t)) no_names) (rest t) n ≡ metered m
    go true e = absurd (false≢true (ap is_metered e))
    go false e = e
number-alone None t ms m e = e

line-alone : (l : List ℕ) (ms : List Meter) (m : Meter) → line_of l ms ≡ metered m → line_of l [] ≡ metered m
unfolding line_of meter_line
line-alone l ms m = go (same_text (word l) (ascii "meter"))
  where
    t : List ℕ
    t = unremarked (rest l)

    go : (b : Bool) → cond b (number_by (meter_number (word t)) t ms) copied ≡ metered m → cond b (number_by (meter_number (word t)) t []) copied ≡ metered m
    go true e = number-alone (meter_number (word t)) t ms m e
    go false e = e

-- ---- a given meter has a line

pub record Owned (ls : List (List ℕ)) (n : ℕ) : Type 0 where
  pub at : ℕ
  pub within : at < length ls
  pub meter : Meter
  pub is_meter_holds : line_of (without_return (get_or ls at [])) [] ≡ metered meter
  pub number_is : meter.number ≡ n

owned-later : (l : List ℕ) (ls : List (List ℕ)) (n : ℕ) → Owned ls n → Owned (l ∷ ls) n
owned-later l ls n o = record { at = suc o.at; within = let w = o.within in omega (arith, w); meter = o.meter; is_meter_holds = o.is_meter_holds; number_is = o.number_is }

given-last : (n : ℕ) (acc : List Meter) (m : Meter) → is_given n (acc ++ (m ∷ [])) ≡ true → (is_given n acc ≡ true) ⊎ (m.number ≡ n)
unfolding find
given-last n [] m g = go (eqb m.number n) refl g
  where
    go : (b : Bool) → eqb m.number n ≡ b → is_one (cond b (one m) none) ≡ true → (is_one none ≡ true) ⊎ (m.number ≡ n)
    go true e g = inr (eqb-true m.number n e)
    go false e g = absurd (false≢true g)
given-last n (x ∷ xs) m g = go (eqb x.number n) g (given-last n xs m)
  where
    go : (b : Bool) → is_one (cond b (one x) (find n (xs ++ (m ∷ [])))) ≡ true → (is_given n (xs ++ (m ∷ [])) ≡ true → (is_given n xs ≡ true) ⊎ (m.number ≡ n))
        → (is_one (cond b (one x) (find n xs)) ≡ true) ⊎ (m.number ≡ n)
    go true g i = inl refl
    go false g i = i g

pub has-line : (ls : List (List ℕ)) (k : ℕ) (acc ms : List Meter) (n : ℕ) → lines_from ls k acc ≡ sound ms → is_given n ms ≡ true → (is_given n acc ≡ true) ⊎ Owned ls n
unfolding lines_from
has-line [] k acc ms n e g = inl (ap (is_given n) (lines_end_lem k acc ms e) ∙ g)
has-line (l ∷ ls) k acc ms n e g = go (line_of (without_return l) acc) refl e (λ f. has-line ls (k + 1) acc ms n f g) (λ m f. has-line ls (k + 1) (acc ++ (m ∷ [])) ms n f g)
  where
    later : (is_given n acc ≡ true) ⊎ Owned ls n → (is_given n acc ≡ true) ⊎ Owned (l ∷ ls) n
    later (inl a) = inl a
    later (inr o) = inr (owned-later l ls n o)

    here : (m : Meter) → line_of (without_return l) acc ≡ metered m → (is_given n (acc ++ (m ∷ [])) ≡ true) ⊎ Owned ls n → (is_given n acc ≡ true) ⊎ Owned (l ∷ ls) n
    here m f (inl a) = ⊎_elim (λ (h : is_given n acc ≡ true). inl h) (λ (h : m.number ≡ n). inr (record { at = 0; within = omega arith; meter = m; is_meter_holds = line-alone (without_return l) acc m f; number_is = h })) (given-last n acc m a)
    here m f (inr o) = inr (owned-later l ls n o)

    go : (x : Line) → line_of (without_return l) acc ≡ x → onward k x acc (lines_from ls (k + 1)) ≡ sound ms → (lines_from ls (k + 1) acc ≡ sound ms → (is_given n acc ≡ true) ⊎ Owned ls n)
        → ((m : Meter) → lines_from ls (k + 1) (acc ++ (m ∷ [])) ≡ sound ms → (is_given n (acc ++ (m ∷ [])) ≡ true) ⊎ Owned ls n) → (is_given n acc ≡ true) ⊎ Owned (l ∷ ls) n
    go copied f e i j = later (i e)
    go (metered m) f e i j = here m f (j m e)
    go (wrong w v) f e i j = not-fault _ _ _ ms e

-- ---- a meter's line gives one

abbrev is_wrong : Line → Bool
is_wrong copied = false
is_wrong (metered m) = false
is_wrong (wrong e w) = true

number-after : (c : Option ℕ) (t : List ℕ) (ms : List Meter) (m : Meter) → number_by c t [] ≡ metered m → (number_by c t ms ≡ metered m) ⊎ (is_wrong (number_by c t ms) ≡ true)
unfolding find
number-after (Some n) t ms m e = go (is_given n ms)
  where
    named : Line
    named = name_by (name_judged (word (rest t)) no_names) (rest t) n

    go : (b : Bool) → (cond b (wrong wanted.NewNumber (word t)) named ≡ metered m) ⊎ (is_wrong (cond b (wrong wanted.NewNumber (word t)) named) ≡ true)
    go true = inr refl
    go false = inl e
number-after None t ms m e = absurd (false≢true (ap is_metered e))

line_after : (l : List ℕ) (ms : List Meter) (m : Meter) → line_of l [] ≡ metered m → (line_of l ms ≡ metered m) ⊎ (is_wrong (line_of l ms) ≡ true)
unfolding line_of meter_line
line_after l ms m = go (same_text (word l) (ascii "meter"))
  where
    t : List ℕ
    t = unremarked (rest l)

    go : (b : Bool) → cond b (number_by (meter_number (word t)) t []) copied ≡ metered m
        → (cond b (number_by (meter_number (word t)) t ms) copied ≡ metered m) ⊎ (is_wrong (cond b (number_by (meter_number (word t)) t ms) copied) ≡ true)
    go true e = number-after (meter_number (word t)) t ms m e
    go false e = absurd (false≢true (ap is_metered e))

given-more : (n : ℕ) (acc : List Meter) (m : Meter) → is_given n acc ≡ true → is_given n (acc ++ (m ∷ [])) ≡ true
unfolding find
given-more n [] m g = absurd (false≢true g)
given-more n (x ∷ xs) m g = go (eqb x.number n) g (given-more n xs m)
  where
    go : (b : Bool) → is_one (cond b (one x) (find n xs)) ≡ true → (is_given n xs ≡ true → is_given n (xs ++ (m ∷ [])) ≡ true) → is_one (cond b (one x) (find n (xs ++ (m ∷ [])))) ≡ true
    go true g i = refl
    go false g i = i g

given-own : (acc : List Meter) (m : Meter) → is_given m.number (acc ++ (m ∷ [])) ≡ true
unfolding find
given-own [] m = rw (eq-eqb m.number m.number refl) refl
given-own (x ∷ xs) m = go (eqb x.number m.number) (given-own xs m)
  where
    go : (b : Bool) → is_given m.number (xs ++ (m ∷ [])) ≡ true → is_one (cond b (one x) (find m.number (xs ++ (m ∷ [])))) ≡ true
    go true i = refl
    go false i = i

given_stays : (ls : List (List ℕ)) (k : ℕ) (acc ms : List Meter) (n : ℕ) → lines_from ls k acc ≡ sound ms → is_given n acc ≡ true → is_given n ms ≡ true
unfolding lines_from
given_stays [] k acc ms n e g = ap (is_given n) (sym (lines_end_lem k acc ms e)) ∙ g
given_stays (l ∷ ls) k acc ms n e g = go (line_of (without_return l) acc) e (λ f. given_stays ls (k + 1) acc ms n f g) (λ m f. given_stays ls (k + 1) (acc ++ (m ∷ [])) ms n f (given-more n acc m g))
  where
    go : (x : Line) → onward k x acc (lines_from ls (k + 1)) ≡ sound ms → (lines_from ls (k + 1) acc ≡ sound ms → is_given n ms ≡ true)
        → ((m : Meter) → lines_from ls (k + 1) (acc ++ (m ∷ [])) ≡ sound ms → is_given n ms ≡ true) → is_given n ms ≡ true
    go copied e i j = i e
    go (metered m) e i j = j m e
    go (wrong w v) e i j = not-fault _ _ _ ms e

no-meter : (m : Meter) → line_of (without_return []) [] ≡ metered m → ⊥
unfolding line_of without_return word skip_blanks up_to same_text ascii tab
no-meter m e = false≢true (ap is_metered e)

pub line-given : (ls : List (List ℕ)) (k : ℕ) (acc ms : List Meter) (i : ℕ) (m : Meter) → lines_from ls k acc ≡ sound ms → line_of (without_return (get_or ls i [])) [] ≡ metered m → is_given m.number ms ≡ true
unfolding lines_from
line-given [] k acc ms i m e f = absurd (no-meter m f)
line-given (l ∷ ls) k acc ms zero m e f = ⊎_elim
    (λ (g : line_of (without_return l) acc ≡ metered m). given_stays ls (k + 1) (acc ++ (m ∷ [])) ms m.number (sym (ap (λ (x : Line). onward k x acc (lines_from ls (k + 1))) g) ∙ e) (given-own acc m))
    (λ (g : is_wrong (line_of (without_return l) acc) ≡ true). by (line_of (without_return l) acc) g e)
    (line_after (without_return l) acc m f)
  where
    by : (x : Line) → is_wrong x ≡ true → onward k x acc (lines_from ls (k + 1)) ≡ sound ms → is_given m.number ms ≡ true
    by copied g e = absurd (false≢true g)
    by (metered m) g e = absurd (false≢true g)
    by (wrong w v) g e = not-fault _ _ _ ms e
line-given (l ∷ ls) k acc ms (suc i) m e f = go (line_of (without_return l) acc) e (λ g. line-given ls (k + 1) acc ms i m g f) (λ x g. line-given ls (k + 1) (acc ++ (x ∷ [])) ms i m g f)
  where
    go : (x : Line) → onward k x acc (lines_from ls (k + 1)) ≡ sound ms → (lines_from ls (k + 1) acc ≡ sound ms → is_given m.number ms ≡ true)
        → ((x : Meter) → lines_from ls (k + 1) (acc ++ (x ∷ [])) ≡ sound ms → is_given m.number ms ≡ true) → is_given m.number ms ≡ true
    go copied e i j = i e
    go (metered x) e i j = j x e
    go (wrong w v) e i j = not-fault _ _ _ ms e
