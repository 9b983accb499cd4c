-- One line after another: the meters before a place, and the lines from there on.
use mathlib.Core.Path.{◌≡◌, refl, sym, ap, ◌∙◌, subst}
use mathlib.Core.Bool.{Bool, true, false}
use mathlib.Core.List.{List, [], ◌∷◌, ◌++◌}
use Prim.Native.Nat.{ℕ, ◌+◌, ◌-◌, ◌≤◌, ◌<◌}
use native.Mathlib.Omega.{arith}
use lib.ListN.{length, take, drop, length-drop}
use lib.Seq.{drop-drop}
use Rattle.day_words.specs.Words.{up_to, is_feed, lines_of, without_return}
use Rattle.day_words.proofs.Words.{up-front, lines_more, lines_none}
use Rattle.sheet_words.specs.Lines.{between, Lies}
use Rattle.plant.specs.declared.Wanted.{Wanted}
use Rattle.plant.specs.declared.Wanted.TheVariants as wanted
use Rattle.plant.specs.Lines.{Meter, find, copied, metered, wrong, line_of, Lines, lines_end, onward, lines_from}
use Rattle.plant_lines.specs.declared.Given.{Given}
use Rattle.plant_lines.specs.Table.{meter_in, InLine, Noted, LinesTold}
use Rattle.plant_lines.specs.inner.Work.{with_row, is_some, SoFar}
use Rattle.plant_lines.proofs.MeterLine.{new-number}
use Rattle.plant_lines.proofs.Rows.{not_found, noted_more}
use Rattle.std.specs.Prelude.{Ok, Err}
use Rattle.plant_lines.specs.declared.Wrong.{Wrong}

-- ---- the line at a place, and the lines after it

module _ (bs : List ℕ) (at end : ℕ) (h : at < length bs) (e : end ≡ at + length (up_to is_feed (drop at bs))) where
  line-is : up_to is_feed (drop at bs) ≡ between at end bs
  line-is = let n : length (up_to is_feed (drop at bs)) ≡ end - at = omega arith in sym (up-front is_feed (drop at bs)) ∙ ap (λ (j : ℕ). take j (drop at bs)) n

  after_is : drop (length (up_to is_feed (drop at bs)) + 1) (drop at bs) ≡ drop (end + 1) bs
  after_is = let j : at + (length (up_to is_feed (drop at bs)) + 1) ≡ end + 1 = omega arith in drop-drop (length (up_to is_feed (drop at bs)) + 1) at bs ∙ ap (λ (i : ℕ). drop i bs) j

  lines_are : lines_of (drop at bs) ≡ between at end bs ∷ lines_of (drop (end + 1) bs)
  lines_are =
      lines_more (drop at bs) (rw (length-drop at bs) (omega arith))
      ∙ ap (λ (l : List ℕ). l ∷ lines_of (drop (length (up_to is_feed (drop at bs)) + 1) (drop at bs))) line-is
      ∙ ap (λ (l : List ℕ). between at end bs ∷ lines_of l) after_is

  from_next : (k : ℕ) (ms : List Meter) → lines_from (lines_of (drop at bs)) k ms ≡ onward k (line_of (without_return (between at end bs)) ms) ms (lines_from (lines_of (drop (end + 1) bs)) (k + 1))
  unfolding lines_from
  from_next k ms = ap (λ (ls : List (List ℕ)). lines_from ls k ms) lines_are

-- ---- before the first line

pub so-far-none : (plant : List ℕ) (from : ℕ) (table : List ℕ) → Noted plant [] table → SoFar plant from from 0 false table
so-far-none plant from table n = record { meters = []; noted = n; some = refl; left = refl }

-- ---- one line more

module _ (plant : List ℕ) (from at k : ℕ) (b : Bool) (table : List ℕ) (s : SoFar plant from at k b table) (end : ℕ) (h : at < length plant) (e : end ≡ at + length (up_to is_feed (drop at plant))) where
  next-left : lines_from (lines_of (drop from plant)) 0 [] ≡ onward k (line_of (without_return (between at end plant)) s.meters) s.meters (lines_from (lines_of (drop (end + 1) plant)) (k + 1))
  next-left = s.left ∙ from_next plant at end h e k s.meters

  pub so-far-copied : copied ≡ line_of (without_return (between at end plant)) s.meters → (left : List ℕ) → left ≡ table → (d : Bool) → d ≡ b → SoFar plant from (end + 1) (k + 1) d left
  so-far-copied c left t d f = rw (t, f) (record { meters = s.meters; noted = s.noted; some = s.some; left = rw (← c) at next-left })

  pub so-far-metered : (g : Given) → metered (meter_in plant g) ≡ line_of (without_return (between at end plant)) s.meters → InLine plant g
      → (left : List ℕ) → left ≡ with_row g table → (d : Bool) → d ≡ true → SoFar plant from (end + 1) (k + 1) d left
  so-far-metered g c i left t d f =
      let new = not_found (find g.number s.meters) (new-number (without_return (between at end plant)) s.meters (meter_in plant g) (sym c)) in
      rw (t, f) (record {
        meters = s.meters ++ (meter_in plant g ∷ []);
        noted = noted_more plant s.meters table g s.noted i new;
        some = go s.meters;
        left = rw (← c) at next-left;
      })
    where
      go : (ms : List Meter) → true ≡ is_some (ms ++ (meter_in plant g ∷ []))
      go [] = refl
      go (m ∷ ms) = refl

  pub line-wrong : (x : Wrong) → wrong x.wanted (between x.start x.end plant) ≡ line_of (without_return (between at end plant)) s.meters → Lies x.start x.end plant → (left : List ℕ)
      → LinesTold plant (lines_from (lines_of (drop from plant)) 0 []) (Err (record { line = k + 1; wrong = x })) left
  line-wrong x w l left = subst (λ (q : Lines). LinesTold plant q (Err (record { line = k + 1; wrong = x })) left) (sym (rw (← w) at next-left)) (refl, refl, refl, l)

-- ---- after the last line

module _ (plant : List ℕ) (from at k : ℕ) (b : Bool) (table : List ℕ) (s : SoFar plant from at k b table) (h : length plant ≤ at) where
  none_left : lines_from (lines_of (drop from plant)) 0 [] ≡ lines_end k s.meters
  unfolding lines_from
  none_left = s.left ∙ ap (λ (ls : List (List ℕ)). lines_from ls k s.meters) (lines_none (drop at plant) (rw (length-drop at plant) (omega arith)))

  pub lines-sound : b ≡ true → LinesTold plant (lines_from (lines_of (drop from plant)) 0 []) (Ok tt) table
  lines-sound t = subst (λ (q : Lines). LinesTold plant q (Ok tt) table) (sym none_left) (go s.meters (sym t ∙ s.some) s.noted)
    where
      go : (ms : List Meter) → true ≡ is_some ms → Noted plant ms table → LinesTold plant (lines_end k ms) (Ok tt) table
      go [] f n = absurd (let z : ◌≡◌ {A = ℕ} 0 1 = cc in omega arith)
      go (m ∷ ms) f n = n

  pub lines-unmetered : b ≡ false → LinesTold plant (lines_from (lines_of (drop from plant)) 0 []) (Err (record { line = k + 1; wrong = record { wanted = wanted.Meter; start = 0; end = 0 } })) table
  lines-unmetered t = subst (λ (q : Lines). LinesTold plant q (Err (record { line = k + 1; wrong = record { wanted = wanted.Meter; start = 0; end = 0 } })) table) (sym none_left) (go s.meters (sym t ∙ s.some))
    where
      go : (ms : List Meter) → false ≡ is_some ms → LinesTold plant (lines_end k ms) (Err (record { line = k + 1; wrong = record { wanted = wanted.Meter; start = 0; end = 0 } })) table
      go [] f = (refl, refl, refl, (omega arith, omega arith))
      go (m ∷ ms) f = absurd (let z : ◌≡◌ {A = ℕ} 0 1 = cc in omega arith)
