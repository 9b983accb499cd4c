-- A line that is cut off before its remark, a line of the plant file, and where its remark begins.
use mathlib.Core.Path.{◌≡◌, refl, sym, ap, ◌∙◌}
use mathlib.Core.List.{List}
use Prim.Native.Nat.{ℕ, ◌+◌, ◌-◌, ◌≤◌}
use native.Mathlib.Omega.{arith}
use lib.ListN.{length, take, drop, length-drop, length-take}
use lib.Seq.{drop-drop, take_all, length-take-le}
use Rattle.day_words.specs.Words.{rest}
use Rattle.sheet_words.specs.Lines.{between, Lies, unremarked}
use Rattle.sheet_parts.proofs.Laws.{drop_of_take}
use Rattle.sheet.proofs.Lines.{cut-between, lies_in, found_in}
use Rattle.plant.specs.Lines.{metered, wrong, remark_of}
use Rattle.plant_lines.specs.declared.Given.{Given}
use Rattle.plant_lines.specs.Table.{meter_in, given_told, InLine, GivenFits}
use Rattle.std.specs.Prelude.{Result, Ok, Err}
use Rattle.plant_lines.specs.declared.Wrong.{Wrong}
use Rattle.plant_lines.specs.inner.Work.{moved}

-- ---- what a line tells is told of the text of which it is the front

lies-front : (n : ℕ) (l : List ℕ) (a b : ℕ) → Lies a b (take n l) → Lies a b l
lies-front n l a b h = (h.0, let z = length-take n l in omega (arith, z, h.1))

same-front : (n : ℕ) (l : List ℕ) (a b : ℕ) → Lies a b (take n l) → between a b l ≡ between a b (take n l)
same-front n l a b h = sym (cut-between n a b l (let z = length-take n l in omega (arith, z, h.1)))

pub front-told : (n : ℕ) (l : List ℕ) (r : Result Given Wrong) → GivenFits (take n l) r → given_told l r ≡ given_told (take n l) r
front-told n l (Ok g) h = rw (same-front n l g.name g.name_end h.name_lies, same-front n l g.spread g.spread_end h.spread_lies)
front-told n l (Err w) h = ap (wrong w.wanted) (same-front n l w.start w.end h)

pub front_fits : (n : ℕ) (l : List ℕ) (r : Result Given Wrong) → GivenFits (take n l) r → GivenFits l r
front_fits n l (Ok g) h = record {
  number_low = h.number_low;
  name_lies = lies-front n l g.name g.name_end h.name_lies;
  name_short = h.name_short;
  spread_lies = lies-front n l g.spread g.spread_end h.spread_lies;
  minutes_low = h.minutes_low;
}
front_fits n l (Err w) h = lies-front n l w.start w.end h

-- ---- the rest of a line without its remark, n bytes long, and the remark

module _ (line : List ℕ) (from n : ℕ) (e : take n (take (length line - from) (drop from line)) ≡ unremarked (take (length line - from) (drop from line))) where
  all_left : take (length line - from) (drop from line) ≡ drop from line
  all_left = let d = length-drop from line in take_all (length line - from) (drop from line) (omega (arith, d))

  cut-is : take n (drop from line) ≡ unremarked (drop from line)
  cut-is = ap (take n) (sym all_left) ∙ e ∙ ap unremarked all_left

  pub cut-rest : drop from (take (from + n) line) ≡ unremarked (drop from line)
  cut-rest = let k : from + n - from ≡ n = omega arith in drop_of_take from (from + n) line ∙ ap (λ (j : ℕ). take j (drop from line)) k ∙ cut-is

  pub remark-is : n ≤ length (take (length line - from) (drop from line)) → drop from line ≡ rest line → drop (from + n) line ≡ remark_of (rest line)
  unfolding remark_of
  remark-is h r =
      let k : length (unremarked (drop from line)) ≡ n = ap length (sym cut-is) ∙ length-take-le n (drop from line) (omega (arith, ap length all_left, h)) in
      sym (drop-drop n from line) ∙ ap (λ (j : ℕ). drop j (drop from line)) (sym k) ∙ ap (λ (t : List ℕ). drop (length (unremarked t)) t) r

-- ---- places in the line from `at` to `end` of the plant file, cut to n, as places in the plant file

module _ (plant : List ℕ) (at end n : ℕ) (h : Lies at end plant) (g : Given) (i : InLine (take n (between at end plant)) g) where
  pub moved_told : metered (meter_in plant (moved at g)) ≡ metered (meter_in (take n (between at end plant)) g)
  moved_told = rw (found_in plant at end n g.name g.name_end h i.name_lies, found_in plant at end n g.spread g.spread_end h i.spread_lies)

  pub moved-fits : InLine plant (moved at g)
  moved-fits = record {
    number_low = i.number_low;
    name_lies = lies_in plant at end n g.name g.name_end h i.name_lies;
    name_short = omega (arith, i.name_short);
    spread_lies = lies_in plant at end n g.spread g.spread_end h i.spread_lies;
    minutes_low = i.minutes_low;
  }
