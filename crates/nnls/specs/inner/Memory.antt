-- A passive set as two numbers, and what a look back at those that are remembered answers. Definitions only.
use Rattle.std.specs.Prelude.{◌≡◌, Result, Ok, Err, List, ℕ, zero, suc, ◌+◌, ◌-◌, ◌*◌, ◌≤◌, ◌<◌, length}
use Rattle.numbers.specs.Numbers.{nth}
use Rattle.nnls.specs.declared.memory.Course.{Course}
use Rattle.nnls.specs.declared.memory.Counts.{Counts}
use Rattle.nnls.specs.declared.memory.Place.{Place}
use Rattle.nnls_passive.specs.inner.Places.{NNLS_WORDS}

-- the marks of the c columns from o on, as the binary digits of a number
unfoldable pub bits : (l : List ℕ) (o c : ℕ) → ℕ
bits l o zero = 0
bits l o (suc c) = 2 * bits l o c + nth l (o + c)

-- the smaller of n and 33
abbrev pub front : ℕ → ℕ
front n = n - (n - 33)

-- the two numbers of the set p of n columns
pub record Digits (n : ℕ) (p : List ℕ) (low high : ℕ) : Type 0 where
  pub first : low ≡ bits p 0 (front n)
  pub second : high ≡ bits p (front n) (n - front n)

-- some whole periods of d rounds and e factorings more
pub record Repeated (d e past f k : ℕ) (r : Counts) : Type 0 where
  pub times : ℕ
  pub rounds : r.past ≡ past + times * d
  pub factorings : r.factorings ≡ f + times * e
  pub within : r.past ≤ k
  pub few : r.factorings ≤ 132 * r.past

-- a set that is remembered, seen from where the rounds are: its two numbers, the rounds and factorings when a round began with it, and the factorings after that round's pass
pub record Mark : Type 0 where
  pub past : ℕ
  pub factorings : ℕ
  pub low : ℕ
  pub high : ℕ
  pub since : ℕ
  pub spent : ℕ
  pub tried : ℕ

abbrev pub mark_at : (h : List ℕ) (i past f : ℕ) → Mark
mark_at h i past f = record { past = past; factorings = f; low = nth h (5 * i); high = nth h (5 * i + 1); since = nth h (5 * i + 2); spent = nth h (5 * i + 3); tried = nth h (5 * i + 4) }

-- what is known of a mark's counts after a round more, with which there are f factorings
pub record Behind (c : Mark) (f : ℕ) : Type 0 where
  pub earlier : c.since ≤ c.past
  pub more : c.spent ≤ f
  pub few : f ≤ c.spent + 132 * (c.past + 1 - c.since)
  pub within : c.tried ≤ f + 66

-- what a look back asks for, after a round whose pass came to g factorings and which came to f
pub record MayLook (n k : ℕ) (c : Course) (g f : ℕ) (l h : List ℕ) : Type 0 where
  pub columns : n ≤ 66
  pub room : NNLS_WORDS ≤ length l
  pub places : 80 ≤ length h
  pub limit : k ≤ 198
  pub within : c.past < k
  pub held : c.held ≤ 16
  pub few : f ≤ 132 * (c.past + 1)
  pub more : c.factorings ≤ f
  pub most : f ≤ c.factorings + 132
  pub tried : g ≤ c.factorings + 66
  pub behind : (i : ℕ) → i < c.held → Behind (mark_at h i c.past c.factorings) f
  pub marks : (j : ℕ) → j < n → nth l j ≤ 1

-- the place of the two numbers among those that are held, or else none
pub record SoughtFor (h : List ℕ) (held low high i : ℕ) : Type 0 where
  pub within : i ≤ held
  pub first : i < held → nth h (5 * i) ≡ low
  pub second : i < held → nth h (5 * i + 1) ≡ high

-- the place of the rounds among those that are held, or else none
pub record SoughtRound (h : List ℕ) (held since i : ℕ) : Type 0 where
  pub within : i ≤ held
  pub rounds : i < held → nth h (5 * i + 2) ≡ since

-- one of the places that are held, or the next
pub record Placed (held : ℕ) (r : Place) : Type 0 where
  pub below : r.index < 16
  pub full : r.held ≤ 16
  pub grown : r.held ≤ held + 1
  pub last : held < r.held → r.index ≡ held

-- h with a mark at place i
pub record Noted (h h' : List ℕ) (i low high since spent tried : ℕ) : Type 0 where
  pub first : nth h' (5 * i) ≡ low
  pub second : nth h' (5 * i + 1) ≡ high
  pub rounds : nth h' (5 * i + 2) ≡ since
  pub factorings : nth h' (5 * i + 3) ≡ spent
  pub trials : nth h' (5 * i + 4) ≡ tried
  pub before : (t : ℕ) → t < 5 * i → nth h' t ≡ nth h t
  pub after : (t : ℕ) → 5 * i + 5 ≤ t → nth h' t ≡ nth h t

-- h with one mark more, or as it was
pub data Recorded (held low high past f g : ℕ) (h h' : List ℕ) : ℕ → Type 0 where
  nothing : h' ≡ h → Recorded held low high past f g h h' held
  one : 4 ≤ past → (r : Place) → Placed held r → Noted h h' r.index low high past f g → Recorded held low high past f g h h' r.held

-- what is asked where the set at place i is back
pub record MayFinish (h : List ℕ) (held i past f k : ℕ) : Type 0 where
  pub places : 80 ≤ length h
  pub full : held ≤ 16
  pub below : i < held
  pub limit : k ≤ 198
  pub within : past ≤ k
  pub few : f ≤ 132 * past
  pub earlier : nth h (5 * i + 2) < past
  pub more : nth h (5 * i + 3) ≤ f
  pub few_since : f ≤ nth h (5 * i + 3) + 132 * (past - nth h (5 * i + 2))
  pub tried : (t : ℕ) → t < held → nth h (5 * t + 4) ≤ f + 66

-- the set at place i is back: whole periods are counted; or all that is left
pub data CameBack (h : List ℕ) (held i low high past f k : ℕ) : Result Course Counts → Type 0 where
  onward : (r : Counts) → Repeated (past - nth h (5 * i + 2)) (f - nth h (5 * i + 3)) past f k r → CameBack h held i low high past f k (Ok (record { past = r.past; factorings = r.factorings; held = 0; low = low; high = high }))
  ended : (r : Counts) → Repeated (past - nth h (5 * i + 2)) (f - nth h (5 * i + 3)) past f k r → (t : ℕ) → t < held → nth h (5 * t + 2) ≡ nth h (5 * i + 2) + (k - r.past)
      → CameBack h held i low high past f k (Err (record { past = k; factorings = r.factorings + nth h (5 * t + 4) - nth h (5 * i + 3) }))

-- one round more: the set with which it began is remembered, and no more than that; or p is a remembered set
pub data LookedBack (n k : ℕ) (p : List ℕ) (c : Course) (g f : ℕ) (h h' : List ℕ) : Result Course Counts → Type 0 where
  goes_on : (held : ℕ) → Recorded c.held c.low c.high c.past c.factorings g h h' held → (low high : ℕ) → (4 ≤ c.past + 1 → Digits n p low high)
      → LookedBack n k p c g f h h' (Ok (record { past = c.past + 1; factorings = f; held = held; low = low; high = high }))
  came_back : (held : ℕ) → Recorded c.held c.low c.high c.past c.factorings g h h' held → (i : ℕ) → i < held → Digits n p (nth h' (5 * i)) (nth h' (5 * i + 1)) → (low high : ℕ) → Digits n p low high
      → (r : Result Course Counts) → CameBack h' held i low high (c.past + 1) f k r → LookedBack n k p c g f h h' r
