-- Where the inputs and answers of LSEI stand in the workspace, and what its functions do to it, for the contracts of the kernel. No promise of a public operation rests on these.
use Rattle.std.specs.Prelude.{◌≡◌, List, ◌++◌, ℕ, ◌+◌, ◌-◌, ◌*◌, ◌<◌, ◌≤◌, length, Float}
use Rattle.numbers.specs.Numbers.{at, nth, dot, Σ, ◌⊖◌, ◌⊗◌}
use Rattle.workspace.specs.Readings.{vec, mat, stack}
use Rattle.householder.specs.Qr.{Factors, apply_qt, apply_q}
use Rattle.householder.specs.inner.Work.{held}
use Rattle.lsei.specs.Lsei.{Solution, fixed, turned, tail_of, shifted, gradient, equality_multipliers}
use Rattle.lsei.specs.inner.Work.{sides}
use Rattle.householder.specs.inner.Places.{QR_MATRIX, QR_SIDE, QR_SOLUTION}
use Rattle.lsei_nullspace.specs.inner.Places.{LSEI_E, LSEI_EQUALITY_MULTIPLIERS, LSEI_F, LSEI_G, LSEI_LSI, LSEI_LSI_E, LSEI_LSI_F, LSEI_LSI_G, LSEI_LSI_X, LSEI_MULTIPLIERS, LSEI_ROOM, LSEI_X}

-- what LSEI leaves
abbrev pub solution_in : (n mc mg : ℕ) → List Float → Solution
solution_in n mc mg w = record { x = vec LSEI_X n w; multipliers = vec LSEI_EQUALITY_MULTIPLIERS mc w ++ vec LSEI_MULTIPLIERS mg w }

-- sizes, room, and a permutation of the equalities
pub record LseiReady (n mc me mg : ℕ) (w : List Float) (iw : List ℕ) : Type 0 where
  pub n17 : n ≤ 17
  pub c16 : mc ≤ 16
  pub cn : mc ≤ n
  pub e17 : me ≤ 17
  pub g66 : mg ≤ 66
  pub room : LSEI_ROOM ≤ length w
  pub words : mc ≤ length iw
  pub perm : (t : ℕ) → t < mc → nth iw t < mc

-- y with R'y = P'd, in the place of d, for an R of m rows
pub record Fixed (mc : ℕ) (iw : List ℕ) (w w' : List Float) : Type 0 where
  pub y : (m : ℕ) → mc ≤ m → m ≤ 18 → vec LSEI_X mc w' ≡ fixed mc (held m mc mc w iw) (vec LSEI_X mc w)
  pub low : (x : ℕ) → x < QR_SOLUTION → at w' x ≡ at w x
  pub middle : (x : ℕ) → QR_MATRIX ≤ x → x < LSEI_X → at w' x ≡ at w x
  pub after : (x : ℕ) → LSEI_E ≤ x → at w' x ≡ at w x

-- the row at o under Q', as a right-hand side
pub record TurnedRow (n mc o : ℕ) (w w' : List Float) : Type 0 where
  pub row : (iw : List ℕ) → vec QR_SIDE n w' ≡ apply_qt n (held n mc mc w iw) (vec o n w)
  pub low : (x : ℕ) → x < QR_SIDE → at w' x ≡ at w x
  pub after : (x : ℕ) → QR_SOLUTION ≤ x → at w' x ≡ at w x

-- the row at o under Q'
abbrev pub turned_in : (n mc o : ℕ) → List ℕ → List Float → List Float
turned_in n mc o iw w = apply_qt n (held n mc mc w iw) (vec o n w)

-- and the four rows from o on, 18 places apart from there on
pub record TurnedRows (n mc o : ℕ) (w w' : List Float) : Type 0 where
  pub rows : (j : ℕ) → j < 4 → (iw : List ℕ) → vec (QR_SIDE + j * 18) n w' ≡ turned_in n mc (o + j * 18) iw w
  pub low : (x : ℕ) → x < QR_SIDE → at w' x ≡ at w x
  pub after : (x : ℕ) → QR_MATRIX ≤ x → at w' x ≡ at w x

-- the turned row at p laid as row i of LSI's E, and f_i less the product of its head with y as entry i of LSI's f
pub record LaidE (n mc i p : ℕ) (w w' : List Float) : Type 0 where
  pub tail : (j : ℕ) → j < n - mc → at w' (LSEI_LSI_E + j * 18 + i) ≡ at w (p + (mc + j))
  pub side : at w' (LSEI_LSI_F + i) ≡ at w (LSEI_F + i) ⊖ Σ mc (λ k. at w (p + k) ⊗ at w (LSEI_X + k))
  pub others : (x : ℕ) → ((j : ℕ) → j < n - mc → x ≡ LSEI_LSI_E + i + j * 18 → ⊥) → (x ≡ LSEI_LSI_F + i → ⊥) → at w' x ≡ at w x

-- and as row i of LSI's G, and h_i less the product of its head with y as its side
pub record LaidG (n mc i p : ℕ) (w w' : List Float) : Type 0 where
  pub tail : (j : ℕ) → j < n - mc → at w' (LSEI_LSI_G + i * 18 + j) ≡ at w (p + (mc + j))
  pub side : at w' (LSEI_LSI_G + i * 18 + (n - mc)) ≡ at w (LSEI_G + i * 18 + n) ⊖ Σ mc (λ k. at w (p + k) ⊗ at w (LSEI_X + k))
  pub before : (x : ℕ) → x < LSEI_LSI_G + i * 18 → at w' x ≡ at w x

-- the first t rows of E turned and laid
pub record RowsOfE (n mc t : ℕ) (w w' : List Float) : Type 0 where
  pub tail : (iw : List ℕ) (i j : ℕ) → i < t → j < n - mc → at w' (LSEI_LSI_E + j * 18 + i) ≡ at (turned_in n mc (LSEI_E + i * 18) iw w) (mc + j)
  pub side : (iw : List ℕ) (i : ℕ) → i < t → at w' (LSEI_LSI_F + i) ≡ at w (LSEI_F + i) ⊖ dot mc (turned_in n mc (LSEI_E + i * 18) iw w) (vec LSEI_X mc w)
  pub low : (x : ℕ) → x < QR_SIDE → at w' x ≡ at w x
  pub middle : (x : ℕ) → QR_MATRIX ≤ x → x < LSEI_LSI_E → at w' x ≡ at w x

-- and of G
pub record RowsOfG (n mc t : ℕ) (w w' : List Float) : Type 0 where
  pub tail : (iw : List ℕ) (i j : ℕ) → i < t → j < n - mc → at w' (LSEI_LSI_G + i * 18 + j) ≡ at (turned_in n mc (LSEI_G + i * 18) iw w) (mc + j)
  pub side : (iw : List ℕ) (i : ℕ) → i < t → at w' (LSEI_LSI_G + i * 18 + (n - mc)) ≡ at w (LSEI_G + i * 18 + n) ⊖ dot mc (turned_in n mc (LSEI_G + i * 18) iw w) (vec LSEI_X mc w)
  pub low : (x : ℕ) → x < QR_SIDE → at w' x ≡ at w x
  pub middle : (x : ℕ) → QR_MATRIX ≤ x → x < LSEI_LSI_G → at w' x ≡ at w x

-- all rows of E
pub record TailOfE (n mc me : ℕ) (w w' : List Float) : Type 0 where
  pub matrix : (iw : List ℕ) → mat LSEI_LSI_E me (n - mc) w' ≡ tail_of n mc me (turned n me (held n mc mc w iw) (stack LSEI_E me n w))
  pub shift : (iw : List ℕ) → vec LSEI_LSI_F me w' ≡ shifted n mc me (turned n me (held n mc mc w iw) (stack LSEI_E me n w)) (vec LSEI_X mc w) (vec LSEI_F me w)
  pub low : (x : ℕ) → x < QR_SIDE → at w' x ≡ at w x
  pub middle : (x : ℕ) → QR_MATRIX ≤ x → x < LSEI_LSI_E → at w' x ≡ at w x

-- all rows of G
pub record TailOfG (n mc mg : ℕ) (w w' : List Float) : Type 0 where
  pub rows : (iw : List ℕ) → stack LSEI_LSI_G mg (n - mc) w' ≡ tail_of n mc mg (turned n mg (held n mc mc w iw) (stack LSEI_G mg n w))
  pub shift : (iw : List ℕ) → sides LSEI_LSI_G mg (n - mc) w' ≡ shifted n mc mg (turned n mg (held n mc mc w iw) (stack LSEI_G mg n w)) (vec LSEI_X mc w) (sides LSEI_G mg n w)
  pub low : (x : ℕ) → x < QR_SIDE → at w' x ≡ at w x
  pub middle : (x : ℕ) → QR_MATRIX ≤ x → x < LSEI_LSI_G → at w' x ≡ at w x

-- y, and LSI's problem in y_2; the factors of C' and the problem stay
pub record LseiReduced (n mc me mg : ℕ) (iw : List ℕ) (w w' : List Float) : Type 0 where
  pub y : vec LSEI_X mc w' ≡ fixed mc (held n mc mc w iw) (vec LSEI_X mc w)
  pub tail_of_e : mat LSEI_LSI_E me (n - mc) w' ≡ tail_of n mc me (turned n me (held n mc mc w iw) (stack LSEI_E me n w))
  pub shift_of_f : vec LSEI_LSI_F me w' ≡ shifted n mc me (turned n me (held n mc mc w iw) (stack LSEI_E me n w)) (vec LSEI_X mc w') (vec LSEI_F me w)
  pub tail_of_g : stack LSEI_LSI_G mg (n - mc) w' ≡ tail_of n mc mg (turned n mg (held n mc mc w iw) (stack LSEI_G mg n w))
  pub shift_of_h : sides LSEI_LSI_G mg (n - mc) w' ≡ shifted n mc mg (turned n mg (held n mc mc w iw) (stack LSEI_G mg n w)) (vec LSEI_X mc w') (sides LSEI_G mg n w)
  pub factors : held n mc mc w' iw ≡ held n mc mc w iw
  pub problem : (x : ℕ) → LSEI_E ≤ x → x < LSEI_LSI → at w' x ≡ at w x

-- entry i of E x - f
abbrev pub residual_in : (n i : ℕ) → List Float → Float
residual_in n i w = Σ n (λ j. at w (LSEI_E + i * 18 + j) ⊗ at w (LSEI_X + j)) ⊖ at w (LSEI_F + i)

-- entry j of E'r - G'lambda, for the residual r in the place of a solution
abbrev pub slope_in : (me mg j : ℕ) → List Float → Float
slope_in me mg j w = Σ me (λ i. at w (LSEI_E + j + i * 18) ⊗ at w (QR_SOLUTION + i * 1)) ⊖ Σ mg (λ k. at w (LSEI_G + j + k * 18) ⊗ at w (LSEI_MULTIPLIERS + k * 1))

-- x from y and LSI's x
pub record Rejoined (n mc : ℕ) (w w' : List Float) : Type 0 where
  pub x : (iw : List ℕ) → vec LSEI_X n w' ≡ apply_q n (held n mc mc w iw) (vec LSEI_X mc w ++ vec LSEI_LSI_X (n - mc) w)
  pub low : (x : ℕ) → x < LSEI_X → at w' x ≡ at w x
  pub after : (x : ℕ) → LSEI_E ≤ x → at w' x ≡ at w x

-- the equalities' multipliers, from x and the inequalities'
pub record Priced (n mc me mg : ℕ) (iw : List ℕ) (w w' : List Float) : Type 0 where
  pub multipliers : vec LSEI_EQUALITY_MULTIPLIERS mc w'
      ≡ equality_multipliers n mc (held n mc mc w iw) (gradient n me mg (stack LSEI_E me n w) (vec LSEI_F me w) (stack LSEI_G mg n w) (vec LSEI_X n w) (vec LSEI_MULTIPLIERS mg w))
  pub after : (x : ℕ) → QR_MATRIX ≤ x → at w' x ≡ at w x

-- x and the equalities' multipliers
pub record Completed (n mc me mg : ℕ) (iw : List ℕ) (w w' : List Float) : Type 0 where
  pub x : vec LSEI_X n w' ≡ apply_q n (held n mc mc w iw) (vec LSEI_X mc w ++ vec LSEI_LSI_X (n - mc) w)
  pub multipliers : vec LSEI_EQUALITY_MULTIPLIERS mc w'
      ≡ equality_multipliers n mc (held n mc mc w iw) (gradient n me mg (stack LSEI_E me n w) (vec LSEI_F me w) (stack LSEI_G mg n w) (vec LSEI_X n w') (vec LSEI_MULTIPLIERS mg w))
  pub after : (x : ℕ) → LSEI_E ≤ x → at w' x ≡ at w x
