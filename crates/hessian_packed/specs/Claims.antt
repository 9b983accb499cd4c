-- The packed form agrees with the square form after any resets and updates from the identity. Definitions only.
use Rattle.std.specs.Prelude.{ℕ, ◌≡◌, List, [], ◌∷◌, length, Float}
use Rattle.hessian.specs.Hessian as Square
use Rattle.hessian.specs.Claims.{Event, reset, update, refused}
use Rattle.hessian.specs.Claims as Squares
use Rattle.hessian_packed.specs.Packed.{count, packed, unpacked, identity, times, cholesky}
use Rattle.hessian_packed.specs.Packed as Packed

-- the triangle after an event, and after some: the square form's events, made on the packed form
unfoldable pub next : ℕ → Event → List Float → List Float
next n reset p = identity n
next n (update s y) p = Packed.update n p s y
next n (refused k) p = p

unfoldable pub after : ℕ → List Event → List Float → List Float
after n [] p = p
after n (e ∷ es) p = after n es (next n e p)

-- Of a triangle p and a square b: each is what the other stands for, and product and Cholesky factor answer the same.
pub record Same (n : ℕ) (p b : List Float) : Type 0 where
  pub lower : p ≡ packed n b
  pub whole : unpacked n p ≡ b
  pub products : (v : List Float) → times n p v ≡ Square.times n b v
  pub factors : cholesky n p ≡ Square.cholesky n b

-- after the same events, of every dimension at once
abbrev pub Agrees : Type 0
Agrees = (n : ℕ) (es : List Event) → Same n (after n es (identity n)) (Squares.after n es (Square.identity n))

-- And on every triangle, whatever it holds and wherever it is from: the operations are the square's, on the square that it stands for.
pub record OnSquare (n : ℕ) (p : List Float) : Type 0 where
  pub again : packed n (unpacked n p) ≡ p
  pub product : (v : List Float) → times n p v ≡ Square.times n (unpacked n p) v
  pub factor : cholesky n p ≡ Square.cholesky n (unpacked n p)
  pub updated : (s y : List Float) → Packed.update n p s y ≡ packed n (Square.update n (unpacked n p) s y)

abbrev pub ThroughSquare : Type 0
ThroughSquare = (n : ℕ) (p : List Float) → length p ≡ count n → OnSquare n p
