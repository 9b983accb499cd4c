-- The operations of the stored calls, by their numbers in the list. Definitions only.
use Rattle.std.specs.Prelude.{◌≡◌, ℕ, ◌<◌, Result, MatchResult}
use Rattle.replay_list.specs.declared.operation.Operation.{Operation}
use Rattle.replay_list.specs.declared.operation.Operation.TheVariants.{Sqrt, Sum, Norm, Qr, Nnls, Ldp, Lsi, Lsei, Identity, Times, Cholesky, Update, Step, PackedIdentity, PackedTimes, PackedCholesky, PackedUpdate, Day, StrictStep, Check, Begin, Tell, Suspect, Settle, Certify}
use Rattle.replay_list.specs.declared.operation.UnknownOperation.{UnknownOperation}

abbrev pub number_of : Operation → ℕ
number_of Sqrt = 0
number_of Sum = 1
number_of Norm = 2
number_of Qr = 3
number_of Nnls = 4
number_of Ldp = 5
number_of Lsi = 6
number_of Lsei = 7
number_of Identity = 8
number_of Times = 9
number_of Cholesky = 10
number_of Update = 11
number_of Step = 12
number_of PackedIdentity = 13
number_of PackedTimes = 14
number_of PackedCholesky = 15
number_of PackedUpdate = 16
number_of Day = 17
number_of StrictStep = 18
number_of Check = 19
number_of Begin = 20
number_of Tell = 21
number_of Suspect = 22
number_of Settle = 23
number_of Certify = 24

-- a number is read as the operation that has it, or told to be one that none has
abbrev pub Decodes : ℕ → Result Operation UnknownOperation → Type 0
Decodes number r = MatchResult r (λ operation. number_of operation ≡ number) (λ e. (e.0 ≡ number) × (24 < number))
