-- Three days worked: the numbers, and what is settled within 0.001. `proofs/Days.antt` shows that the definitions answer so. Definitions only.
use Rattle.std.specs.Prelude.{ℕ, ◌≡◌, [], ◌∷◌, replicate, Float}
use Rattle.std.specs.Float.{binary64}
use Rattle.std.specs.Float.Ieee.{of_bits}
use Rattle.numbers.specs.Numbers.{+0, near}
use Rattle.workspace.specs.Tables.{done}
use Rattle.reconcile.specs.Day.{identity}
use Rattle.settle.specs.Settle.{Measured, Settled, measured, settled}

-- within 0.001
abbrev pub within : Float
within = near 1 1000

-- the f64 of a pattern
abbrev b : ℕ → Float
b n = of_bits binary64 n

-- a meter whose flow two balances pin to zero, beside one in no balance: LSEI alone corrects the first value to 1440.196: 1338.0000000000039, 5680.0588235294117, 5680.0588235294108, 1.1368683772161603e-13, and B = 6.54215e-08
abbrev pub vent : Measured
vent = measured 4 2 4 (b 4653599401678209024 ∷ b 4662968340258488320 ∷ b 4662967240746860544 ∷ b 0 ∷ []) (b 4630826316843712512 ∷ b 4630826316843712512 ∷ b 4621819117588971520 ∷ b 4602678819172646912 ∷ []) (b 0 ∷ b 13830554455654793216 ∷ b 4607182418800017408 ∷ b 13830554455654793216 ∷ b 0 ∷ b 13830554455654793216 ∷ b 4607182418800017408 ∷ b 0 ∷ []) (identity 4) (replicate 4 +0)

abbrev pub vent_settled : Settled
vent_settled = record { x = b 4653599401678209041 ∷ b 4662967305424015119 ∷ b 4662967305424015118 ∷ b 4413527634823086080 ∷ []; y = b 13645906871781658928 ∷ b 4558564736238567425 ∷ []; z = b 0 ∷ b 0 ∷ b 0 ∷ b 0 ∷ []; far = b 4499535538290455155 }

-- one balance stated twice, with coefficients whose rounding hides it: no bound below one spread: 356.85487099449858, 3826.6850708270254, 3506.5699886314751, and B = 66.8261
abbrev pub twice : Measured
twice = measured 3 2 3 (b 4646975943632486400 ∷ b 4659985365212332032 ∷ b 4659325658235666432 ∷ []) (b 4631811479262199808 ∷ b 4644917657865289728 ∷ b 4644389892283957248 ∷ []) (b 4596373779694328218 ∷ b 13841475684751166669 ∷ b 4618666597849812173 ∷ b 4596373779694328218 ∷ b 13841475684751166669 ∷ b 4618666597849812173 ∷ []) (identity 3) (replicate 3 +0)

abbrev pub twice_settled : Settled
twice_settled = record { x = b 4644985473473002170 ∷ b 4660633384536144649 ∷ b 4659929444025943694 ∷ []; y = b 4800955156787153703 ∷ b 14024327193641929508 ∷ []; z = b 0 ∷ b 0 ∷ b 0 ∷ []; far = b 4634402885031946964 }

-- a floor 1e5 spreads away: 1999.9999999999995, 0, 1999.9999999999995, and B = 1.18521e-10
abbrev pub distant : Measured
distant = measured 3 1 3 (b 4652007308841189376 ∷ b 0 ∷ b 4658815484840378368 ∷ []) (b 4581421828931458171 ∷ b 4581421828931458171 ∷ b 4581421828931458171 ∷ []) (b 4607182418800017408 ∷ b 13830554455654793216 ∷ b 13830554455654793216 ∷ []) (identity 3) (replicate 3 +0)

abbrev pub distant_settled : Settled
distant_settled = record { x = b 4656510908468559870 ∷ b 0 ∷ b 4656510908468559870 ∷ []; y = b 4702623120467427329 ∷ []; z = b 0 ∷ b 4702623120467427328 ∷ b 0 ∷ []; far = b 4458645073626971294 }

-- and so they are settled
abbrev pub DaysSettled : Type 0
DaysSettled = (settled vent within ≡ done vent_settled) × (settled twice within ≡ done twice_settled) × (settled distant within ≡ done distant_settled)
