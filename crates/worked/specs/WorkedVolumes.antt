-- Volumes worked by hand, settled and certified: the day, and what a call answers. proofs/Volumes.antt shows that the definitions answer so.
-- A call is lent outputs of the right lengths, which hold zeros, and an f64 workspace of so many entries beside that of u32.
use Rattle.std.specs.Prelude.{ℕ, ◌+◌, true, false, List, [], ◌∷◌, ◌++◌, replicate, Float}
use Rattle.std.specs.Float.{nan, inf, binary64}
use Rattle.std.specs.Float.Ieee.{of_bits, neg}
use Rattle.numbers.specs.Numbers.{+0, -1, near, one}
use Rattle.workspace.specs.Tables.{Answer, done, refused}
use Rattle.workspace.specs.declared.Refusal.TheVariants.{Size, Length, Room, Deficient, Infeasible, Tolerance, Dependent, Reading, Spread, Bound}
use Rattle.settle.specs.Settle.{Measured, Settled, measured}
use Rattle.settle.specs.Days.{within, vent, vent_settled, twice, twice_settled, distant, distant_settled}
use Rattle.settle_call.specs.Promise.{settle_call, certify_call}
use Rattle.worked.specs.Worked.{two, four, zeros, w, iw}

-- a day that is settled within a tolerance; and one whose volumes and multipliers are certified
pub data WorkedVolumes : Type 0 where
  SETTLE : (floats : ℕ) → Measured → (tolerance : Float) → Answer Settled → WorkedVolumes
  CERTIFY : Measured → (volumes multipliers : List Float) → Answer Settled → WorkedVolumes

-- the same with the definitions' answer in the place of its own
abbrev pub with_volumes : WorkedVolumes → WorkedVolumes
with_volumes (SETTLE floats d t a) = SETTLE floats d t (settle_call d t (zeros d.n) (zeros (d.m + d.p)) (zeros floats) iw)
with_volumes (CERTIFY d x mu a) = CERTIFY d x mu (certify_call d x mu w iw)

-- ---- the days

abbrev three : Float
three = near 3 1

abbrev five : Float
five = near 5 1

-- 3 and 5 of one flow: both are 4
abbrev pub one_flow : Measured
one_flow = measured 2 1 0 (three ∷ five ∷ []) (one ∷ one ∷ []) (one ∷ -1 ∷ []) [] []

-- the balance stated twice, so that it is seen
abbrev pub stated_twice : Measured
stated_twice = measured 2 2 0 (three ∷ five ∷ []) (one ∷ one ∷ []) (one ∷ -1 ∷ one ∷ -1 ∷ []) [] []

-- 1 with a floor of 3: it is 3, to the last places
abbrev pub below_floor : Measured
below_floor = measured 1 0 1 (one ∷ []) (one ∷ []) [] (one ∷ []) (three ∷ [])

-- 4 with a ceiling of 2, of spread 2: it is 2, and the ceiling weighs a half
abbrev pub above_ceiling : Measured
above_ceiling = measured 1 0 1 (four ∷ []) (two ∷ []) [] (-1 ∷ []) (neg two ∷ [])

-- a floor of 3 and a ceiling of 2
abbrev pub contradiction : Measured
contradiction = measured 1 0 2 (one ∷ []) (one ∷ []) [] (one ∷ -1 ∷ []) (three ∷ neg two ∷ [])

-- 1 of spread 1 with a floor, beside another value with its spread
abbrev pub pair : (value spread least : Float) → Measured
pair v s b = measured 2 0 1 (one ∷ v ∷ []) (one ∷ s ∷ []) [] (one ∷ +0 ∷ []) (b ∷ [])

-- 1 with a spread of 1, and 1 with one of 2 ^ 60, beside which the first is all there is
abbrev pub far_spread : Measured
far_spread = measured 2 0 0 (one ∷ one ∷ []) (one ∷ of_bits binary64 0x43b0_0000_0000_0000 ∷ []) [] [] []

-- ---- the table

abbrev pub settled_to : (x y z : List Float) (far : ℕ) → Answer Settled
settled_to x y z far = done (record { x = x; y = y; z = z; far = of_bits binary64 far })

-- refused by a test, each before those that come later
abbrev pub refused_by_tests : List WorkedVolumes
refused_by_tests =
    SETTLE 8192 (measured 17 0 0 [] [] [] [] []) within (refused Size)
    ∷ SETTLE 8192 (measured 0 0 49 [] [] [] [] []) within (refused Size)
    ∷ SETTLE 8192 (measured 1 0 0 [] (one ∷ []) [] [] []) within (refused Length)
    ∷ SETTLE 8191 (pair one one +0) nan (refused Room)
    ∷ SETTLE 8192 (pair nan one +0) nan (refused Tolerance)
    ∷ SETTLE 8192 (pair one one +0) -1 (refused Tolerance)
    ∷ SETTLE 8192 (pair (inf true) +0 nan) within (refused (Reading 1))
    ∷ SETTLE 8192 (pair one +0 nan) within (refused (Spread 1))
    ∷ SETTLE 8192 (pair one one (inf false)) within (refused (Bound 0))
    ∷ []

-- refused by LSEI; 7 takes more rounds than a hand works
abbrev pub refused_days : List WorkedVolumes
refused_days =
    SETTLE 8192 (measured 0 1 0 [] [] [] [] []) within (refused (Dependent 0))
    ∷ SETTLE 8192 far_spread within (refused (Deficient 1))
    ∷ SETTLE 8192 stated_twice within (refused (Dependent 1))
    ∷ SETTLE 8192 contradiction within (refused Infeasible)
    ∷ []

abbrev pub settled_days : List WorkedVolumes
settled_days =
    SETTLE 8192 (measured 0 0 0 [] [] [] [] []) within (settled_to [] [] [] 0x1e7e_fbde_b14f_4edb)
    ∷ SETTLE 8192 below_floor within (settled_to (of_bits binary64 0x4007_ffff_ffff_fffe ∷ []) [] (of_bits binary64 0x3fff_ffff_ffff_fffc ∷ []) 0x3cd0_0000_0000_0005)
    ∷ SETTLE 8192 above_ceiling within (settled_to (two ∷ []) [] (of_bits binary64 0x3fdf_ffff_ffff_ffff ∷ []) 0x3cd4_0000_0000_0005)
    ∷ []

-- volumes from anywhere: the right ones with the right witness; with none, up to √8 spreads may be wrong; a witness below zero, and a volume that is a NaN, bound nothing
abbrev pub certified_days : List WorkedVolumes
certified_days =
    CERTIFY one_flow (four ∷ four ∷ []) (one ∷ []) (settled_to (four ∷ four ∷ []) (one ∷ []) [] 0x3cd0_f876_ccdf_6cde)
    ∷ CERTIFY one_flow (four ∷ four ∷ []) (+0 ∷ []) (settled_to (four ∷ four ∷ []) (+0 ∷ []) [] 0x4006_a09e_667f_3bd6)
    ∷ CERTIFY below_floor (three ∷ []) (two ∷ []) (settled_to (three ∷ []) [] (two ∷ []) 0x3cd8_0000_0000_0006)
    ∷ CERTIFY below_floor (three ∷ []) (neg two ∷ []) (done (record { x = three ∷ []; y = []; z = neg two ∷ []; far = inf false }))
    ∷ CERTIFY below_floor (nan ∷ []) (two ∷ []) (done (record { x = nan ∷ []; y = []; z = two ∷ []; far = inf false }))
    ∷ CERTIFY (pair nan one +0) (one ∷ one ∷ []) (+0 ∷ []) (refused (Reading 1))
    ∷ CERTIFY (pair one +0 nan) (one ∷ one ∷ []) (+0 ∷ []) (refused (Spread 1))
    ∷ CERTIFY (pair one one nan) (one ∷ one ∷ []) (+0 ∷ []) (refused (Bound 0))
    ∷ CERTIFY one_flow (four ∷ []) (one ∷ []) (refused Length)
    ∷ CERTIFY (measured 0 17 0 [] [] [] [] []) [] [] (refused Size)
    ∷ []

-- the three days of `settle`, called: two balances that pin a meter; a balance that stands twice and is not seen; a floor 1e5 spreads away, and its volumes certified again
abbrev pub pinned_volumes : WorkedVolumes
pinned_volumes = SETTLE 8192 vent within (done vent_settled)

abbrev pub twice_volumes : WorkedVolumes
twice_volumes = SETTLE 8192 twice within (done twice_settled)

abbrev pub distant_volumes : WorkedVolumes
distant_volumes = SETTLE 8192 distant within (done distant_settled)

abbrev pub distant_again : WorkedVolumes
distant_again = CERTIFY distant distant_settled.x (distant_settled.y ++ distant_settled.z) (done distant_settled)
