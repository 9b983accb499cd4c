-- Searches worked by hand: the problem, the start, the budget and the answers, what then stands and what is reported. proofs/Runs.antt shows that the definitions answer so.
use Rattle.std.specs.Prelude.{ℕ, ◌+◌, ◌-◌, ◌^◌, true, false, List, [], ◌∷◌, Float}
use Rattle.std.specs.Float.{nan, inf}
use Rattle.numbers.specs.Numbers.{+0, near, one}
use Rattle.search.specs.Setup.{Setup, Scheme, told, forward, central, Point, Report, Question, values, slopes, single, Ending, converged, exhausted, nonfinite}
use Rattle.search.specs.Turn.{half, point_of}
use Rattle.search.specs.Written.{Standing, over, waits}
use Rattle.search.specs.Machine.{begin, tell_all, standing, report_now}
use Rattle.worked.specs.Worked.{two}

-- ---- a run: what it is given and told, what stands, and what is reported

pub data WorkedRun : Type 0 where
  RUN : Setup → (start : List Float) (budget : ℕ) (answers : List (List Float)) → Standing → Report → WorkedRun

-- the run with the definitions' answer in the place of its own
abbrev pub with_standing : WorkedRun → WorkedRun
with_standing (RUN p x b vs s r) = let M = tell_all p (begin p x b) vs in RUN p x b vs (standing p M) (report_now p M)

-- ---- the table

-- x * x / 2 of one variable at most `high`, without constraints, to 1/1024
abbrev pub square : Scheme → (high : Float) → Setup
square scheme high = record { n = 1; m = 0; kinds = []; lower = inf true ∷ []; upper = high ∷ []; ftol = near 1 1024; scheme = scheme }

abbrev pub free : Scheme → Setup
free scheme = square scheme (inf false)

-- the same under the equality x - 1 = 0
abbrev pub held : Setup
held = record { n = 1; m = 1; kinds = 0 ∷ []; lower = inf true ∷ []; upper = inf false ∷ []; ftol = near 1 1024; scheme = told }

-- what is reported: x, where `vs` were told
abbrev pub report_at : (x : Float) (vs multipliers : List Float) → Report
report_at x vs l = record { point = point_of (x ∷ []) vs; multipliers = l }

-- one number that is told
abbrev pub said : Float → List Float
said v = v ∷ []

-- k / 2^26
abbrev pub parts : ℕ → Float
parts k = near k (2 ^ 26)

-- From 1 with slopes: the step is -1, and at 0 the run has converged. A value of 1/2 there is not enough, and half the step is tried.
abbrev pub runs : List WorkedRun
runs =
    RUN (free told) (one ∷ []) 9 [] (waits (values (one ∷ []))) (report_at one (said nan) [])
    ∷ RUN (free told) (one ∷ []) 9 (said half ∷ []) (waits (slopes (one ∷ []))) (report_at one (said half) [])
    ∷ RUN (free told) (one ∷ []) 9 (said half ∷ said one ∷ []) (waits (values (+0 ∷ []))) (report_at one (said half) [])
    ∷ RUN (free told) (one ∷ []) 9 (said half ∷ said one ∷ said +0 ∷ []) (waits (slopes (+0 ∷ []))) (report_at one (said half) [])
    ∷ RUN (free told) (one ∷ []) 9 (said half ∷ said one ∷ said +0 ∷ said +0 ∷ []) (over converged (report_at +0 (said +0) [])) (report_at +0 (said +0) [])
    ∷ RUN (free told) (one ∷ []) 9 (said half ∷ said one ∷ said half ∷ []) (waits (values (half ∷ []))) (report_at one (said half) [])
    ∷ RUN (free told) (one ∷ []) 1 (said half ∷ said one ∷ []) (over exhausted (report_at one (said half) [])) (report_at one (said half) [])
    ∷ RUN (free told) (one ∷ []) 0 [] (over exhausted (report_at one (said nan) [])) (report_at one (said nan) [])
    ∷ RUN (free told) (one ∷ []) 9 (said nan ∷ []) (over nonfinite (report_at one (said nan) [])) (report_at one (said nan) [])
    ∷ RUN (square told one) (two ∷ []) 9 [] (waits (values (one ∷ []))) (report_at one (said nan) [])
    ∷ RUN (free forward) (one ∷ []) 9 (said half ∷ []) (waits (single 0 (parts (2 ^ 26 + 1) ∷ []))) (report_at one (said half) [])
    ∷ RUN (free forward) (one ∷ []) 9 (said half ∷ said (parts (2 ^ 25 + 1)) ∷ []) (waits (values (+0 ∷ []))) (report_at one (said half) [])
    ∷ RUN (free central) (one ∷ []) 9 (said half ∷ said (parts (2 ^ 25 + 1)) ∷ []) (waits (single 0 (parts (2 ^ 26 - 1) ∷ []))) (report_at one (said half) [])
    ∷ RUN (free central) (one ∷ []) 9 (said half ∷ said (parts (2 ^ 25 + 1)) ∷ said (parts (2 ^ 25 - 1)) ∷ []) (waits (values (+0 ∷ []))) (report_at one (said half) [])
    ∷ RUN held (one ∷ []) 9 [] (waits (values (one ∷ []))) (report_at one (nan ∷ nan ∷ []) (+0 ∷ []))
    ∷ RUN held (one ∷ []) 9 ((half ∷ +0 ∷ []) ∷ (one ∷ one ∷ []) ∷ []) (over converged (report_at one (half ∷ +0 ∷ []) (one ∷ []))) (report_at one (half ∷ +0 ∷ []) (one ∷ []))
    ∷ []
