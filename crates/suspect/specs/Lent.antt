-- What is found of the meters that lent parts make. Definitions only.
use Rattle.suspect.specs.Suspect.{Tests, suspect}
use Rattle.suspect.specs.declared.day.MeteredDay.{MeteredDay}

abbrev pub tested_in : MeteredDay → Tests
tested_in d = suspect d.n d.m d.values.now d.spreads.now d.balances.now d.still.now
