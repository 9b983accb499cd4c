-- `area_of`: an area for each tag.
use borrow.Author.Tests.{ne_eqb}
use Rattle.problem_read.specs.inner.Spots.{area_of}
use Rattle.problem_read.proofs.area_of.Goals as goal

pub make_area-requires : goal.make_area-requires
make_area-requires c = tt

pub make_area-requires-in-71 : goal.make_area-requires-in-71
make_area-requires-in-71 c = tt

pub make_area-requires-in-69 : goal.make_area-requires-in-69
make_area-requires-in-69 c = tt

pub make_area-requires-in-73 : goal.make_area-requires-in-73
make_area-requires-in-73 c = tt

pub make_area-requires-in-87 : goal.make_area-requires-in-87
make_area-requires-in-87 c = tt

pub make_area-requires-in-65 : goal.make_area-requires-in-65
make_area-requires-in-65 c = tt

pub make_area-requires-in-66 : goal.make_area-requires-in-66
make_area-requires-in-66 c = tt

pub make_area-requires-in-84 : goal.make_area-requires-in-84
make_area-requires-in-84 c = tt

pub make_area-requires-in_default : goal.make_area-requires-in_default
make_area-requires-in_default c = tt

pub returns-in-76 : goal.returns-in-76
unfolding area_of
returns-in-76 c = rw c.in-76.is c.make_area.ensures

pub returns-in-71 : goal.returns-in-71
unfolding area_of
returns-in-71 c = rw c.in-71.is c.make_area-in-71.ensures

pub returns-in-69 : goal.returns-in-69
unfolding area_of
returns-in-69 c = rw c.in-69.is c.make_area-in-69.ensures

pub returns-in-73 : goal.returns-in-73
unfolding area_of
returns-in-73 c = rw c.in-73.is c.make_area-in-73.ensures

pub returns-in-87 : goal.returns-in-87
unfolding area_of
returns-in-87 c = rw c.in-87.is c.make_area-in-87.ensures

pub returns-in-65 : goal.returns-in-65
unfolding area_of
returns-in-65 c = rw c.in-65.is c.make_area-in-65.ensures

pub returns-in-66 : goal.returns-in-66
unfolding area_of
returns-in-66 c = rw c.in-66.is c.make_area-in-66.ensures

pub returns-in-84 : goal.returns-in-84
unfolding area_of
returns-in-84 c = rw c.in-84.is c.make_area-in-84.ensures

pub returns-in_default : goal.returns-in_default
unfolding area_of
returns-in_default c = simp (ne_eqb _ _ c.in_default.in_default-own.rest.1, ne_eqb _ _ c.in_default.in_default-own.rest.0.1, ne_eqb _ _ c.in_default.in_default-own.rest.0.0.1, ne_eqb _ _ c.in_default.in_default-own.rest.0.0.0.1, ne_eqb _ _ c.in_default.in_default-own.rest.0.0.0.0.1, ne_eqb _ _ c.in_default.in_default-own.rest.0.0.0.0.0.1, ne_eqb _ _ c.in_default.in_default-own.rest.0.0.0.0.0.0.1, ne_eqb _ _ c.in_default.in_default-own.rest.0.0.0.0.0.0.0.1) c.make_area-in_default.ensures
