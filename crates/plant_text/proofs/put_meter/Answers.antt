-- `put_meter`: its parts one after the other.
use native.Mathlib.Omega.{arith}
use Rattle.numbers.specs.Numbers.{tab}
use Rattle.ascii.specs.Text.{ascii}
use Rattle.plant.specs.Texts.{meter_text}
use Rattle.ascii.proofs.Writing.{wrote_then}
use Rattle.plant_text.proofs.Texts.{wrote-size}
use Rattle.plant_text.proofs.put_meter.Goals as goal

pub put_text-a-requires : goal.put_text-a-requires
put_text-a-requires c = omega (arith, c.requires)

pub put_text-b-requires : goal.put_text-b-requires
put_text-b-requires c = omega (arith, c.put_text-a.ensures.until, c.requires)

pub put_byte-c-requires : goal.put_byte-c-requires
put_byte-c-requires c = omega (arith, c.put_text-b.ensures.until, c.put_text-a.ensures.until, c.requires)

pub overflow_cast-s : goal.overflow_cast-s
overflow_cast-s c = omega arith

pub put_six-d-requires : goal.put_six-d-requires
put_six-d-requires c = omega (arith, c.put_byte-c.ensures.until, c.put_text-b.ensures.until, c.put_text-a.ensures.until, c.requires)

pub put_byte-e-requires : goal.put_byte-e-requires
put_byte-e-requires c = omega (arith, c.put_six-d.ensures.until, c.put_byte-c.ensures.until, c.put_text-b.ensures.until, c.put_text-a.ensures.until, c.requires)

pub overflow_cast-s-2 : goal.overflow_cast-s-2
overflow_cast-s-2 c = omega arith

pub put_six-f-requires : goal.put_six-f-requires
put_six-f-requires c = omega (arith, c.put_byte-e.ensures.until, c.put_six-d.ensures.until, c.put_byte-c.ensures.until, c.put_text-b.ensures.until, c.put_text-a.ensures.until, c.requires)

pub put_byte-g-requires : goal.put_byte-g-requires
put_byte-g-requires c = let l = wrote-size (wrote_then c.put_text-a.ensures (wrote_then c.put_text-b.ensures (wrote_then c.put_byte-c.ensures (wrote_then c.put_six-d.ensures (wrote_then c.put_byte-e.ensures c.put_six-f.ensures))))) in omega (arith, l, c.put_six-f.ensures.until, c.put_byte-e.ensures.until, c.put_six-d.ensures.until, c.put_byte-c.ensures.until, c.put_text-b.ensures.until, c.put_text-a.ensures.until, c.requires)

pub put_text-h-requires : goal.put_text-h-requires
put_text-h-requires c = let l = wrote-size (wrote_then c.put_text-a.ensures (wrote_then c.put_text-b.ensures (wrote_then c.put_byte-c.ensures (wrote_then c.put_six-d.ensures (wrote_then c.put_byte-e.ensures (wrote_then c.put_six-f.ensures c.put_byte-g.ensures)))))) in omega (arith, l, c.put_byte-g.ensures.until, c.put_six-f.ensures.until, c.put_byte-e.ensures.until, c.put_six-d.ensures.until, c.put_byte-c.ensures.until, c.put_text-b.ensures.until, c.put_text-a.ensures.until, c.requires)

pub put_byte-i-requires : goal.put_byte-i-requires
put_byte-i-requires c = let l = wrote-size (wrote_then c.put_text-a.ensures (wrote_then c.put_text-b.ensures (wrote_then c.put_byte-c.ensures (wrote_then c.put_six-d.ensures (wrote_then c.put_byte-e.ensures (wrote_then c.put_six-f.ensures (wrote_then c.put_byte-g.ensures c.put_text-h.ensures))))))) in omega (arith, l, c.put_text-h.ensures.until, c.put_byte-g.ensures.until, c.put_six-f.ensures.until, c.put_byte-e.ensures.until, c.put_six-d.ensures.until, c.put_byte-c.ensures.until, c.put_text-b.ensures.until, c.put_text-a.ensures.until, c.requires)

pub put_minutes-j-requires : goal.put_minutes-j-requires
put_minutes-j-requires c = let l = wrote-size (wrote_then c.put_text-a.ensures (wrote_then c.put_text-b.ensures (wrote_then c.put_byte-c.ensures (wrote_then c.put_six-d.ensures (wrote_then c.put_byte-e.ensures (wrote_then c.put_six-f.ensures (wrote_then c.put_byte-g.ensures (wrote_then c.put_text-h.ensures c.put_byte-i.ensures)))))))) in omega (arith, l, c.put_byte-i.ensures.until, c.put_text-h.ensures.until, c.put_byte-g.ensures.until, c.put_six-f.ensures.until, c.put_byte-e.ensures.until, c.put_six-d.ensures.until, c.put_byte-c.ensures.until, c.put_text-b.ensures.until, c.put_text-a.ensures.until, c.requires)

pub put_remark-requires : goal.put_remark-requires
put_remark-requires c = let l = wrote-size (wrote_then c.put_text-a.ensures (wrote_then c.put_text-b.ensures (wrote_then c.put_byte-c.ensures (wrote_then c.put_six-d.ensures (wrote_then c.put_byte-e.ensures (wrote_then c.put_six-f.ensures (wrote_then c.put_byte-g.ensures (wrote_then c.put_text-h.ensures (wrote_then c.put_byte-i.ensures c.put_minutes-j.ensures.wrote))))))))) in omega (arith, l, c.put_minutes-j.ensures.upper_bound, c.put_byte-i.ensures.until, c.put_text-h.ensures.until, c.put_byte-g.ensures.until, c.put_six-f.ensures.until, c.put_byte-e.ensures.until, c.put_six-d.ensures.until, c.put_byte-c.ensures.until, c.put_text-b.ensures.until, c.put_text-a.ensures.until, c.requires)

pub shape_of-out : goal.shape_of-out
shape_of-out c = wrote-size (wrote_then c.put_text-a.ensures (wrote_then c.put_text-b.ensures (wrote_then c.put_byte-c.ensures (wrote_then c.put_six-d.ensures (wrote_then c.put_byte-e.ensures (wrote_then c.put_six-f.ensures (wrote_then c.put_byte-g.ensures (wrote_then c.put_text-h.ensures (wrote_then c.put_byte-i.ensures (wrote_then c.put_minutes-j.ensures.wrote c.put_remark.ensures.wrote))))))))))

pub returns : goal.returns
unfolding ascii tab meter_text
returns c = record { wrote = wrote_then c.put_text-a.ensures (wrote_then c.put_text-b.ensures (wrote_then c.put_byte-c.ensures (wrote_then c.put_six-d.ensures (wrote_then c.put_byte-e.ensures (wrote_then c.put_six-f.ensures (wrote_then c.put_byte-g.ensures (wrote_then c.put_text-h.ensures (wrote_then c.put_byte-i.ensures (wrote_then c.put_minutes-j.ensures.wrote c.put_remark.ensures.wrote))))))))); upper_bound = omega (arith, c.put_remark.ensures.upper_bound, c.put_minutes-j.ensures.upper_bound, c.put_byte-i.ensures.until, c.put_text-h.ensures.until, c.put_byte-g.ensures.until, c.put_six-f.ensures.until, c.put_byte-e.ensures.until, c.put_six-d.ensures.until, c.put_byte-c.ensures.until, c.put_text-b.ensures.until, c.put_text-a.ensures.until) }
