use Rattle.std.proofs.Common.{ℕ, ◌∙◌, sym, subst}
use Rattle.cv_points.specs.Closed.{Family}
use Rattle.cv_points.specs.Growing.{Grows, Keeps, ReadsCell, WritesCell}
use Rattle.cv_points.proofs.Grown.{pointed_as}
use Rattle.cv_points.proofs.growth.apply.Goals as goal

pub returns-in_ok-more-in-Reads : goal.returns-in_ok-more-in-Reads
returns-in_ok-more-in-Reads c =
    subst (λ r. Grows c.args.sets.now.items c.read_cells.new.sets.items c.in_ok-more-in-Reads.more (λ R. Keeps c.args.cells.now R r)) (sym c.in-Reads.is)
    (pointed_as c.args.sets.now.items c.read_cells.new.sets.items c.in_ok-more-in-Reads.more c.in-Reads.pointer c.as_slice.result.now (λ (R : Family) (s : ℕ). ReadsCell c.args.cells.now R c.in-Reads.to s)
    (c.as_slice.ensures.value ∙ c.in_ok-pointed-in-Reads.ensures) c.in_ok-more-in-Reads.ensures)

pub returns-in_ok-more-in-Writes : goal.returns-in_ok-more-in-Writes
returns-in_ok-more-in-Writes c =
    subst (λ r. Grows c.args.sets.now.items c.write_cells.new.sets.items c.in_ok-more-in-Writes.more (λ R. Keeps c.args.cells.now R r)) (sym c.in-Writes.is)
    (pointed_as c.args.sets.now.items c.write_cells.new.sets.items c.in_ok-more-in-Writes.more c.in-Writes.pointer c.as_slice-in-Writes.result.now (λ (R : Family) (s : ℕ). WritesCell c.args.cells.now R c.in-Writes.from s)
    (c.as_slice-in-Writes.ensures.value ∙ c.in_ok-pointed-in-Writes.ensures) c.in_ok-more-in-Writes.ensures)
