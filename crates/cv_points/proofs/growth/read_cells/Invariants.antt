use Rattle.std.proofs.Common.{ℕ}
use Rattle.cv_points.specs.Growing.{Grows, ReadsCell}
use Rattle.cv_points.proofs.Grown.{Passed}
use Rattle.cv_points.proofs.growth.read_cells.Given as goal

abbrev pub invariant-loop-site : goal.invariant-loop-site
invariant-loop-site l = Grows l.initial.sets.items l.sets.items l.more (λ R. Passed (λ (s : ℕ). ReadsCell l.cells R l.to s) l.pointed l.site-index)
