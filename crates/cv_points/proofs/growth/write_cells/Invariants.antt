use Rattle.std.proofs.Common.{ℕ}
use Rattle.cv_points.specs.Growing.{Grows, WritesCell}
use Rattle.cv_points.proofs.Grown.{Passed}
use Rattle.cv_points.proofs.growth.write_cells.Given as goal

abbrev pub invariant-loop-site : goal.invariant-loop-site
invariant-loop-site l = Grows l.initial.sets.items l.sets.items l.more (λ R. Passed (λ (s : ℕ). WritesCell l.cells R l.from s) l.pointed l.site-index)
