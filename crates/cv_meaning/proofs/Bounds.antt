-- The laws of runs, as their statements have them.
use Rattle.std.proofs.Common.{◌≡◌, ℕ, ◌≤◌, arith}
use Rattle.cv_meaning.specs.Run.{run_within, run}
use Rattle.cv_meaning.specs.Laws.{LargerBoundsAgree, RunsByStep}
use Rattle.cv_meaning.proofs.Runs.{enough, run_is}

pub larger_bounds_agree : LargerBoundsAgree
unfolding run
larger_bounds_agree deep n P f k s le = let same : n ≤ n = omega arith in enough n deep n P le same f k s n same

pub runs_by_step : RunsByStep
runs_by_step P f k s n = run_is P f k s n
