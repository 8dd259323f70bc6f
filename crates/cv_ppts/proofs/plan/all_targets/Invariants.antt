use Rattle.std.proofs.Common.{◌≡◌, ◌≤◌, ◌+◌, ◌++◌, length}
use Rattle.cv_core.specs.Names.{stmts_of}
use Rattle.cv_ppts.specs.Keys.{setting}
use Rattle.cv_ppts.specs.Planned.{later_targets}
use Rattle.cv_ppts.specs.Setting.{new_target}
use Rattle.cv_ppts.proofs.plan.all_targets.Given as goal

abbrev pub invariant-loop-rest : goal.invariant-loop-rest
invariant-loop-rest l =
    (l.targets.items ++ later_targets l.s.p.now l.target l.rest ≡ later_targets l.s.p.now (new_target (setting l.s) 0) (stmts_of l.s.f.now.body)) × (l.target + length l.rest ≤ new_target (setting l.s) 0 + length (stmts_of l.s.f.now.body))

abbrev pub decreases-loop-rest : goal.decreases-loop-rest
decreases-loop-rest l = length l.rest
