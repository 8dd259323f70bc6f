use Rattle.std.proofs.Common.{◌≡◌, ◌++◌, length, map}
use Rattle.cv_core.specs.declared.program.Stmt.{Stmt}
use Rattle.cv_ppts.specs.Keys.{setting}
use Rattle.cv_ppts.specs.Plain.{plain_rule}
use Rattle.cv_core.specs.Names.{stmts_of}
use Rattle.cv_ppts.proofs.plan.all_rules.Given as goal

abbrev pub invariant-loop-rest : goal.invariant-loop-rest
invariant-loop-rest l = l.rules.items ++ map (λ (x : Stmt). plain_rule (setting l.s) x.form) l.rest ≡ map (λ (x : Stmt). plain_rule (setting l.s) x.form) (stmts_of l.s.f.now.body)

abbrev pub decreases-loop-rest : goal.decreases-loop-rest
decreases-loop-rest l = length l.rest
