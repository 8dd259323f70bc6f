use Rattle.std.proofs.Common.{ℕ, ◌≤◌, length, subst}
use Rattle.cv_ppts.specs.Numbers.{codes_of}
use Rattle.cv_ppts.specs.Keys.{setting}
use Rattle.cv_ppts.specs.Plain.{Sets}
use Rattle.cv_ppts.specs.Targets.{HoldsAt}
use Rattle.cv_ppts.proofs.Closing.{body_all}
use Rattle.cv_ppts.proofs.Lacked.{lacks_part, number_passed}
use Rattle.cv_ppts.proofs.closed.missing_in_body.Goals as goal

pub returns-in-Some : goal.returns-in-Some
returns-in-Some c =
    lacks_part (codes_of c.args.sets.now) (λ (R : Sets). HoldsAt (setting c.args.s.now) R c.loop-statement.statement) (λ (R : Sets). (k : ℕ) → HoldsAt (setting c.args.s.now) R k) _ _ (λ R within w. w c.loop-statement.statement) c.in-Some.ensures

pub loop-statement-preserved : goal.loop-statement-preserved
loop-statement-preserved c = number_passed (λ (k : ℕ). HoldsAt (setting c.args.s.now) (codes_of c.args.sets.now) k) c.loop-statement.statement c.loop-statement.invariant c.in-None.ensures

pub returns : goal.returns
returns c = body_all (setting c.args.s.now) (codes_of c.args.sets.now) c.loop-statement.statement (subst (λ ss. length ss ≤ c.loop-statement.statement) c.stmts_of-statement-end.ensures c.loop-statement-test.false) c.loop-statement.invariant
