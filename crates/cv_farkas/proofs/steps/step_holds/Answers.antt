use Rattle.std.proofs.Common.{rules}
use Rattle.cv_farkas.specs.Computed.{same_answer, holds_from, from_holds}
use Rattle.cv_farkas.proofs.steps.step_holds.Goals as goal

pub returns-clause-holds : goal.returns-clause-holds
returns-clause-holds c = search rules

pub returns-clause-computed : goal.returns-clause-computed
returns-clause-computed c = same_answer _ _ _ (returns-clause-holds c) (holds_from c.args.hyps.now c.args.goal.now c.args.s.now) (from_holds c.args.hyps.now c.args.goal.now c.args.s.now)
