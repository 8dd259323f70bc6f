use Rattle.std.proofs.Common.{rules}
use Rattle.cv_farkas.specs.Computed.{same_answer, direct_from, from_direct}
use Rattle.cv_farkas.proofs.directly.direct.Goals as goal

pub returns-then-is_number-clause-direct : goal.returns-then-is_number-clause-direct
returns-then-is_number-clause-direct c = search rules

pub returns-else-is_number-clause-direct : goal.returns-else-is_number-clause-direct
returns-else-is_number-clause-direct c = search rules

pub returns-then-is_number-clause-computed : goal.returns-then-is_number-clause-computed
returns-then-is_number-clause-computed c =
    same_answer _ _ _ (returns-then-is_number-clause-direct c) (direct_from c.args.hyps.now c.args.goal.now) (from_direct c.args.hyps.now c.args.goal.now)

pub returns-else-is_number-clause-computed : goal.returns-else-is_number-clause-computed
returns-else-is_number-clause-computed c =
    same_answer _ _ _ (returns-else-is_number-clause-direct c) (direct_from c.args.hyps.now c.args.goal.now) (from_direct c.args.hyps.now c.args.goal.now)
