use Rattle.std.proofs.Common.{sym, ◌∙◌}
use Rattle.cv_ppts.specs.Keys.{setting}
use Rattle.cv_ppts.specs.Numbers.{codes_of}
use Rattle.cv_ppts.proofs.Called.{as_many}
use Rattle.cv_ppts.proofs.Formals.{callee_as, callee_none, formals_begin}
use Rattle.cv_ppts.proofs.calls.missing_in_callee.Goals as goal

pub returns-then-not-changes_pointer : goal.returns-then-not-changes_pointer
returns-then-not-changes_pointer c =
    callee_none (setting c.args.s.now) (codes_of c.args.sets.now) c.args.target c.args.into c.args.g.now c.args.args.now (sym c.changes_pointer.ensures ∙ c.if-not-changes_pointer.true)

pub missing_in_formals-requires : goal.missing_in_formals-requires
missing_in_formals-requires c =
    record { small = as_many c.as_slice.result.now c.args.g.now.formals c.as_slice.ensures; ahead = formals_begin c.args.g.now c.as_slice.result.now c.as_slice.ensures }

pub returns : goal.returns
returns c =
    callee_as (setting c.args.s.now) (codes_of c.args.sets.now) c.args.target c.args.into c.args.g.now c.args.args.now c.missing_in_formals.result (sym c.changes_pointer.ensures ∙ c.if-not-changes_pointer.false) c.missing_in_formals.ensures
