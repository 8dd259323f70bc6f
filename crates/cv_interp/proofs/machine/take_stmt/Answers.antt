use Rattle.std.proofs.Common.{ap, ◌∙◌}
use Rattle.cv_interp.specs.Plans.{line_of}
use Rattle.cv_interp.proofs.Planned.{line_stands, line_there}
use Rattle.cv_interp.proofs.machine.take_stmt.Goals as goal

pub line_at-line-requires : goal.line_at-line-requires
line_at-line-requires c =
    line_there c.args.core.now.program.now c.args.plans.now c.args.core.now.running.number c.args.core.now.at c.args.core.now.running.proc.now c.args.stmt.now c.requires.plans
    c.requires.good.active.proc c.requires.at

pub go_into-requires-clause-line : goal.go_into-requires-clause-line
go_into-requires-clause-line c =
    line_stands c.args.core.now.program.now c.args.plans.now c.args.core.now.running.number c.args.core.now.at c.args.core.now.running.proc.now c.args.stmt.now c.line_at-line.result.now
    c.requires.plans c.requires.good.active.proc c.requires.at c.line_at-line.ensures ∙ ap (line_of c.args.core.now.program.now c.args.core.now.running.proc.now) c.in-Call.is

pub go_out-requires-clause-line : goal.go_out-requires-clause-line
go_out-requires-clause-line c =
    line_stands c.args.core.now.program.now c.args.plans.now c.args.core.now.running.number c.args.core.now.at c.args.core.now.running.proc.now c.args.stmt.now c.line_at-line.result.now
    c.requires.plans c.requires.good.active.proc c.requires.at c.line_at-line.ensures ∙ ap (line_of c.args.core.now.program.now c.args.core.now.running.proc.now) c.in-Return.is

pub go-requires-clause-line : goal.go-requires-clause-line
go-requires-clause-line c =
    line_stands c.args.core.now.program.now c.args.plans.now c.args.core.now.running.number c.args.core.now.at c.args.core.now.running.proc.now c.args.stmt.now c.line_at-line.result.now
    c.requires.plans c.requires.good.active.proc c.requires.at c.line_at-line.ensures
