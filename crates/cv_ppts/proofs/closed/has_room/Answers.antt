use Rattle.std.proofs.Common.{ap, sym, ◌∙◌}
use Rattle.std.specs.Option.{option_copied}
use Rattle.cv_ppts.proofs.Closing.{no_procedure, room_told}
use Rattle.cv_ppts.proofs.closed.has_room.Goals as goal

pub returns-in-None : goal.returns-in-None
returns-in-None c = record { room = no_procedure c.args.p.now c.args.proc c.args.case.now.codes (sym c.proc_at.ensures.value ∙ ap option_copied c.in-None.is) }

pub returns-in-Some : goal.returns-in-Some
returns-in-Some c =
    record { room = room_told c.args.p.now c.args.proc c.in-Some.f.now c.as_slice.result.now c.args.case.now.codes c.greatest.result c.has_few.result (sym c.proc_at.ensures.value ∙ ap option_copied c.in-Some.is) c.as_slice.ensures c.greatest.ensures c.has_few.ensures }
