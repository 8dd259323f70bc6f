use Rattle.std.proofs.Common.{subst, sym}
use Rattle.std.specs.Option.{MatchOption}
use Rattle.cv_ppts.specs.Numbers.{codes_of, row_codes}
use Rattle.cv_ppts.specs.declared.code.Code.{Code}
use Rattle.cv_ppts.specs.Keys.{setting}
use Rattle.cv_ppts.specs.Lacking.{Lacks}
use Rattle.cv_ppts.specs.Plain.{Holds, MovesTo, NullTo, ReadsFrom, Sets, WritesTo, content_in}
use Rattle.cv_ppts.specs.declared.sets.Missing.{Missing}
use Rattle.cv_ppts.specs.declared.sets.Rule.{Rule}
use Rattle.cv_ppts.proofs.Lacked.{over_place}
use Rattle.cv_ppts.proofs.sets.missing_by_rule.Goals as goal

pub returns-in-Moves : goal.returns-in-Moves
returns-in-Moves c =
    subst (λ (r : Rule). MatchOption c.missing_moves.result (Holds (setting c.args.s.now) (codes_of c.args.sets.now) r) (λ (m : Missing). Lacks (codes_of c.args.sets.now) (λ R. Holds (setting c.args.s.now) R r) m.to m.code)) (sym c.in-Moves.is)
    (over_place (λ (R : Sets) (x : Code). MovesTo R x c.in-Moves.to) (codes_of c.args.sets.now) (row_codes c.set_at.result.now) c.in-Moves.from c.missing_moves.result c.set_at.ensures c.missing_moves.ensures)

pub returns-in-Reads : goal.returns-in-Reads
returns-in-Reads c =
    subst (λ (r : Rule). MatchOption c.missing_reads.result (Holds (setting c.args.s.now) (codes_of c.args.sets.now) r) (λ (m : Missing). Lacks (codes_of c.args.sets.now) (λ R. Holds (setting c.args.s.now) R r) m.to m.code)) (sym c.in-Reads.is)
    (over_place (λ (R : Sets) (x : Code). ReadsFrom R (content_in (setting c.args.s.now) x) c.in-Reads.to) (codes_of c.args.sets.now) (row_codes c.set_at-in-Reads.result.now) c.in-Reads.pointer c.missing_reads.result c.set_at-in-Reads.ensures c.missing_reads.ensures)

pub returns-in-Writes : goal.returns-in-Writes
returns-in-Writes c =
    subst (λ (r : Rule). MatchOption c.missing_writes.result (Holds (setting c.args.s.now) (codes_of c.args.sets.now) r) (λ (m : Missing). Lacks (codes_of c.args.sets.now) (λ R. Holds (setting c.args.s.now) R r) m.to m.code)) (sym c.in-Writes.is)
    (over_place (λ (R : Sets) (x : Code). WritesTo R c.in-Writes.from (content_in (setting c.args.s.now) x)) (codes_of c.args.sets.now) (row_codes c.set_at-in-Writes.result.now) c.in-Writes.pointer c.missing_writes.result c.set_at-in-Writes.ensures c.missing_writes.ensures)

pub returns-in-WritesNull : goal.returns-in-WritesNull
returns-in-WritesNull c =
    subst (λ (r : Rule). MatchOption c.missing_nulls.result (Holds (setting c.args.s.now) (codes_of c.args.sets.now) r) (λ (m : Missing). Lacks (codes_of c.args.sets.now) (λ R. Holds (setting c.args.s.now) R r) m.to m.code)) (sym c.in-WritesNull.is)
    (over_place (λ (R : Sets) (x : Code). NullTo R (content_in (setting c.args.s.now) x)) (codes_of c.args.sets.now) (row_codes c.set_at-in-WritesNull.result.now) c.in-WritesNull.pointer c.missing_nulls.result c.set_at-in-WritesNull.ensures c.missing_nulls.ensures)
