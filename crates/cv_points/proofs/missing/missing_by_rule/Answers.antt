use Rattle.std.proofs.Common.{◌≡◌, sym, ◌∙◌}
use Rattle.cv_points.specs.Closed.{Holds, IsSubset, set_at}
use Rattle.cv_points.specs.Missing.{IsLacking, IsMissing, LacksRead, LacksWritten, ReadsHold, WritesHold}
use Rattle.cv_points.specs.declared.missing.Missing.{Missing}
use Rattle.cv_points.proofs.Lists.{match_map}
use Rattle.cv_points.proofs.Missed.{has_holds, has_missing, includes_holds, includes_missing, reads_hold, reads_missing, writes_hold, writes_missing}
use Rattle.cv_points.proofs.missing.missing_by_rule.Goals as goal

pub returns-then-has_site_at : goal.returns-then-has_site_at
returns-then-has_site_at c r len e =
    has_holds c.args.p.now c.args.sets.now c.in-Has.to c.in-Has.site r len (sym c.in-Has.is ∙ e) c.if-has_site_at.ensures.small c.if-has_site_at.ensures.answer

pub returns-else-has_site_at : goal.returns-else-has_site_at
returns-else-has_site_at c r len e =
    has_missing c.args.p.now c.args.sets.now c.in-Has.to c.in-Has.site r len (sym c.in-Has.is ∙ e) c.if-has_site_at.ensures.small c.if-has_site_at.ensures.answer

pub returns-in-Includes : goal.returns-in-Includes
returns-in-Includes c r len e =
    match_map (IsSubset (set_at c.args.sets.now c.in-Includes.from) (set_at c.args.sets.now c.in-Includes.to)) (Holds c.args.p.now c.args.sets.now r)
    (λ (m : Missing). (m.to ≡ c.in-Includes.to) × IsLacking c.args.sets.now c.in-Includes.from c.in-Includes.to m.site) (λ (m : Missing). IsMissing c.args.p.now c.args.sets.now r m.to m.site)
    c.missing_within.result
    (includes_holds c.args.p.now c.args.sets.now c.in-Includes.from c.in-Includes.to r len (sym c.in-Includes.is ∙ e))
    (λ m h. includes_missing c.args.p.now c.args.sets.now c.in-Includes.from c.in-Includes.to m.to m.site r len (sym c.in-Includes.is ∙ e) h.0 h.1)
    c.missing_within.ensures

pub returns-in-Reads : goal.returns-in-Reads
returns-in-Reads c r len e =
    match_map (ReadsHold c.args.p.now c.args.sets.now c.in-Reads.pointer c.in-Reads.to) (Holds c.args.p.now c.args.sets.now r)
    (λ (m : Missing). (m.to ≡ c.in-Reads.to) × LacksRead c.args.p.now c.args.sets.now c.in-Reads.pointer c.in-Reads.to m.site) (λ (m : Missing). IsMissing c.args.p.now c.args.sets.now r m.to m.site)
    c.missing_read.result
    (reads_hold c.args.p.now c.args.sets.now c.in-Reads.pointer c.in-Reads.to r len (sym c.in-Reads.is ∙ e))
    (λ m h. reads_missing c.args.p.now c.args.sets.now c.in-Reads.pointer c.in-Reads.to m.to m.site r len (sym c.in-Reads.is ∙ e) h.0 h.1)
    c.missing_read.ensures

pub returns-in-Writes : goal.returns-in-Writes
returns-in-Writes c r len e =
    match_map (WritesHold c.args.p.now c.args.sets.now c.in-Writes.from c.in-Writes.pointer) (Holds c.args.p.now c.args.sets.now r)
    (λ (m : Missing). LacksWritten c.args.p.now c.args.sets.now c.in-Writes.from c.in-Writes.pointer m.to m.site) (λ (m : Missing). IsMissing c.args.p.now c.args.sets.now r m.to m.site)
    c.missing_write.result
    (writes_hold c.args.p.now c.args.sets.now c.in-Writes.from c.in-Writes.pointer r len (sym c.in-Writes.is ∙ e))
    (λ m h. writes_missing c.args.p.now c.args.sets.now c.in-Writes.from c.in-Writes.pointer m.to m.site r len (sym c.in-Writes.is ∙ e) h)
    c.missing_write.ensures
