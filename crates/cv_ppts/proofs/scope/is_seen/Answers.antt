use Rattle.std.proofs.Common.{sym, ◌∙◌, ◌<◌, length, arith}
use Rattle.cv_ppts.specs.Keys.{keys, setting}
use Rattle.cv_ppts.proofs.Keyed.{is_seen_there, not_seen_yet}
use Rattle.cv_ppts.proofs.scope.is_seen.Goals as goal

pub returns-then-is_number : goal.returns-then-is_number
returns-then-is_number c =
    is_seen_there (keys (setting c.args.s.now) c.args.which) c.loop-earlier.earlier c.args.place c.args.number c.loop-earlier-test.true c.requires (sym c.key_at.ensures ∙ c.if-is_number.ensures)

pub loop-earlier-preserved : goal.loop-earlier-preserved
loop-earlier-preserved c =
    let h : c.loop-earlier.earlier < length (keys (setting c.args.s.now) c.args.which) = omega (arith, c.loop-earlier-test.true, c.requires) in
    not_seen_yet (keys (setting c.args.s.now) c.args.which) c.loop-earlier.earlier c.args.number h c.loop-earlier.invariant (λ e. c.if-is_number.ensures (c.key_at.ensures ∙ e))
