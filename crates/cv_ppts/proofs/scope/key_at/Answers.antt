use Rattle.std.proofs.Common.{sym, ◌∙◌, ap, None, slice_index_or}
use Rattle.cv_ppts.specs.Entities.{global_number}
use Rattle.cv_ppts.specs.Keys.{keys, setting}
use Rattle.cv_ppts.proofs.Keyed.{index_map, index_map_past}
use Rattle.cv_ppts.proofs.scope.key_at.Goals as goal
use Rattle.std.specs.Option.{option_copied}

pub returns-in-None : goal.returns-in-None
returns-in-None c =
    sym (ap (λ w. slice_index_or (keys (setting c.args.s.now) w) c.args.place None) c.in-Listed.is
    ∙ index_map_past (global_number c.args.s.now.p.now) c.args.s.now.f.now.contract.listed c.args.place (sym c.get.ensures.value ∙ ap option_copied c.in-None.is))

pub returns-in-Some : goal.returns-in-Some
returns-in-Some c =
    c.global_number.ensures ∙ sym (ap (λ w. slice_index_or (keys (setting c.args.s.now) w) c.args.place None) c.in-Listed.is
    ∙ index_map (global_number c.args.s.now.p.now) c.args.s.now.f.now.contract.listed c.args.place c.in-Some.name.now (sym c.get.ensures.value ∙ ap option_copied c.in-Some.is))
