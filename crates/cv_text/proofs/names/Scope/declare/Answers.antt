use Rattle.std.proofs.Common.{sym, ◌∙◌}
use Rattle.std.proofs.lemmas.Map.Text.{hash_map_updates_str}
use Rattle.cv_text.specs.Known.{entry}
use Rattle.cv_text.proofs.Knowing.{declares}
use Rattle.cv_text.proofs.names.Scope.declare.Goals as goal

pub returns : goal.returns
returns c = declares (entry c.args.self.now) (entry (record { pointers = c.insert.new.self })) c.args.name.now c.args.kind c.is_pointer_kind.result c.is_pointer_kind.ensures (sym c.contains_key.ensures ∙ c.if-contains_key.false) (hash_map_updates_str c.args.name.now c.args.self.now.pointers c.insert.new.self _ c.in_ok-insert.ensures.updates)
