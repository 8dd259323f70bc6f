use Rattle.std.proofs.Common.{Some}
use Rattle.std.proofs.lemmas.Map.Text.{hash_map_updates_str}
use Rattle.cv_core.proofs.shape.tables.put.Goals as goal

pub returns : goal.returns
returns g c x = hash_map_updates_str c.args.name.now c.args.map.now c.insert.new.self (Some c.args.value) c.in_ok-insert.ensures.updates x
