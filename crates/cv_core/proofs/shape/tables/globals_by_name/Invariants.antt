use Rattle.std.proofs.Common.{◌≡◌, ◌≤◌, length, drop}
use Rattle.std.specs.List.{find}
use Rattle.std.specs.Option.{option_map}
use Rattle.std.specs.Str.{bytes_eq}
use Rattle.cv_core.specs.Meant.{meant_by_global}
use Rattle.cv_core.specs.Names.{Name}
use Rattle.cv_core.specs.Tables.{at_name}
use Rattle.cv_core.proofs.shape.tables.globals_by_name.Given as goal

abbrev pub invariant-loop-at : goal.invariant-loop-at
invariant-loop-at l = record { within : l.at ≤ length l.globals; found : (x : Name) → at_name l.map x ≡ option_map (λ g. meant_by_global g.body) (find (λ g. bytes_eq g.name x) (drop l.at l.globals)) }

abbrev pub decreases-loop-at : goal.decreases-loop-at
decreases-loop-at l = l.at
