-- Whether a clause of a contract holds in what the code lends.
use Rattle.std.specs.Prelude.{Bool, map}
use Rattle.cv_core.specs.declared.program.Contract.{Contract}
use Rattle.cv_meaning.specs.declared.clauses.Part.{Part}
use Rattle.cv_meaning.specs.declared.clauses.Part.TheVariants.{Requires, Ensures}
use Rattle.cv_meaning.specs.declared.memory.View.{View}
use Rattle.cv_meaning.specs.declared.memory.NamedValue.{NamedValue}
use Rattle.cv_meaning.specs.Contract.{requires_hold, ensures_hold}
use Rattle.cv_meaning.specs.Seen.{scene}

-- the formals are those that the view names
abbrev pub part_holds : Part → Contract → View → Bool
part_holds Requires c v = requires_hold (scene v) (map (λ (n : NamedValue). n.name) v.formals.now) c
part_holds Ensures c v = ensures_hold (scene v) c
