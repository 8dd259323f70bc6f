-- Names as keys of a map that hashes.
use Rattle.std.specs.Prelude.{Option}
use Rattle.std.specs.Borrow.{Bor}
use Rattle.std.specs.HashMap.{HashMap, get_by}
use Rattle.std.specs.Str.{bytes_eq}
use Rattle.cv_core.specs.Names.{Name}

-- what a map has at a name
abbrev pub at_name : {V S : Type 0} → HashMap (Bor Name) V S → Name → Option V
at_name m x = get_by (λ k. bytes_eq x k.now) m
