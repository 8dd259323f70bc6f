-- A memory at the start, with the number of its objects.
use Rattle.std.specs.Prelude.{◌≡◌, ◌≤◌, ◌^◌, length}
use Rattle.cv_interp.specs.declared.begin.Made.{Made}

pub record IsMade (m : Made) : Type 0 where
  pub count : m.count ≡ length m.memory
  pub few : m.count ≤ 2 ^ 62
