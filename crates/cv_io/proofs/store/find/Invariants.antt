use Rattle.std.proofs.Common.{◌≡◌, drop}
use Rattle.cv_io.specs.Memory.{files_of, file_of}
use Rattle.cv_io.proofs.store.find.Given as goal

abbrev pub invariant-loop-other : goal.invariant-loop-other
invariant-loop-other l = file_of (files_of (drop l.other-index l.files)) l.name ≡ file_of (files_of l.files) l.name
