use Rattle.std.proofs.Common.{◌≡◌, ◌++◌, drop, codes}
use Rattle.std.specs.List.{flat_map}
use Rattle.cv_text.specs.Printed as spec
use Rattle.cv_text.proofs.print.push_procs.Given as goal

abbrev pub invariant-loop-f : goal.invariant-loop-f
invariant-loop-f l = l.out.items ++ flat_map (spec.proc_text) (drop l.f-index l.procs) ≡ l.fn.out.items ++ flat_map (spec.proc_text) l.fn.procs
