use Rattle.std.proofs.Common.{◌≡◌, ◌++◌, drop}
use Rattle.std.specs.List.{flat_map}
use Rattle.cv_cert.specs.Writing.{step_text}
use Rattle.cv_cert.proofs.write.push_steps.Given as goal

abbrev pub invariant-loop-step : goal.invariant-loop-step
invariant-loop-step l = l.out.items ++ flat_map step_text (drop l.step-index l.steps) ≡ l.fn.out.items ++ flat_map step_text l.fn.steps
