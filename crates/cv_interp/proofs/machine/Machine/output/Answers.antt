use Rattle.std.proofs.Common.{ap, ◌∙◌}
use Rattle.cv_interp.specs.Level.{Stack}
use Rattle.cv_interp.specs.Machine.{end}
use Rattle.cv_interp.specs.Stack.{stack_of}
use Rattle.cv_interp.proofs.Running.{output_now}
use Rattle.cv_interp.proofs.machine.Machine.output.Goals as goal

pub returns : goal.returns
returns c = c.as_slice.ensures.value ∙ (output_now (stack_of c.self.inside.core) ∙ ap (λ (m : Stack). (end m 0).output) c.self.view_is)
