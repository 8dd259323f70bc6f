use Rattle.cv_text.specs.Grammar.{variables_of}
use Rattle.cv_text.specs.Known.{entry}
use Rattle.cv_text.proofs.Knowing.{knows_all}
use Rattle.cv_text.proofs.names.Scope.of.Goals as goal

pub returns : goal.returns
returns c = knows_all c.declare_locals.new.self c.args.formals.now (variables_of c.args.locals.now) (entry c.new-scope.result) (entry c.declare_formals.new.self) c.new-scope.ensures c.in_ok-declare_formals.ensures c.in_ok-declare_locals.ensures
