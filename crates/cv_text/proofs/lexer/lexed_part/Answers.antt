use Rattle.cv_text.proofs.Lexed.{cut_is}
use Rattle.cv_text.proofs.lexer.lexed_part.Goals as goal

pub returns-clause-part : goal.returns-clause-part
returns-clause-part c = cut_is c.min.result c.args.text.now c.min.ensures
