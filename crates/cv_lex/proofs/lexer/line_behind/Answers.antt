use Rattle.cv_lex.proofs.Scanning.{line_on}
use Rattle.cv_lex.proofs.lexer.line_behind.Goals as goal

pub returns : goal.returns
returns c = line_on c.args.source.now c.args.from c.args.at c.args.line c.newlines.result c.requires.order c.requires.line c.newlines.ensures.count
