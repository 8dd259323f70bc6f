use Rattle.cv_lex.specs.Given.{seen as given}
use Rattle.cv_text.proofs.Lexed.{found_is, found_within}
use Rattle.cv_text.proofs.lexer.front.Goals as goal

pub lexed_in_front-requires-clause-part : goal.lexed_in_front-requires-clause-part
lexed_in_front-requires-clause-part c = found_within c.args.text.now c.lexed_part.result.now c.new-lexer.result c.next-found.result _ c.lexed_part.ensures.within c.new-lexer.ensures c.next-found.ensures.order

pub returns-clause-token : goal.returns-clause-token
returns-clause-token c =
    found_is c.args.text.now c.lexed_part.result.now c.new-lexer.result (given c.next-found.result) _ c.requires.some c.requires.no_blank c.lexed_part.ensures.part c.new-lexer.ensures c.next-found.ensures.answer c.lexed_in_front.ensures.token
