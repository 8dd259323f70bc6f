use Rattle.std.proofs.Common.{ap, sym, arith}
use Rattle.cv_lex.specs.Given.{piece_of}
use Rattle.cv_lex.specs.Tokens.{Piece, first_answer}
use Rattle.cv_lex.proofs.Scanning.{none_left, fault_due, answer_due, rest_due}
use Rattle.cv_lex.proofs.lexer.token_from.Goals as goal

pub returns-then-source-at-clause-answer : goal.returns-then-source-at-clause-answer
returns-then-source-at-clause-answer c = sym (ap first_answer (none_left c.args.source.now c.args.from c.past_blanks-at.result c.past_blanks-at.ensures.place (omega arith)))

pub returns-in-Broken-clause-answer : goal.returns-in-Broken-clause-answer
returns-in-Broken-clause-answer c =
    sym (ap first_answer (fault_due c.args.source.now c.args.from c.past_blanks-at.result c.in-Broken.rule (record { place_is = c.past_blanks-at.ensures.place; before_end = omega arith }) (sym c.in-Broken.ensures.front)))

pub returns-in-Part-clause-answer : goal.returns-in-Part-clause-answer
returns-in-Part-clause-answer c =
    answer_due c.args.source.now c.args.from c.past_blanks-at.result c.in-Part.kind c.in-Part.len c.line_behind-line.result (piece_of c.token_at.result) (record { place_is = c.past_blanks-at.ensures.place; before_end = omega arith })
    (c.in-Part.ensures.within.0) (sym c.in-Part.ensures.front) c.token_at.ensures c.line_behind-line.ensures

pub returns-in-Part-clause-rest : goal.returns-in-Part-clause-rest
returns-in-Part-clause-rest c =
    rest_due c.args.source.now c.args.from c.past_blanks-at.result c.in-Part.kind c.in-Part.len (piece_of c.token_at.result) (record { place_is = c.past_blanks-at.ensures.place; before_end = omega arith })
    (c.in-Part.ensures.within.0) (c.in-Part.ensures.within.1) (sym c.in-Part.ensures.front) (ap (λ (p : Piece). p.text) c.token_at.ensures) (ap (λ (p : Piece). p.at) c.token_at.ensures)
