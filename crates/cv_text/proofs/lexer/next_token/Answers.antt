use Rattle.std.proofs.Common.{ℕ, ap, ◌∙◌, arith}
use Rattle.cv_text.specs.Tokens.{Lexeme, is_blank, run}
use Rattle.cv_text.proofs.Lexing.{at_end, stands, none_next, some_next}
use Rattle.cv_text.proofs.Lexed.{first_no_blank}
use Rattle.cv_text.proofs.lexer.next_token.Goals as goal

pub returns-then-text-at-clause-token : goal.returns-then-text-at-clause-token
returns-then-text-at-clause-token c = at_end c.args.text.now c.args.at (omega arith)

pub returns-in-empty-clause-token : goal.returns-in-empty-clause-token
returns-in-empty-clause-token c = none_next c.args.text.now c.rest_of-rest.result.now c.args.at c.blanks_in_front.result (c.blanks_in_front.ensures ∙ ap (run is_blank) c.rest_of.ensures) c.rest_of-rest.ensures (omega arith)

pub returns-in-empty-clause-place : goal.returns-in-empty-clause-place
returns-in-empty-clause-place c = stands c.args.text.now c.args.at c.blanks_in_front.result (omega arith) (c.blanks_in_front.ensures ∙ ap (run is_blank) c.rest_of.ensures)

pub front-len-requires-clause-no_blank : goal.front-len-requires-clause-no_blank
front-len-requires-clause-no_blank c =
    first_no_blank c.args.text.now c.rest_of-rest.result.now c.args.at c.blanks_in_front.result (omega arith) (c.blanks_in_front.ensures ∙ ap (run is_blank) c.rest_of.ensures) c.rest_of-rest.ensures

pub returns-in-len1-up-clause-token : goal.returns-in-len1-up-clause-token
returns-in-len1-up-clause-token c =
    some_next c.args.text.now c.rest_of-rest.result.now c.args.at c.blanks_in_front.result c.front-len.result.1 _ (c.blanks_in_front.ensures ∙ ap (run is_blank) c.rest_of.ensures) c.rest_of-rest.ensures (omega arith)
    (ap (λ (v : Lexeme × ℕ). v.0) c.front-len.ensures.token) (ap (λ (v : Lexeme × ℕ). v.1) c.front-len.ensures.token)

pub returns-in-len1-up-clause-place : goal.returns-in-len1-up-clause-place
returns-in-len1-up-clause-place c = stands c.args.text.now c.args.at c.blanks_in_front.result (omega arith) (c.blanks_in_front.ensures ∙ ap (run is_blank) c.rest_of.ensures)
