-- What the first token of the lexer of CoreC and C is to the grammar, and how many bytes it has there. The lexer may be given the front
-- of the text alone; what is asked for behind its token tells where that was cut.
use Rattle.std.specs.Prelude.{ℕ, ◌+◌, if◌then◌else◌, List, codes, take, drop, length, take_while, Option, Some, None, Result, Ok, Err}
use Rattle.cv_core.specs.Grammar.{is_digit}
use Rattle.cv_lex.specs.Tokens.{Piece}
use Rattle.cv_lex.specs.declared.token.LexFault.{LexFault}
use Rattle.cv_lex.specs.declared.token.LexRule.{LexRule}
use Rattle.cv_lex.specs.declared.token.LexRule.TheVariants as rule
use Rattle.cv_lex.specs.declared.token.TokenKind.{TokenKind}
use Rattle.cv_lex.specs.declared.token.TokenKind.TheVariants as kind
use Rattle.cv_text.specs.Tokens.{Lexeme, begins, digits, is_name_byte, key_of, name_or, other, run, sign_at, sign_or}

-- a name or a word, of which the lexer found so many bytes
abbrev pub word_lexed : List ℕ → ℕ → Lexeme × ℕ
word_lexed text found = of_length (found + run is_name_byte (drop found text))
  where
    of_length : ℕ → Lexeme × ℕ
    of_length n = (name_or (take n text) (key_of (take n text)), n)

-- digits of whatever value; what begins with `0x` is none of the grammar
abbrev pub number_lexed : List ℕ → Lexeme × ℕ
number_lexed text = if begins text (codes "0x") then (other, 1) else (digits (take_while is_digit text), run is_digit text)

-- the first sign of the grammar in one of the lexer: `--`, `+=`, `-=`, `&&` and `||` are two, and `++` is none
abbrev pub sign_lexed : List ℕ → Lexeme × ℕ
sign_lexed sign = if begins sign (codes "++") then (other, 1) else sign_or (sign_at sign)

-- a token of the lexer with which the text begins
abbrev pub token_lexed : List ℕ → TokenKind → List ℕ → Lexeme × ℕ
token_lexed text kind.Word found = word_lexed text (length found)
token_lexed text kind.Number found = number_lexed text
token_lexed text kind.Sign found = sign_lexed found
token_lexed text kind.Text found = (other, 1)
token_lexed text kind.Character found = (other, 1)
token_lexed text kind.Comment found = (other, 1)
token_lexed text kind.HashLine found = (other, 1)

-- where the lexer gives none
abbrev pub fault_lexed : List ℕ → LexRule → Lexeme × ℕ
fault_lexed text rule.WideNumber = number_lexed text
fault_lexed text rule.BadByte = (other, 1)
fault_lexed text rule.OpenComment = (other, 1)
fault_lexed text rule.OpenText = (other, 1)

abbrev pub lexed : List ℕ → Result (Option Piece) LexFault → Lexeme × ℕ
lexed text (Ok None) = (other, 1)
lexed text (Ok (Some p)) = token_lexed text p.kind p.text
lexed text (Err f) = fault_lexed text f.rule
