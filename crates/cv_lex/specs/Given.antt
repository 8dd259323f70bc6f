-- What the lexer gives.
use Rattle.std.specs.Prelude.{◌≡◌, ℕ, ◌+◌, List, take, drop, length, Option, Some, None, Result, Ok, Err}
use Rattle.cv_lex.specs.Tokens.{Piece}
use Rattle.cv_lex.specs.declared.token.Token.{Token}
use Rattle.cv_lex.specs.declared.token.LexFault.{LexFault}

abbrev pub piece_of : Token → Piece
piece_of t = record { kind = t.kind; text = t.text.now; at = t.at; line = t.line }

abbrev pub seen : Result (Option Token) LexFault → Result (Option Piece) LexFault
seen (Ok None) = Ok None
seen (Ok (Some t)) = Ok (Some (piece_of t))
seen (Err f) = Err f

-- what holds of a token that is given, if one is
abbrev pub OnToken : Result (Option Token) LexFault → (Token → Type 0) → Type 0
OnToken (Ok None) P = Unit {0}
OnToken (Ok (Some t)) P = P t
OnToken (Err f) P = Unit {0}

-- what holds where none is given
abbrev pub OnNone : Result (Option Token) LexFault → Type 0 → Type 0
OnNone (Ok None) P = P
OnNone (Ok (Some t)) P = Unit {0}
OnNone (Err f) P = P

-- the token is the slice of the text at its place
abbrev pub IsSlice : List ℕ → Token → Type 0
IsSlice source t = t.text.now ≡ take (length t.text.now) (drop t.at source)

abbrev pub end_of : Token → ℕ
end_of t = t.at + length t.text.now
