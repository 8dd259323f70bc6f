-- The tokens of a text from a place on, up to its end or to the first place at which none can be read.
use Rattle.std.specs.Prelude.{ℕ, zero, suc, ◌+◌, ◌-◌, Bool, ◌||◌, if◌then◌else◌, nat_eq, List, [], ◌∷◌, drop, take, Option, Some, None, Result, Ok, Err}
use Rattle.std.specs.List.{count_by}
use Rattle.cv_lex.specs.Bytes.{is_newline, is_blank, byte_at}
use Rattle.cv_lex.specs.Parts.{begun}
use Rattle.cv_lex.specs.declared.begin.Front.{Front}
use Rattle.cv_lex.specs.declared.begin.Front.TheVariants as front
use Rattle.cv_lex.specs.declared.token.LexFault.{LexFault}
use Rattle.cv_lex.specs.declared.token.TokenKind.{TokenKind}

-- a text, and the place up to which its tokens are taken
pub record Cursor : Type 0 where
  pub source : List ℕ
  pub at : ℕ

-- a token: its bytes, the place of the first of them from 0, and the line of that from 1
pub record Piece : Type 0 where
  pub kind : TokenKind
  pub text : List ℕ
  pub at : ℕ
  pub line : ℕ

-- tokens in order, and the fault behind them where they don't reach the end
pub record Tokens : Type 0 where
  pub pieces : List Piece
  pub fault : Option LexFault

-- ---- places

-- one more than the newlines before the place
abbrev pub line_at : List ℕ → ℕ → ℕ
line_at source at = 1 + count_by is_newline (take at source)

abbrev pub starts_line : List ℕ → ℕ → Bool
starts_line source at = nat_eq at 0 || is_newline (byte_at source (at - 1))

-- what begins at a place before the end
abbrev pub begun_at : List ℕ → ℕ → Front
begun_at source at = begun (starts_line source at) (byte_at source at) (drop at source)

-- ---- all tokens

-- what begins with `rest`, which stands at the place, and `behind` a token of so many bytes
abbrev pub first_of : List ℕ → ℕ → List ℕ → Front → (ℕ → Tokens) → Tokens
first_of source at rest (front.Part k n) behind =
    record { pieces = record { kind = k; text = take n rest; at = at; line = line_at source at } ∷ (behind n).pieces; fault = (behind n).fault }
first_of source at rest (front.Broken r) behind = record { pieces = []; fault = Some (record { rule = r; at = at }) }

-- Byte by byte: one that belongs to the token before is passed, a blank begins nothing, and each other byte begins a token.
-- The last argument is the text from the place on, whose first `passed` bytes belong to the token before.
unfoldable pub tokens_behind : List ℕ → ℕ → ℕ → List ℕ → Tokens
tokens_behind source passed at [] = record { pieces = []; fault = None }
tokens_behind source (suc passed) at (c ∷ cs) = tokens_behind source passed (suc at) cs
tokens_behind source zero at (c ∷ cs) = if is_blank c then tokens_behind source 0 (suc at) cs
    else first_of source at (c ∷ cs) (begun (starts_line source at) c (c ∷ cs)) (λ n. tokens_behind source (n - 1) (suc at) cs)

abbrev pub tokens_from : Cursor → Tokens
tokens_from cursor = tokens_behind cursor.source 0 cursor.at (drop cursor.at cursor.source)

abbrev pub tokens_of : List ℕ → Tokens
tokens_of source = tokens_from (record { source = source; at = 0 })

-- ---- one token after the other

-- the first token; None where there is none, and the fault where it comes first
abbrev pub first_answer : Tokens → Result (Option Piece) LexFault
first_answer t = by_pieces t.pieces
  where
    by_fault : Option LexFault → Result (Option Piece) LexFault
    by_fault None = Ok None
    by_fault (Some f) = Err f

    by_pieces : List Piece → Result (Option Piece) LexFault
    by_pieces [] = by_fault t.fault
    by_pieces (p ∷ ps) = Ok (Some p)

-- what is left when the first token is taken; the fault stays
abbrev pub without_first : Tokens → Tokens
without_first t = record { pieces = drop 1 t.pieces; fault = t.fault }
