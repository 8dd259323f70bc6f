-- The tokens of a text: at each place the longest one is taken.
use Rattle.std.specs.Prelude.{ℕ, zero, suc, ◌+◌, ◌-◌, ◌*◌, Bool, ◌||◌, if◌then◌else◌, nat_eq, List, [], ◌∷◌, drop, length, take_while, find, Option, Some, None}
use Rattle.std.specs.List.{list_any, starts_with}
use Rattle.std.specs.Str.{bytes_eq}
use Rattle.cv_core.specs.Grammar.{is_letter, is_digit}
use Rattle.cv_text.specs.Spelling.{key_text, keys, sign_text, signs, foreign}
use Rattle.cv_text.specs.declared.token.Key.{Key}
use Rattle.cv_text.specs.declared.token.Sign.{Sign}

-- A name, a word that is no name, digits as they stand, a sign, or what no text of the grammar has.
pub data Lexeme : Type 0 where
  name : List ℕ → Lexeme
  word : Key → Lexeme
  digits : List ℕ → Lexeme
  mark : Sign → Lexeme
  other : Lexeme

abbrev pub Line : Type 0
Line = List Lexeme

-- ---- runs of bytes

-- space, tab, newline, carriage return
abbrev pub is_blank : ℕ → Bool
is_blank c = nat_eq c 32 || nat_eq c 9 || nat_eq c 10 || nat_eq c 13

abbrev pub is_name_byte : ℕ → Bool
is_name_byte c = is_letter c || is_digit c

-- how many bytes pass the test before the first that fails it
abbrev pub run : (ℕ → Bool) → List ℕ → ℕ
run test text = length (take_while test text)

-- ---- one token

abbrev pub begins : List ℕ → List ℕ → Bool
begins text front = starts_with nat_eq text front

abbrev pub key_of : List ℕ → Option Key
key_of text = find (λ k. bytes_eq text (key_text k)) keys

abbrev pub sign_at : List ℕ → Option Sign
sign_at text = find (λ s. begins text (sign_text s)) signs

-- a name, where the bytes are none of the words
abbrev pub name_or : List ℕ → Option Key → Lexeme
name_or text None = name text
name_or text (Some k) = word k

abbrev pub sign_or : Option Sign → Lexeme × ℕ
sign_or None = (other, 1)
sign_or (Some s) = (mark s, length (sign_text s))

-- The token with which a text begins, c being the first byte, and how many bytes it has.
abbrev pub token_at : ℕ → List ℕ → Lexeme × ℕ
token_at c text = if list_any (begins text) foreign then (other, 1)
    else if is_letter c then (name_or (take_while is_name_byte text) (key_of (take_while is_name_byte text)), run is_name_byte text)
    else if is_digit c then (digits (take_while is_digit text), run is_digit text)
    else sign_or (sign_at text)

-- ---- all tokens

abbrev pub front_token : (List ℕ → Line) → List ℕ → Line
front_token others [] = []
front_token others (c ∷ cs) = (token_at c (c ∷ cs)).0 ∷ others (drop (token_at c (c ∷ cs)).1 (c ∷ cs))

abbrev pub past_blanks : List ℕ → List ℕ
past_blanks text = drop (run is_blank text) text

-- the first n tokens
abbrev pub first_tokens : ℕ → List ℕ → Line
first_tokens zero text = []
first_tokens (suc n) text = front_token (first_tokens n) (past_blanks text)

-- Each token has a byte, so that there are no more tokens than bytes.
unfoldable pub lexemes : List ℕ → Line
lexemes text = first_tokens (length text) text

-- ---- numbers

-- the value of digits behind n
abbrev pub value_behind : ℕ → List ℕ → ℕ
value_behind n [] = n
value_behind n (d ∷ ds) = value_behind (10 * n + (d - 48)) ds

abbrev pub value_of : List ℕ → ℕ
value_of ds = value_behind 0 ds
