-- Reading single tokens, numbers and operands.
use Rattle.std.specs.Prelude.{ℕ, ◌+◌, ◌^◌, Bool, false, if◌then◌else◌, ◌&&◌, nat_lt, nat_le, List, Option, Some, None, ℤ, pos, neg_ℤ}
use Rattle.std.specs.Str.{bytes_eq}
use Rattle.cv_reading.specs.Reading.{Reading, token, exactly, made, on}
use Rattle.cv_text.specs.declared.token.Key.{Key}
use Rattle.cv_text.specs.declared.token.Sign.{Sign}
use Rattle.cv_text.specs.declared.token.Sign.TheVariants as sign
use Rattle.cv_text.specs.Spelling.{key_text, sign_text}
use Rattle.cv_text.specs.Tokens.{Lexeme, name, word, digits, mark, value_of}

-- ---- which token it is

abbrev pub is_name_token : List ℕ → Lexeme → Bool
is_name_token x (name y) = bytes_eq y x
is_name_token x t = false

abbrev pub is_word : Key → Lexeme → Bool
is_word k (word l) = bytes_eq (key_text l) (key_text k)
is_word k t = false

abbrev pub is_mark : Sign → Lexeme → Bool
is_mark s (mark t) = bytes_eq (sign_text t) (sign_text s)
is_mark s t = false

unfoldable pub the_name : List ℕ → Reading Lexeme (Unit {0})
the_name x = exactly (is_name_token x)

unfoldable pub the_word : Key → Reading Lexeme (Unit {0})
the_word k = exactly (is_word k)

unfoldable pub the_mark : Sign → Reading Lexeme (Unit {0})
the_mark s = exactly (is_mark s)

-- ---- names and digits

abbrev pub named : Lexeme → Option (List ℕ)
named (name x) = Some x
named t = None

unfoldable pub a_name : Reading Lexeme (List ℕ)
a_name = token named

abbrev pub kept : Bool → ℕ → Option ℕ
kept b n = if b then Some n else None

abbrev pub within : ℕ → ℕ → Lexeme → Option ℕ
within low high (digits ds) = kept (nat_le low (value_of ds) && nat_lt (value_of ds) high) (value_of ds)
within low high t = None

unfoldable pub digits_within : ℕ → ℕ → Reading Lexeme ℕ
digits_within low high = token (within low high)

-- a number of a line or a jump
unfoldable pub count : Reading Lexeme ℕ
count = digits_within 0 (2 ^ 31)

unfoldable pub size : Reading Lexeme ℕ
size = digits_within 1 (2 ^ 31)

-- a number within the range of an int
unfoldable pub number : Reading Lexeme ℤ
number = on (is_mark sign.Minus) (made (λ n. neg_ℤ (pos n)) (digits_within 0 (2 ^ 31 + 1))) (made (λ n. pos n) (digits_within 0 (2 ^ 31)))

unfoldable pub semicolon : Reading Lexeme (Unit {0})
semicolon = the_mark sign.Semicolon
