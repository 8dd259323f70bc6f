-- Which bytes make up the tokens.
use Rattle.std.specs.Prelude.{ℕ, ◌+◌, ◌-◌, ◌*◌, Bool, ◌&&◌, ◌||◌, if◌then◌else◌, nat_eq, nat_le, List, [], ◌∷◌, codes, length, get_or, take_while}
use Rattle.std.specs.List.{list_any, starts_with}
use Rattle.cv_core.specs.Grammar.{is_letter, is_digit}

-- ---- single bytes

abbrev pub is_newline : ℕ → Bool
is_newline c = nat_eq c 10

-- space, tab, newline, carriage return: what separates tokens
abbrev pub is_blank : ℕ → Bool
is_blank c = nat_eq c 32 || nat_eq c 9 || nat_eq c 10 || nat_eq c 13

abbrev pub is_word_byte : ℕ → Bool
is_word_byte c = is_letter c || is_digit c

abbrev pub is_hex_digit : ℕ → Bool
is_hex_digit c = is_digit c || (nat_le 65 c && nat_le c 70) || (nat_le 97 c && nat_le c 102)

-- what may stand behind a backslash: n t r 0 \ ' "
abbrev pub is_escape : ℕ → Bool
is_escape c = list_any (nat_eq c) (codes "ntr0\\'\"")

-- ---- texts

-- how many bytes pass the test before the first that fails it
abbrev pub run : (ℕ → Bool) → List ℕ → ℕ
run test text = length (take_while test text)

abbrev pub begins : List ℕ → List ℕ → Bool
begins text front = starts_with nat_eq text front

-- the byte at a place, 0 behind the end
abbrev pub byte_at : List ℕ → ℕ → ℕ
byte_at text k = get_or text k 0

-- ---- numbers

-- what a digit or a hexadecimal digit is worth
abbrev pub digit_value : ℕ → ℕ
digit_value c = if is_digit c then c - 48 else if nat_le 97 c then c - 87 else c - 55

-- the value of digits behind n
abbrev pub value_behind : ℕ → ℕ → List ℕ → ℕ
value_behind base n [] = n
value_behind base n (d ∷ ds) = value_behind base (base * n + digit_value d) ds

abbrev pub value_of : ℕ → List ℕ → ℕ
value_of base ds = value_behind base 0 ds
