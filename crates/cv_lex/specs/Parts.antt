-- Which token begins at a place: its kind and how many bytes it has, or the rule that is broken there. The longest is taken.
--
-- The signs are those of CoreC and of C together. CoreC lacks `++`, `--`, `+=`, `-=`, `&&` and `||`, and the single signs `!`, `[`, `]`.
-- A reader of CoreC takes `--`, `+=`, `-=`, `&&` and `||` for their two bytes, one sign each, and refuses `++` as a whole. That gives the
-- tokens of CoreC wherever a text of it can go on, since none has `=` behind a `+` or a `-`, nor two `&` or two `|` in a row; `x = y--5;`
-- is the one text of it with such a sign. It refuses a number that begins with `0x` and each comment, text, character and `#` line.
-- A reader of C refuses a word at its first `$` and a number with leading zeros.
use Rattle.std.specs.Prelude.{ℕ, suc, ◌+◌, ◌<◌, ◌≤◌, ◌^◌, Bool, true, false, not, ◌&&◌, ◌||◌, if◌then◌else◌, nat_eq, nat_lt, List, [], ◌∷◌, codes, drop, length, take_while, Option, Some, None}
use Rattle.std.specs.List.{list_any}
use Rattle.cv_core.specs.Grammar.{is_letter, is_digit}
use Rattle.cv_lex.specs.Bytes.{is_newline, is_word_byte, is_hex_digit, is_escape, run, begins, byte_at, value_of}
use Rattle.cv_lex.specs.declared.token.LexRule.{LexRule}
use Rattle.cv_lex.specs.declared.token.LexRule.TheVariants as rule
use Rattle.cv_lex.specs.declared.token.TokenKind.{TokenKind}
use Rattle.cv_lex.specs.declared.token.TokenKind.TheVariants as kind
use Rattle.cv_lex.specs.declared.begin.Front.{Front}
use Rattle.cv_lex.specs.declared.begin.Front.TheVariants as front

-- a token of this kind where there is a length, and else a fault
abbrev pub part_or : TokenKind → LexRule → Option ℕ → Front
part_or k r None = front.Broken r
part_or k r (Some n) = front.Part k n

-- ---- comments and `#` lines

-- the bytes up to before the newline, or up to the end
abbrev pub line_length : List ℕ → ℕ
line_length text = run (λ c. not (is_newline c)) text

-- a `*` before a `/`
unfoldable pub closes : ℕ → List ℕ → Bool
closes c [] = false
closes c (d ∷ ds) = nat_eq c 42 && nat_eq d 47

-- the place behind the first `*/` of a text whose first byte is at the place n
abbrev pub close_from : ℕ → List ℕ → Option ℕ
close_from n [] = None
close_from n (c ∷ cs) = if closes c cs then Some (n + 2) else close_from (suc n) cs

-- `/*/` isn't closed
abbrev pub comment : List ℕ → Front
comment text = part_or kind.Comment rule.OpenComment (close_from 2 (drop 2 text))

-- ---- texts and characters

-- the place behind the quote that closes a text, the byte at the place n being the next, and escaped where a backslash stands before it
abbrev pub quote_from : Bool → ℕ → List ℕ → Option ℕ
quote_from escaped n [] = None
quote_from true n (c ∷ cs) = if is_escape c then quote_from false (suc n) cs else None
quote_from false n (c ∷ cs) = if nat_eq c 34 then Some (suc n) else if is_newline c then None else quote_from (nat_eq c 92) (suc n) cs

abbrev pub quoted_text : List ℕ → Front
quoted_text text = part_or kind.Text rule.OpenText (quote_from false 1 (drop 1 text))

-- a byte that stands for itself in a character: no quote, backslash or newline
abbrev pub is_plain : ℕ → Bool
is_plain c = not (nat_eq c 39 || nat_eq c 92 || is_newline c)

abbrev pub character_length : List ℕ → Option ℕ
character_length text = if is_plain (byte_at text 1) && nat_eq (byte_at text 2) 39 then Some 3
    else if nat_eq (byte_at text 1) 92 && is_escape (byte_at text 2) && nat_eq (byte_at text 3) 39 then Some 4
    else None

abbrev pub character : List ℕ → Front
character text = part_or kind.Character rule.OpenText (character_length text)

-- ---- numbers

abbrev pub sized : ℕ → ℕ → Front
sized value n = if nat_lt (2 ^ 31) value then front.Broken rule.WideNumber else front.Part kind.Number n

abbrev pub is_hexadecimal : List ℕ → Bool
is_hexadecimal text = begins text (codes "0x") && is_hex_digit (byte_at text 2)

-- digits, or `0x` and hexadecimal digits; `0x` without one is the number 0, and a word comes after it
abbrev pub number : List ℕ → Front
number text = if is_hexadecimal text then sized (value_of 16 (take_while is_hex_digit (drop 2 text))) (2 + run is_hex_digit (drop 2 text))
    else sized (value_of 10 (take_while is_digit text)) (run is_digit text)

-- ---- signs

abbrev pub double_signs : List (List ℕ)
double_signs = codes "==" ∷ codes "!=" ∷ codes "<=" ∷ codes ">=" ∷ codes "&&" ∷ codes "||" ∷ codes "++" ∷ codes "--" ∷ codes "+=" ∷ codes "-=" ∷ []

abbrev pub single_signs : List ℕ
single_signs = codes "=<>+-*/%&|!,;:(){}[]"

abbrev pub is_single : ℕ → Bool
is_single c = list_any (nat_eq c) single_signs

abbrev pub sign : ℕ → List ℕ → Front
sign c text = if list_any (begins text) double_signs then front.Part kind.Sign 2
    else if is_single c then front.Part kind.Sign 1
    else front.Broken rule.BadByte

-- ---- what begins

-- a comment, a text, a character or a `#` line; c is the first byte of the text, and starts says whether it is the first of its line
abbrev pub marked : Bool → ℕ → List ℕ → Option Front
marked starts c text = if starts && nat_eq c 35 then Some (front.Part kind.HashLine (line_length text))
    else if begins text (codes "//") then Some (front.Part kind.Comment (line_length text))
    else if begins text (codes "/*") then Some (comment text)
    else if nat_eq c 34 then Some (quoted_text text)
    else if nat_eq c 39 then Some (character text)
    else None

-- a word, a number or a sign
abbrev pub plain : ℕ → List ℕ → Front
plain c text = if is_letter c then front.Part kind.Word (run is_word_byte text)
    else if is_digit c then number text
    else sign c text

abbrev pub begun : Bool → ℕ → List ℕ → Front
begun starts c text = or_plain (marked starts c text)
  where
    or_plain : Option Front → Front
    or_plain None = plain c text
    or_plain (Some f) = f

-- a token has a byte, and lies within the text
abbrev pub Fits : List ℕ → Front → Type 0
Fits text (front.Part k n) = (0 < n) × (n ≤ length text)
Fits text (front.Broken r) = Unit {0}
