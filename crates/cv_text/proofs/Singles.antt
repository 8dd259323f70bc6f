-- What single tokens and numbers are read from.
use Rattle.std.proofs.Common.{◌≡◌, ℕ, ◌+◌, ◌<◌, ◌≤◌, ◌^◌, Bool, true, false, ltb, leb, ◌&&◌, List, [], ◌∷◌, Option, Some, ℤ, pos, neg_ℤ, refl, sym, ap, subst, ◌∙◌, arith, inl, inr}
use Rattle.std.proofs.lemmas.Bool.{ltb-true, lt-ltb, leb-true, le-leb}
use Rattle.std.proofs.lemmas.Slice.Eq.{bytes_eq-Decides}
use Rattle.std.specs.Str.{bytes_eq}
use Rattle.std.specs.List.{find}
use Rattle.cv_core.specs.Both.{both_true}
use Rattle.cv_reading.specs.Phrase.{one, ◌⋅◌}
use Rattle.cv_reading.specs.Reading.{passed}
use Rattle.cv_reading.proofs.Laws.{Reads, Only, Made, Or, BeginsElsewhere, reads_token, reads_exactly, reads_as, reads_made, reads_on}
use Rattle.cv_text.specs.declared.token.Key.{Key}
use Rattle.cv_text.specs.declared.token.Key.TheVariants as key
use Rattle.cv_text.specs.declared.token.Sign.{Sign}
use Rattle.cv_text.specs.declared.token.Sign.TheVariants as sign
use Rattle.cv_text.specs.Spelling.{key_text, sign_text, signs}
use Rattle.cv_text.specs.Tokens.{Lexeme, name, word, digits, mark, other, Line, value_of, key_of}
use Rattle.cv_text.specs.Grammar.{Name, DigitsWithin, Count, Size, Number}
use Rattle.cv_text.specs.Reader.{is_name_token, is_word, is_mark, the_name, the_word, the_mark, named, a_name, kept, within, digits_within, count, size, number, semicolon}

-- ---- words and signs are told apart by their bytes

pub same_bytes : (x : List ℕ) → bytes_eq x x ≡ true
same_bytes x = (bytes_eq-Decides x x).1 refl

pub bytes_same : (x y : List ℕ) → bytes_eq x y ≡ true → x ≡ y
bytes_same x y h = (bytes_eq-Decides x y).0 h

key_back : (k : Key) → key_of (key_text k) ≡ Some k
key_back key.Global = refl
key_back key.Buf = refl
key_back key.Ptr = refl
key_back key.Int = refl
key_back key.Literal = refl
key_back key.Proc = refl
key_back key.Void = refl
key_back key.Char = refl
key_back key.Extern = refl
key_back key.Pptr = refl
key_back key.Iptr = refl
key_back key.Pcell = refl
key_back key.Icell = refl
key_back key.Load = refl
key_back key.Store = refl
key_back key.Get = refl
key_back key.Put = refl
key_back key.Diff = refl
key_back key.Goto = refl
key_back key.If = refl
key_back key.Call = refl
key_back key.Return = refl
key_back key.Null = refl
key_back key.Result = refl

same_key : (k l : Key) → key_text k ≡ key_text l → k ≡ l
same_key k l h = let e : Some k ≡ Some l = sym (key_back k) ∙ ap key_of h ∙ key_back l in cc

abbrev sign_of : List ℕ → Option Sign
sign_of text = find (λ s. bytes_eq text (sign_text s)) signs

sign_back : (s : Sign) → sign_of (sign_text s) ≡ Some s
sign_back sign.Equal = refl
sign_back sign.NotEqual = refl
sign_back sign.AtMost = refl
sign_back sign.AtLeast = refl
sign_back sign.Assign = refl
sign_back sign.Less = refl
sign_back sign.Greater = refl
sign_back sign.Plus = refl
sign_back sign.Minus = refl
sign_back sign.Star = refl
sign_back sign.Slash = refl
sign_back sign.Percent = refl
sign_back sign.And = refl
sign_back sign.Bar = refl
sign_back sign.Comma = refl
sign_back sign.Semicolon = refl
sign_back sign.Colon = refl
sign_back sign.Open = refl
sign_back sign.Close = refl
sign_back sign.OpenBrace = refl
sign_back sign.CloseBrace = refl

same_sign : (s t : Sign) → sign_text s ≡ sign_text t → s ≡ t
same_sign s t h = let e : Some s ≡ Some t = sym (sign_back s) ∙ ap sign_of h ∙ sign_back t in cc

-- ---- the one token

pub only_name : (x : List ℕ) (t : Lexeme) → is_name_token x t ≡ true → t ≡ name x
only_name x (name y) h = ap name (bytes_same y x h)
only_name x (word k) h = absurd cc
only_name x (digits ds) h = absurd cc
only_name x (mark s) h = absurd cc
only_name x other h = absurd cc

pub only_word : (k : Key) (t : Lexeme) → is_word k t ≡ true → t ≡ word k
only_word k (word l) h = ap word (same_key l k (bytes_same (key_text l) (key_text k) h))
only_word k (name y) h = absurd cc
only_word k (digits ds) h = absurd cc
only_word k (mark s) h = absurd cc
only_word k other h = absurd cc

pub only_mark : (s : Sign) (t : Lexeme) → is_mark s t ≡ true → t ≡ mark s
only_mark s (mark t) h = ap mark (same_sign t s (bytes_same (sign_text t) (sign_text s) h))
only_mark s (name y) h = absurd cc
only_mark s (digits ds) h = absurd cc
only_mark s (word k) h = absurd cc
only_mark s other h = absurd cc

pub reads_the_name : (x : List ℕ) → Reads (the_name x) (Only (name x))
unfolding the_name
reads_the_name x = reads_exactly (is_name_token x) (name x) (same_bytes x) (only_name x)

pub reads_the_word : (k : Key) → Reads (the_word k) (Only (word k))
unfolding the_word
reads_the_word k = reads_exactly (is_word k) (word k) (same_bytes (key_text k)) (only_word k)

pub reads_the_mark : (s : Sign) → Reads (the_mark s) (Only (mark s))
unfolding the_mark
reads_the_mark s = reads_exactly (is_mark s) (mark s) (same_bytes (sign_text s)) (only_mark s)

pub reads_semicolon : Reads semicolon (Only (mark sign.Semicolon))
unfolding semicolon
reads_semicolon = reads_the_mark sign.Semicolon

pub named_is : (t : Lexeme) (x : List ℕ) → named t ≡ Some x → t ≡ name x
named_is (name y) x h = ap name (let k : y ≡ x = cc in k)
named_is (word k) x h = absurd cc
named_is (digits ds) x h = absurd cc
named_is (mark s) x h = absurd cc
named_is other x h = absurd cc

pub reads_a_name : Reads a_name Name
unfolding a_name
reads_a_name = reads_as (reads_token named (name []) [] refl) (λ x text k. k.2 ∙ ap (λ (u : Lexeme). u ∷ []) (named_is k.0 x k.1)) (λ x text k. (name x, refl, k))

-- ---- digits

kept_is : (b : Bool) (v n : ℕ) → kept b v ≡ Some n → (b ≡ true) × (v ≡ n)
kept_is true v n h = (refl, cc)
kept_is false v n h = absurd cc

pub within_is : (low high : ℕ) (t : Lexeme) (n : ℕ) (text : Line) → within low high t ≡ Some n → one t text → DigitsWithin low high n text
within_is low high (digits ds) n text h is =
    let k = kept_is (leb low (value_of ds) && ltb (value_of ds) high) (value_of ds) n h in
    let b = both_true (leb low (value_of ds)) (ltb (value_of ds) high) k.0 in
    (subst (λ (i : ℕ). low ≤ i) k.1 (leb-true low (value_of ds) b.0), subst (λ (i : ℕ). i < high) k.1 (ltb-true (value_of ds) high b.1), (ds, k.1, is))
within_is low high (name y) n text h is = absurd cc
within_is low high (word k) n text h is = absurd cc
within_is low high (mark s) n text h is = absurd cc
within_is low high other n text h is = absurd cc

pub within_back : (low high n : ℕ) (ds : List ℕ) → value_of ds ≡ n → low ≤ n → n < high → within low high (digits ds) ≡ Some n
within_back low high n ds e h k = ap (λ (i : ℕ). kept (leb low i && ltb i high) i) e ∙ rw (le-leb low n h, lt-ltb n high k) refl

pub reads_digits : (low high : ℕ) (ds : List ℕ) → low ≤ value_of ds → value_of ds < high → Reads (digits_within low high) (DigitsWithin low high)
unfolding digits_within
reads_digits low high ds h k = reads_as (reads_token (within low high) (digits ds) (value_of ds) (within_back low high (value_of ds) ds refl h k))
    (λ n text t. within_is low high t.0 n text t.1 t.2)
    (λ n text d. (digits d.2.0, within_back low high n d.2.0 d.2.1 d.0 d.1, d.2.2))

pub reads_count : Reads count Count
unfolding count
reads_count = reads_digits 0 (2 ^ 31) (48 ∷ []) (omega arith) (omega arith)

pub reads_size : Reads size Size
unfolding size
reads_size = reads_digits 1 (2 ^ 31) (49 ∷ []) (omega arith) (omega arith)

-- ---- numbers

abbrev negative : ℕ → ℤ
negative n = neg_ℤ (pos n)

abbrev positive : ℕ → ℤ
positive n = pos n

abbrev Unsigned : ℤ → Line → Type 0
Unsigned = Made positive (DigitsWithin 0 (2 ^ 31))

abbrev Negative : ℤ → Line → Type 0
Negative = Made negative (DigitsWithin 0 (2 ^ 31 + 1))

no_minus : BeginsElsewhere (λ t. passed (is_mark sign.Minus t)) Unsigned
no_minus z text (n, e, (low, high, (ds, v, is))) = (digits ds, [], is, refl)

number_is : (z : ℤ) (text : Line) → Or (λ y. one (mark sign.Minus) ⋅ Negative y) Unsigned z text → Number z text
number_is z text (inl (front, rest, h, (n, e, d), parts)) = inr (n, e, (front, rest, h, d, parts))
number_is z text (inr (n, e, d)) = inl (n, e, d)

number_back : (z : ℤ) (text : Line) → Number z text → Or (λ y. one (mark sign.Minus) ⋅ Negative y) Unsigned z text
number_back z text (inl (n, e, d)) = inr (n, e, d)
number_back z text (inr (n, e, (front, rest, h, d, parts))) = inl (front, rest, h, (n, e, d), parts)

pub reads_number : Reads number Number
unfolding number
reads_number = reads_as (reads_on (is_mark sign.Minus) (mark sign.Minus) refl (only_mark sign.Minus)
    (reads_made negative (reads_digits 0 (2 ^ 31 + 1) (48 ∷ []) (omega arith) (omega arith)))
    (reads_made positive (reads_digits 0 (2 ^ 31) (48 ∷ []) (omega arith) (omega arith))) no_minus) number_is number_back
