-- What operands, comparisons and arguments are read from.
use Rattle.std.proofs.Common.{◌≡◌, ℕ, ◌<◌, ◌^◌, Bool, true, false, List, [], ◌∷◌, ◌++◌, length, Option, Some, None, Result, Ok, Err, ℤ, pos, refl, sym, ap, subst, ◌∙◌, arith, inl, inr, ◌⊎◌}
use Rattle.std.proofs.lemmas.List.{append-nil}
use Rattle.cv_core.specs.declared.program.Operand.{Operand}
use Rattle.cv_core.specs.declared.program.Operand.TheVariants as operand
use Rattle.cv_core.specs.declared.program.AnyOperand.{AnyOperand}
use Rattle.cv_core.specs.declared.program.AnyOperand.TheVariants as any
use Rattle.cv_core.specs.declared.program.Rel.{Rel}
use Rattle.cv_core.specs.declared.program.Rel.TheVariants as rel
use Rattle.cv_reading.specs.Phrase.{one, nothing, ◌⋅◌, Separated}
use Rattle.cv_reading.specs.Reading.{Reading, passed, choose}
use Rattle.cv_reading.proofs.Laws.{Reads, Made, Only, Or, Then, Token, Either, BeginsElsewhere, reads_as, reads_made, reads_on, reads_token, reads_exactly, reads_both, reads_then, reads_ended, reads_choose, before_nothing, then_nothing}
use Rattle.cv_reading.proofs.Lists.{Given, reads_give, Next, Closed, Onto, reads_next_item, next_is_long, reads_items_onto, reads_closed_list, list_goes, list_ends, list_fails, list_shorter}
use Rattle.cv_text.specs.declared.token.Key.TheVariants as key
use Rattle.cv_text.specs.declared.token.Sign.{Sign}
use Rattle.cv_text.specs.declared.token.Sign.TheVariants as sign
use Rattle.cv_text.specs.declared.cursor.ReadError.{ReadError}
use Rattle.cv_text.specs.declared.cursor.ReadError.TheVariants as errors
use Rattle.cv_text.specs.Given.{Fails, from}
use Rattle.cv_text.specs.Tokens.{Lexeme, name, word, digits, mark, other, Line}
use Rattle.cv_text.specs.Grammar.{Name, Word, Mark, Count, Number, Divisor, DigitsWithin, Value, Any, Relation, Equality, Zero, Jump, end}
use Rattle.cv_text.specs.Reader.{is_word, is_mark, named}
use Rattle.cv_text.specs.StatementReader.{value, any_value, ended_value, ended_name, ended_divisor, relation_by, relation_of, relation, equality_by, equality_of, equality, is_zero, zero_digit, jump, may_be_null, compared_by, compared, next_argument, arguments_onto, arguments}
use Rattle.cv_text.proofs.Singles.{only_word, only_mark, same_bytes, bytes_same, named_is, reads_the_word, reads_the_mark, reads_semicolon, reads_a_name, reads_count, reads_number, reads_digits}

-- ---- by a name, or otherwise

pub reads_named : {A : Type 0} {g : List ℕ → Reading Lexeme A} {other_way : Reading Lexeme A} {p : List ℕ → A → Line → Type 0} {q : A → Line → Type 0} → ((x : List ℕ) → Reads (g x) (p x)) → Reads other_way q → BeginsElsewhere named q → Reads (choose named g other_way) (Or (Then Name p) q)
reads_named {A} {g} {other_way} {p} {q} by otherwise apart = reads_as (reads_choose by otherwise apart) is back
  where
    is : (a : A) (text : Line) → Either named p q a text → Or (Then Name p) q a text
    is a text (inl (x, (front, rest, (t, h, u), k, parts))) = inl (x, (front, rest, u ∙ ap (λ (w : Lexeme). w ∷ []) (named_is t x h), k, parts))
    is a text (inr h) = inr h

    back : (a : A) (text : Line) → Or (Then Name p) q a text → Either named p q a text
    back a text (inl (x, (front, rest, u, k, parts))) = inl (x, (front, rest, (name x, refl, u), k, parts))
    back a text (inr h) = inr h

-- ---- values

pub number_elsewhere : {B : Type 0} {f : Lexeme → Option B} → ((ds : List ℕ) → f (digits ds) ≡ None) → f (mark sign.Minus) ≡ None → BeginsElsewhere f Number
number_elsewhere h k z text (inl (n, e, (low, high, (ds, v, is)))) = (digits ds, [], is, h ds)
number_elsewhere h k z text (inr (n, e, (front, rest, is, d, parts))) = (mark sign.Minus, rest, parts ∙ ap (λ (u : Line). u ++ rest) is, k)

abbrev as_number : ℤ → Operand
as_number k = operand.Number k

abbrev ValueText : Operand → Line → Type 0
ValueText = Or (Then Name (λ x. Given (operand.Var x))) (Made as_number Number)

numbers_elsewhere : BeginsElsewhere named (Made as_number Number)
numbers_elsewhere e text (k, is, h) = number_elsewhere (λ ds. refl) refl k text h

value_is : (e : Operand) (text : Line) → ValueText e text → Value e text
value_is e text (inl (x, (front, rest, h, (is, n), parts))) = subst (λ (u : Operand). Value u text) (sym is) (parts ∙ ap (λ (u : Line). u ++ rest) h ∙ ap (λ (u : Line). name x ∷ u) n)
value_is e text (inr (k, is, h)) = subst (λ (u : Operand). Value u text) (sym is) h

value_back : (e : Operand) (text : Line) → Value e text → ValueText e text
value_back (operand.Var x) text h = inl (x, (name x ∷ [], [], refl, (refl, refl), h))
value_back (operand.Number k) text h = inr (k, refl, h)

pub reads_value : Reads value Value
unfolding value
reads_value = reads_as (reads_named (λ x. reads_give (operand.Var x)) (reads_made as_number reads_number) numbers_elsewhere) value_is value_back

pub value_elsewhere : {B : Type 0} {f : Lexeme → Option B} → ((x : List ℕ) → f (name x) ≡ None) → ((ds : List ℕ) → f (digits ds) ≡ None) → f (mark sign.Minus) ≡ None → BeginsElsewhere f Value
value_elsewhere n h k (operand.Var x) text is = (name x, [], is, n x)
value_elsewhere n h k (operand.Number z) text is = number_elsewhere h k z text is

-- ---- values or null

abbrev as_operand : Operand → AnyOperand
as_operand e = any.Operand e

abbrev AnyText : AnyOperand → Line → Type 0
AnyText = Or (λ a. one (word key.Null) ⋅ Given any.Null a) (Made as_operand Value)

any_is : (a : AnyOperand) (text : Line) → AnyText a text → Any a text
any_is a text (inl (front, rest, h, (is, n), parts)) = subst (λ (u : AnyOperand). Any u text) (sym is) (parts ∙ ap (λ (u : Line). u ++ rest) h ∙ ap (λ (u : Line). word key.Null ∷ u) n)
any_is a text (inr (e, is, h)) = subst (λ (u : AnyOperand). Any u text) (sym is) h

any_back : (a : AnyOperand) (text : Line) → Any a text → AnyText a text
any_back any.Null text h = inl (word key.Null ∷ [], [], refl, (refl, refl), h)
any_back (any.Operand e) text h = inr (e, refl, h)

values_elsewhere : {B : Type 0} {f : Lexeme → Option B} → ((x : List ℕ) → f (name x) ≡ None) → ((ds : List ℕ) → f (digits ds) ≡ None) → f (mark sign.Minus) ≡ None → BeginsElsewhere f (Made as_operand Value)
values_elsewhere n h k a text (e, is, v) = value_elsewhere n h k e text v

pub reads_any : Reads any_value Any
unfolding any_value
reads_any = reads_as (reads_on (is_word key.Null) (word key.Null) refl (only_word key.Null) (reads_give any.Null) (reads_made as_operand reads_value) (values_elsewhere (λ x. refl) (λ ds. refl) refl)) any_is any_back

pub any_elsewhere : {B : Type 0} {f : Lexeme → Option B} → f (word key.Null) ≡ None → ((x : List ℕ) → f (name x) ≡ None) → ((ds : List ℕ) → f (digits ds) ≡ None) → f (mark sign.Minus) ≡ None → BeginsElsewhere f Any
any_elsewhere m n h k any.Null text is = (word key.Null, [], is, m)
any_elsewhere m n h k (any.Operand e) text is = value_elsewhere n h k e text is

pub reads_ended_value : Reads ended_value (λ e. Value e ⋅ end)
unfolding ended_value
reads_ended_value = reads_ended reads_value reads_semicolon

pub reads_ended_name : Reads ended_name (λ x. Name x ⋅ end)
unfolding ended_name
reads_ended_name = reads_ended reads_a_name reads_semicolon

abbrev as_divisor : ℕ → ℤ
as_divisor n = pos n

pub reads_ended_divisor : Reads ended_divisor (λ k. Divisor k ⋅ end)
unfolding ended_divisor
reads_ended_divisor = reads_ended (reads_made as_divisor (reads_digits 1 (2 ^ 31) (49 ∷ []) (omega arith) (omega arith))) reads_semicolon

-- ---- comparisons

abbrev relation_sign : Rel → Sign
relation_sign rel.Eq = sign.Equal
relation_sign rel.Ne = sign.NotEqual
relation_sign rel.Lt = sign.Less
relation_sign rel.Le = sign.AtMost
relation_sign rel.Gt = sign.Greater
relation_sign rel.Ge = sign.AtLeast

as_sign : (r : Rel) (text : Line) → one (mark (relation_sign r)) text → Relation r text
as_sign rel.Eq text h = h
as_sign rel.Ne text h = h
as_sign rel.Lt text h = h
as_sign rel.Le text h = h
as_sign rel.Gt text h = h
as_sign rel.Ge text h = h

to_sign : (r : Rel) (text : Line) → Relation r text → one (mark (relation_sign r)) text
to_sign rel.Eq text h = h
to_sign rel.Ne text h = h
to_sign rel.Lt text h = h
to_sign rel.Le text h = h
to_sign rel.Gt text h = h
to_sign rel.Ge text h = h

sign_related : (r : Rel) → relation_of (mark (relation_sign r)) ≡ Some r
sign_related rel.Eq = refl
sign_related rel.Ne = refl
sign_related rel.Lt = refl
sign_related rel.Le = refl
sign_related rel.Gt = refl
sign_related rel.Ge = refl

some_is : {A : Type 0} (a b : A) → Some a ≡ Some b → a ≡ b
some_is a b h = cc

relation_is : (t : Lexeme) (r : Rel) → relation_of t ≡ Some r → t ≡ mark (relation_sign r)
relation_is (mark sign.Equal) r h = ap (λ (q : Rel). mark (relation_sign q)) (some_is rel.Eq r h)
relation_is (mark sign.NotEqual) r h = ap (λ (q : Rel). mark (relation_sign q)) (some_is rel.Ne r h)
relation_is (mark sign.Less) r h = ap (λ (q : Rel). mark (relation_sign q)) (some_is rel.Lt r h)
relation_is (mark sign.AtMost) r h = ap (λ (q : Rel). mark (relation_sign q)) (some_is rel.Le r h)
relation_is (mark sign.Greater) r h = ap (λ (q : Rel). mark (relation_sign q)) (some_is rel.Gt r h)
relation_is (mark sign.AtLeast) r h = ap (λ (q : Rel). mark (relation_sign q)) (some_is rel.Ge r h)
relation_is (mark _) r h = absurd cc
relation_is (name x) r h = absurd cc
relation_is (word k) r h = absurd cc
relation_is (digits ds) r h = absurd cc
relation_is other r h = absurd cc

pub reads_relation : Reads relation Relation
unfolding relation
reads_relation = reads_as (reads_token relation_of (mark sign.Equal) rel.Eq refl)
    (λ r text h. as_sign r text (h.2 ∙ ap (λ (u : Lexeme). u ∷ []) (relation_is h.0 r h.1)))
    (λ r text h. (mark (relation_sign r), sign_related r, to_sign r text h))

abbrev equality_sign : Bool → Sign
equality_sign true = sign.Equal
equality_sign false = sign.NotEqual

equality_is : (t : Lexeme) (b : Bool) → equality_of t ≡ Some b → t ≡ mark (equality_sign b)
equality_is (mark sign.Equal) b h = ap (λ (q : Bool). mark (equality_sign q)) (some_is true b h)
equality_is (mark sign.NotEqual) b h = ap (λ (q : Bool). mark (equality_sign q)) (some_is false b h)
equality_is (mark _) b h = absurd cc
equality_is (name x) b h = absurd cc
equality_is (word k) b h = absurd cc
equality_is (digits ds) b h = absurd cc
equality_is other b h = absurd cc

equality_as : (b : Bool) (text : Line) → one (mark (equality_sign b)) text → Equality b text
equality_as true text h = h
equality_as false text h = h

equality_to : (b : Bool) (text : Line) → Equality b text → Token equality_of b text
equality_to true text h = (mark sign.Equal, refl, h)
equality_to false text h = (mark sign.NotEqual, refl, h)

pub reads_equality : Reads equality Equality
unfolding equality
reads_equality = reads_as (reads_token equality_of (mark sign.Equal) true refl) (λ b text h. equality_as b text (h.2 ∙ ap (λ (u : Lexeme). u ∷ []) (equality_is h.0 b h.1))) equality_to

only_zero : (t : Lexeme) → is_zero t ≡ true → t ≡ digits (48 ∷ [])
only_zero (digits ds) h = ap digits (bytes_same ds (48 ∷ []) h)
only_zero (name x) h = absurd cc
only_zero (word k) h = absurd cc
only_zero (mark s) h = absurd cc
only_zero other h = absurd cc

pub reads_zero : Reads zero_digit (Only (digits (48 ∷ [])))
unfolding zero_digit
reads_zero = reads_exactly is_zero (digits (48 ∷ [])) (same_bytes (48 ∷ [])) only_zero

pub reads_jump : Reads jump Jump
unfolding jump
reads_jump = reads_then (reads_the_word key.Goto) (reads_ended reads_count reads_semicolon)

-- null, where it may stand, or a value
abbrev pub Compared : Bool → AnyOperand → Line → Type 0
Compared true = Any
Compared false = Made as_operand Value

reads_compared_by : (b : Bool) → Reads (compared_by b) (Compared b)
reads_compared_by true = reads_any
reads_compared_by false = reads_made as_operand reads_value

pub reads_compared : (e : Operand) (r : Rel) → Reads (compared e r) (Compared (may_be_null e r))
unfolding compared
reads_compared e r = reads_compared_by (may_be_null e r)

-- ---- arguments

abbrev pub Arguments : List AnyOperand → Line → Type 0
Arguments args = Separated (Mark sign.Comma) Any args ⋅ Mark sign.Close

pub reads_arguments : Reads arguments Arguments
unfolding arguments
reads_arguments = reads_closed_list (mark sign.Close) refl (only_mark sign.Close) (mark sign.Comma) refl (reads_the_mark sign.Comma) reads_any (any_elsewhere refl (λ x. refl) (λ ds. refl) refl)

pub argument_goes : (before : List AnyOperand) (ts : Line) (a : AnyOperand) (after : Line) → next_argument ts ≡ Ok (Ok a, after) → arguments_onto before ts ≡ arguments_onto (before ++ a ∷ []) after
unfolding arguments_onto next_argument
argument_goes before ts a after e = list_goes (mark sign.Close) refl (only_mark sign.Close) (mark sign.Comma) refl (reads_the_mark sign.Comma) reads_any before ts a after e

pub argument_ends : (before : List AnyOperand) (ts after : Line) → next_argument ts ≡ Ok (Err tt, after) → arguments_onto before ts ≡ Ok (before, after)
unfolding arguments_onto next_argument
argument_ends before ts after e = list_ends (mark sign.Close) refl (only_mark sign.Close) (mark sign.Comma) refl (reads_the_mark sign.Comma) reads_any before ts after e

pub argument_fails : (text : List ℕ) (e : ReadError) (before : List AnyOperand) (ts : Line) → Fails text e (next_argument ts) → Fails text e (arguments_onto before ts)
unfolding arguments_onto next_argument
argument_fails text errors.Memory before ts h = tt
argument_fails text (errors.Fault at) before ts h = list_fails (mark sign.Close) refl (only_mark sign.Close) (mark sign.Comma) refl (reads_the_mark sign.Comma) reads_any before ts (from text at) h

pub argument_shorter : (ts : Line) (o : Result AnyOperand (Unit {0})) (after : Line) → next_argument ts ≡ Ok (o, after) → length after < length ts
unfolding next_argument
argument_shorter ts o after e = list_shorter (mark sign.Close) refl (only_mark sign.Close) (mark sign.Comma) refl (reads_the_mark sign.Comma) reads_any ts o after e
