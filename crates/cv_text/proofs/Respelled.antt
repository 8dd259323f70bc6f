-- The printed text of statements and declarations is of the grammar, for what was printed.
use Rattle.std.proofs.Common.{◌≡◌, ℕ, suc, ◌+◌, ◌<◌, ◌≤◌, ◌^◌, List, [], ◌∷◌, ◌++◌, ℤ, pos, negsuc, ◌≤ℤ◌, codes, refl, sym, ap, subst, ◌∙◌, arith, append_assoc, append-nil, inl, inr}
use Rattle.std.proofs.lemmas.Int.{ints}
use Rattle.std.specs.List.{All, flat_map}
use Rattle.std.specs.Fmt.{decimal, signed_decimal}
use Rattle.cv_core.specs.Grammar.{IsInt, IsName, IsDigits, IsSize, IsOperand, IsAnyOperand}
use Rattle.cv_core.specs.declared.program.Operand.{Operand}
use Rattle.cv_core.specs.declared.program.Operand.TheVariants as operand
use Rattle.cv_core.specs.declared.program.AnyOperand.{AnyOperand}
use Rattle.cv_core.specs.declared.program.AnyOperand.TheVariants as any
use Rattle.cv_reading.specs.Phrase.{one, ◌⋅◌, Each, Following, Separated}
use Rattle.cv_reading.proofs.Laws.{to_left, second_as, with_nothing}
use Rattle.cv_text.specs.declared.token.Key.TheVariants as key
use Rattle.cv_text.specs.Tokens.{Lexeme, Line, digits}
use Rattle.cv_text.specs.Grammar.{Name, DigitsWithin, Count, Size, Byte, end, Number, Divisor, Value, Any}
use Rattle.cv_text.specs.PrintedContract.{joined}
use Rattle.cv_text.specs.Printed.{operand_text, any_text}
use Rattle.cv_text.proofs.Pieces.{Closed, Open, Apart, Keeps, is_apart, open_keeps, closed_closed, open_closed, closed_open, open_open, closed_as_open, closed_none, closed_newline, closed_semicolon, closed_dash, decimal_is, open_decimal, open_name, word_open}

-- ---- bytes that are read as a line of p, whatever follows, or where no byte of a name follows

pub record Prints (bytes : List ℕ) (p : Line → Type 0) : Type 0 where
  pub line : Line
  pub is : p line
  pub closed : Closed bytes line

pub record PrintsOpen (bytes : List ℕ) (p : Line → Type 0) : Type 0 where
  pub line : Line
  pub is : p line
  pub opened : Open bytes line

infixr 12 ◌▸◌
pub ◌▸◌ : {a b : List ℕ} {p q : Line → Type 0} → Prints a p → Prints b q → Prints (a ++ b) (p ⋅ q)
x ▸ y = record { line = x.line ++ y.line; is = (x.line, y.line, x.is, y.is, refl); closed = closed_closed x.closed y.closed }

infixr 12 ◌▹◌
pub ◌▹◌ : {a b : List ℕ} {p q : Line → Type 0} → Prints a p → PrintsOpen b q → PrintsOpen (a ++ b) (p ⋅ q)
x ▹ y = record { line = x.line ++ y.line; is = (x.line, y.line, x.is, y.is, refl); opened = closed_open x.closed y.opened }

pub open_then : {a b : List ℕ} {p q : Line → Type 0} → PrintsOpen a p → Apart b → Prints b q → Prints (a ++ b) (p ⋅ q)
open_then x apart y = record { line = x.line ++ y.line; is = (x.line, y.line, x.is, y.is, refl); closed = open_closed x.opened y.closed apart }

pub open_then_open : {a b : List ℕ} {p q : Line → Type 0} → PrintsOpen a p → Apart b → PrintsOpen b q → PrintsOpen (a ++ b) (p ⋅ q)
open_then_open x apart y = record { line = x.line ++ y.line; is = (x.line, y.line, x.is, y.is, refl); opened = open_open x.opened y.opened apart }

-- the second may be empty
pub open_then_keeps : {a b : List ℕ} {p q : Line → Type 0} → PrintsOpen a p → Keeps b → PrintsOpen b q → PrintsOpen (a ++ b) (p ⋅ q)
open_then_keeps x keeps y = record { line = x.line ++ y.line; is = (x.line, y.line, x.is, y.is, refl); opened = open_keeps x.opened y.opened keeps }

pub as_open : {a : List ℕ} {p : Line → Type 0} → Prints a p → PrintsOpen a p
as_open x = record { line = x.line; is = x.is; opened = closed_as_open x.closed }

pub regroup : {a b : List ℕ} {p : Line → Type 0} → a ≡ b → Prints a p → Prints b p
regroup {a} {b} {p} e x = subst (λ (u : List ℕ). Prints u p) e x

pub regroup_open : {a b : List ℕ} {p : Line → Type 0} → a ≡ b → PrintsOpen a p → PrintsOpen b p
regroup_open {a} {b} {p} e x = subst (λ (u : List ℕ). PrintsOpen u p) e x

pub prints_as : {a : List ℕ} {p q : Line → Type 0} → ((l : Line) → p l → q l) → Prints a p → Prints a q
prints_as f x = record { line = x.line; is = f x.line x.is; closed = x.closed }

pub opens_as : {a : List ℕ} {p q : Line → Type 0} → ((l : Line) → p l → q l) → PrintsOpen a p → PrintsOpen a q
opens_as f x = record { line = x.line; is = f x.line x.is; opened = x.opened }

-- a newline behind it makes no difference
pub then_newline : {a : List ℕ} {p : Line → Type 0} → Prints a p → Prints (a ++ 10 ∷ []) p
then_newline {a} {p} x = record { line = x.line ++ []; is = subst p (sym (append-nil x.line)) x.is; closed = closed_closed x.closed closed_newline }

-- ---- single pieces

pub token : {a : List ℕ} {t : Lexeme} → Closed a (t ∷ []) → Prints a (one t)
token {a} {t} c = record { line = t ∷ []; is = refl; closed = c }

pub open_token : {a : List ℕ} {t : Lexeme} → Open a (t ∷ []) → PrintsOpen a (one t)
open_token {a} {t} c = record { line = t ∷ []; is = refl; opened = c }

pub name_prints : (x : List ℕ) → IsName x → PrintsOpen x (Name x)
name_prints x h = open_token (open_name x h)

pub semicolon : Prints (codes ";") end
semicolon = token closed_semicolon

pub within_prints : (low high n : ℕ) → low ≤ n → n < high → n < 2 ^ 64 → PrintsOpen (decimal n) (DigitsWithin low high n)
within_prints low high n h k small = record { line = digits (decimal n) ∷ []; is = (h, k, (decimal n, (decimal_is n small).value, refl)); opened = open_decimal n small }

pub count_prints : (n : ℕ) → IsDigits n → PrintsOpen (decimal n) (Count n)
count_prints n h = within_prints 0 (2 ^ 31) n (omega arith) h (omega arith)

pub size_prints : (n : ℕ) → IsSize n → PrintsOpen (decimal n) (Size n)
size_prints n h = within_prints 1 (2 ^ 31) n h.0 h.1 (omega arith)

pub byte_prints : (n : ℕ) → n < 256 → PrintsOpen (decimal n) (Byte n)
byte_prints n h = within_prints 0 256 n (omega arith) h (omega arith)

pub number_prints : (z : ℤ) → IsInt z → PrintsOpen (signed_decimal z) (Number z)
number_prints (pos n) h = opens_as (λ l d. inl (n, refl, d)) (within_prints 0 (2 ^ 31) n (omega arith) (omega (arith, ints)) (omega (arith, ints)))
number_prints (negsuc n) h = opens_as (λ l d. inr (suc n, refl, d)) (token closed_dash ▹ within_prints 0 (2 ^ 31 + 1) (suc n) (omega arith) (omega (arith, ints)) (omega (arith, ints)))

pub divisor_prints : (z : ℤ) → IsInt z → pos 1 ≤ℤ z → PrintsOpen (signed_decimal z) (Divisor z)
divisor_prints (pos n) h k = opens_as (λ l d. (n, refl, d)) (within_prints 1 (2 ^ 31) n (omega (arith, ints)) (omega (arith, ints)) (omega (arith, ints)))
divisor_prints (negsuc n) h k = absurd (omega (arith, ints))

pub value_prints : (e : Operand) → IsOperand e → PrintsOpen (operand_text e) (Value e)
value_prints (operand.Var x) h = name_prints x h
value_prints (operand.Number z) h = number_prints z h

pub any_prints : (e : AnyOperand) → IsAnyOperand e → PrintsOpen (any_text e) (Any e)
any_prints (any.Operand e) h = value_prints e h
any_prints any.Null h = open_token (word_open (codes "null") key.Null refl refl)

-- ---- lists

abbrev pub with_separator : {A : Type 0} → List ℕ → (A → List ℕ) → A → List ℕ
with_separator separator text a = separator ++ text a

pub tail_good : {A : Type 0} (P : A → Type 0) (x : A) (xs : List A) → All P (x ∷ xs) → All P xs
tail_good P x xs h = λ k d lt. h (suc k) d (omega arith)

-- nothing of a list is left, or a separator comes first
apart_list : {A : Type 0} (separator : List ℕ) (text : A → List ℕ) (tail : List ℕ) → Apart separator → Apart tail → (xs : List A) → Apart (flat_map (with_separator separator text) xs ++ tail)
apart_list separator text tail between ends [] = ends
apart_list separator text tail between ends (y ∷ ys) = λ rest.
    let others : List ℕ = flat_map (with_separator separator text) ys in
    let e : (((separator ++ text y) ++ others) ++ tail) ++ rest ≡ separator ++ (text y ++ (others ++ (tail ++ rest))) = simp append_assoc in
    ap is_apart e ∙ between (text y ++ (others ++ (tail ++ rest)))

-- what follows the first item, and then what ends the list
pub following_then : {A : Type 0} (separator : List ℕ) (s : Line → Type 0) (text : A → List ℕ) (p : A → Line → Type 0) (good : A → Type 0) (tail : List ℕ) (q : Line → Type 0) →
    Prints separator s → Apart separator → Apart tail → Prints tail q → ((a : A) → good a → PrintsOpen (text a) (p a)) → (xs : List A) → All good xs →
    Prints (flat_map (with_separator separator text) xs ++ tail) (Following s p xs ⋅ q)
following_then separator s text p good tail q sep apart_sep apart_tail ends item [] h = prints_as (with_nothing q) ends
following_then separator s text p good tail q sep apart_sep apart_tail ends item (x ∷ xs) h =
    let others : List ℕ = flat_map (with_separator separator text) xs in
    let rest = following_then separator s text p good tail q sep apart_sep apart_tail ends item xs (tail_good good x xs h) in
    let all = sep ▸ open_then (item x (h 0 x (omega arith))) (apart_list separator text tail apart_sep apart_tail xs) rest in
    let whole : separator ++ (text x ++ (others ++ tail)) ≡ ((separator ++ text x) ++ others) ++ tail = simp append_assoc in
    prints_as (λ l k. to_left s (p x ⋅ Following s p xs) q l (second_as s (p x ⋅ (Following s p xs ⋅ q)) ((p x ⋅ Following s p xs) ⋅ q) (to_left (p x) (Following s p xs) q) l k)) (regroup whole all)

pub separated_then : {A : Type 0} (separator : List ℕ) (s : Line → Type 0) (text : A → List ℕ) (p : A → Line → Type 0) (good : A → Type 0) (tail : List ℕ) (q : Line → Type 0) →
    Prints separator s → Apart separator → Apart tail → Prints tail q → ((a : A) → good a → PrintsOpen (text a) (p a)) → (xs : List A) → All good xs →
    Prints (joined separator text xs ++ tail) (Separated s p xs ⋅ q)
separated_then separator s text p good tail q sep apart_sep apart_tail ends item [] h = prints_as (with_nothing q) ends
separated_then separator s text p good tail q sep apart_sep apart_tail ends item (x ∷ xs) h =
    let others : List ℕ = flat_map (with_separator separator text) xs in
    let rest = following_then separator s text p good tail q sep apart_sep apart_tail ends item xs (tail_good good x xs h) in
    let all = open_then (item x (h 0 x (omega arith))) (apart_list separator text tail apart_sep apart_tail xs) rest in
    let whole : text x ++ (others ++ tail) ≡ (text x ++ others) ++ tail = sym (append_assoc (text x) others tail) in
    prints_as (to_left (p x) (Following s p xs) q) (regroup whole all)

-- a list whose last item is read as it is where no byte of a name follows
list_keeps : {A : Type 0} (separator : List ℕ) (text : A → List ℕ) → Apart separator → (xs : List A) → Keeps (flat_map (with_separator separator text) xs)
list_keeps separator text between [] = λ rest h. h
list_keeps separator text between (y ∷ ys) = λ rest h.
    let others : List ℕ = flat_map (with_separator separator text) ys in
    let e : ((separator ++ text y) ++ others) ++ rest ≡ separator ++ (text y ++ (others ++ rest)) = simp append_assoc in
    ap is_apart e ∙ between (text y ++ (others ++ rest))

pub following_open : {A : Type 0} (separator : List ℕ) (s : Line → Type 0) (text : A → List ℕ) (p : A → Line → Type 0) (good : A → Type 0) →
    Prints separator s → Apart separator → ((a : A) → good a → PrintsOpen (text a) (p a)) → (xs : List A) → All good xs →
    PrintsOpen (flat_map (with_separator separator text) xs) (Following s p xs)
following_open separator s text p good sep apart_sep item [] h = record { line = []; is = refl; opened = closed_as_open closed_none }
following_open separator s text p good sep apart_sep item (x ∷ xs) h =
    let others : List ℕ = flat_map (with_separator separator text) xs in
    let rest = following_open separator s text p good sep apart_sep item xs (tail_good good x xs h) in
    let whole : separator ++ (text x ++ others) ≡ (separator ++ text x) ++ others = sym (append_assoc separator (text x) others) in
    regroup_open whole (sep ▹ open_then_keeps (item x (h 0 x (omega arith))) (list_keeps separator text apart_sep xs) rest)

pub separated_open : {A : Type 0} (separator : List ℕ) (s : Line → Type 0) (text : A → List ℕ) (p : A → Line → Type 0) (good : A → Type 0) →
    Prints separator s → Apart separator → ((a : A) → good a → PrintsOpen (text a) (p a)) → (xs : List A) → All good xs →
    PrintsOpen (joined separator text xs) (Separated s p xs)
separated_open separator s text p good sep apart_sep item [] h = record { line = []; is = refl; opened = closed_as_open closed_none }
separated_open separator s text p good sep apart_sep item (x ∷ xs) h =
    open_then_keeps (item x (h 0 x (omega arith))) (list_keeps separator text apart_sep xs) (following_open separator s text p good sep apart_sep item xs (tail_good good x xs h))

-- lines one behind another
pub each_prints : {A : Type 0} (text : A → List ℕ) (p : A → Line → Type 0) (good : A → Type 0) → ((a : A) → good a → Prints (text a) (p a)) → (xs : List A) → All good xs → Prints (flat_map text xs) (Each p xs)
each_prints text p good item [] h = record { line = []; is = refl; closed = closed_none }
each_prints text p good item (x ∷ xs) h = item x (h 0 x (omega arith)) ▸ each_prints text p good item xs (tail_good good x xs h)
