-- A program that a text spells has the form that the grammar alone asks.
use Rattle.std.proofs.Common.{◌≡◌, ℕ, zero, suc, Bool, true, false, cond, not, ◌&&◌, ◌||◌, IsTrue, if◌then◌else◌, List, [], ◌∷◌, ◌++◌, length, Option, Some, None, ℤ, pos, negsuc, neg_ℤ, ◌≤ℤ◌, ◌<◌, ◌^◌, ◌+◌, inl, inr, refl, ap, subst, ◌∙◌, arith}
use Rattle.std.proofs.lemmas.Int.{ints}
use Rattle.std.specs.List.{list_any, list_all, find, take_while, All}
use Rattle.std.proofs.lemmas.List.Sums.{take_while-cons}
use Rattle.cv_core.specs.Grammar.{is_letter, is_digit, begins_name, IsName, IsDigits, IsInt, IsOperand, IsAnyOperand, IsForm, IsStmt, IsLocal, IsLocalBody}
use Rattle.cv_core.specs.declared.program.Local.{Local}
use Rattle.cv_core.specs.declared.program.LocalBody.{LocalBody}
use Rattle.cv_core.specs.declared.program.LocalBody.TheVariants as local
use Rattle.cv_core.specs.declared.program.Stmt.{Stmt}
use Rattle.cv_core.specs.declared.program.Form.{Form}
use Rattle.cv_core.specs.declared.program.Form.TheVariants as form
use Rattle.cv_core.specs.declared.program.Operand.{Operand}
use Rattle.cv_core.specs.declared.program.Operand.TheVariants as operand
use Rattle.cv_core.specs.declared.program.AnyOperand.{AnyOperand}
use Rattle.cv_core.specs.declared.program.AnyOperand.TheVariants as any
use Rattle.cv_core.specs.declared.program.Rel.TheVariants as rel
use Rattle.cv_reading.specs.Phrase.{◌⋅◌, Each, Following, Separated}
use Rattle.cv_text.specs.declared.token.Key.{Key}
use Rattle.cv_text.specs.declared.token.Sign.TheVariants as sign
use Rattle.std.specs.Str.{bytes_eq}
use Rattle.cv_text.specs.Spelling.{key_text, keys, foreign}
use Rattle.cv_text.specs.Tokens.{Lexeme, name, digits, other, Line, begins, is_name_byte, run, key_of, name_or, sign_or, sign_at, token_at, front_token, past_blanks, first_tokens, lexemes}
use Rattle.cv_text.specs.Grammar.{Name, Mark, Count, DigitsWithin, Number, Divisor, Value, Any, Phrase, CallPhrase, Jump, LocalPhrase, LocalText}

-- ---- the names among the tokens of a text are names

abbrev pub IsFine : Lexeme → Type 0
IsFine (name x) = IsName x
IsFine t = Unit {0}

abbrev pub AllFine : Line → Type 0
AllFine [] = Unit {0}
AllFine (t ∷ ts) = IsFine t × AllFine ts

pub fine_front : (front rest : Line) → AllFine (front ++ rest) → AllFine front
fine_front [] rest h = tt
fine_front (t ∷ ts) rest h = (h.0, fine_front ts rest h.1)

pub fine_rest : (front rest : Line) → AllFine (front ++ rest) → AllFine rest
fine_rest [] rest h = h
fine_rest (t ∷ ts) rest h = fine_rest ts rest h.1

none_found : {X : Type 0} (p : X → Bool) (xs : List X) → find p xs ≡ None → list_any p xs ≡ false
none_found p [] h = refl
none_found {X} p (x ∷ xs) h = by_test (λ k. none_found p xs k) (p x) h
  where
    by_test : (find p xs ≡ None → list_any p xs ≡ false) → (b : Bool) → cond b (Some x) (find p xs) ≡ None → (b || list_any p xs) ≡ false
    by_test below true k = absurd cc
    by_test below false k = below k

all_pass : (p : ℕ → Bool) (cs : List ℕ) → list_all p (take_while p cs) ≡ true
all_pass p [] = refl
all_pass p (c ∷ cs) = by_test (all_pass p cs) (p c) refl
  where
    by_test : list_all p (take_while p cs) ≡ true → (b : Bool) → p c ≡ b → list_all p (take_while p (c ∷ cs)) ≡ true
    by_test below true e = ap (list_all p) (take_while-cons p c cs ∙ ap (λ (b : Bool). cond b (c ∷ take_while p cs) []) e) ∙ rw (e, below) refl
    by_test below false e = ap (list_all p) (take_while-cons p c cs ∙ ap (λ (b : Bool). cond b (c ∷ take_while p cs) []) e)

name_front : (c : ℕ) (cs : List ℕ) → is_letter c ≡ true → take_while is_name_byte (c ∷ cs) ≡ c ∷ take_while is_name_byte cs
name_front c cs h = take_while-cons is_name_byte c cs ∙ ap (λ (b : Bool). cond (b || is_digit c) (c ∷ take_while is_name_byte cs) []) h

begins_one : (c : ℕ) (cs : List ℕ) → is_letter c ≡ true → begins_name (take_while is_name_byte (c ∷ cs)) ≡ true
begins_one c cs h = ap begins_name (name_front c cs h) ∙ rw (h, all_pass is_name_byte cs) refl

is_name_by : (x : List ℕ) → begins_name x ≡ true → key_of x ≡ None → IsName x
is_name_by x h k = let e : list_any (λ (l : Key). bytes_eq x (key_text l)) keys ≡ false = none_found (λ (l : Key). bytes_eq x (key_text l)) keys k in fine (begins_name x) (list_any (λ (l : Key). bytes_eq x (key_text l)) keys) h e
  where
    fine : (a b : Bool) → a ≡ true → b ≡ false → IsTrue (a && not b)
    fine true false p q = refl
    fine true true p q = absurd cc
    fine false b p q = absurd cc

name_or_fine : (x : List ℕ) → begins_name x ≡ true → (o : Option Key) → key_of x ≡ o → IsFine (name_or x o)
name_or_fine x h None k = is_name_by x h k
name_or_fine x h (Some l) k = tt

sign_or_fine : (o : Option _) → IsFine (sign_or o).0
sign_or_fine None = tt
sign_or_fine (Some s) = tt

token_fine : (c : ℕ) (cs : List ℕ) → IsFine (token_at c (c ∷ cs)).0
token_fine c cs = by_test (list_any (begins (c ∷ cs)) foreign) (is_letter c) (is_digit c) refl
  where
    by_test : (f l d : Bool) → is_letter c ≡ l → IsFine (if f then (other, 1) else if l then (name_or (take_while is_name_byte (c ∷ cs)) (key_of (take_while is_name_byte (c ∷ cs))), run is_name_byte (c ∷ cs)) else if d then (digits (take_while is_digit (c ∷ cs)), run is_digit (c ∷ cs)) else sign_or (sign_at (c ∷ cs))).0
    by_test true l d h = tt
    by_test false true d h = name_or_fine (take_while is_name_byte (c ∷ cs)) (begins_one c cs h) (key_of (take_while is_name_byte (c ∷ cs))) refl
    by_test false false true h = tt
    by_test false false false h = sign_or_fine (sign_at (c ∷ cs))

front_fine : (others : List ℕ → Line) (text : List ℕ) → ((rest : List ℕ) → AllFine (others rest)) → AllFine (front_token others text)
front_fine others [] h = tt
front_fine others (c ∷ cs) h = (token_fine c cs, h _)

first_fine : (n : ℕ) (text : List ℕ) → AllFine (first_tokens n text)
first_fine zero text = tt
first_fine (suc n) text = front_fine (first_tokens n) (past_blanks text) (λ rest. first_fine n rest)

pub lexemes_fine : (text : List ℕ) → AllFine (lexemes text)
unfolding lexemes
lexemes_fine text = first_fine (length text) text

-- ---- what is spelled by such tokens

-- the two parts of a text, with their fine tokens
pub split : {p q : Line → Type 0} (text : Line) → (p ⋅ q) text → AllFine text → (front : Line) × (rest : Line) × p front × q rest × AllFine front × AllFine rest
split text (front, rest, h, k, parts) fine = (front, rest, h, k, fine_front front rest (subst AllFine parts fine), fine_rest front rest (subst AllFine parts fine))

pub name_fine : (x : List ℕ) (text : Line) → Name x text → AllFine text → IsName x
name_fine x text e h = (subst AllFine e h).0

-- a number within the range of an int is one
plain_int : (z : ℤ) (n : ℕ) → z ≡ pos n → n < 2 ^ 31 → IsInt z
plain_int z n e h = (rw e (omega (arith, ints, h)), rw e (omega (arith, ints, h)))

signed_int : (z : ℤ) (n : ℕ) → z ≡ neg_ℤ (pos n) → n < 2 ^ 31 + 1 → IsInt z
signed_int z zero e h = plain_int z 0 e (omega arith)
signed_int z (suc n) e h = (rw e (omega (arith, ints, h)), rw e (omega (arith, ints, h)))

pub number_int : (z : ℤ) (text : Line) → Number z text → IsInt z
number_int z text (inl (n, e, (low, high, d))) = plain_int z n e high
number_int z text (inr (n, e, (front, rest, m, (low, high, d), parts))) = signed_int z n e high

pub value_fine : (e : Operand) (text : Line) → Value e text → AllFine text → IsOperand e
value_fine (operand.Var x) text h fine = name_fine x text h fine
value_fine (operand.Number z) text h fine = number_int z text h

pub any_fine : (e : AnyOperand) (text : Line) → Any e text → AllFine text → IsAnyOperand e
any_fine (any.Operand e) text h fine = value_fine e text h fine
any_fine any.Null text h fine = tt

-- ---- lists of what is spelled

pub each_by : {A : Type 0} (P : A → Type 0) (a : A) (xs : List A) → P a → All P xs → All P (a ∷ xs)
each_by P a xs h k zero d lt = h
each_by P a xs h k (suc i) d lt = k i d (omega arith)

pub none_of : {A : Type 0} (P : A → Type 0) → All P []
none_of P i d lt = absurd (omega arith)

pub each_fine : {A : Type 0} (P : A → Type 0) (p : A → Line → Type 0) → ((a : A) (text : Line) → p a text → AllFine text → P a) → (xs : List A) (text : Line) → Each p xs text → AllFine text → All P xs
each_fine P p f [] text h fine = none_of P
each_fine P p f (a ∷ xs) text h fine = let s = split text h fine in each_by P a xs (f a s.0 s.2 s.4) (each_fine P p f xs s.1 s.3 s.5)

following_fine : {A : Type 0} (P : A → Type 0) (p : A → Line → Type 0) (separator : Line → Type 0) → ((a : A) (text : Line) → p a text → AllFine text → P a) → (xs : List A) (text : Line) → Following separator p xs text → AllFine text → All P xs
following_fine P p separator f [] text h fine = none_of P
following_fine P p separator f (a ∷ xs) text h fine = let r = split text h fine in let s = split r.1 r.3 r.5 in each_by P a xs (f a s.0 s.2 s.4) (following_fine P p separator f xs s.1 s.3 s.5)

pub separated_fine : {A : Type 0} (P : A → Type 0) (p : A → Line → Type 0) (separator : Line → Type 0) → ((a : A) (text : Line) → p a text → AllFine text → P a) → (xs : List A) (text : Line) → Separated separator p xs text → AllFine text → All P xs
separated_fine P p separator f [] text h fine = none_of P
separated_fine P p separator f (a ∷ xs) text h fine = let s = split text h fine in each_by P a xs (f a s.0 s.2 s.4) (following_fine P p separator f xs s.1 s.3 s.5)

-- ---- statements

divisor_is : (k : ℤ) (text : Line) → Divisor k text → pos 1 ≤ℤ k
divisor_is k text (n, e, (low, high, d)) = rw e (omega (arith, ints))

divisor_int : (k : ℤ) (text : Line) → Divisor k text → IsInt k
divisor_int k text (n, e, (low, high, d)) = plain_int k n e high

jump_is : (to : ℕ) (text : Line) → Jump to text → IsDigits to
jump_is to text (a, r1, a_is, (b, r2, (low, high, d), e, p2), p1) = high

call_fine : (f : List ℕ) (args : List AnyOperand) (text : Line) → CallPhrase f args text → AllFine text → IsName f × All IsAnyOperand args
call_fine f args text h fine =
    let a1 = split text h fine in let a2 = split a1.1 a1.3 a1.5 in let a3 = split a2.1 a2.3 a2.5 in let a4 = split a3.1 a3.3 a3.5 in
    (name_fine f a2.0 a2.2 a2.4, separated_fine IsAnyOperand Any (Mark sign.Comma) any_fine args a4.0 a4.2 a4.4)

pub form_fine : (f : Form) (text : Line) → Phrase f text → AllFine text → IsForm f
form_fine (form.Assign x e) text h fine = let a1 = split text h fine in let a2 = split a1.1 a1.3 a1.5 in let a3 = split a2.1 a2.3 a2.5 in (name_fine x a1.0 a1.2 a1.4, value_fine e a3.0 a3.2 a3.4)
form_fine (form.Sum x e f) text h fine = let a1 = split text h fine in let a2 = split a1.1 a1.3 a1.5 in let a3 = split a2.1 a2.3 a2.5 in let a4 = split a3.1 a3.3 a3.5 in let a5 = split a4.1 a4.3 a4.5 in (name_fine x a1.0 a1.2 a1.4, value_fine e a3.0 a3.2 a3.4, value_fine f a5.0 a5.2 a5.4)
form_fine (form.Minus x e f) text h fine = let a1 = split text h fine in let a2 = split a1.1 a1.3 a1.5 in let a3 = split a2.1 a2.3 a2.5 in let a4 = split a3.1 a3.3 a3.5 in let a5 = split a4.1 a4.3 a4.5 in (name_fine x a1.0 a1.2 a1.4, value_fine e a3.0 a3.2 a3.4, value_fine f a5.0 a5.2 a5.4)
form_fine (form.Product x k e) text h fine = let a1 = split text h fine in let a2 = split a1.1 a1.3 a1.5 in let a3 = split a2.1 a2.3 a2.5 in let a4 = split a3.1 a3.3 a3.5 in let a5 = split a4.1 a4.3 a4.5 in (name_fine x a1.0 a1.2 a1.4, value_fine e a5.0 a5.2 a5.4, number_int k a3.0 a3.2)
form_fine (form.Quotient x e k) text h fine = let a1 = split text h fine in let a2 = split a1.1 a1.3 a1.5 in let a3 = split a2.1 a2.3 a2.5 in let a4 = split a3.1 a3.3 a3.5 in let a5 = split a4.1 a4.3 a4.5 in (name_fine x a1.0 a1.2 a1.4, value_fine e a3.0 a3.2 a3.4, divisor_is k a5.0 a5.2, divisor_int k a5.0 a5.2)
form_fine (form.Remainder x e k) text h fine = let a1 = split text h fine in let a2 = split a1.1 a1.3 a1.5 in let a3 = split a2.1 a2.3 a2.5 in let a4 = split a3.1 a3.3 a3.5 in let a5 = split a4.1 a4.3 a4.5 in (name_fine x a1.0 a1.2 a1.4, value_fine e a3.0 a3.2 a3.4, divisor_is k a5.0 a5.2, divisor_int k a5.0 a5.2)
form_fine (form.CopyPtr p (Some q)) text h fine = let a1 = split text h fine in let a2 = split a1.1 a1.3 a1.5 in let a3 = split a2.1 a2.3 a2.5 in (name_fine p a1.0 a1.2 a1.4, name_fine q a3.0 a3.2 a3.4)
form_fine (form.CopyPtr p None) text h fine = let a1 = split text h fine in (name_fine p a1.0 a1.2 a1.4, tt)
form_fine (form.Address p a) text h fine = let a1 = split text h fine in let a2 = split a1.1 a1.3 a1.5 in let a3 = split a2.1 a2.3 a2.5 in let a4 = split a3.1 a3.3 a3.5 in (name_fine p a1.0 a1.2 a1.4, name_fine a a4.0 a4.2 a4.4)
form_fine (form.Shift p q e) text h fine = let a1 = split text h fine in let a2 = split a1.1 a1.3 a1.5 in let a3 = split a2.1 a2.3 a2.5 in let a4 = split a3.1 a3.3 a3.5 in let a5 = split a4.1 a4.3 a4.5 in (name_fine p a1.0 a1.2 a1.4, name_fine q a3.0 a3.2 a3.4, value_fine e a5.0 a5.2 a5.4)
form_fine (form.Load x p) text h fine = let a1 = split text h fine in let a2 = split a1.1 a1.3 a1.5 in let a3 = split a2.1 a2.3 a2.5 in let a4 = split a3.1 a3.3 a3.5 in (name_fine x a1.0 a1.2 a1.4, name_fine p a4.0 a4.2 a4.4)
form_fine (form.Store p e) text h fine = let a1 = split text h fine in let a2 = split a1.1 a1.3 a1.5 in let a3 = split a2.1 a2.3 a2.5 in let a4 = split a3.1 a3.3 a3.5 in (name_fine p a2.0 a2.2 a2.4, value_fine e a4.0 a4.2 a4.4)
form_fine (form.Get x w) text h fine = let a1 = split text h fine in let a2 = split a1.1 a1.3 a1.5 in let a3 = split a2.1 a2.3 a2.5 in let a4 = split a3.1 a3.3 a3.5 in (name_fine x a1.0 a1.2 a1.4, name_fine w a4.0 a4.2 a4.4)
form_fine (form.Put w e) text h fine = let a1 = split text h fine in let a2 = split a1.1 a1.3 a1.5 in let a3 = split a2.1 a2.3 a2.5 in let a4 = split a3.1 a3.3 a3.5 in (name_fine w a2.0 a2.2 a2.4, any_fine e a4.0 a4.2 a4.4)
form_fine (form.Diff x p q) text h fine = let a1 = split text h fine in let a2 = split a1.1 a1.3 a1.5 in let a3 = split a2.1 a2.3 a2.5 in let a4 = split a3.1 a3.3 a3.5 in let a5 = split a4.1 a4.3 a4.5 in let a6 = split a5.1 a5.3 a5.5 in (name_fine x a1.0 a1.2 a1.4, name_fine p a4.0 a4.2 a4.4, name_fine q a6.0 a6.2 a6.4)
form_fine (form.Goto to) text h fine = jump_is to text h
form_fine (form.If e r (any.Operand f) to) text h fine = let a1 = split text h fine in let a2 = split a1.1 a1.3 a1.5 in let a3 = split a2.1 a2.3 a2.5 in let a4 = split a3.1 a3.3 a3.5 in ((value_fine e a2.0 a2.2 a2.4, value_fine f a4.0 a4.2 a4.4), jump_is to a4.1 a4.3)
form_fine (form.If (operand.Var p) rel.Eq any.Null to) text h fine = let a1 = split text h fine in let a2 = split a1.1 a1.3 a1.5 in let a3 = split a2.1 a2.3 a2.5 in let a4 = split a3.1 a3.3 a3.5 in (name_fine p a2.0 a2.2 a2.4, jump_is to a4.1 a4.3)
form_fine (form.If (operand.Var p) rel.Ne any.Null to) text h fine = let a1 = split text h fine in let a2 = split a1.1 a1.3 a1.5 in let a3 = split a2.1 a2.3 a2.5 in let a4 = split a3.1 a3.3 a3.5 in (name_fine p a2.0 a2.2 a2.4, jump_is to a4.1 a4.3)
form_fine (form.If (operand.Var p) rel.Lt any.Null to) text h fine = absurd h
form_fine (form.If (operand.Var p) rel.Le any.Null to) text h fine = absurd h
form_fine (form.If (operand.Var p) rel.Gt any.Null to) text h fine = absurd h
form_fine (form.If (operand.Var p) rel.Ge any.Null to) text h fine = absurd h
form_fine (form.If (operand.Number z) r any.Null to) text h fine = absurd h
form_fine (form.IfByte p equal to) text h fine = let a1 = split text h fine in let a2 = split a1.1 a1.3 a1.5 in let a3 = split a2.1 a2.3 a2.5 in let a4 = split a3.1 a3.3 a3.5 in let a5 = split a4.1 a4.3 a4.5 in (name_fine p a3.0 a3.2 a3.4, jump_is to a5.1 a5.3)
form_fine (form.Call None f args) text h fine = let c = call_fine f args text h fine in (tt, c.0, c.1)
form_fine (form.Call (Some x) f args) text h fine = let a1 = split text h fine in let a2 = split a1.1 a1.3 a1.5 in let c = call_fine f args a2.1 a2.3 a2.5 in (name_fine x a1.0 a1.2 a1.4, c.0, c.1)
form_fine (form.Return None) text h fine = tt
form_fine (form.Return (Some e)) text h fine = let a1 = split text h fine in let a2 = split a1.1 a1.3 a1.5 in any_fine e a2.0 a2.2 a2.4

pub written_fine : (s : Stmt) (text : Line) → (Count s.line ⋅ Mark sign.Colon ⋅ Phrase s.form) text → AllFine text → IsStmt s
written_fine s text h fine = let a1 = split text h fine in let a2 = split a1.1 a1.3 a1.5 in (a1.2.1, form_fine s.form a2.1 a2.3 a2.5)

-- ---- declarations

pub local_fine : (l : Local) (text : Line) → LocalText l text → AllFine text → IsLocal l
local_fine l text h fine = by_body l.name l.body text h fine
  where
    by_body : (x : List ℕ) (b : LocalBody) (text : Line) → LocalPhrase x b text → AllFine text → IsName x × IsLocalBody b
    by_body x (local.Var k) text h fine = let a1 = split text h fine in let a2 = split a1.1 a1.3 a1.5 in (name_fine x a2.0 a2.2 a2.4, tt)
    by_body x (local.Buffer n) text h fine = let a1 = split text h fine in let a2 = split a1.1 a1.3 a1.5 in let a3 = split a2.1 a2.3 a2.5 in (name_fine x a2.0 a2.2 a2.4, (a3.2.0, a3.2.1))
    by_body x local.PointerCell text h fine = let a1 = split text h fine in let a2 = split a1.1 a1.3 a1.5 in (name_fine x a2.0 a2.2 a2.4, tt)
    by_body x local.IntCell text h fine = let a1 = split text h fine in let a2 = split a1.1 a1.3 a1.5 in (name_fine x a2.0 a2.2 a2.4, tt)
