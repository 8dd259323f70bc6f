-- What printed pieces are read as: their tokens, whatever follows, or where no byte of a name follows.
use Rattle.std.proofs.Common.{◌≡◌, ℕ, ◌+◌, ◌-◌, ◌*◌, ◌<◌, ◌^◌, ◌%◌, Bool, true, false, cond, not, ◌&&◌, ◌||◌, List, [], ◌∷◌, ◌++◌, length, take, drop, Option, Some, None, codes, refl, sym, ap, ◌∙◌, arith, append_assoc, length-append, IsTrue, ◌⊎◌, inl, inr, if◌then◌else◌}
use Rattle.std.specs.List.{list_any, list_all, take_while, find}
use Rattle.std.specs.Cmp.Lexicographic.{pointwise}
use Rattle.std.specs.Fmt.{decimal}
use Rattle.std.proofs.lemmas.List.Sums.{take_while-cons}
use Rattle.std.proofs.lemmas.Bool.{le-leb}
use Rattle.std.specs.Str.{bytes_eq}
use Rattle.std.proofs.lemmas.Bool.Decides.{nat_tests}
use Rattle.cv_core.specs.Both.{both_true}
use Rattle.cv_core.specs.declared.program.Rel.{Rel}
use Rattle.cv_core.specs.declared.program.Rel.TheVariants as rel
use Rattle.cv_text.specs.PrintedContract.{rel_text}
use Rattle.std.proofs.lemmas.Bool.Decides.{eqb_tells}
use Rattle.std.proofs.lemmas.Fmt.{decimal_by_steps}
use Rattle.std.proofs.Math.Seq.{drop-append_seam}
use Rattle.std.specs.Prelude.{nat_eq}
use Rattle.cv_core.specs.Grammar.{is_letter, is_digit, begins_name, IsName, reserved}
use Rattle.cv_text.specs.declared.token.Key.{Key}
use Rattle.cv_text.specs.declared.token.Sign.{Sign}
use Rattle.cv_text.specs.declared.token.Sign.TheVariants as sign
use Rattle.cv_text.specs.Spelling.{key_text, keys, foreign}
use Rattle.cv_text.specs.Tokens.{Lexeme, Line, name, word, digits, mark, other, begins, key_of, sign_at, sign_or, name_or, is_name_byte, is_blank, run, token_at, front_token, past_blanks, lexemes, value_of, value_behind}
use Rattle.cv_text.proofs.Lexing.{lexemes_open}

-- no byte of a name begins the text
abbrev pub is_apart : List ℕ → Bool
is_apart [] = true
is_apart (c ∷ cs) = not (is_name_byte c)

-- The bytes are read as these tokens, whatever follows.
pub record Closed (bytes : List ℕ) (line : Line) : Type 0 where
  pub read : (rest : List ℕ) → lexemes (bytes ++ rest) ≡ line ++ lexemes rest

-- The bytes are read as these tokens, where no byte of a name follows.
pub record Open (bytes : List ℕ) (line : Line) : Type 0 where
  pub read : (rest : List ℕ) → is_apart rest ≡ true → lexemes (bytes ++ rest) ≡ line ++ lexemes rest

-- no byte of a name begins these bytes, whatever follows
abbrev pub Apart : List ℕ → Type 0
Apart bytes = (rest : List ℕ) → is_apart (bytes ++ rest) ≡ true

-- ---- pieces one behind another

joins : (a b : List ℕ) (la lb : Line) (rest : List ℕ) → lexemes (a ++ (b ++ rest)) ≡ la ++ lexemes (b ++ rest) → lexemes (b ++ rest) ≡ lb ++ lexemes rest → lexemes ((a ++ b) ++ rest) ≡ (la ++ lb) ++ lexemes rest
joins a b la lb rest p q = ap lexemes (append_assoc a b rest) ∙ p ∙ ap (λ (l : Line). la ++ l) q ∙ sym (append_assoc la lb (lexemes rest))

pub closed_closed : {a b : List ℕ} {la lb : Line} → Closed a la → Closed b lb → Closed (a ++ b) (la ++ lb)
closed_closed {a} {b} {la} {lb} p q = record { read = λ rest. joins a b la lb rest (p.read (b ++ rest)) (q.read rest) }

pub open_closed : {a b : List ℕ} {la lb : Line} → Open a la → Closed b lb → Apart b → Closed (a ++ b) (la ++ lb)
open_closed {a} {b} {la} {lb} p q apart = record { read = λ rest. joins a b la lb rest (p.read (b ++ rest) (apart rest)) (q.read rest) }

pub closed_open : {a b : List ℕ} {la lb : Line} → Closed a la → Open b lb → Open (a ++ b) (la ++ lb)
closed_open {a} {b} {la} {lb} p q = record { read = λ rest h. joins a b la lb rest (p.read (b ++ rest)) (q.read rest h) }

pub open_open : {a b : List ℕ} {la lb : Line} → Open a la → Open b lb → Apart b → Open (a ++ b) (la ++ lb)
open_open {a} {b} {la} {lb} p q apart = record { read = λ rest h. joins a b la lb rest (p.read (b ++ rest) (apart rest)) (q.read rest h) }

-- these bytes, which may be none, begin with no byte of a name, where none follows
abbrev pub Keeps : List ℕ → Type 0
Keeps bytes = (rest : List ℕ) → is_apart rest ≡ true → is_apart (bytes ++ rest) ≡ true

pub open_keeps : {a b : List ℕ} {la lb : Line} → Open a la → Open b lb → Keeps b → Open (a ++ b) (la ++ lb)
open_keeps {a} {b} {la} {lb} p q keeps = record { read = λ rest h. joins a b la lb rest (p.read (b ++ rest) (keeps rest h)) (q.read rest h) }

pub closed_as_open : {a : List ℕ} {la : Line} → Closed a la → Open a la
closed_as_open p = record { read = λ rest h. p.read rest }

pub closed_none : Closed [] []
closed_none = record { read = λ rest. refl }

-- ---- blanks

skipped : (c : ℕ) (rest : List ℕ) → is_blank c ≡ true → past_blanks (c ∷ rest) ≡ past_blanks rest
skipped c rest h = ap (λ (n : ℕ). drop n (c ∷ rest)) (ap length (take_while-cons is_blank c rest ∙ ap (λ (b : Bool). cond b (c ∷ take_while is_blank rest) []) h))

passed : (c : ℕ) (rest : List ℕ) → is_blank c ≡ true → lexemes (c ∷ rest) ≡ lexemes rest
passed c rest h = lexemes_open (c ∷ rest) ∙ ap (front_token lexemes) (skipped c rest h) ∙ sym (lexemes_open rest)

pub blank : (rest : List ℕ) → lexemes (32 ∷ rest) ≡ lexemes rest
blank rest = passed 32 rest refl

pub newline : (rest : List ℕ) → lexemes (10 ∷ rest) ≡ lexemes rest
newline rest = passed 10 rest refl

pub closed_blank : Closed (codes " ") []
closed_blank = record { read = blank }

pub closed_newline : Closed (10 ∷ []) []
closed_newline = record { read = newline }

-- ---- runs of bytes

fails_first : (ℕ → Bool) → List ℕ → Bool
fails_first p [] = true
fails_first p (c ∷ cs) = not (p c)

not_true : (b : Bool) → not b ≡ true → b ≡ false
not_true true h = absurd cc
not_true false h = refl

none_taken : (p : ℕ → Bool) (rest : List ℕ) → fails_first p rest ≡ true → take_while p rest ≡ []
unfolding fails_first
none_taken p [] h = refl
none_taken p (c ∷ cs) h = take_while-cons p c cs ∙ ap (λ (b : Bool). cond b (c ∷ take_while p cs) []) (not_true (p c) h)

all_taken : (p : ℕ → Bool) (xs rest : List ℕ) → list_all p xs ≡ true → fails_first p rest ≡ true → take_while p (xs ++ rest) ≡ xs
all_taken p [] rest h k = none_taken p rest k
all_taken p (x ∷ xs) rest h k =
    let b = both_true (p x) (list_all p xs) h in
    take_while-cons p x (xs ++ rest) ∙ ap (λ (b : Bool). cond b (x ∷ take_while p (xs ++ rest)) []) b.0 ∙ ap (λ (ys : List ℕ). x ∷ ys) (all_taken p xs rest b.1 k)

-- ---- bytes told apart by a test

differs : (f : ℕ → Bool) (c d : ℕ) → f c ≡ true → f d ≡ false → nat_eq d c ≡ false
differs f c d h k = by_tell (eqb_tells d c)
  where
    by_tell : ((nat_eq d c ≡ true) × (d ≡ c)) ⊎ ((nat_eq d c ≡ false) × (d ≡ c → ⊥)) → nat_eq d c ≡ false
    by_tell (inl (e, same)) = absurd (let s : f d ≡ f c = ap f same in cc)
    by_tell (inr (e, apart)) = e

turned : (f : ℕ → Bool) (c d : ℕ) → f c ≡ true → f d ≡ false → nat_eq c d ≡ false
turned f c d h k = by_tell (eqb_tells c d)
  where
    by_tell : ((nat_eq c d ≡ true) × (c ≡ d)) ⊎ ((nat_eq c d ≡ false) × (c ≡ d → ⊥)) → nat_eq c d ≡ false
    by_tell (inl (e, same)) = absurd (let s : f c ≡ f d = ap f same in cc)
    by_tell (inr (e, apart)) = e

any_four : (a b c d : Bool) → a ≡ false → b ≡ false → c ≡ false → d ≡ false → (a || (b || (c || (d || false)))) ≡ false
any_four a b c d p q r s = rw (p, q, r, s) refl

not_begun : (d c : ℕ) (ds t : List ℕ) → nat_eq d c ≡ false → begins (c ∷ t) (d ∷ ds) ≡ false
not_begun d c ds t h = ap (λ (b : Bool). b && pointwise nat_eq ds (take (length ds) t)) h

-- a byte of this test is no blank
no_blank : (f : ℕ → Bool) (c : ℕ) → f c ≡ true → f 32 ≡ false → f 9 ≡ false → f 10 ≡ false → f 13 ≡ false → is_blank c ≡ false
no_blank f c h b t n r = rw (turned f c 32 h b, turned f c 9 h t, turned f c 10 h n, turned f c 13 h r) refl

not_passed : (c : ℕ) (t : List ℕ) → is_blank c ≡ false → past_blanks (c ∷ t) ≡ c ∷ t
not_passed c t h = ap (λ (n : ℕ). drop n (c ∷ t)) (ap length (take_while-cons is_blank c t ∙ ap (λ (b : Bool). cond b (c ∷ take_while is_blank t) []) h))

-- ---- names and words

chosen : (f l d : Bool) (x y z w : Lexeme × ℕ) → f ≡ false → l ≡ true → (if f then x else if l then y else if d then z else w) ≡ y
chosen false true d x y z w p q = refl
chosen true l d x y z w p q = absurd cc
chosen false false d x y z w p q = absurd cc

by_letter : (c : ℕ) (t : List ℕ) → is_letter c ≡ true → token_at c (c ∷ t) ≡ (name_or (take_while is_name_byte (c ∷ t)) (key_of (take_while is_name_byte (c ∷ t))), run is_name_byte (c ∷ t))
by_letter c t h = chosen (list_any (begins (c ∷ t)) foreign) (is_letter c) (is_digit c) (other, 1)
    (name_or (take_while is_name_byte (c ∷ t)) (key_of (take_while is_name_byte (c ∷ t))), run is_name_byte (c ∷ t))
    (digits (take_while is_digit (c ∷ t)), run is_digit (c ∷ t)) (sign_or (sign_at (c ∷ t)))
    (any_four (begins (c ∷ t) (codes "/*")) (begins (c ∷ t) (codes "//")) (begins (c ∷ t) (codes "++")) (begins (c ∷ t) (codes "0x"))
    (not_begun 47 c (42 ∷ []) t (differs is_letter c 47 h refl)) (not_begun 47 c (47 ∷ []) t (differs is_letter c 47 h refl))
    (not_begun 43 c (43 ∷ []) t (differs is_letter c 43 h refl)) (not_begun 48 c (120 ∷ []) t (differs is_letter c 48 h refl))) h

abbrev front_of : Lexeme × ℕ → List ℕ → Line
front_of v text = v.0 ∷ lexemes (drop v.1 text)

apart_fails : (rest : List ℕ) → is_apart rest ≡ true → fails_first is_name_byte rest ≡ true
unfolding fails_first
apart_fails [] h = refl
apart_fails (c ∷ cs) h = h

name_read : (c : ℕ) (cs rest : List ℕ) → is_letter c ≡ true → list_all is_name_byte (c ∷ cs) ≡ true → is_apart rest ≡ true → lexemes ((c ∷ cs) ++ rest) ≡ name_or (c ∷ cs) (key_of (c ∷ cs)) ∷ lexemes rest
name_read c cs rest h all apart =
    let x : List ℕ = c ∷ cs in
    let taken : take_while is_name_byte (x ++ rest) ≡ x = all_taken is_name_byte x rest all (apart_fails rest apart) in
    lexemes_open (x ++ rest)
    ∙ ap (front_token lexemes) (not_passed c (cs ++ rest) (no_blank is_letter c h refl refl refl refl))
    ∙ ap (λ (v : Lexeme × ℕ). front_of v (x ++ rest)) (by_letter c (cs ++ rest) h)
    ∙ ap (λ (y : List ℕ). front_of (name_or y (key_of y), length y) (x ++ rest)) taken
    ∙ ap (λ (r : List ℕ). name_or x (key_of x) ∷ lexemes r) (drop-append_seam x rest)

pub word_open : (x : List ℕ) (k : Key) → begins_name x ≡ true → key_of x ≡ Some k → Open x (word k ∷ [])
word_open [] k h e = absurd cc
word_open (c ∷ cs) k h e =
    let b = both_true (is_letter c) (list_all is_name_byte cs) h in
    record { read = λ rest apart. name_read c cs rest b.0 (rw (b.0, b.1) refl) apart ∙ ap (λ (o : Option Key). name_or (c ∷ cs) o ∷ lexemes rest) e }

pub name_open : (x : List ℕ) → begins_name x ≡ true → key_of x ≡ None → Open x (name x ∷ [])
name_open [] h e = absurd cc
name_open (c ∷ cs) h e =
    let b = both_true (is_letter c) (list_all is_name_byte cs) h in
    record { read = λ rest apart. name_read c cs rest b.0 (rw (b.0, b.1) refl) apart ∙ ap (λ (o : Option Key). name_or (c ∷ cs) o ∷ lexemes rest) e }

none_found : {X : Type 0} (p : X → Bool) (xs : List X) → list_any p xs ≡ false → find p xs ≡ None
none_found p [] h = refl
none_found {X} p (x ∷ xs) h = by_test (none_found p xs) (p x) h
  where
    by_test : (list_any p xs ≡ false → find p xs ≡ None) → (b : Bool) → (b || list_any p xs) ≡ false → cond b (Some x) (find p xs) ≡ None
    by_test below true k = absurd cc
    by_test below false k = below k

both_parts : (a b : Bool) → IsTrue (a && not b) → (a ≡ true) × (b ≡ false)
both_parts true false h = (refl, refl)
both_parts true true h = absurd cc
both_parts false b h = absurd cc

pub open_name : (x : List ℕ) → IsName x → Open x (name x ∷ [])
open_name x h =
    let b = both_parts (begins_name x) (list_any (bytes_eq x) reserved) h in
    name_open x b.0 (none_found (λ (k : Key). bytes_eq x (key_text k)) keys b.1)

-- ---- digits

not_letter : (c : ℕ) → is_digit c ≡ true → is_letter c ≡ false
not_letter c h = grind (arith, nat_tests)

no_second : (cs rest : List ℕ) → list_all is_digit cs ≡ true → is_apart rest ≡ true → pointwise nat_eq (120 ∷ []) (take 1 (cs ++ rest)) ≡ false
no_second [] [] h k = refl
no_second [] (r ∷ rs) h k = ap (λ (b : Bool). b && pointwise nat_eq [] (take 0 rs)) (differs (λ (c : ℕ). not (is_name_byte c)) r 120 k refl)
no_second (d ∷ ds) rest h k = ap (λ (b : Bool). b && pointwise nat_eq [] (take 0 (ds ++ rest))) (differs is_digit d 120 (both_true (is_digit d) (list_all is_digit ds) h).0 refl)

second_false : (a b : Bool) → b ≡ false → (a && b) ≡ false
second_false true b h = h
second_false false b h = refl

chosen_digits : (f l d : Bool) (x y z w : Lexeme × ℕ) → f ≡ false → l ≡ false → d ≡ true → (if f then x else if l then y else if d then z else w) ≡ z
chosen_digits false false true x y z w p q r = refl
chosen_digits true l d x y z w p q r = absurd cc
chosen_digits false true d x y z w p q r = absurd cc
chosen_digits false false false x y z w p q r = absurd cc

by_digit : (c : ℕ) (t : List ℕ) → is_digit c ≡ true → pointwise nat_eq (120 ∷ []) (take 1 t) ≡ false → token_at c (c ∷ t) ≡ (digits (take_while is_digit (c ∷ t)), run is_digit (c ∷ t))
by_digit c t h k = chosen_digits (list_any (begins (c ∷ t)) foreign) (is_letter c) (is_digit c) (other, 1)
    (name_or (take_while is_name_byte (c ∷ t)) (key_of (take_while is_name_byte (c ∷ t))), run is_name_byte (c ∷ t))
    (digits (take_while is_digit (c ∷ t)), run is_digit (c ∷ t)) (sign_or (sign_at (c ∷ t)))
    (any_four (begins (c ∷ t) (codes "/*")) (begins (c ∷ t) (codes "//")) (begins (c ∷ t) (codes "++")) (begins (c ∷ t) (codes "0x"))
    (not_begun 47 c (42 ∷ []) t (differs is_digit c 47 h refl)) (not_begun 47 c (47 ∷ []) t (differs is_digit c 47 h refl))
    (not_begun 43 c (43 ∷ []) t (differs is_digit c 43 h refl)) (second_false (nat_eq 48 c) (pointwise nat_eq (120 ∷ []) (take 1 t)) k)) (not_letter c h) h

none_digit : (rest : List ℕ) → is_apart rest ≡ true → fails_first is_digit rest ≡ true
unfolding fails_first
none_digit [] h = refl
none_digit (c ∷ cs) h = by_both (is_letter c) (is_digit c) h
  where
    by_both : (a b : Bool) → not (a || b) ≡ true → not b ≡ true
    by_both true b k = absurd cc
    by_both false b k = k

digits_read : (c : ℕ) (cs rest : List ℕ) → list_all is_digit (c ∷ cs) ≡ true → is_apart rest ≡ true → lexemes ((c ∷ cs) ++ rest) ≡ digits (c ∷ cs) ∷ lexemes rest
digits_read c cs rest all apart =
    let x : List ℕ = c ∷ cs in
    let b = both_true (is_digit c) (list_all is_digit cs) all in
    let taken : take_while is_digit (x ++ rest) ≡ x = all_taken is_digit x rest all (none_digit rest apart) in
    lexemes_open (x ++ rest)
    ∙ ap (front_token lexemes) (not_passed c (cs ++ rest) (no_blank is_digit c b.0 refl refl refl refl))
    ∙ ap (λ (v : Lexeme × ℕ). front_of v (x ++ rest)) (by_digit c (cs ++ rest) b.0 (no_second cs rest b.1 apart))
    ∙ ap (λ (y : List ℕ). front_of (digits y, length y) (x ++ rest)) taken
    ∙ ap (λ (r : List ℕ). digits x ∷ lexemes r) (drop-append_seam x rest)

pub digits_open : (ds : List ℕ) → 0 < length ds → list_all is_digit ds ≡ true → Open ds (digits ds ∷ [])
digits_open [] h k = absurd (omega arith)
digits_open (c ∷ cs) h k = record { read = λ rest apart. digits_read c cs rest k apart }

-- ---- numbers

value_one_more : (n : ℕ) (ds : List ℕ) (d : ℕ) → value_behind n (ds ++ d ∷ []) ≡ 10 * value_behind n ds + (d - 48)
value_one_more n [] d = refl
value_one_more n (e ∷ ds) d = value_one_more (10 * n + (e - 48)) ds d

all_one_more : (ds : List ℕ) (d : ℕ) → list_all is_digit ds ≡ true → is_digit d ≡ true → list_all is_digit (ds ++ d ∷ []) ≡ true
all_one_more [] d h k = rw k refl
all_one_more (e ∷ ds) d h k = let b = both_true (is_digit e) (list_all is_digit ds) h in rw (b.0, all_one_more ds d b.1 k) refl

a_digit : (m : ℕ) → m < 10 → is_digit (48 + m) ≡ true
a_digit m h = rw (le-leb 48 (48 + m) (omega arith), le-leb (48 + m) 57 (omega arith)) refl

pub record IsDecimal (n : ℕ) (ds : List ℕ) : Type 0 where
  pub all : list_all is_digit ds ≡ true
  pub value : value_of ds ≡ n
  pub some : 0 < length ds

pub decimal_is : (n : ℕ) → n < 2 ^ 64 → IsDecimal n (decimal n)
decimal_is = decimal_by_steps IsDecimal
    (λ m h. record { all = rw (a_digit m h) refl; value = omega arith; some = omega arith })
    (λ m ds h k. record {
      all = all_one_more ds (48 + m % 10) k.all (a_digit (m % 10) (omega arith));
      value = value_one_more 0 ds (48 + m % 10) ∙ omega (arith, k.value);
      some = omega (arith, length-append ds ((48 + m % 10) ∷ []));
    })

pub open_decimal : (n : ℕ) → n < 2 ^ 64 → Open (decimal n) (digits (decimal n) ∷ [])
open_decimal n h = let d = decimal_is n h in digits_open (decimal n) d.some d.all

-- ---- signs

pub closed_semicolon : Closed (codes ";") (mark sign.Semicolon ∷ [])
closed_semicolon = record { read = λ rest. lexemes_open (codes ";" ++ rest) }

pub closed_bracket : Closed (codes "(") (mark sign.Open ∷ [])
closed_bracket = record { read = λ rest. lexemes_open (codes "(" ++ rest) }

pub closed_end_bracket : Closed (codes ")") (mark sign.Close ∷ [])
closed_end_bracket = record { read = λ rest. lexemes_open (codes ")" ++ rest) }

pub closed_brace : Closed (codes "{") (mark sign.OpenBrace ∷ [])
closed_brace = record { read = λ rest. lexemes_open (codes "{" ++ rest) }

pub closed_end_brace : Closed (codes "}") (mark sign.CloseBrace ∷ [])
closed_end_brace = record { read = λ rest. lexemes_open (codes "}" ++ rest) }

pub closed_star : Closed (codes "*") (mark sign.Star ∷ [])
closed_star = record { read = λ rest. lexemes_open (codes "*" ++ rest) }

pub closed_and : Closed (codes "&") (mark sign.And ∷ [])
closed_and = record { read = λ rest. lexemes_open (codes "&" ++ rest) }

pub closed_dash : Closed (codes "-") (mark sign.Minus ∷ [])
closed_dash = record { read = λ rest. lexemes_open (codes "-" ++ rest) }

pub closed_comma : Closed (codes ", ") (mark sign.Comma ∷ [])
closed_comma = record { read = λ rest. lexemes_open (codes ", " ++ rest) ∙ ap (λ (l : Line). mark sign.Comma ∷ l) (blank rest) }

pub closed_colon : Closed (codes ": ") (mark sign.Colon ∷ [])
closed_colon = record { read = λ rest. lexemes_open (codes ": " ++ rest) ∙ ap (λ (l : Line). mark sign.Colon ∷ l) (blank rest) }

pub closed_assign : Closed (codes " = ") (mark sign.Assign ∷ [])
closed_assign = record { read = λ rest. lexemes_open (codes " = " ++ rest) ∙ ap (λ (l : Line). mark sign.Assign ∷ l) (blank rest) }

pub closed_plus : Closed (codes " + ") (mark sign.Plus ∷ [])
closed_plus = record { read = λ rest. lexemes_open (codes " + " ++ rest) ∙ ap (λ (l : Line). mark sign.Plus ∷ l) (blank rest) }

pub closed_minus : Closed (codes " - ") (mark sign.Minus ∷ [])
closed_minus = record { read = λ rest. lexemes_open (codes " - " ++ rest) ∙ ap (λ (l : Line). mark sign.Minus ∷ l) (blank rest) }

pub closed_times : Closed (codes " * ") (mark sign.Star ∷ [])
closed_times = record { read = λ rest. lexemes_open (codes " * " ++ rest) ∙ ap (λ (l : Line). mark sign.Star ∷ l) (blank rest) }

pub closed_slash : Closed (codes " / ") (mark sign.Slash ∷ [])
closed_slash = record { read = λ rest. lexemes_open (codes " / " ++ rest) ∙ ap (λ (l : Line). mark sign.Slash ∷ l) (blank rest) }

pub closed_percent : Closed (codes " % ") (mark sign.Percent ∷ [])
closed_percent = record { read = λ rest. lexemes_open (codes " % " ++ rest) ∙ ap (λ (l : Line). mark sign.Percent ∷ l) (blank rest) }

pub closed_bar : Closed (codes " | ") (mark sign.Bar ∷ [])
closed_bar = record { read = λ rest. lexemes_open (codes " | " ++ rest) ∙ ap (λ (l : Line). mark sign.Bar ∷ l) (blank rest) }

pub closed_brace_between : Closed (codes " { ") (mark sign.OpenBrace ∷ [])
closed_brace_between = record { read = λ rest. lexemes_open (codes " { " ++ rest) ∙ ap (λ (l : Line). mark sign.OpenBrace ∷ l) (blank rest) }

abbrev pub sign_of_rel : Rel → Sign
sign_of_rel rel.Eq = sign.Equal
sign_of_rel rel.Ne = sign.NotEqual
sign_of_rel rel.Lt = sign.Less
sign_of_rel rel.Le = sign.AtMost
sign_of_rel rel.Gt = sign.Greater
sign_of_rel rel.Ge = sign.AtLeast

pub closed_rel : (r : Rel) → Closed (rel_text r) (mark (sign_of_rel r) ∷ [])
closed_rel rel.Eq = record { read = λ rest. lexemes_open (codes " == " ++ rest) ∙ ap (λ (l : Line). mark sign.Equal ∷ l) (blank rest) }
closed_rel rel.Ne = record { read = λ rest. lexemes_open (codes " != " ++ rest) ∙ ap (λ (l : Line). mark sign.NotEqual ∷ l) (blank rest) }
closed_rel rel.Lt = record { read = λ rest. lexemes_open (codes " < " ++ rest) ∙ ap (λ (l : Line). mark sign.Less ∷ l) (blank rest) }
closed_rel rel.Le = record { read = λ rest. lexemes_open (codes " <= " ++ rest) ∙ ap (λ (l : Line). mark sign.AtMost ∷ l) (blank rest) }
closed_rel rel.Gt = record { read = λ rest. lexemes_open (codes " > " ++ rest) ∙ ap (λ (l : Line). mark sign.Greater ∷ l) (blank rest) }
closed_rel rel.Ge = record { read = λ rest. lexemes_open (codes " >= " ++ rest) ∙ ap (λ (l : Line). mark sign.AtLeast ∷ l) (blank rest) }

-- a word and the blank behind it
pub closed_word : (x : List ℕ) (k : Key) → begins_name x ≡ true → key_of x ≡ Some k → Closed (x ++ codes " ") (word k ∷ [])
closed_word x k h e = open_closed (word_open x k h e) closed_blank (λ rest. refl)
