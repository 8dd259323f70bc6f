-- What the lexer of CoreC and C finds in front of a text is the token of the grammar there.
use Rattle.std.proofs.Common.{◌≡◌, ℕ, zero, suc, ◌+◌, ◌-◌, ◌<◌, ◌≤◌, ◌^◌, Bool, true, false, cond, ◌||◌, nat_eq, nat_lt, nat_le, min, List, [], ◌∷◌, codes, length, take, drop, get_or, Option, Some, None, Result, Ok, Err, refl, sym, ap, subst, ◌∙◌, arith, length-take}
use Rattle.std.proofs.lemmas.List.{take_all}
use Rattle.std.proofs.lemmas.List.Folds.{length-prefix_len}
use Rattle.std.proofs.lemmas.Bool.Decides.{nat_tests}
use Rattle.std.specs.List.{list_any, take_while}
use Rattle.cv_core.specs.Grammar.{is_letter, is_digit}
use Rattle.cv_lex.specs.Parts.{Fits, begun, is_hexadecimal, marked, number, part_or, plain, sign, sized}
use Rattle.cv_lex.specs.Tokens.{Cursor, Piece, first_answer, first_of, tokens_behind, tokens_from}
use Rattle.cv_lex.specs.Given.{OnToken, end_of}
use Rattle.cv_lex.specs.declared.token.Token.{Token}
use Rattle.cv_lex.specs.declared.begin.Front.{Front}
use Rattle.cv_lex.specs.declared.begin.Front.TheVariants as front
use Rattle.cv_lex.specs.declared.token.LexFault.{LexFault}
use Rattle.cv_lex.specs.declared.token.LexRule.TheVariants as rule
use Rattle.cv_lex.specs.declared.token.TokenKind.{TokenKind}
use Rattle.cv_lex.specs.declared.token.TokenKind.TheVariants as kind
use Rattle.cv_lex.proofs.Fits.{begun_fits}
use Rattle.cv_text.specs.Lexed.{fault_lexed, lexed, number_lexed, token_lexed, word_lexed}
use Rattle.cv_text.specs.Spelling.{foreign}
use Rattle.cv_text.specs.Tokens.{Lexeme, begins, digits, is_blank, is_name_byte, key_of, name_or, other, run, sign_at, sign_or, token_at}
use Rattle.cv_text.specs.Seen.{begins_blank}
use Rattle.cv_text.proofs.Lexing.{run_opens, stands}

-- ---- what begins is what is found

-- what begins `part`, the front of the text, is to the grammar
abbrev by_front : List ℕ → List ℕ → Front → Lexeme × ℕ
by_front text part (front.Part k n) = token_lexed text k (take n part)
by_front text part (front.Broken r) = fault_lexed text r

answer_is : (text : List ℕ) (c : ℕ) (cs : List ℕ) → is_blank c ≡ false → lexed text (first_answer (tokens_from (record { source = c ∷ cs; at = 0 }))) ≡ by_front text (c ∷ cs) (begun true c (c ∷ cs))
unfolding tokens_behind
answer_is text c cs h =
    ap (λ (b : Bool). lexed text (first_answer (cond b (tokens_behind (c ∷ cs) 0 1 cs) (first_of (c ∷ cs) 0 (c ∷ cs) (begun true c (c ∷ cs)) (λ n. tokens_behind (c ∷ cs) (n - 1) 1 cs))))) h
    ∙ by_kind (begun true c (c ∷ cs))
  where
    by_kind : (f : Front) → lexed text (first_answer (first_of (c ∷ cs) 0 (c ∷ cs) f (λ n. tokens_behind (c ∷ cs) (n - 1) 1 cs))) ≡ by_front text (c ∷ cs) f
    by_kind (front.Part k n) = refl
    by_kind (front.Broken r) = refl

-- ---- words

-- a run of which the front is cut
run_goes_on : (p : ℕ → Bool) (b : ℕ) (text : List ℕ) → run p (take b text) + run p (drop (run p (take b text)) text) ≡ run p text
run_goes_on p zero text = omega arith
run_goes_on p (suc b) [] = omega arith
run_goes_on p (suc b) (c ∷ cs) = by_test (run_goes_on p b cs) (p c) refl
  where
    by_test : run p (take b cs) + run p (drop (run p (take b cs)) cs) ≡ run p cs → (t : Bool) → p c ≡ t → run p (c ∷ take b cs) + run p (drop (run p (c ∷ take b cs)) (c ∷ cs)) ≡ run p (c ∷ cs)
    by_test below true e =
        let cut : run p (c ∷ take b cs) ≡ suc (run p (take b cs)) = run_opens p c (take b cs) true e in
        let whole : run p (c ∷ cs) ≡ suc (run p cs) = run_opens p c cs true e in
        let left : run p (drop (run p (c ∷ take b cs)) (c ∷ cs)) ≡ run p (drop (run p (take b cs)) cs) = ap (λ (n : ℕ). run p (drop n (c ∷ cs))) cut in
        omega (arith, cut, whole, left, below)
    by_test below false e =
        let cut : run p (c ∷ take b cs) ≡ 0 = run_opens p c (take b cs) false e in
        let left : run p (drop (run p (c ∷ take b cs)) (c ∷ cs)) ≡ run p (c ∷ cs) = ap (λ (n : ℕ). run p (drop n (c ∷ cs))) cut in
        omega (arith, cut, left)

taken_length : (n : ℕ) (xs : List ℕ) → n ≤ length xs → length (take n xs) ≡ n
taken_length n xs h = omega (arith, length-take n xs)

abbrev named : List ℕ → ℕ → Lexeme × ℕ
named text n = (name_or (take n text) (key_of (take n text)), n)

word_is : (b : ℕ) (text : List ℕ) → run is_name_byte (take b text) ≤ length (take b text)
    → token_lexed text kind.Word (take (run is_name_byte (take b text)) (take b text)) ≡ (name_or (take_while is_name_byte text) (key_of (take_while is_name_byte text)), run is_name_byte text)
word_is b text h =
    ap (word_lexed text) (taken_length (run is_name_byte (take b text)) (take b text) h) ∙ ap (named text) (run_goes_on is_name_byte b text)
    ∙ ap (λ (x : List ℕ). (name_or x (key_of x), run is_name_byte text)) (ap (λ (n : ℕ). take n text) (length-prefix_len is_name_byte text))

-- ---- numbers

sized_is : (text part : List ℕ) (v n : ℕ) → by_front text part (sized v n) ≡ number_lexed text
sized_is text part v n = by_test (nat_lt (2 ^ 31) v)
  where
    by_test : (b : Bool) → by_front text part (cond b (front.Broken rule.WideNumber) (front.Part kind.Number n)) ≡ number_lexed text
    by_test true = refl
    by_test false = refl

number_is : (text part : List ℕ) → by_front text part (number part) ≡ number_lexed text
number_is text part = by_test (is_hexadecimal part) _ _ _ _
  where
    by_test : (b : Bool) (v n u m : ℕ) → by_front text part (cond b (sized v n) (sized u m)) ≡ number_lexed text
    by_test true v n u m = sized_is text part v n
    by_test false v n u m = sized_is text part u m

-- ---- comments, texts and characters

ended_is : (text part : List ℕ) (o : Option ℕ) → by_front text part (part_or kind.Comment rule.OpenComment o) ≡ (other, 1)
ended_is text part None = refl
ended_is text part (Some n) = refl

quoted_is : (text part : List ℕ) (k : TokenKind) (o : Option ℕ) → ((s : List ℕ) → token_lexed text k s ≡ (other, 1)) → by_front text part (part_or k rule.OpenText o) ≡ (other, 1)
quoted_is text part k None h = refl
quoted_is text part k (Some n) h = h (take n part)

-- ---- bytes

-- the grammar's token is found at each text that begins with the byte, of which the lexer is given at least two bytes
abbrev Found : ℕ → ℕ → Type 0
Found m c = (cs : List ℕ) → by_front (c ∷ cs) (c ∷ take (suc m) cs) (begun true c (c ∷ take (suc m) cs)) ≡ token_at c (c ∷ cs)

abbrev Each : (ℕ → Type 0) → List ℕ → Type 0
Each P [] = Unit {0}
Each P (x ∷ xs) = P x × Each P xs

among : (P : ℕ → Type 0) (c : ℕ) (xs : List ℕ) → Each P xs → list_any (nat_eq c) xs ≡ true → P c
among P c [] h e = absurd cc
among P c (x ∷ xs) h e = by_test (λ g. among P c xs h.1 g) (nat_eq c x) refl e
  where
    same : (a b : ℕ) → nat_eq a b ≡ true → b ≡ a
    same a b k = grind (arith, nat_tests)

    by_test : (list_any (nat_eq c) xs ≡ true → P c) → (b : Bool) → nat_eq c x ≡ b → (b || list_any (nat_eq c) xs) ≡ true → P c
    by_test below true k g = subst P (same c x k) h.0
    by_test below false k g = below g

-- ---- signs and marks

equal_found : (m : ℕ) → Found m 61
equal_found m [] = refl
equal_found m (d ∷ ds) = by_test (nat_eq 61 d) refl
  where
    by_test : (b : Bool) → nat_eq 61 d ≡ b → by_front (61 ∷ d ∷ ds) (61 ∷ d ∷ take m ds) (begun true 61 (61 ∷ d ∷ take m ds)) ≡ token_at 61 (61 ∷ d ∷ ds)
    by_test true e = rw (e, e) refl
    by_test false e = rw e refl

less_found : (m : ℕ) → Found m 60
less_found m [] = refl
less_found m (d ∷ ds) = by_test (nat_eq 61 d) refl
  where
    by_test : (b : Bool) → nat_eq 61 d ≡ b → by_front (60 ∷ d ∷ ds) (60 ∷ d ∷ take m ds) (begun true 60 (60 ∷ d ∷ take m ds)) ≡ token_at 60 (60 ∷ d ∷ ds)
    by_test true e = rw (e, e) refl
    by_test false e = rw e refl

greater_found : (m : ℕ) → Found m 62
greater_found m [] = refl
greater_found m (d ∷ ds) = by_test (nat_eq 61 d) refl
  where
    by_test : (b : Bool) → nat_eq 61 d ≡ b → by_front (62 ∷ d ∷ ds) (62 ∷ d ∷ take m ds) (begun true 62 (62 ∷ d ∷ take m ds)) ≡ token_at 62 (62 ∷ d ∷ ds)
    by_test true e = rw (e, e) refl
    by_test false e = rw e refl

bang_found : (m : ℕ) → Found m 33
bang_found m [] = refl
bang_found m (d ∷ ds) = by_test (nat_eq 61 d) refl
  where
    by_test : (b : Bool) → nat_eq 61 d ≡ b → by_front (33 ∷ d ∷ ds) (33 ∷ d ∷ take m ds) (begun true 33 (33 ∷ d ∷ take m ds)) ≡ token_at 33 (33 ∷ d ∷ ds)
    by_test true e = rw (e, e) refl
    by_test false e = rw e refl

both_found : (m : ℕ) → Found m 38
both_found m [] = refl
both_found m (d ∷ ds) = by_test (nat_eq 38 d) refl
  where
    by_test : (b : Bool) → nat_eq 38 d ≡ b → by_front (38 ∷ d ∷ ds) (38 ∷ d ∷ take m ds) (begun true 38 (38 ∷ d ∷ take m ds)) ≡ token_at 38 (38 ∷ d ∷ ds)
    by_test true e = rw e refl
    by_test false e = rw e refl

bar_found : (m : ℕ) → Found m 124
bar_found m [] = refl
bar_found m (d ∷ ds) = by_test (nat_eq 124 d) refl
  where
    by_test : (b : Bool) → nat_eq 124 d ≡ b → by_front (124 ∷ d ∷ ds) (124 ∷ d ∷ take m ds) (begun true 124 (124 ∷ d ∷ take m ds)) ≡ token_at 124 (124 ∷ d ∷ ds)
    by_test true e = rw e refl
    by_test false e = rw e refl

plus_found : (m : ℕ) → Found m 43
plus_found m [] = refl
plus_found m (d ∷ ds) = by_test (nat_eq 43 d) (nat_eq 61 d) refl refl
  where
    by_test : (a b : Bool) → nat_eq 43 d ≡ a → nat_eq 61 d ≡ b → by_front (43 ∷ d ∷ ds) (43 ∷ d ∷ take m ds) (begun true 43 (43 ∷ d ∷ take m ds)) ≡ token_at 43 (43 ∷ d ∷ ds)
    by_test true b e f = rw (e, e) refl
    by_test false true e f = rw (e, f, e) refl
    by_test false false e f = rw (e, f) refl

minus_found : (m : ℕ) → Found m 45
minus_found m [] = refl
minus_found m (d ∷ ds) = by_test (nat_eq 45 d) (nat_eq 61 d) refl refl
  where
    by_test : (a b : Bool) → nat_eq 45 d ≡ a → nat_eq 61 d ≡ b → by_front (45 ∷ d ∷ ds) (45 ∷ d ∷ take m ds) (begun true 45 (45 ∷ d ∷ take m ds)) ≡ token_at 45 (45 ∷ d ∷ ds)
    by_test true b e f = rw e refl
    by_test false true e f = rw (e, f) refl
    by_test false false e f = rw (e, f) refl

slash_found : (m : ℕ) → Found m 47
slash_found m [] = refl
slash_found m (d ∷ ds) = by_test (nat_eq 47 d) (nat_eq 42 d) refl refl
  where
    by_test : (a b : Bool) → nat_eq 47 d ≡ a → nat_eq 42 d ≡ b → by_front (47 ∷ d ∷ ds) (47 ∷ d ∷ take m ds) (begun true 47 (47 ∷ d ∷ take m ds)) ≡ token_at 47 (47 ∷ d ∷ ds)
    by_test true true e f = rw (e, f) refl
    by_test true false e f = rw (e, f) refl
    by_test false true e f = rw (e, f) (ended_is (47 ∷ d ∷ ds) (47 ∷ d ∷ take m ds) _)
    by_test false false e f = rw (e, f) refl

text_found : (m : ℕ) → Found m 34
text_found m cs = quoted_is (34 ∷ cs) (34 ∷ take (suc m) cs) kind.Text _ (λ s. refl)

character_found : (m : ℕ) → Found m 39
character_found m cs = quoted_is (39 ∷ cs) (39 ∷ take (suc m) cs) kind.Character _ (λ s. refl)

-- the bytes with which a sign, a text, a character or a `#` line begins
abbrev special : List ℕ
special = codes "=<>+-*/%&|!,;:(){}[]\"'#"

specials_found : (m : ℕ) → Each (Found m) special
specials_found m = (equal_found m, (less_found m, (greater_found m, (plus_found m, (minus_found m, ((λ cs. refl), (slash_found m, ((λ cs. refl), (both_found m, (bar_found m, (bang_found m, ((λ cs. refl), ((λ cs. refl), ((λ cs. refl), ((λ cs. refl), ((λ cs. refl), ((λ cs. refl), ((λ cs. refl), ((λ cs. refl), ((λ cs. refl), (text_found m, (character_found m, ((λ cs. refl), tt)))))))))))))))))))))))

-- ---- words, numbers, and what begins nothing

abbrev Other : ℕ → Type 0
Other c = list_any (nat_eq c) special ≡ false

-- the byte is none of those
not_it : (c x : ℕ) → Other c → list_any (nat_eq x) special ≡ true → nat_eq x c ≡ false
not_it c x e f = by_test (nat_eq x c) refl
  where
    same : (a b : ℕ) → nat_eq a b ≡ true → a ≡ b
    same a b k = grind (arith, nat_tests)

    by_test : (b : Bool) → nat_eq x c ≡ b → nat_eq x c ≡ false
    by_test false k = k
    by_test true k = let both : true ≡ false = sym f ∙ ap (λ (y : ℕ). list_any (nat_eq y) special) (same x c k) ∙ e in absurd cc

turned : (a b : ℕ) → nat_eq a b ≡ false → nat_eq b a ≡ false
turned a b h = grind (arith, nat_tests)

it_is_not : (c x : ℕ) → Other c → list_any (nat_eq x) special ≡ true → nat_eq c x ≡ false
it_is_not c x e f = turned x c (not_it c x e f)

unmarked : (c : ℕ) (cs : List ℕ) → Other c → marked true c (c ∷ cs) ≡ None
unmarked c cs h =
    rw (it_is_not c 35 h refl, not_it c 47 h refl, it_is_not c 34 h refl, it_is_not c 39 h refl) refl

begins_plain : (c : ℕ) (cs : List ℕ) → Other c → begun true c (c ∷ cs) ≡ plain c (c ∷ cs)
begins_plain c cs h = rw (unmarked c cs h) refl

letter_is_no_zero : (c : ℕ) → is_letter c ≡ true → nat_eq 48 c ≡ false
letter_is_no_zero c h = grind (arith, nat_tests)

no_foreign : (c : ℕ) (cs : List ℕ) → Other c → nat_eq 48 c ≡ false → list_any (begins (c ∷ cs)) foreign ≡ false
no_foreign c cs h k = rw (not_it c 47 h refl, not_it c 43 h refl, k) refl

-- the two choices by their tests
abbrev by_tests : Bool → Bool → Bool → List ℕ → Lexeme × ℕ
by_tests is_foreign letter digit text = cond is_foreign (other, 1)
    (cond letter (name_or (take_while is_name_byte text) (key_of (take_while is_name_byte text)), run is_name_byte text) (cond digit (digits (take_while is_digit text), run is_digit text) (sign_or (sign_at text))))

abbrev plainly : Bool → Bool → ℕ → List ℕ → Front
plainly letter digit c text = cond letter (front.Part kind.Word (run is_name_byte text)) (cond digit (number text) (sign c text))

plain_is : (c : ℕ) (cs : List ℕ) (l d : Bool) → Other c → is_letter c ≡ l → is_digit c ≡ d → begun true c (c ∷ cs) ≡ plainly l d c (c ∷ cs)
plain_is c cs l d h e f = begins_plain c cs h ∙ ap (λ (b : Bool). plainly b (is_digit c) c (c ∷ cs)) e ∙ ap (λ (b : Bool). plainly l b c (c ∷ cs)) f

token_is : (c : ℕ) (cs : List ℕ) (a l d : Bool) → list_any (begins (c ∷ cs)) foreign ≡ a → is_letter c ≡ l → is_digit c ≡ d → by_tests a l d (c ∷ cs) ≡ token_at c (c ∷ cs)
token_is c cs a l d g e f = sym (ap (λ (b : Bool). by_tests b (is_letter c) (is_digit c) (c ∷ cs)) g ∙ ap (λ (b : Bool). by_tests a b (is_digit c) (c ∷ cs)) e ∙ ap (λ (b : Bool). by_tests a l b (c ∷ cs)) f)

letter_found : (m c : ℕ) → Other c → is_letter c ≡ true → Found m c
letter_found m c h k cs =
    let part : List ℕ = c ∷ take (suc m) cs in
    let f : begun true c part ≡ front.Part kind.Word (run is_name_byte part) = plain_is c (take (suc m) cs) true (is_digit c) h k refl in
    let fits : Fits part (front.Part kind.Word (run is_name_byte part)) = subst (Fits part) f (begun_fits true c (take (suc m) cs)) in
    ap (by_front (c ∷ cs) part) f ∙ word_is (suc (suc m)) (c ∷ cs) fits.1 ∙ token_is c cs false true (is_digit c) (no_foreign c cs h (letter_is_no_zero c k)) k refl

digit_found : (m c : ℕ) → Other c → is_letter c ≡ false → is_digit c ≡ true → Found m c
digit_found m c h k l cs =
    ap (by_front (c ∷ cs) (c ∷ take (suc m) cs)) (plain_is c (take (suc m) cs) false true h k l) ∙ number_is (c ∷ cs) (c ∷ take (suc m) cs)
    ∙ token_is c cs (begins (c ∷ cs) (codes "0x")) false true only_prefix k l
  where
    last : (b : Bool) → (b || false) ≡ b
    last true = refl
    last false = refl

    only_prefix : list_any (begins (c ∷ cs)) foreign ≡ begins (c ∷ cs) (codes "0x")
    only_prefix = rw (not_it c 47 h refl, not_it c 43 h refl) (last (begins (c ∷ cs) (codes "0x")))

nothing_found : (m c : ℕ) → Other c → is_letter c ≡ false → is_digit c ≡ false → Found m c
nothing_found m c h k l cs =
    ap (by_front (c ∷ cs) (c ∷ take (suc m) cs)) (plain_is c (take (suc m) cs) false false h k l) ∙ bad_byte
    ∙ ap sign_or (sym no_sign) ∙ token_is c cs false false false (no_foreign c cs h (zero_is_digit c l)) k l
  where
    zero_is_digit : (c : ℕ) → is_digit c ≡ false → nat_eq 48 c ≡ false
    zero_is_digit c e = grind (arith, nat_tests)

    bad_byte : by_front (c ∷ cs) (c ∷ take (suc m) cs) (sign c (c ∷ take (suc m) cs)) ≡ (other, 1)
    bad_byte =
        rw (
          not_it c 61 h refl,
          not_it c 60 h refl,
          not_it c 62 h refl,
          not_it c 43 h refl,
          not_it c 45 h refl,
          not_it c 38 h refl,
          not_it c 124 h refl,
          not_it c 33 h refl,
          it_is_not c 61 h refl,
          it_is_not c 60 h refl,
          it_is_not c 62 h refl,
          it_is_not c 43 h refl,
          it_is_not c 45 h refl,
          it_is_not c 42 h refl,
          it_is_not c 47 h refl,
          it_is_not c 37 h refl,
          it_is_not c 38 h refl,
          it_is_not c 124 h refl,
          it_is_not c 33 h refl,
          it_is_not c 44 h refl,
          it_is_not c 59 h refl,
          it_is_not c 58 h refl,
          it_is_not c 40 h refl,
          it_is_not c 41 h refl,
          it_is_not c 123 h refl,
          it_is_not c 125 h refl,
          it_is_not c 91 h refl,
          it_is_not c 93 h refl,
        ) refl

    no_sign : sign_at (c ∷ cs) ≡ None
    no_sign =
        rw (
          not_it c 61 h refl,
          not_it c 60 h refl,
          not_it c 62 h refl,
          not_it c 43 h refl,
          not_it c 45 h refl,
          not_it c 42 h refl,
          not_it c 47 h refl,
          not_it c 37 h refl,
          not_it c 38 h refl,
          not_it c 124 h refl,
          not_it c 33 h refl,
          not_it c 44 h refl,
          not_it c 59 h refl,
          not_it c 58 h refl,
          not_it c 40 h refl,
          not_it c 41 h refl,
          not_it c 123 h refl,
          not_it c 125 h refl,
        ) refl

byte_found : (m c : ℕ) → Found m c
byte_found m c = by_test (list_any (nat_eq c) special) (is_letter c) (is_digit c) refl refl refl
  where
    by_test : (s l d : Bool) → list_any (nat_eq c) special ≡ s → is_letter c ≡ l → is_digit c ≡ d → Found m c
    by_test true l d e f g = among (Found m) c special (specials_found m) e
    by_test false true d e f g = letter_found m c e f
    by_test false false true e f g = digit_found m c e f g
    by_test false false false e f g = nothing_found m c e f g

-- ---- what the lexer answers

lexer_finds : (text : List ℕ) → 0 < length text → is_blank (get_or text 0 0) ≡ false
    → lexed text (first_answer (tokens_from (record { source = take 4294967294 text; at = 0 }))) ≡ token_at (get_or text 0 0) text
lexer_finds [] h k = absurd (omega arith)
lexer_finds (c ∷ cs) h k = answer_is (c ∷ cs) c (take 4294967293 cs) k ∙ byte_found 4294967292 c cs

pub found_is : (text part : List ℕ) (cursor : Cursor) (a : Result (Option Piece) LexFault) (v : Lexeme × ℕ) → 0 < length text → is_blank (get_or text 0 0) ≡ false
    → part ≡ take 4294967294 text → cursor ≡ record { source = part; at = 0 } → a ≡ first_answer (tokens_from cursor) → v ≡ lexed text a → v ≡ token_at (get_or text 0 0) text
found_is text part cursor a v h k is starts answers same =
    same ∙ ap (lexed text) answers ∙ ap (λ (c : Cursor). lexed text (first_answer (tokens_from c))) starts
    ∙ ap (λ (s : List ℕ). lexed text (first_answer (tokens_from (record { source = s; at = 0 })))) is ∙ lexer_finds text h k

-- behind the blanks stands none
pub first_no_blank : (text past : List ℕ) (at n : ℕ) → at ≤ length text → n ≡ run is_blank (drop at text) → past ≡ drop (at + n) text → is_blank (get_or past 0 0) ≡ false
first_no_blank text past at n h e p = subst (λ (u : List ℕ). is_blank (get_or u 0 0) ≡ false) (sym p) (at_front (drop (at + n) text) ((stands text at n h e).no_blank))
  where
    at_front : (u : List ℕ) → begins_blank u ≡ false → is_blank (get_or u 0 0) ≡ false
    at_front [] k = refl
    at_front (c ∷ cs) k = k

-- a token is within the text
pub found_within : (text part : List ℕ) (cursor : Cursor) (a : Result (Option Token) LexFault) (end : ℕ) → length part ≤ length text → cursor ≡ record { source = part; at = 0 }
    → OnToken a (λ t. (cursor.at ≤ t.at) × (0 < length t.text.now) × (end ≡ end_of t) × (end ≤ length cursor.source)) → OnToken a (λ t. (0 < length t.text.now) × (length t.text.now ≤ length text))
found_within text part cursor (Ok None) end h e k = tt
found_within text part cursor (Ok (Some t)) end h e k = (k.1, omega (arith, h, k.2, k.3, ap (λ (u : Cursor). length u.source) e))
found_within text part cursor (Err f) end h e k = tt

pub cut_is : (n : ℕ) (text : List ℕ) → n ≡ min (length text) 4294967294 → take n text ≡ take 4294967294 text
cut_is n text h = by_order (nat_le (length text) 4294967294) refl
  where
    by_order : (b : Bool) → nat_le (length text) 4294967294 ≡ b → take n text ≡ take 4294967294 text
    by_order true k = let short : length text ≤ 4294967294 = grind (arith, nat_tests) in take_all n text (omega (arith, h)) ∙ sym (take_all 4294967294 text short)
    by_order false k = let long : 4294967294 < length text = grind (arith, nat_tests) in let e : n ≡ 4294967294 = omega (arith, h) in ap (λ (i : ℕ). take i text) e
