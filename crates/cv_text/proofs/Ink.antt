-- The tokens of a text have together as many bytes as the text has bytes that are no blanks; so a place at which a token stands
-- is known by the tokens from it on.
use Rattle.std.proofs.Common.{◌≡◌, ℕ, zero, suc, ◌+◌, ◌-◌, ◌<◌, ◌≤◌, Bool, true, false, cond, not, ◌&&◌, ◌||◌, List, [], ◌∷◌, ◌++◌, length, take, drop, Option, Some, None, codes, refl, sym, ap, subst, ◌∙◌, arith, IsTrue, if◌then◌else◌, length-drop, length-take, ◌⊎◌, inl, inr}
use Rattle.std.specs.List.{list_any, list_all, take_while, find, prefix_len}
use Rattle.std.proofs.lemmas.List.Folds.{length-prefix_len}
use Rattle.std.proofs.lemmas.List.Sums.{take_while-cons, prefix_len-le-length}
use Rattle.std.proofs.lemmas.Slice.Eq.{bytes_eq-Decides}
use Rattle.std.proofs.lemmas.List.{take-append-drop, drop-drop}
use Rattle.std.specs.Str.{bytes_eq}
use Rattle.std.proofs.lemmas.Bool.Decides.{nat_tests}
use Rattle.cv_core.specs.Grammar.{is_letter, is_digit}
use Rattle.cv_text.specs.declared.token.Key.{Key}
use Rattle.cv_text.specs.declared.token.Sign.{Sign}
use Rattle.cv_text.specs.declared.token.Sign.TheVariants as sign
use Rattle.cv_text.specs.Spelling.{key_text, keys, sign_text, signs, foreign}
use Rattle.cv_text.specs.Tokens.{Lexeme, Line, name, word, digits, mark, other, begins, key_of, sign_at, sign_or, name_or, is_name_byte, is_blank, run, token_at, front_token, past_blanks, lexemes}
use Rattle.cv_text.specs.Seen.{begins_blank, StandsAt}
use Rattle.cv_text.proofs.Lexing.{lexemes_open, token_is_long, found_passes, run_opens, no_blank_left}

abbrev is_ink : ℕ → Bool
is_ink c = not (is_blank c)

-- how many bytes are no blanks
abbrev ink : List ℕ → ℕ
ink [] = 0
ink (c ∷ cs) = cond (is_ink c) (suc (ink cs)) (ink cs)

abbrev size : Lexeme → ℕ
size (name x) = length x
size (word k) = length (key_text k)
size (digits ds) = length ds
size (mark s) = length (sign_text s)
size other = 1

abbrev total : Line → ℕ
total [] = 0
total (t ∷ ts) = size t + total ts

ink-append : (a b : List ℕ) → ink (a ++ b) ≡ ink a + ink b
ink-append [] b = omega arith
ink-append (c ∷ cs) b = by_test (is_ink c) (ink-append cs b)
  where
    by_test : (t : Bool) → ink (cs ++ b) ≡ ink cs + ink b → cond t (suc (ink (cs ++ b))) (ink (cs ++ b)) ≡ cond t (suc (ink cs)) (ink cs) + ink b
    by_test true h = omega arith
    by_test false h = h

-- bytes of which none is a blank
all_ink : (xs : List ℕ) → list_all is_ink xs ≡ true → ink xs ≡ length xs
all_ink [] h = refl
all_ink (x ∷ xs) h = by_test (is_ink x) (list_all is_ink xs) h (all_ink xs)
  where
    by_test : (a b : Bool) → (a && b) ≡ true → (b ≡ true → ink xs ≡ length xs) → cond a (suc (ink xs)) (ink xs) ≡ suc (length xs)
    by_test true true k go = ap suc (go refl)
    by_test true false k go = absurd cc
    by_test false b k go = absurd cc

-- a front without blanks
front_ink : (n : ℕ) (text : List ℕ) → list_all is_ink (take n text) ≡ true → n ≤ length text → ink text ≡ n + ink (drop n text)
front_ink n text h long =
    let parts : ink text ≡ ink (take n text) + ink (drop n text) = ap ink (sym (take-append-drop n text)) ∙ ink-append (take n text) (drop n text) in
    let front : ink (take n text) ≡ length (take n text) = all_ink (take n text) h in
    omega (arith, parts, front, length-take n text)

-- ---- runs

implied : (p q : ℕ → Bool) → ((c : ℕ) → p c ≡ true → q c ≡ true) → (xs : List ℕ) → list_all p xs ≡ true → list_all q xs ≡ true
implied p q h [] k = refl
implied p q h (x ∷ xs) k = by_test (p x) (list_all p xs) refl refl k (implied p q h xs)
  where
    by_test : (a b : Bool) → p x ≡ a → list_all p xs ≡ b → (a && b) ≡ true → (list_all p xs ≡ true → list_all q xs ≡ true) → (q x && list_all q xs) ≡ true
    by_test true true e f g others = rw (h x e, others f) refl
    by_test true false e f g others = absurd cc
    by_test false b e f g others = absurd cc

all_pass : (p : ℕ → Bool) (cs : List ℕ) → list_all p (take_while p cs) ≡ true
all_pass p [] = refl
all_pass p (c ∷ cs) = by_test (all_pass p cs) (p c) refl
  where
    by_test : list_all p (take_while p cs) ≡ true → (b : Bool) → p c ≡ b → list_all p (take_while p (c ∷ cs)) ≡ true
    by_test below true e = ap (list_all p) (take_while-cons p c cs ∙ ap (λ (b : Bool). cond b (c ∷ take_while p cs) []) e) ∙ rw (e, below) refl
    by_test below false e = ap (list_all p) (take_while-cons p c cs ∙ ap (λ (b : Bool). cond b (c ∷ take_while p cs) []) e)

pub name_ink : (c : ℕ) → is_name_byte c ≡ true → is_ink c ≡ true
name_ink c h = grind (arith, nat_tests)

digit_ink : (c : ℕ) → is_digit c ≡ true → is_ink c ≡ true
digit_ink c h = grind (arith, nat_tests)

run_taken : (p : ℕ → Bool) (text : List ℕ) → take (run p text) text ≡ take_while p text
run_taken p text = ap (λ (n : ℕ). take n text) (length-prefix_len p text)

run_short : (p : ℕ → Bool) (text : List ℕ) → run p text ≤ length text
run_short p text = let e : run p text ≡ prefix_len p text = length-prefix_len p text in omega (arith, e, prefix_len-le-length p text)

run_ink : (p : ℕ → Bool) (text : List ℕ) → ((c : ℕ) → p c ≡ true → is_ink c ≡ true) → list_all is_ink (take (run p text) text) ≡ true
run_ink p text h = ap (list_all is_ink) (run_taken p text) ∙ implied p is_ink h (take_while p text) (all_pass p text)

-- ---- one token

-- as many bytes as the token has, of which none is a blank, begin the text
record Inked (v : Lexeme × ℕ) (text : List ℕ) : Type 0 where
  size_is : size v.0 ≡ v.1
  all : list_all is_ink (take v.1 text) ≡ true
  long : v.1 ≤ length text

name_size : (x : List ℕ) (o : Option Key) → key_of x ≡ o → size (name_or x o) ≡ length x
name_size x None h = refl
name_size x (Some k) h = ap length (sym ((bytes_eq-Decides x (key_text k)).0 (found_passes (λ (l : Key). bytes_eq x (key_text l)) keys k h)))

sign_ink : (s : Sign) → list_all is_ink (sign_text s) ≡ true
sign_ink sign.Equal = refl
sign_ink sign.NotEqual = refl
sign_ink sign.AtMost = refl
sign_ink sign.AtLeast = refl
sign_ink sign.Assign = refl
sign_ink sign.Less = refl
sign_ink sign.Greater = refl
sign_ink sign.Plus = refl
sign_ink sign.Minus = refl
sign_ink sign.Star = refl
sign_ink sign.Slash = refl
sign_ink sign.Percent = refl
sign_ink sign.And = refl
sign_ink sign.Bar = refl
sign_ink sign.Comma = refl
sign_ink sign.Semicolon = refl
sign_ink sign.Colon = refl
sign_ink sign.Open = refl
sign_ink sign.Close = refl
sign_ink sign.OpenBrace = refl
sign_ink sign.CloseBrace = refl

sign_inked : (c : ℕ) (cs : List ℕ) → is_ink c ≡ true → (o : Option Sign) → sign_at (c ∷ cs) ≡ o → Inked (sign_or o) (c ∷ cs)
sign_inked c cs h None e = record { size_is = refl; all = rw h refl; long = omega arith }
sign_inked c cs h (Some s) e =
    let begun : begins (c ∷ cs) (sign_text s) ≡ true = found_passes (λ (t : Sign). begins (c ∷ cs) (sign_text t)) signs s e in
    let front : sign_text s ≡ take (length (sign_text s)) (c ∷ cs) = (bytes_eq-Decides (sign_text s) (take (length (sign_text s)) (c ∷ cs))).0 begun in
    record { size_is = refl; all = ap (list_all is_ink) (sym front) ∙ sign_ink s; long = omega (arith, ap length front, length-take (length (sign_text s)) (c ∷ cs)) }

token_inked : (c : ℕ) (cs : List ℕ) → is_ink c ≡ true → Inked (token_at c (c ∷ cs)) (c ∷ cs)
token_inked c cs h = by_test (list_any (begins (c ∷ cs)) foreign) (is_letter c) (is_digit c)
  where
    by_test : (f l d : Bool) → Inked (if f then (other, 1) else if l then (name_or (take_while is_name_byte (c ∷ cs)) (key_of (take_while is_name_byte (c ∷ cs))), run is_name_byte (c ∷ cs)) else if d then (digits (take_while is_digit (c ∷ cs)), run is_digit (c ∷ cs)) else sign_or (sign_at (c ∷ cs))) (c ∷ cs)
    by_test true l d = record { size_is = refl; all = rw h refl; long = omega arith }
    by_test false true d = record { size_is = name_size (take_while is_name_byte (c ∷ cs)) (key_of (take_while is_name_byte (c ∷ cs))) refl; all = run_ink is_name_byte (c ∷ cs) name_ink; long = run_short is_name_byte (c ∷ cs) }
    by_test false false true = record { size_is = refl; all = run_ink is_digit (c ∷ cs) digit_ink; long = run_short is_digit (c ∷ cs) }
    by_test false false false = sign_inked c cs h (sign_at (c ∷ cs)) refl

-- ---- all tokens

blanks_without : (text : List ℕ) → ink (past_blanks text) ≡ ink text
blanks_without [] = refl
blanks_without (c ∷ cs) = by_test (is_blank c) refl (blanks_without cs)
  where
    by_test : (b : Bool) → is_blank c ≡ b → ink (past_blanks cs) ≡ ink cs → ink (drop (run is_blank (c ∷ cs)) (c ∷ cs)) ≡ cond (not (is_blank c)) (suc (ink cs)) (ink cs)
    by_test true h below = ap (λ (n : ℕ). ink (drop n (c ∷ cs))) (run_opens is_blank c cs true h) ∙ below ∙ sym (ap (λ (b : Bool). cond (not b) (suc (ink cs)) (ink cs)) h)
    by_test false h below = ap (λ (n : ℕ). ink (drop n (c ∷ cs))) (run_opens is_blank c cs false h)

ink_first : (c : ℕ) (cs : List ℕ) → is_blank c ≡ false → ink (c ∷ cs) ≡ suc (ink cs)
ink_first c cs h = ap (λ (b : Bool). cond (not b) (suc (ink cs)) (ink cs)) h

front_ink_of : (m : ℕ) (past : List ℕ) → ((rest : List ℕ) → length rest ≤ m → total (lexemes rest) ≡ ink rest) → length past ≤ suc m → begins_blank past ≡ false → total (front_token lexemes past) ≡ ink past
front_ink_of m [] go k b = refl
front_ink_of m (c ∷ cs) go k b =
    let t = token_inked c cs (ap not b) in
    let v : Lexeme × ℕ = token_at c (c ∷ cs) in
    let some : 0 < v.1 = token_is_long c cs in
    let rest : total (lexemes (drop v.1 (c ∷ cs))) ≡ ink (drop v.1 (c ∷ cs)) = go (drop v.1 (c ∷ cs)) (omega (arith, length-drop v.1 (c ∷ cs))) in
    let whole : ink (c ∷ cs) ≡ v.1 + ink (drop v.1 (c ∷ cs)) = front_ink v.1 (c ∷ cs) t.all t.long in
    ap (λ (n : ℕ). n + total (lexemes (drop v.1 (c ∷ cs)))) t.size_is ∙ ap (λ (n : ℕ). v.1 + n) rest ∙ sym whole

-- the tokens have together as many bytes as there are that are no blanks
ink_of : (n : ℕ) (text : List ℕ) → length text ≤ n → total (lexemes text) ≡ ink text
ink_of zero [] h = ap total (lexemes_open [])
ink_of zero (c ∷ cs) h = absurd (omega arith)
ink_of (suc m) text h =
    ap total (lexemes_open text) ∙ front_ink_of m (past_blanks text) (ink_of m) (omega (arith, length-drop (run is_blank text) text)) (no_blank_left text) ∙ blanks_without text

-- ---- the place of a token

ink_less : (n : ℕ) (xs : List ℕ) → ink (drop n xs) ≤ ink xs
ink_less n xs = omega (arith, ap ink (sym (take-append-drop n xs)), ink-append (take n xs) (drop n xs))

not_before : (text : List ℕ) (p q : ℕ) → StandsAt text p p → q ≤ length text → lexemes (drop p text) ≡ lexemes (drop q text) → p < q → ⊥
not_before text p q here within e lt = by_rest (drop p text) refl here.no_blank
  where
    by_rest : (rest : List ℕ) → drop p text ≡ rest → begins_blank rest ≡ false → ⊥
    by_rest [] same b = omega (arith, length-drop p text, ap length same)
    by_rest (c ∷ cs) same b =
        let n : ℕ = q - (p + 1) in
        let far : q ≡ p + (q - p) = omega arith in
        let near : q - p ≡ suc n = omega arith in
        let later : drop q text ≡ drop n cs = ap (λ (k : ℕ). drop k text) far ∙ sym (drop-drop (q - p) p text) ∙ ap (drop (q - p)) same ∙ ap (λ (k : ℕ). drop k (c ∷ cs)) near in
        let one : ink (c ∷ cs) ≡ suc (ink cs) = ink_first c cs b in
        let equal : ink (c ∷ cs) ≡ ink (drop n cs) = sym (ink_of (length (c ∷ cs)) (c ∷ cs) (omega arith)) ∙ ap total (ap lexemes (sym same) ∙ e ∙ ap lexemes later) ∙ ink_of (length (drop n cs)) (drop n cs) (omega arith) in
        omega (arith, one, equal, ink_less n cs)

-- a place at which a token stands, or the end, is known by the tokens from it on
pub one_place : (text : List ℕ) (p q : ℕ) → StandsAt text p p → StandsAt text q q → lexemes (drop p text) ≡ lexemes (drop q text) → p ≡ q
one_place text p q h k e = by_order (cases p q)
  where
    cases : (a b : ℕ) → (a < b) ⊎ ((a ≡ b) ⊎ (b < a))
    cases a b = grind arith

    by_order : (p < q) ⊎ ((p ≡ q) ⊎ (q < p)) → p ≡ q
    by_order (inl lt) = absurd (not_before text p q h k.within e lt)
    by_order (inr (inl same)) = same
    by_order (inr (inr lt)) = absurd (not_before text q p k h.within (sym e) lt)
