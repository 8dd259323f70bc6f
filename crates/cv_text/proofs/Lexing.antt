-- The tokens of a text are its first token and the tokens behind it.
use Rattle.std.proofs.Common.{◌≡◌, ℕ, zero, suc, ◌+◌, ◌-◌, ◌<◌, ◌≤◌, Bool, true, false, cond, ◌||◌, List, [], ◌∷◌, length, take, drop, Option, Some, None, refl, sym, ap, subst, ◌∙◌, arith, length-drop, length-take, get_or, if◌then◌else◌}
use Rattle.std.proofs.lemmas.List.{drop-drop, drop_all}
use Rattle.std.proofs.lemmas.List.Folds.{length-prefix_len}
use Rattle.std.proofs.lemmas.List.Sums.{prefix_len-le-length}
use Rattle.std.proofs.lemmas.Slice.Eq.{bytes_eq-Decides}
use Rattle.std.specs.List.{list_any, take_while, find, prefix_len}
use Rattle.std.proofs.lemmas.List.Sums.{take_while-cons}
use Rattle.cv_core.specs.Grammar.{is_letter, is_digit}
use Rattle.cv_text.specs.declared.token.Sign.{Sign}
use Rattle.cv_text.specs.declared.token.Sign.TheVariants as sign
use Rattle.cv_text.specs.Spelling.{sign_text, signs, foreign}
use Rattle.cv_text.specs.Tokens.{Lexeme, Line, begins, key_of, sign_at, sign_or, name_or, digits, other, is_name_byte, is_blank, run, token_at, front_token, past_blanks, first_tokens, lexemes}
use Rattle.cv_text.specs.Seen.{begins_blank, StandsAt}

-- ---- each token has a byte

sign_is_long : (s : Sign) → 0 < length (sign_text s)
sign_is_long sign.Equal = omega arith
sign_is_long sign.NotEqual = omega arith
sign_is_long sign.AtMost = omega arith
sign_is_long sign.AtLeast = omega arith
sign_is_long sign.Assign = omega arith
sign_is_long sign.Less = omega arith
sign_is_long sign.Greater = omega arith
sign_is_long sign.Plus = omega arith
sign_is_long sign.Minus = omega arith
sign_is_long sign.Star = omega arith
sign_is_long sign.Slash = omega arith
sign_is_long sign.Percent = omega arith
sign_is_long sign.And = omega arith
sign_is_long sign.Bar = omega arith
sign_is_long sign.Comma = omega arith
sign_is_long sign.Semicolon = omega arith
sign_is_long sign.Colon = omega arith
sign_is_long sign.Open = omega arith
sign_is_long sign.Close = omega arith
sign_is_long sign.OpenBrace = omega arith
sign_is_long sign.CloseBrace = omega arith

sign_or_is_long : (o : Option Sign) → 0 < (sign_or o).1
sign_or_is_long None = omega arith
sign_or_is_long (Some s) = sign_is_long s

run_is_long : (test : ℕ → Bool) (c : ℕ) (cs : List ℕ) → test c ≡ true → 0 < run test (c ∷ cs)
run_is_long test c cs h =
    let e : run test (c ∷ cs) ≡ suc (run test cs) = ap length (take_while-cons test c cs) ∙ ap (λ (b : Bool). length (cond b (c ∷ take_while test cs) [])) h in
    omega (arith, e)

either_true : (a b : Bool) → a ≡ true → (a || b) ≡ true
either_true true b h = refl
either_true false b h = absurd cc

pub token_is_long : (c : ℕ) (cs : List ℕ) → 0 < (token_at c (c ∷ cs)).1
token_is_long c cs = by_test (list_any (begins (c ∷ cs)) foreign) (is_letter c) (is_digit c) refl refl
  where
    by_test : (f l d : Bool) → is_letter c ≡ l → is_digit c ≡ d → 0 < (if f then (other, 1) else if l then (name_or (take_while is_name_byte (c ∷ cs)) (key_of (take_while is_name_byte (c ∷ cs))), run is_name_byte (c ∷ cs)) else if d then (digits (take_while is_digit (c ∷ cs)), run is_digit (c ∷ cs)) else sign_or (sign_at (c ∷ cs))).1
    by_test true l d h k = omega arith
    by_test false true d h k = run_is_long is_name_byte c cs (either_true (is_letter c) (is_digit c) h)
    by_test false false true h k = run_is_long is_digit c cs k
    by_test false false false h k = sign_or_is_long (sign_at (c ∷ cs))

-- ---- how many tokens are asked for makes no difference, where they are at least as many as the bytes

same_front : (m n : ℕ) (text : List ℕ) → ((rest : List ℕ) → length rest < length text → first_tokens m rest ≡ first_tokens n rest) → front_token (first_tokens m) text ≡ front_token (first_tokens n) text
same_front m n [] go = refl
same_front m n (c ∷ cs) go =
    let long : 0 < (token_at c (c ∷ cs)).1 = token_is_long c cs in
    let len : length (drop (token_at c (c ∷ cs)).1 (c ∷ cs)) ≡ length (c ∷ cs) - (token_at c (c ∷ cs)).1 = length-drop (token_at c (c ∷ cs)).1 (c ∷ cs) in
    ap (λ (rest : Line). (token_at c (c ∷ cs)).0 ∷ rest) (go (drop (token_at c (c ∷ cs)).1 (c ∷ cs)) (omega arith))

enough : (m n : ℕ) (text : List ℕ) → length text ≤ m → length text ≤ n → first_tokens m text ≡ first_tokens n text
enough zero zero text h k = refl
enough zero (suc n) [] h k = refl
enough zero (suc n) (c ∷ cs) h k = absurd (omega arith)
enough (suc m) zero [] h k = refl
enough (suc m) zero (c ∷ cs) h k = absurd (omega arith)
enough (suc m) (suc n) text h k =
    let len : length (past_blanks text) ≡ length text - run is_blank text = length-drop (run is_blank text) text in
    same_front m n (past_blanks text) (λ rest lt. enough m n rest (omega arith) (omega arith))

pub lexemes_open : (text : List ℕ) → lexemes text ≡ front_token lexemes (past_blanks text)
unfolding lexemes
lexemes_open [] = refl
lexemes_open (c ∷ cs) = opens (past_blanks (c ∷ cs)) (let len : length (past_blanks (c ∷ cs)) ≡ length (c ∷ cs) - run is_blank (c ∷ cs) = length-drop (run is_blank (c ∷ cs)) (c ∷ cs) in omega arith)
  where
    opens : (rest : List ℕ) → length rest ≤ suc (length cs) → front_token (first_tokens (length cs)) rest ≡ front_token (λ text. first_tokens (length text) text) rest
    opens [] h = refl
    opens (d ∷ ds) h =
        let long : 0 < (token_at d (d ∷ ds)).1 = token_is_long d ds in
        let len : length (drop (token_at d (d ∷ ds)).1 (d ∷ ds)) ≡ length (d ∷ ds) - (token_at d (d ∷ ds)).1 = length-drop (token_at d (d ∷ ds)).1 (d ∷ ds) in
        ap (λ (rest : Line). (token_at d (d ∷ ds)).0 ∷ rest) (enough (length cs) (length (drop (token_at d (d ∷ ds)).1 (d ∷ ds))) (drop (token_at d (d ∷ ds)).1 (d ∷ ds)) (omega arith) (omega arith))

-- ---- blanks

pub run_opens : (test : ℕ → Bool) (c : ℕ) (cs : List ℕ) (b : Bool) → test c ≡ b → run test (c ∷ cs) ≡ cond b (suc (run test cs)) 0
run_opens test c cs true h = ap length (take_while-cons test c cs) ∙ ap (λ (b : Bool). length (cond b (c ∷ take_while test cs) [])) h
run_opens test c cs false h = ap length (take_while-cons test c cs) ∙ ap (λ (b : Bool). length (cond b (c ∷ take_while test cs) [])) h

pub no_blank_left : (text : List ℕ) → begins_blank (past_blanks text) ≡ false
no_blank_left [] = refl
no_blank_left (c ∷ cs) = by_test (no_blank_left cs) (is_blank c) refl
  where
    by_test : begins_blank (past_blanks cs) ≡ false → (b : Bool) → is_blank c ≡ b → begins_blank (drop (run is_blank (c ∷ cs)) (c ∷ cs)) ≡ false
    by_test below true h = ap (λ (n : ℕ). begins_blank (drop n (c ∷ cs))) (run_opens is_blank c cs true h) ∙ below
    by_test below false h = ap (λ (n : ℕ). begins_blank (drop n (c ∷ cs))) (run_opens is_blank c cs false h) ∙ h

none_to_pass : (text : List ℕ) → begins_blank text ≡ false → past_blanks text ≡ text
none_to_pass [] h = refl
none_to_pass (c ∷ cs) h = ap (λ (n : ℕ). drop n (c ∷ cs)) (run_opens is_blank c cs false h)

pub past_blanks_same : (text : List ℕ) → lexemes (past_blanks text) ≡ lexemes text
past_blanks_same text = lexemes_open (past_blanks text) ∙ ap (front_token lexemes) (none_to_pass (past_blanks text) (no_blank_left text)) ∙ sym (lexemes_open text)

run_within : (test : ℕ → Bool) (text : List ℕ) → run test text ≤ length text
run_within test text = let e : run test text ≡ prefix_len test text = length-prefix_len test text in omega (arith, e, prefix_len-le-length test text)

-- ---- the next token of a text

pub at_end : (text : List ℕ) (at : ℕ) → length text ≤ at → lexemes (drop at text) ≡ []
unfolding lexemes
at_end text at h = ap lexemes (drop_all at text h)

pub stands : (text : List ℕ) (at n : ℕ) → at ≤ length text → n ≡ run is_blank (drop at text) → StandsAt text at (at + n)
stands text at n h e =
    let w : run is_blank (drop at text) ≤ length (drop at text) = run_within is_blank (drop at text) in
    let split : drop (at + n) text ≡ past_blanks (drop at text) = sym (drop-drop n at text) ∙ ap (λ (k : ℕ). drop k (drop at text)) e in
    record {
      within = omega (arith, w, length-drop at text);
      same = ap lexemes split ∙ past_blanks_same (drop at text);
      no_blank = ap begins_blank split ∙ no_blank_left (drop at text);
    }

-- ---- what is found in a text is within it

pub found_passes : {X : Type 0} (p : X → Bool) (xs : List X) (x : X) → find p xs ≡ Some x → p x ≡ true
found_passes p [] x h = absurd cc
found_passes {X} p (y ∷ ys) x h = by_test (λ k. found_passes p ys x k) (p y) refl h
  where
    by_test : (find p ys ≡ Some x → p x ≡ true) → (b : Bool) → p y ≡ b → cond b (Some y) (find p ys) ≡ Some x → p x ≡ true
    by_test below true e k = let same : y ≡ x = cc in subst (λ (z : X). p z ≡ true) same e
    by_test below false e k = below k

begun_within : (text front : List ℕ) → begins text front ≡ true → length front ≤ length text
begun_within text front h =
    let e : length front ≡ length (take (length front) text) = ap length ((bytes_eq-Decides front (take (length front) text)).0 h) in
    omega (arith, e, length-take (length front) text)

pub sign_within : (text : List ℕ) (s : Sign) → sign_at text ≡ Some s → length (sign_text s) ≤ length text
sign_within text s h = begun_within text (sign_text s) (found_passes (λ t. begins text (sign_text t)) signs s h)

-- ---- the next token, as the code finds it

token_behind : (rest : List ℕ) (past : List ℕ) → past_blanks rest ≡ past → 0 < length past → lexemes rest ≡ (token_at (get_or past 0 0) past).0 ∷ lexemes (drop (token_at (get_or past 0 0) past).1 past)
token_behind rest [] e h = absurd (omega arith)
token_behind rest (c ∷ cs) e h = lexemes_open rest ∙ ap (front_token lexemes) e

pub none_next : (text past : List ℕ) (at n : ℕ) → n ≡ run is_blank (drop at text) → past ≡ drop (at + n) text → length past < 1 → lexemes (drop at text) ≡ []
none_next text past at n e p h =
    let split : drop (at + n) text ≡ past_blanks (drop at text) = sym (drop-drop n at text) ∙ ap (λ (k : ℕ). drop k (drop at text)) e in
    lexemes_open (drop at text) ∙ ap (front_token lexemes) (sym split ∙ sym p ∙ is_nil past h)
  where
    is_nil : (xs : List ℕ) → length xs < 1 → xs ≡ []
    is_nil [] k = refl
    is_nil (x ∷ xs) k = absurd (omega arith)

pub some_next : (text past : List ℕ) (at n k : ℕ) (t : Lexeme) → n ≡ run is_blank (drop at text) → past ≡ drop (at + n) text → 0 < length past → t ≡ (token_at (get_or past 0 0) past).0 → k ≡ (token_at (get_or past 0 0) past).1
    → lexemes (drop at text) ≡ t ∷ lexemes (drop (at + n + k) text)
some_next text past at n k t e p h is long =
    let split : drop (at + n) text ≡ past_blanks (drop at text) = sym (drop-drop n at text) ∙ ap (λ (i : ℕ). drop i (drop at text)) e in
    let whole : lexemes (drop at text) ≡ (token_at (get_or past 0 0) past).0 ∷ lexemes (drop (token_at (get_or past 0 0) past).1 past) = token_behind (drop at text) past (sym split ∙ sym p) h in
    let left : drop k past ≡ drop (at + n + k) text = ap (λ (u : List ℕ). drop k u) p ∙ drop-drop k (at + n) text in
    whole ∙ ap (λ (u : Lexeme). u ∷ lexemes (drop (token_at (get_or past 0 0) past).1 past)) (sym is) ∙ ap (λ (i : ℕ). t ∷ lexemes (drop i past)) (sym long) ∙ ap (λ (u : List ℕ). t ∷ lexemes u) left
