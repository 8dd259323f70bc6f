-- A token has a byte, and lies within the text.
use Rattle.std.proofs.Common.{◌≡◌, ℕ, zero, suc, ◌+◌, ◌<◌, ◌≤◌, ◌^◌, Bool, true, false, cond, not, ◌&&◌, ◌||◌, nat_eq, nat_lt, List, [], ◌∷◌, codes, length, take, drop, get_or, Option, Some, None, refl, sym, ap, subst, ◌∙◌, arith, length-drop, length-take}
use Rattle.std.proofs.lemmas.List.Folds.{length-prefix_len}
use Rattle.std.proofs.lemmas.List.Sums.{prefix_len-le-length, take_while-cons}
use Rattle.std.proofs.lemmas.Bool.Decides.{nat_tests}
use Rattle.std.proofs.lemmas.Slice.Eq.{bytes_eq-Decides}
use Rattle.std.specs.List.{list_any, list_all, take_while, prefix_len}
use Rattle.cv_core.specs.Grammar.{is_letter, is_digit}
use Rattle.cv_lex.specs.Bytes.{is_newline, is_word_byte, is_hex_digit, is_escape, run, begins, byte_at}
use Rattle.cv_lex.specs.Parts.{Fits, begun, character_length, close_from, closes, comment, double_signs, is_hexadecimal, is_plain, is_single, marked, number, part_or, plain, quote_from, sign, sized}
use Rattle.cv_lex.specs.declared.begin.Front.{Front}
use Rattle.cv_lex.specs.declared.begin.Front.TheVariants as front
use Rattle.cv_lex.specs.declared.token.LexRule.{LexRule}
use Rattle.cv_lex.specs.declared.token.LexRule.TheVariants as rule
use Rattle.cv_lex.specs.declared.token.TokenKind.{TokenKind}
use Rattle.cv_lex.specs.declared.token.TokenKind.TheVariants as kind

-- ---- runs of bytes

pub run_opens : (test : ℕ → Bool) (c : ℕ) (cs : List ℕ) (b : Bool) → test c ≡ b → run test (c ∷ cs) ≡ cond b (suc (run test cs)) 0
run_opens test c cs true h = ap length (take_while-cons test c cs) ∙ ap (λ (b : Bool). length (cond b (c ∷ take_while test cs) [])) h
run_opens test c cs false h = ap length (take_while-cons test c cs) ∙ ap (λ (b : Bool). length (cond b (c ∷ take_while test cs) [])) h

run_is_long : (test : ℕ → Bool) (c : ℕ) (cs : List ℕ) → test c ≡ true → 0 < run test (c ∷ cs)
run_is_long test c cs h = omega (arith, run_opens test c cs true h)

pub run_within : (test : ℕ → Bool) (text : List ℕ) → run test text ≤ length text
run_within test text = let e : run test text ≡ prefix_len test text = length-prefix_len test text in omega (arith, e, prefix_len-le-length test text)

run_fits : (k : TokenKind) (test : ℕ → Bool) (c : ℕ) (cs : List ℕ) → test c ≡ true → Fits (c ∷ cs) (front.Part k (run test (c ∷ cs)))
run_fits k test c cs h = (run_is_long test c cs h, run_within test (c ∷ cs))

-- ---- what a text begins with

begun_is : (text part : List ℕ) → begins text part ≡ true → part ≡ take (length part) text
begun_is text part h = (bytes_eq-Decides part (take (length part) text)).0 h

begun_within : (text part : List ℕ) → begins text part ≡ true → length part ≤ length text
begun_within text part h = omega (arith, ap length (begun_is text part h), length-take (length part) text)

pairs_within : (text : List ℕ) (parts : List (List ℕ)) → list_all (λ p. nat_eq (length p) 2) parts ≡ true → list_any (begins text) parts ≡ true → 2 ≤ length text
pairs_within text [] h k = absurd cc
pairs_within text (p ∷ ps) h k = by_tests (λ u v. pairs_within text ps u v) (nat_eq (length p) 2) (begins text p) refl refl h k
  where
    by_tests : (list_all (λ q. nat_eq (length q) 2) ps ≡ true → list_any (begins text) ps ≡ true → 2 ≤ length text) → (a b : Bool) → nat_eq (length p) 2 ≡ a → begins text p ≡ b
        → (a && list_all (λ q. nat_eq (length q) 2) ps) ≡ true → (b || list_any (begins text) ps) ≡ true → 2 ≤ length text
    by_tests below false b e f u v = absurd cc
    by_tests below true true e f u v = let two : length p ≡ 2 = grind (arith, nat_tests) in omega (arith, begun_within text p f)
    by_tests below true false e f u v = below u v

byte_within : (text : List ℕ) (k v : ℕ) → byte_at text k ≡ suc v → k < length text
byte_within [] zero v h = absurd cc
byte_within [] (suc k) v h = absurd cc
byte_within (c ∷ cs) zero v h = omega arith
byte_within (c ∷ cs) (suc k) v h = omega (arith, byte_within cs k v h)

quote_within : (text : List ℕ) (k : ℕ) → nat_eq (byte_at text k) 39 ≡ true → k < length text
quote_within text k h = byte_within text k 38 (grind (arith, nat_tests))

-- ---- ends

abbrev Within : ℕ → ℕ → Option ℕ → Type 0
Within low high None = Unit {0}
Within low high (Some m) = (low < m) × (m ≤ high)

looser : (low high low' high' : ℕ) (o : Option ℕ) → low' ≤ low → high ≤ high' → Within low high o → Within low' high' o
looser low high low' high' None h k w = tt
looser low high low' high' (Some m) h k w = (omega (arith, w.0), omega (arith, w.1))

one_of : (low high : ℕ) (b : Bool) (x y : Option ℕ) → (b ≡ true → Within low high x) → (b ≡ false → Within low high y) → Within low high (cond b x y)
one_of low high true x y h k = h refl
one_of low high false x y h k = k refl

closes_within : (c : ℕ) (cs : List ℕ) → closes c cs ≡ true → 1 ≤ length cs
unfolding closes
closes_within c [] h = absurd cc
closes_within c (d ∷ ds) h = omega arith

close_ends : (n : ℕ) (text : List ℕ) → Within n (n + length text) (close_from n text)
close_ends n [] = tt
close_ends n (c ∷ cs) = one_of n (n + suc (length cs)) (closes c cs) (Some (n + 2)) (close_from (suc n) cs) (λ h. (omega arith, omega (arith, closes_within c cs h)))
    (λ h. looser (suc n) (suc n + length cs) n (n + suc (length cs)) (close_from (suc n) cs) (omega arith) (omega arith) (close_ends (suc n) cs))

quote_ends : (escaped : Bool) (n : ℕ) (text : List ℕ) → Within n (n + length text) (quote_from escaped n text)
quote_ends true n [] = tt
quote_ends false n [] = tt
quote_ends true n (c ∷ cs) = one_of n (n + suc (length cs)) (is_escape c) (quote_from false (suc n) cs) None
    (λ h. looser (suc n) (suc n + length cs) n (n + suc (length cs)) (quote_from false (suc n) cs) (omega arith) (omega arith) (quote_ends false (suc n) cs)) (λ h. tt)
quote_ends false n (c ∷ cs) = one_of n (n + suc (length cs)) (nat_eq c 34) (Some (suc n)) (cond (is_newline c) None (quote_from (nat_eq c 92) (suc n) cs)) (λ h. (omega arith, omega arith))
    (λ h. one_of n (n + suc (length cs)) (is_newline c) None (quote_from (nat_eq c 92) (suc n) cs) (λ k. tt)
    (λ k. looser (suc n) (suc n + length cs) n (n + suc (length cs)) (quote_from (nat_eq c 92) (suc n) cs) (omega arith) (omega arith) (quote_ends (nat_eq c 92) (suc n) cs)))

both : (a b : Bool) → (a && b) ≡ true → (a ≡ true) × (b ≡ true)
both true true h = (refl, refl)
both true false h = absurd cc
both false b h = absurd cc

character_ends : (text : List ℕ) → Within 0 (length text) (character_length text)
character_ends text = one_of 0 (length text) (is_plain (byte_at text 1) && nat_eq (byte_at text 2) 39) (Some 3) _ (λ h. (omega arith, omega (arith, quote_within text 2 ((both (is_plain (byte_at text 1)) _ h).1))))
    (λ h. one_of 0 (length text) (nat_eq (byte_at text 1) 92 && is_escape (byte_at text 2) && nat_eq (byte_at text 3) 39) (Some 4) None
    (λ k. (omega arith, omega (arith, quote_within text 3 (last (nat_eq (byte_at text 1) 92) (is_escape (byte_at text 2)) (nat_eq (byte_at text 3) 39) k)))) (λ k. tt))
  where
    last : (a b c : Bool) → (a && b && c) ≡ true → c ≡ true
    last true true true h = refl
    last true true false h = absurd cc
    last true false c h = absurd cc
    last false b c h = absurd cc

-- ---- what begins

part_fits : (text : List ℕ) (k : TokenKind) (r : LexRule) (o : Option ℕ) → Within 0 (length text) o → Fits text (part_or k r o)
part_fits text k r None h = tt
part_fits text k r (Some n) h = h

if_fits : (text : List ℕ) (b : Bool) (x y : Front) → (b ≡ true → Fits text x) → (b ≡ false → Fits text y) → Fits text (cond b x y)
if_fits text true x y h k = h refl
if_fits text false x y h k = k refl

sized_fits : (text : List ℕ) (v n : ℕ) → 0 < n → n ≤ length text → Fits text (sized v n)
sized_fits text v n h k = if_fits text (nat_lt (2 ^ 31) v) (front.Broken rule.WideNumber) (front.Part kind.Number n) (λ e. tt) (λ e. (h, k))

number_fits : (c : ℕ) (cs : List ℕ) → is_digit c ≡ true → Fits (c ∷ cs) (number (c ∷ cs))
number_fits c cs h = if_fits (c ∷ cs) (is_hexadecimal (c ∷ cs)) _ _
    (λ e. sized_fits (c ∷ cs) _ (2 + run is_hex_digit (drop 2 (c ∷ cs))) (omega arith) (omega (arith, begun_within (c ∷ cs) (codes "0x") ((both (begins (c ∷ cs) (codes "0x")) _ e).0), run_within is_hex_digit (drop 2 (c ∷ cs)), length-drop 2 (c ∷ cs))))
    (λ e. sized_fits (c ∷ cs) _ (run is_digit (c ∷ cs)) (run_is_long is_digit c cs h) (run_within is_digit (c ∷ cs)))

sign_fits : (c : ℕ) (cs : List ℕ) → Fits (c ∷ cs) (sign c (c ∷ cs))
sign_fits c cs = if_fits (c ∷ cs) (list_any (begins (c ∷ cs)) double_signs) _ _ (λ e. (omega arith, pairs_within (c ∷ cs) double_signs refl e))
    (λ e. if_fits (c ∷ cs) (is_single c) _ _ (λ k. (omega arith, omega arith)) (λ k. tt))

either_true : (a b : Bool) → a ≡ true → (a || b) ≡ true
either_true true b h = refl
either_true false b h = absurd cc

plain_fits : (c : ℕ) (cs : List ℕ) → Fits (c ∷ cs) (plain c (c ∷ cs))
plain_fits c cs = if_fits (c ∷ cs) (is_letter c) _ _ (λ e. run_fits kind.Word is_word_byte c cs (either_true (is_letter c) (is_digit c) e))
    (λ e. if_fits (c ∷ cs) (is_digit c) _ _ (λ k. number_fits c cs k) (λ k. sign_fits c cs))

abbrev FitsMaybe : List ℕ → Option Front → Type 0
FitsMaybe text None = Unit {0}
FitsMaybe text (Some f) = Fits text f

if_maybe : (text : List ℕ) (b : Bool) (x y : Option Front) → (b ≡ true → FitsMaybe text x) → (b ≡ false → FitsMaybe text y) → FitsMaybe text (cond b x y)
if_maybe text true x y h k = h refl
if_maybe text false x y h k = k refl

hash_passes : (starts : Bool) (c : ℕ) → (starts && nat_eq c 35) ≡ true → not (is_newline c) ≡ true
hash_passes starts c h = let e : c ≡ 35 = is_it c ((both starts (nat_eq c 35) h).1) in subst (λ (d : ℕ). not (is_newline d) ≡ true) (sym e) refl
  where
    is_it : (c : ℕ) → nat_eq c 35 ≡ true → c ≡ 35
    is_it c k = grind (arith, nat_tests)

slash_passes : (c : ℕ) (cs : List ℕ) → begins (c ∷ cs) (codes "//") ≡ true → not (is_newline c) ≡ true
slash_passes c cs h = subst (λ (d : ℕ). not (is_newline d) ≡ true) (ap (λ (u : List ℕ). get_or u 0 0) (begun_is (c ∷ cs) (codes "//") h)) refl

marked_fits : (starts : Bool) (c : ℕ) (cs : List ℕ) → FitsMaybe (c ∷ cs) (marked starts c (c ∷ cs))
marked_fits starts c cs = if_maybe (c ∷ cs) (starts && nat_eq c 35) _ _ (λ h. run_fits kind.HashLine (λ d. not (is_newline d)) c cs (hash_passes starts c h))
    (λ h1. if_maybe (c ∷ cs) (begins (c ∷ cs) (codes "//")) _ _ (λ h. run_fits kind.Comment (λ d. not (is_newline d)) c cs (slash_passes c cs h))
    (λ h2. if_maybe (c ∷ cs) (begins (c ∷ cs) (codes "/*")) _ _ (λ h. comment_fits h)
    (λ h3. if_maybe (c ∷ cs) (nat_eq c 34) _ _ (λ h. part_fits (c ∷ cs) kind.Text rule.OpenText (quote_from false 1 cs) (looser 1 (1 + length cs) 0 (length (c ∷ cs)) (quote_from false 1 cs) (omega arith) (omega arith) (quote_ends false 1 cs)))
    (λ h4. if_maybe (c ∷ cs) (nat_eq c 39) _ _ (λ h. part_fits (c ∷ cs) kind.Character rule.OpenText (character_length (c ∷ cs)) (character_ends (c ∷ cs))) (λ h5. tt)))))
  where
    comment_fits : begins (c ∷ cs) (codes "/*") ≡ true → Fits (c ∷ cs) (comment (c ∷ cs))
    comment_fits h = part_fits (c ∷ cs) kind.Comment rule.OpenComment (close_from 2 (drop 2 (c ∷ cs)))
        (looser 2 (2 + length (drop 2 (c ∷ cs))) 0 (length (c ∷ cs)) (close_from 2 (drop 2 (c ∷ cs))) (omega arith) (omega (arith, begun_within (c ∷ cs) (codes "/*") h, length-drop 2 (c ∷ cs))) (close_ends 2 (drop 2 (c ∷ cs))))

pub begun_fits : (starts : Bool) (c : ℕ) (cs : List ℕ) → Fits (c ∷ cs) (begun starts c (c ∷ cs))
begun_fits starts c cs = by_mark (marked starts c (c ∷ cs)) refl (marked_fits starts c cs)
  where
    by_mark : (o : Option Front) → marked starts c (c ∷ cs) ≡ o → FitsMaybe (c ∷ cs) o → Fits (c ∷ cs) (begun starts c (c ∷ cs))
    by_mark None e h = rw e (plain_fits c cs)
    by_mark (Some f) e h = rw e (h)
