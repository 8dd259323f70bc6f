-- No token of a certificate's text has a space or a newline.
use Rattle.std.proofs.Common.{◌≡◌, ◌==◌, ℕ, suc, ◌+◌, ◌<◌, ◌≤◌, ◌^◌, Bool, true, false, not, ◌&&◌, ◌||◌, List, [], ◌∷◌, ◌++◌, length, map, ℤ, pos, negsuc, refl, subst, arith, codes, FitsSigned}
use Rattle.std.specs.Fmt.{decimal, signed_decimal}
use Rattle.std.specs.Int.{w64}
use Rattle.std.specs.List.{AllByRecursion, flat_map, list_all, list_any}
use Rattle.std.specs.Str.{all_ascii_digits, bytes_eq}
use Rattle.std.specs.Char.{is_ascii_digit}
use Rattle.std.proofs.lemmas.Bool.Decides.{nat_tests}
use Rattle.std.proofs.lemmas.Int.{ints}
use Rattle.std.proofs.lemmas.Fmt.{digits_decimal}
use Rattle.cv_core.specs.Grammar.{is_letter, is_digit, begins_name, IsName, reserved}
use Rattle.cv_num.specs.declared.rows.Row.{Row}
use Rattle.cv_farkas.specs.declared.steps.Step.{Step}
use Rattle.cv_cert.specs.declared.certificate.Block.{Block}
use Rattle.cv_cert.specs.declared.certificate.CertCase.{CertCase}
use Rattle.cv_cert.specs.Certificate.{Certificate, IsCertificate, IsNumber, IsSet, IsPair, IsRow, AreRows, IsStatement, IsStep, IsCase, IsBlock}
use Rattle.cv_cert.specs.Text.{Line, numbered, set_line, row_line, statement_lines, picks_line, step_line, steps_line, case_lines, block_lines, lines_of}
use Rattle.cv_cert.proofs.Numbers.{own}

abbrev pub clean_byte : ℕ → Bool
clean_byte b = not (b == 32) && not (b == 10)

abbrev pub clean : List ℕ → Bool
clean token = list_all clean_byte token

-- a line with a token, and with no other bytes than those of tokens
abbrev pub CleanLine : Line → Type 0
CleanLine line = (0 < length line) × (list_all clean line ≡ true)

abbrev pub CleanLines : List Line → Type 0
CleanLines lines = AllByRecursion CleanLine lines

-- ---- tokens

clean_unless : (b : ℕ) → (b ≡ 32 → ⊥) → (b ≡ 10 → ⊥) → clean_byte b ≡ true
clean_unless b h k = grind (arith, nat_tests)

and_parts : (a b : Bool) → a && b ≡ true → (a ≡ true) × (b ≡ true)
and_parts true true e = (refl, refl)
and_parts true false e = absurd cc
and_parts false b e = absurd cc

and_both : (a b : Bool) → a ≡ true → b ≡ true → a && b ≡ true
and_both true true e k = refl
and_both true false e k = absurd cc
and_both false b e k = absurd cc

digit_clean : (c : ℕ) → is_ascii_digit c ≡ true → clean_byte c ≡ true
digit_clean c h = clean_unless c (λ e. (let k : is_ascii_digit 32 ≡ true = subst (λ n. is_ascii_digit n ≡ true) e h in absurd cc)) (λ e. (let k : is_ascii_digit 10 ≡ true = subst (λ n. is_ascii_digit n ≡ true) e h in absurd cc))

digits_clean : (ds : List ℕ) → all_ascii_digits ds ≡ true → clean ds ≡ true
digits_clean [] h = refl
digits_clean (c ∷ cs) h = let k = and_parts (is_ascii_digit c) (all_ascii_digits cs) h in and_both (clean_byte c) (clean cs) (digit_clean c k.0) (digits_clean cs k.1)

decimal_clean : (n : ℕ) → n < 2 ^ 64 → clean (decimal n) ≡ true
decimal_clean n h = digits_clean (decimal n) (digits_decimal own n h)

number_clean : (n : ℕ) → IsNumber n → clean (decimal n) ≡ true
number_clean n h = decimal_clean n (omega (arith, h))

integer_clean : (z : ℤ) → FitsSigned w64 z → clean (signed_decimal z) ≡ true
integer_clean (pos n) h = decimal_clean n (omega (arith, ints))
integer_clean (negsuc n) h = decimal_clean (suc n) (omega (arith, ints))

name_byte_clean : (c : ℕ) → is_letter c || is_digit c ≡ true → clean_byte c ≡ true
name_byte_clean c h = clean_unless c (λ e. (let k : is_letter 32 || is_digit 32 ≡ true = subst (λ n. is_letter n || is_digit n ≡ true) e h in absurd cc)) (λ e. (let k : is_letter 10 || is_digit 10 ≡ true = subst (λ n. is_letter n || is_digit n ≡ true) e h in absurd cc))

or_left : (a b : Bool) → a ≡ true → a || b ≡ true
or_left true b e = refl
or_left false b e = absurd cc

name_bytes_clean : (cs : List ℕ) → list_all (λ d. is_letter d || is_digit d) cs ≡ true → clean cs ≡ true
name_bytes_clean [] h = refl
name_bytes_clean (c ∷ cs) h = let k = and_parts (is_letter c || is_digit c) (list_all (λ d. is_letter d || is_digit d) cs) h in and_both (clean_byte c) (clean cs) (name_byte_clean c k.0) (name_bytes_clean cs k.1)

name_clean : (n : List ℕ) → IsName n → clean n ≡ true
name_clean [] h = refl
name_clean (c ∷ cs) h =
    let k = and_parts (begins_name (c ∷ cs)) (not (list_any (bytes_eq (c ∷ cs)) reserved)) h in
    let m = and_parts (is_letter c) (list_all (λ d. is_letter d || is_digit d) cs) k.0 in
    and_both (clean_byte c) (clean cs) (name_byte_clean c (or_left (is_letter c) (is_digit c) m.0)) (name_bytes_clean cs m.1)

-- ---- lines

numbers_clean : (ns : List ℕ) → AllByRecursion IsNumber ns → list_all clean (map decimal ns) ≡ true
numbers_clean [] h = refl
numbers_clean (n ∷ ns) h = and_both (clean (decimal n)) (list_all clean (map decimal ns)) (number_clean n h.0) (numbers_clean ns h.1)

pairs_clean : (ps : List (ℕ × ℤ)) → AllByRecursion IsPair ps → list_all clean (flat_map (λ p. decimal p.0 ∷ signed_decimal p.1 ∷ []) ps) ≡ true
pairs_clean [] h = refl
pairs_clean (p ∷ ps) h =
    let first = h.0 in
    and_both (clean (decimal p.0)) _ (number_clean p.0 first.0) (and_both (clean (signed_decimal p.1)) _ (integer_clean p.1 first.1) (pairs_clean ps h.1))

parts_clean : (ps : List (ℕ × ℕ)) → AllByRecursion (λ p. IsNumber p.0 × IsNumber p.1) ps → list_all clean (flat_map (λ p. decimal p.0 ∷ decimal p.1 ∷ []) ps) ≡ true
parts_clean [] h = refl
parts_clean (p ∷ ps) h =
    let first = h.0 in
    and_both (clean (decimal p.0)) _ (number_clean p.0 first.0) (and_both (clean (decimal p.1)) _ (number_clean p.1 first.1) (parts_clean ps h.1))

word_first : (word : List ℕ) (ts : Line) → clean word ≡ true → list_all clean ts ≡ true → CleanLine (word ∷ ts)
word_first word ts h k = (omega arith, and_both (clean word) (list_all clean ts) h k)

count_clean : (n : ℕ) → IsNumber n → list_all clean (decimal n ∷ []) ≡ true
count_clean n h = and_both (clean (decimal n)) true (number_clean n h) refl

set_clean : (s : List ℕ) → IsSet s → CleanLine (set_line s)
set_clean s h = word_first (codes "set") (map decimal s) refl (numbers_clean s h.0)

row_clean : (r : Row) → IsRow r → CleanLine (row_line r)
row_clean r h = word_first (codes "row") (signed_decimal r.constant ∷ flat_map (λ p. decimal p.0 ∷ signed_decimal p.1 ∷ []) r.pairs) refl (and_both (clean (signed_decimal r.constant)) _ (integer_clean r.constant h.constant) (pairs_clean r.pairs h.pairs))

step_clean : (s : Step) → IsStep s → CleanLine (step_line s)
step_clean s h = word_first (codes "step") (decimal s.d ∷ flat_map (λ p. decimal p.0 ∷ decimal p.1 ∷ []) s.parts) refl (and_both (clean (decimal s.d)) _ (number_clean s.d h.0) (parts_clean s.parts h.1))

picks_clean : (picks : List ℕ) → IsNumber (length picks) → AllByRecursion IsNumber picks → CleanLine (picks_line picks)
picks_clean picks h k = word_first (codes "picks") (decimal (length picks) ∷ map decimal picks) refl (and_both (clean (decimal (length picks))) _ (number_clean (length picks) h) (numbers_clean picks k))

-- ---- lists of lines

pub clean_append : (a b : List Line) → CleanLines a → CleanLines b → CleanLines (a ++ b)
clean_append [] b h k = k
clean_append (l ∷ ls) b h k = (h.0, clean_append ls b h.1 k)

clean_map : {A : Type 0} (V : A → Type 0) (line : A → Line) → ((x : A) → V x → CleanLine (line x)) → (xs : List A) → AllByRecursion V xs → CleanLines (map line xs)
clean_map V line f [] h = tt
clean_map V line f (x ∷ xs) h = (f x h.0, clean_map V line f xs h.1)

rows_clean : (before : _) (rs : List Row) → AreRows before rs → CleanLines (map row_line rs)
rows_clean before [] h = tt
rows_clean before (r ∷ rs) h = (row_clean r h.0, rows_clean _ rs h.2)

statements_clean : (n : ℕ) (rows : List (List Row)) → n + length rows ≤ 2 ^ 32 → AllByRecursion IsStatement rows → CleanLines (numbered statement_lines n rows)
statements_clean n [] small h = tt
statements_clean n (rs ∷ rows) small h =
    let one = h.0 in
    let head : CleanLine (codes "at" ∷ decimal n ∷ decimal (length rs) ∷ []) = word_first (codes "at") (decimal n ∷ decimal (length rs) ∷ []) refl (and_both (clean (decimal n)) _ (number_clean n (omega (arith, small))) (count_clean (length rs) one.0)) in
    let lines : CleanLines (statement_lines n rs) = (head, rows_clean _ rs one.1) in
    clean_append (statement_lines n rs) (numbered statement_lines (suc n) rows) lines (statements_clean (suc n) rows (omega (arith, small)) h.1)

case_clean : (n : ℕ) (c : CertCase) → IsNumber n → IsCase c → CleanLines (case_lines n c)
case_clean n c h k =
    let steps : CleanLines (steps_line (length c.steps) ∷ map step_line c.steps) = (word_first (codes "steps") (decimal (length c.steps) ∷ []) refl (count_clean (length c.steps) k.steps_listed), clean_map IsStep step_line step_clean c.steps k.steps) in (
      word_first (codes "case") (decimal n ∷ []) refl (count_clean n h),
      clean_append (numbered statement_lines 0 c.rows) (picks_line c.picks ∷ (steps_line (length c.steps) ∷ map step_line c.steps)) (statements_clean 0 c.rows (omega (arith, k.statements)) k.rows) (picks_clean c.picks k.picks_listed k.picks, steps),
    )

cases_clean : (n : ℕ) (cs : List CertCase) → n + length cs ≤ 2 ^ 32 → AllByRecursion IsCase cs → CleanLines (numbered case_lines n cs)
cases_clean n [] small h = tt
cases_clean n (c ∷ cs) small h = clean_append (case_lines n c) (numbered case_lines (suc n) cs) (case_clean n c (omega (arith, small)) h.0) (cases_clean (suc n) cs (omega (arith, small)) h.1)

block_clean : (b : Block) → IsBlock b → CleanLines (block_lines b)
block_clean b h = (word_first (codes "proc") (b.name ∷ decimal (length b.cases) ∷ []) refl (and_both (clean b.name) _ (name_clean b.name h.name) (count_clean (length b.cases) h.cases_listed)), cases_clean 1 b.cases (omega (arith, h.cases_listed)) h.cases)

blocks_clean : (bs : List Block) → AllByRecursion IsBlock bs → CleanLines (flat_map block_lines bs)
blocks_clean [] h = tt
blocks_clean (b ∷ bs) h = clean_append (block_lines b) (flat_map block_lines bs) (block_clean b h.0) (blocks_clean bs h.1)

pub certificate_clean : (c : Certificate) → IsCertificate c → CleanLines (lines_of c)
certificate_clean c h =
    let rest : CleanLines (map set_line c.sets ++ (flat_map block_lines c.blocks ++ (codes "end" ∷ []) ∷ [])) =
    clean_append (map set_line c.sets) (flat_map block_lines c.blocks ++ (codes "end" ∷ []) ∷ []) (clean_map IsSet set_line set_clean c.sets h.sets)
    (clean_append (flat_map block_lines c.blocks) ((codes "end" ∷ []) ∷ []) (blocks_clean c.blocks h.blocks) (word_first (codes "end") [] refl refl, tt)) in
    (word_first (codes "cssv-cert") (codes "1" ∷ []) refl refl, (word_first (codes "points") (decimal (length c.sets) ∷ []) refl (count_clean (length c.sets) h.sets_listed), rest))
