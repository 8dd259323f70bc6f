-- The text that is written piece by piece is that of the lines.
use Rattle.std.proofs.Common.{◌≡◌, ℕ, suc, ◌+◌, ℤ, List, [], ◌∷◌, ◌++◌, length, map, refl, sym, ap, ◌∙◌, append_assoc, codes, arith}
use Rattle.std.proofs.lemmas.List.{append-nil}
use Rattle.std.specs.List.{flat_map, join_with_byte}
use Rattle.std.specs.Fmt.{decimal, signed_decimal}
use Rattle.cv_num.specs.declared.rows.Row.{Row}
use Rattle.cv_farkas.specs.declared.steps.Step.{Step}
use Rattle.cv_cert.specs.declared.certificate.Block.{Block}
use Rattle.cv_cert.specs.declared.certificate.CertCase.{CertCase}
use Rattle.cv_cert.specs.Certificate.{Certificate}
use Rattle.cv_cert.specs.Text.{Line, line_text, text_of_lines, numbered, set_line, row_line, step_line, picks_line, steps_line, statement_lines, case_lines, block_lines, text_of}
use Rattle.cv_cert.specs.Writing.{number_text, integer_text, numbers_text, pairs_text, parts_text, set_text, row_text, step_text, statement_text, case_text, block_text, numbered_text}
use Rattle.cv_cert.proofs.Joined.{text_append}

-- ---- pieces one behind another

pub three : (o a b c o1 o2 o3 : List ℕ) → o1 ≡ o ++ a → o2 ≡ o1 ++ b → o3 ≡ o2 ++ c → o3 ≡ o ++ (a ++ (b ++ c))
three o a b c o1 o2 o3 e f g = g ∙ ap (λ (u : List ℕ). u ++ c) (f ∙ ap (λ (u : List ℕ). u ++ b) e) ∙ append_assoc (o ++ a) b c ∙ append_assoc o a (b ++ c)

pub four : (o a b c d o1 o2 o3 o4 : List ℕ) → o1 ≡ o ++ a → o2 ≡ o1 ++ b → o3 ≡ o2 ++ c → o4 ≡ o3 ++ d → o4 ≡ o ++ (a ++ (b ++ (c ++ d)))
four o a b c d o1 o2 o3 o4 e f g h = three o1 b c d o2 o3 o4 f g h ∙ ap (λ (u : List ℕ). u ++ (b ++ (c ++ d))) e ∙ append_assoc o a (b ++ (c ++ d))

pub five : (o a b c d x o1 o2 o3 o4 o5 : List ℕ) → o1 ≡ o ++ a → o2 ≡ o1 ++ b → o3 ≡ o2 ++ c → o4 ≡ o3 ++ d → o5 ≡ o4 ++ x → o5 ≡ o ++ (a ++ (b ++ (c ++ (d ++ x))))
five o a b c d x o1 o2 o3 o4 o5 e f g h k = four o1 b c d x o2 o3 o4 o5 f g h k ∙ ap (λ (u : List ℕ). u ++ (b ++ (c ++ (d ++ x)))) e ∙ append_assoc o a (b ++ (c ++ (d ++ x)))

-- ---- a line

abbrev spaced : Line → List ℕ
spaced ts = flat_map (λ t. 32 ∷ t) ts

joined_is : (t : List ℕ) (ts : Line) → join_with_byte 32 (t ∷ ts) ≡ t ++ spaced ts
joined_is t [] = sym (append-nil t)
joined_is t (u ∷ us) = ap (λ (v : List ℕ). t ++ (32 ∷ v)) (joined_is u us)

line_is : (t : List ℕ) (ts : Line) → line_text (t ∷ ts) ≡ t ++ (spaced ts ++ 10 ∷ [])
line_is t ts = ap (λ (u : List ℕ). u ++ 10 ∷ []) (joined_is t ts) ∙ append_assoc t (spaced ts) (10 ∷ [])

spaced_numbers : (ns : List ℕ) → spaced (map decimal ns) ≡ numbers_text ns
spaced_numbers [] = refl
spaced_numbers (n ∷ ns) = ap (λ (u : List ℕ). number_text n ++ u) (spaced_numbers ns)

spaced_pairs : (ps : List (ℕ × ℤ)) → spaced (flat_map (λ p. decimal p.0 ∷ signed_decimal p.1 ∷ []) ps) ≡ pairs_text ps
spaced_pairs [] = refl
spaced_pairs (p ∷ ps) = ap (λ (u : List ℕ). number_text p.0 ++ (integer_text p.1 ++ u)) (spaced_pairs ps) ∙ sym (append_assoc (number_text p.0) (integer_text p.1) (pairs_text ps))

spaced_parts : (ps : List (ℕ × ℕ)) → spaced (flat_map (λ p. decimal p.0 ∷ decimal p.1 ∷ []) ps) ≡ parts_text ps
spaced_parts [] = refl
spaced_parts (p ∷ ps) = ap (λ (u : List ℕ). number_text p.0 ++ (number_text p.1 ++ u)) (spaced_parts ps) ∙ sym (append_assoc (number_text p.0) (number_text p.1) (parts_text ps))

pub set_is : (s : List ℕ) → codes "set" ++ (numbers_text s ++ 10 ∷ []) ≡ set_text s
unfolding set_text
set_is s = sym (line_is (codes "set") (map decimal s) ∙ ap (λ (u : List ℕ). codes "set" ++ (u ++ 10 ∷ [])) (spaced_numbers s))

pub row_is : (r : Row) → codes "row" ++ (integer_text r.constant ++ (pairs_text r.pairs ++ 10 ∷ [])) ≡ row_text r
unfolding row_text
row_is r =
    let ps : Line = flat_map (λ p. decimal p.0 ∷ signed_decimal p.1 ∷ []) r.pairs in
    sym (line_is (codes "row") (signed_decimal r.constant ∷ ps)
    ∙ ap (λ (u : List ℕ). codes "row" ++ u) (append_assoc (integer_text r.constant) (spaced ps) (10 ∷ []) ∙ ap (λ (u : List ℕ). integer_text r.constant ++ (u ++ 10 ∷ [])) (spaced_pairs r.pairs)))

pub step_is : (s : Step) → codes "step" ++ (number_text s.d ++ (parts_text s.parts ++ 10 ∷ [])) ≡ step_text s
unfolding step_text
step_is s =
    let ps : Line = flat_map (λ p. decimal p.0 ∷ decimal p.1 ∷ []) s.parts in
    sym (line_is (codes "step") (decimal s.d ∷ ps)
    ∙ ap (λ (u : List ℕ). codes "step" ++ u) (append_assoc (number_text s.d) (spaced ps) (10 ∷ []) ∙ ap (λ (u : List ℕ). number_text s.d ++ (u ++ 10 ∷ [])) (spaced_parts s.parts)))

pub picks_is : (picks : List ℕ) → codes "picks" ++ (number_text (length picks) ++ (numbers_text picks ++ 10 ∷ [])) ≡ line_text (picks_line picks)
picks_is picks =
    sym (line_is (codes "picks") (decimal (length picks) ∷ map decimal picks)
    ∙ ap (λ (u : List ℕ). codes "picks" ++ u) (append_assoc (number_text (length picks)) (spaced (map decimal picks)) (10 ∷ []) ∙ ap (λ (u : List ℕ). number_text (length picks) ++ (u ++ 10 ∷ [])) (spaced_numbers picks)))

-- ---- lists of lines

lines_map : {A : Type 0} (line : A → Line) (xs : List A) → flat_map (λ x. line_text (line x)) xs ≡ text_of_lines (map line xs)
lines_map line [] = refl
lines_map line (x ∷ xs) = ap (λ (u : List ℕ). line_text (line x) ++ u) (lines_map line xs)

lines_numbered : {A : Type 0} (f : ℕ → A → List Line) (n : ℕ) (xs : List A) → numbered_text (λ m x. text_of_lines (f m x)) n xs ≡ text_of_lines (numbered f n xs)
lines_numbered f n [] = refl
lines_numbered f n (x ∷ xs) =
    ap (λ m. text_of_lines (f n x) ++ numbered_text (λ k y. text_of_lines (f k y)) m xs) (let e : n + 1 ≡ suc n = omega arith in e)
    ∙ ap (λ (u : List ℕ). text_of_lines (f n x) ++ u) (lines_numbered f (suc n) xs) ∙ sym (text_append (f n x) (numbered f (suc n) xs))

two_numbers : (m n : ℕ) → number_text m ++ (number_text n ++ 10 ∷ []) ≡ spaced (decimal m ∷ decimal n ∷ []) ++ 10 ∷ []
two_numbers m n = sym (append_assoc (number_text m) (number_text n ++ []) (10 ∷ []) ∙ ap (λ (u : List ℕ). number_text m ++ (u ++ 10 ∷ [])) (append-nil (number_text n)))

pub statement_is : (n : ℕ) (rows : List Row) → codes "at" ++ (number_text n ++ (number_text (length rows) ++ (10 ∷ [] ++ flat_map row_text rows))) ≡ statement_text n rows
unfolding statement_text row_text
statement_is n rows =
    let a : List ℕ = number_text n in
    let b : List ℕ = number_text (length rows) in
    let body : List ℕ = flat_map row_text rows in
    let head : line_text (codes "at" ∷ decimal n ∷ decimal (length rows) ∷ []) ≡ codes "at" ++ (a ++ (b ++ 10 ∷ [])) = line_is (codes "at") (decimal n ∷ decimal (length rows) ∷ []) ∙ ap (λ (u : List ℕ). codes "at" ++ u) (sym (two_numbers n (length rows))) in
    let regroup : (codes "at" ++ (a ++ (b ++ 10 ∷ []))) ++ body ≡ codes "at" ++ (a ++ (b ++ (10 ∷ [] ++ body))) =
    append_assoc (codes "at") (a ++ (b ++ 10 ∷ [])) body ∙ ap (λ (u : List ℕ). codes "at" ++ u) (append_assoc a (b ++ 10 ∷ []) body ∙ ap (λ (u : List ℕ). a ++ u) (append_assoc b (10 ∷ []) body)) in
    sym regroup ∙ ap (λ (u : List ℕ). u ++ body) (sym head) ∙ ap (λ (u : List ℕ). line_text (codes "at" ∷ decimal n ∷ decimal (length rows) ∷ []) ++ u) (lines_map row_line rows)

pub case_is : (n : ℕ) (c : CertCase) → line_text (codes "case" ∷ decimal n ∷ []) ++ (numbered_text statement_text 0 c.rows ++ (line_text (picks_line c.picks) ++ (line_text (codes "steps" ∷ decimal (length c.steps) ∷ []) ++ flat_map step_text c.steps))) ≡ case_text n c
unfolding case_text statement_text step_text
case_is n c =
    let rest : List Line = picks_line c.picks ∷ (steps_line (length c.steps) ∷ map step_line c.steps) in
    let steps : line_text (picks_line c.picks) ++ (line_text (steps_line (length c.steps)) ++ flat_map step_text c.steps) ≡ text_of_lines rest = ap (λ (u : List ℕ). line_text (picks_line c.picks) ++ (line_text (steps_line (length c.steps)) ++ u)) (lines_map step_line c.steps) in
    let body : numbered_text statement_text 0 c.rows ++ text_of_lines rest ≡ text_of_lines (numbered statement_lines 0 c.rows ++ rest) = ap (λ (u : List ℕ). u ++ text_of_lines rest) (lines_numbered statement_lines 0 c.rows) ∙ sym (text_append (numbered statement_lines 0 c.rows) rest) in
    ap (λ (u : List ℕ). line_text (codes "case" ∷ decimal n ∷ []) ++ u) (ap (λ (u : List ℕ). numbered_text statement_text 0 c.rows ++ u) steps ∙ body)

pub block_is : (b : Block) → codes "proc " ++ (b.name ++ (number_text (length b.cases) ++ (10 ∷ [] ++ numbered_text case_text 1 b.cases))) ≡ block_text b
unfolding block_text case_text
block_is b =
    let num : List ℕ = number_text (length b.cases) in
    let body : List ℕ = numbered_text case_text 1 b.cases in
    let head : line_text (codes "proc" ∷ b.name ∷ decimal (length b.cases) ∷ []) ≡ codes "proc " ++ (b.name ++ (num ++ 10 ∷ [])) =
    line_is (codes "proc") (b.name ∷ decimal (length b.cases) ∷ []) ∙ ap (λ (u : List ℕ). codes "proc " ++ u) (append_assoc b.name (num ++ []) (10 ∷ []) ∙ ap (λ (u : List ℕ). b.name ++ (u ++ 10 ∷ [])) (append-nil num)) in
    let regroup : (codes "proc " ++ (b.name ++ (num ++ 10 ∷ []))) ++ body ≡ codes "proc " ++ (b.name ++ (num ++ (10 ∷ [] ++ body))) =
    append_assoc (codes "proc ") (b.name ++ (num ++ 10 ∷ [])) body ∙ ap (λ (u : List ℕ). codes "proc " ++ u) (append_assoc b.name (num ++ 10 ∷ []) body ∙ ap (λ (u : List ℕ). b.name ++ u) (append_assoc num (10 ∷ []) body)) in
    sym regroup ∙ ap (λ (u : List ℕ). u ++ body) (sym head) ∙ ap (λ (u : List ℕ). line_text (codes "proc" ∷ b.name ∷ decimal (length b.cases) ∷ []) ++ u) (lines_numbered case_lines 1 b.cases)

blocks_is : (bs : List Block) → flat_map block_text bs ≡ text_of_lines (flat_map block_lines bs)
unfolding block_text
blocks_is [] = refl
blocks_is (b ∷ bs) = ap (λ (u : List ℕ). text_of_lines (block_lines b) ++ u) (blocks_is bs) ∙ sym (text_append (block_lines b) (flat_map block_lines bs))

pub certificate_is : (c : Certificate) → codes "cssv-cert 1" ++ (10 ∷ [] ++ (line_text (codes "points" ∷ decimal (length c.sets) ∷ []) ++ (flat_map set_text c.sets ++ (flat_map block_text c.blocks ++ (codes "end" ++ 10 ∷ []))))) ≡ text_of c
unfolding set_text
certificate_is c =
    let ending : List Line = (codes "end" ∷ []) ∷ [] in
    let rest : List Line = flat_map block_lines c.blocks ++ ending in
    let a : flat_map block_text c.blocks ++ (codes "end" ++ 10 ∷ []) ≡ text_of_lines rest = ap (λ (u : List ℕ). u ++ (codes "end" ++ 10 ∷ [])) (blocks_is c.blocks) ∙ sym (text_append (flat_map block_lines c.blocks) ending) in
    let b : flat_map set_text c.sets ++ text_of_lines rest ≡ text_of_lines (map set_line c.sets ++ rest) = ap (λ (u : List ℕ). u ++ text_of_lines rest) (lines_map set_line c.sets) ∙ sym (text_append (map set_line c.sets) rest) in
    ap (λ (u : List ℕ). codes "cssv-cert 1" ++ (10 ∷ [] ++ (line_text (codes "points" ∷ decimal (length c.sets) ∷ []) ++ u))) (ap (λ (u : List ℕ). flat_map set_text c.sets ++ u) a ∙ b)
