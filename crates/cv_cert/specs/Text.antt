-- The text of a certificate, version 1, by lines.
use Rattle.std.specs.Prelude.{ℕ, suc, List, [], ◌∷◌, ◌++◌, length, map, codes, decimal, flat_map}
use Rattle.std.specs.Fmt.{signed_decimal}
use Rattle.std.specs.List.{join_with_byte}
use Rattle.cv_num.specs.declared.rows.Row.{Row}
use Rattle.cv_farkas.specs.declared.steps.Step.{Step}
use Rattle.cv_cert.specs.declared.certificate.Block.{Block}
use Rattle.cv_cert.specs.declared.certificate.CertCase.{CertCase}
use Rattle.cv_cert.specs.Certificate.{Certificate}

-- a line by its tokens
abbrev pub Line : Type 0
Line = List (List ℕ)

-- the tokens separated by one space, and a newline
abbrev pub line_text : Line → List ℕ
line_text tokens = join_with_byte 32 tokens ++ 10 ∷ []

abbrev pub text_of_lines : List Line → List ℕ
text_of_lines lines = flat_map line_text lines

-- the lines of each element, the elements being numbered from n on
abbrev pub numbered : {X : Type 0} → (ℕ → X → List Line) → ℕ → List X → List Line
numbered f n [] = []
numbered f n (x ∷ xs) = f n x ++ numbered f (suc n) xs

-- ---- the lines of a certificate

abbrev pub set_line : List ℕ → Line
set_line s = codes "set" ∷ map decimal s

abbrev pub row_line : Row → Line
row_line r = codes "row" ∷ signed_decimal r.constant ∷ flat_map (λ p. decimal p.0 ∷ signed_decimal p.1 ∷ []) r.pairs

-- the rows of statement n
abbrev pub statement_lines : ℕ → List Row → List Line
statement_lines n rows = (codes "at" ∷ decimal n ∷ decimal (length rows) ∷ []) ∷ map row_line rows

abbrev pub picks_line : List ℕ → Line
picks_line picks = codes "picks" ∷ decimal (length picks) ∷ map decimal picks

abbrev pub step_line : Step → Line
step_line s = codes "step" ∷ decimal s.d ∷ flat_map (λ p. decimal p.0 ∷ decimal p.1 ∷ []) s.parts

abbrev pub steps_line : ℕ → Line
steps_line n = codes "steps" ∷ decimal n ∷ []

-- case n of a block
abbrev pub case_lines : ℕ → CertCase → List Line
case_lines n c =
    (codes "case" ∷ decimal n ∷ []) ∷ (numbered statement_lines 0 c.rows
    ++ picks_line c.picks ∷ steps_line (length c.steps) ∷ map step_line c.steps)

abbrev pub block_lines : Block → List Line
block_lines b = (codes "proc" ∷ b.name ∷ decimal (length b.cases) ∷ []) ∷ numbered case_lines 1 b.cases

abbrev pub lines_of : Certificate → List Line
lines_of c =
    (codes "cssv-cert" ∷ codes "1" ∷ []) ∷ (codes "points" ∷ decimal (length c.sets) ∷ [])
    ∷ (map set_line c.sets ++ (flat_map block_lines c.blocks ++ (codes "end" ∷ []) ∷ []))

-- the one text of a certificate
abbrev pub text_of : Certificate → List ℕ
text_of c = text_of_lines (lines_of c)
