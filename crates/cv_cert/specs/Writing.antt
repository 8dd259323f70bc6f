-- Lines as they are written: a word, and each further token behind a space.
use Rattle.std.specs.Prelude.{ℕ, ◌+◌, ℤ, List, [], ◌∷◌, ◌++◌, decimal, flat_map}
use Rattle.std.specs.Fmt.{signed_decimal}
use Rattle.cv_num.specs.declared.rows.Row.{Row}
use Rattle.cv_farkas.specs.declared.steps.Step.{Step}
use Rattle.cv_cert.specs.declared.certificate.Block.{Block}
use Rattle.cv_cert.specs.declared.certificate.CertCase.{CertCase}
use Rattle.cv_cert.specs.Text.{text_of_lines, line_text, row_line, set_line, step_line, statement_lines, case_lines, block_lines}

-- a space and a number
abbrev pub number_text : ℕ → List ℕ
number_text n = 32 ∷ decimal n

abbrev pub integer_text : ℤ → List ℕ
integer_text z = 32 ∷ signed_decimal z

abbrev pub numbers_text : List ℕ → List ℕ
numbers_text ns = flat_map number_text ns

abbrev pub pairs_text : List (ℕ × ℤ) → List ℕ
pairs_text ps = flat_map (λ p. number_text p.0 ++ integer_text p.1) ps

abbrev pub parts_text : List (ℕ × ℕ) → List ℕ
parts_text ps = flat_map (λ p. number_text p.0 ++ number_text p.1) ps

unfoldable pub set_text : List ℕ → List ℕ
set_text s = line_text (set_line s)

unfoldable pub row_text : Row → List ℕ
row_text r = line_text (row_line r)

unfoldable pub step_text : Step → List ℕ
step_text s = line_text (step_line s)

unfoldable pub statement_text : ℕ → List Row → List ℕ
statement_text n rows = text_of_lines (statement_lines n rows)

unfoldable pub case_text : ℕ → CertCase → List ℕ
case_text n c = text_of_lines (case_lines n c)

unfoldable pub block_text : Block → List ℕ
block_text b = text_of_lines (block_lines b)

-- the texts of elements that are numbered from n on
abbrev pub numbered_text : {X : Type 0} → (ℕ → X → List ℕ) → ℕ → List X → List ℕ
numbered_text f n [] = []
numbered_text f n (x ∷ xs) = f n x ++ numbered_text f (n + 1) xs
