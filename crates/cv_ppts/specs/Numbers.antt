-- The numbers that stand for codes in the rows of targets: -1 for the unknown code, 0 for null, and t for the target t.
use Rattle.std.specs.Prelude.{List, None, Option, Some, [], map, negsuc, pos, slice_index_or, suc, zero, ℕ, ℤ, ◌≡◌}
use Rattle.cv_ppts.specs.declared.code.Code.{Code}
use Rattle.cv_ppts.specs.declared.code.Code.TheVariants as code

abbrev pub code_of : ℤ → Code
code_of (pos zero) = code.Null
code_of (pos (suc t)) = code.Target (suc t)
code_of (negsuc n) = code.Unknown

-- the new object's has none
abbrev pub number_of : Code → Option ℤ
number_of code.Unknown = Some (negsuc 0)
number_of code.Null = Some (pos 0)
number_of (code.Target zero) = None
number_of (code.Target (suc t)) = Some (pos (suc t))
number_of code.New = None

-- the code that a case gives an entity
abbrev pub entity_code : ℕ → Code
entity_code zero = code.Null
entity_code (suc b) = code.Target (suc b)

abbrev pub Rows : Type 0
Rows = List (List ℤ)

-- the codes of a row, and of rows
abbrev pub row_codes : List ℤ → List Code
row_codes ns = map code_of ns

abbrev pub codes_of : Rows → List (List Code)
codes_of rows = map row_codes rows

-- the row at a place, empty where there is none
abbrev pub row_at : Rows → ℕ → List ℤ
row_at rows h = slice_index_or rows h []

-- a number that a code has
abbrev pub IsNumber : ℤ → Type 0
IsNumber n = number_of (code_of n) ≡ Some n
