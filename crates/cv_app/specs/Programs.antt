-- Which program a file stands for, or the line with which it is refused.
use Rattle.std.specs.Prelude.{◌≡◌, ℕ, ◌≤◌, List, length, codes, Option, Some, None, Result, Ok, Err, IsTrue, nat_eq}
use Rattle.std.specs.List.{ends_with}
use Rattle.cv_core.specs.declared.faults.LimitName.{LimitName}
use Rattle.cv_core.specs.declared.faults.LimitName.TheVariants as limit
use Rattle.cv_core.specs.declared.faults.ShapeFault.{ShapeFault}
use Rattle.cv_core.specs.declared.program.Program.{Program}
use Rattle.cv_core.specs.Limits.{first_limit}
use Rattle.cv_core.specs.Shape.{first_fault}
use Rattle.cv_text.specs.Readings.{Unread, Faulty, Nested, IsReading}
use Rattle.cv_io.specs.Files.{Files, HoldsMore}
use Rattle.cv_app.specs.declared.served.Served.{Served}
use Rattle.cv_app.specs.Served.{refused}
use Rattle.cv_app.specs.Texts.{not_built_text, text_fault_text, shape_fault_text, limit_text}

-- the name of a file of C text
abbrev pub IsCName : List ℕ → Type 0
IsCName name = IsTrue (ends_with nat_eq name (codes ".c"))

-- the name is there, with these bytes, which are at most so many
pub record Gives (files : Files) (name : List ℕ) (limit : ℕ) (bytes : List ℕ) : Type 0 where
  pub there : files name ≡ Some bytes
  pub within : length bytes ≤ limit

-- a program, or the line that refuses the file
abbrev pub Found : Type 0
Found = Result Program Served

abbrev pub by_shape : List ℕ → Program → Option ShapeFault → Found
by_shape file p (Some e) = Err (refused 3 (shape_fault_text file e))
by_shape file p None = Ok p

abbrev pub by_limit : List ℕ → Program → Option LimitName → Found
by_limit file p (Some which) = Err (refused 4 (limit_text which))
by_limit file p None = by_shape file p (first_fault p)

-- a text is refused by its first fault or a level too many, then its program by the first limit, then by the first fault of shape
abbrev pub found_by : List ℕ → Result Program Unread → Found
found_by file (Err (Faulty line)) = Err (refused 3 (text_fault_text file line))
found_by file (Err Nested) = Err (refused 4 (limit_text limit.Nesting))
found_by file (Ok p) = by_limit file p (first_limit p)

-- what the bytes of a file of this name stand for
pub data BytesGive (name bytes : List ℕ) (found : Found) : Type 0 where
  CText : IsCName name → found ≡ Err (refused 3 (not_built_text name 1)) → BytesGive name bytes found
  CoreText : (IsCName name → ⊥) → (r : Result Program Unread) → IsReading bytes r → found ≡ found_by name r → BytesGive name bytes found

-- what a file stands for
pub data FileGives (files : Files) (name : List ℕ) (found : Found) : Type 0 where
  TooLong : HoldsMore (Some files) name 1048576 → found ≡ Err (refused 4 (limit_text limit.File)) → FileGives files name found
  Bytes : (bytes : List ℕ) → Gives files name 1048576 bytes → BytesGive name bytes found → FileGives files name found
