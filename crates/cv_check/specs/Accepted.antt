-- Which texts are certificates of a straight-line program.
use Rattle.std.specs.Prelude.{◌≡◌, ℕ, ◌+◌, ◌==◌, ◌&&◌, ◌||◌, not, nat_le, nat_lt, Bool, true, false, List, [], ◌∷◌, ◌++◌, length, codes, Option, Some, None, IsTrue}
use Rattle.std.specs.List.{list_any, list_all}
use Rattle.cv_core.specs.Names.{stmts_of, locals_of}
use Rattle.cv_core.specs.declared.program.Program.{Program}
use Rattle.cv_core.specs.declared.program.Proc.{Proc}
use Rattle.cv_core.specs.declared.program.ProcBody.{ProcBody}
use Rattle.cv_core.specs.declared.program.Local.{Local}
use Rattle.cv_core.specs.declared.program.LocalBody.TheVariants as local
use Rattle.cv_core.specs.declared.program.Stmt.{Stmt}
use Rattle.cv_num.specs.declared.rows.Row.{Row}
use Rattle.cv_cert.specs.Certificate.{Certificate, IsCertificate}
use Rattle.cv_cert.specs.Text.{text_of}
use Rattle.cv_cert.specs.declared.certificate.Block.{Block}
use Rattle.cv_cert.specs.declared.certificate.CertCase.{CertCase}
use Rattle.cv_check.specs.declared.place.Place.{Place}
use Rattle.cv_check.specs.Integer.{has_address, facts, place}
use Rattle.cv_check.specs.Shown.{Owed, entry_owed, stmts_owed, all_shown, first_rows, later_rows}

-- ---- the parts of a straight-line program

abbrev pub first_body : List Proc → Option ProcBody
first_body [] = None
first_body (f ∷ fs) = f.body

-- the statements of the first procedure
abbrev pub statements : Program → List Stmt
statements P = stmts_of (first_body P.procs)

-- the size of the first buffer among the locals
abbrev pub size_among : List Local → ℕ
size_among [] = 0
size_among (l ∷ ls) = elim l.body [ local.Buffer n ↦ n | _ ↦ size_among ls ]

abbrev pub buffer_size : Program → ℕ
buffer_size P = size_among (locals_of (first_body P.procs))

-- ---- the rules

-- one set, of the pointer, that has the buffer's site 1 where some statement points to the buffer
abbrev pub points_to : List Stmt → List (List ℕ) → Bool
points_to stmts (s ∷ []) = not (has_address stmts) || list_any (λ n. n == 1) s
points_to stmts sets = false

-- the row names at most the code and the offset of the pointer: no variable is out of range, and none is a first zero
abbrev pub names_pointer : Row → Bool
names_pointer r = list_all (λ q. nat_lt q.0 2) r.pairs && nat_le (length r.pairs) 2

-- no list of hypotheses is longer than 4096
abbrev pub is_sized : List Row → List Row → List Row → Bool
is_sized rows facts guard = nat_le (length rows + length guard + length facts) 4096

abbrev pub place_sized : List Row → List Row → Place → Bool
place_sized rows facts at = list_all (λ g. is_sized rows facts g.guard) at.groups && list_all (λ t. is_sized rows facts t.guard) at.moves

abbrev pub all_sized : ℕ → Bool → List Stmt → List (List Row) → Bool
all_sized size target [] rows = true
all_sized size target (s ∷ ss) rows =
    place_sized (first_rows rows) (facts size target) (place size target s.form) && all_sized size target ss (later_rows rows)

-- what is to be shown, in the order in which it takes steps
abbrev pub all_owed : ℕ → List Stmt → List (List Row) → List Owed
all_owed size stmts rows = entry_owed size (has_address stmts) rows ++ stmts_owed size (has_address stmts) stmts rows

-- a case is valid for these statements over a buffer of this size
pub record IsCaseValid (size : ℕ) (stmts : List Stmt) (c : CertCase) : Type 0 where
  pub form : length c.rows ≡ length stmts
  pub variables : IsTrue (list_all (list_all names_pointer) c.rows)
  pub sized : IsTrue (all_sized size (has_address stmts) stmts c.rows)
  pub shown : all_shown (all_owed size stmts c.rows) c.steps ≡ Some []
  pub no_picks : c.picks ≡ []

-- one block, named main, of one case
pub record IsBlockValid (size : ℕ) (stmts : List Stmt) (b : Block) : Type 0 where
  pub name : b.name ≡ codes "main"
  pub case : CertCase
  pub cases : b.cases ≡ case ∷ []
  pub valid : IsCaseValid size stmts case

-- a certificate is valid for these statements over a buffer of this size
pub record IsCertificateValid (size : ℕ) (stmts : List Stmt) (c : Certificate) : Type 0 where
  pub points : IsTrue (points_to stmts c.sets)
  pub block : Block
  pub blocks : c.blocks ≡ block ∷ []
  pub valid : IsBlockValid size stmts block

abbrev pub IsValid : Program → Certificate → Type 0
IsValid P c = IsCertificateValid (buffer_size P) (statements P) c

-- the bytes are the text of a certificate that is valid for the program
pub record IsAccepted (P : Program) (text : List ℕ) : Type 0 where
  pub certificate : Certificate
  pub is_certificate : IsCertificate certificate
  pub is_text : text ≡ text_of certificate
  pub valid : IsValid P certificate
