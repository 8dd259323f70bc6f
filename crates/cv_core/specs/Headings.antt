-- What is asked of a procedure's heading: main's form, an extern's form, and a body with a statement.
use Rattle.std.specs.Prelude.{ℕ, Bool, true, false, not, ◌&&◌, ◌||◌, ◌==◌, int_le, List, [], ◌∷◌, length, Option, Some, None, ℤ, pos, ◌-ℤ◌, if◌then◌else◌, codes}
use Rattle.std.specs.Option.{is_none}
use Rattle.std.specs.List.{list_any}
use Rattle.std.specs.Str.{bytes_eq}
use Rattle.cv_core.specs.Names.{Name}
use Rattle.cv_core.specs.declared.program.Proc.{Proc}
use Rattle.cv_core.specs.declared.program.ProcBody.{ProcBody}
use Rattle.cv_core.specs.declared.program.Formal.{Formal}
use Rattle.cv_core.specs.declared.program.Contract.{Contract}
use Rattle.cv_core.specs.declared.program.Atom.{Atom}
use Rattle.cv_core.specs.declared.program.Atom.TheVariants as atom
use Rattle.cv_core.specs.declared.program.LinPart.{LinPart}
use Rattle.cv_core.specs.declared.program.Term.{Term}
use Rattle.cv_core.specs.declared.program.Term.TheVariants as term
use Rattle.cv_core.specs.declared.program.Rel.{Rel}
use Rattle.cv_core.specs.declared.program.Rel.TheVariants as rel
use Rattle.cv_core.specs.declared.program.ResultKind.{ResultKind}
use Rattle.cv_core.specs.declared.program.ResultKind.TheVariants as gives
use Rattle.cv_core.specs.declared.program.VarKind.{VarKind}
use Rattle.cv_core.specs.declared.program.VarKind.TheVariants as kind

abbrev pub is_int : VarKind → Bool
is_int kind.Int = true
is_int k = false

abbrev pub gives_int : ResultKind → Bool
gives_int gives.Int = true
gives_int k = false

-- ---- a body

abbrev pub is_empty_body : Option ProcBody → Bool
is_empty_body None = false
is_empty_body (Some b) = length b.stmts == 0

-- ---- main

abbrev pub is_main : Name → Bool
is_main x = bytes_eq x (codes "main")

-- the kinds that main's formals may have
abbrev pub is_main_kind : VarKind → Bool
is_main_kind kind.Int = true
is_main_kind kind.Ptr = true
is_main_kind k = false

-- main is extern, or has another result than int, or a formal other than int or `ptr`
abbrev pub breaks_main : Proc → Bool
breaks_main f = is_main f.name && (is_none f.body || not (gives_int f.answer) || list_any (λ x. not (is_main_kind x.kind)) f.formals)

-- ---- extern procedures: int f(int n) requires n >= A, n <= B; ensures result >= C, result <= D;

abbrev pub term_alone : Bool → Option ℕ → Option Term → Option Term
term_alone false None t = t
term_alone minus k t = None

-- the term that a sum is
abbrev pub lone_term : List LinPart → Option Term
lone_term (p ∷ []) = term_alone p.negative p.number p.term
lone_term parts = None

abbrev pub number_alone : Bool → Option ℕ → Option Term → Option ℤ
number_alone minus (Some k) None = Some (if minus then pos 0 -ℤ pos k else pos k)
number_alone minus k t = None

-- the number that a sum is
abbrev pub lone_number : List LinPart → Option ℤ
lone_number (p ∷ []) = number_alone p.negative p.number p.term
lone_number parts = None

-- the term is the formal of the name, or `result`
abbrev pub is_subject : Option Name → Option Term → Bool
is_subject (Some n) (Some (term.Name x)) = bytes_eq x n
is_subject None (Some term.Answer) = true
is_subject n t = false

-- C of an atom `subject >= C`
abbrev pub least_of : Option Name → Atom → Option ℤ
least_of n (atom.Compare left rel.Ge right) = if is_subject n (lone_term left) then lone_number right else None
least_of n a = None

-- D of an atom `subject <= D`
abbrev pub greatest_of : Option Name → Atom → Option ℤ
greatest_of n (atom.Compare left rel.Le right) = if is_subject n (lone_term left) then lone_number right else None
greatest_of n a = None

abbrev pub ascend : Option ℤ → Option ℤ → Bool
ascend (Some a) (Some b) = int_le a b
ascend a b = false

-- the two atoms of a range, which isn't empty
abbrev pub is_range : Option Name → List Atom → Bool
is_range n (a ∷ b ∷ []) = ascend (least_of n a) (greatest_of n b)
is_range n atoms = false

-- exactly one formal, an int, in the range that requires gives
abbrev pub takes_range : List Formal → List Atom → Bool
takes_range (x ∷ []) needs = is_int x.kind && is_range (Some x.name) needs
takes_range formals needs = false

-- exactly one alternative, the range of the result
abbrev pub gives_range : List (List Atom) → Bool
gives_range (atoms ∷ []) = is_range None atoms
gives_range alternatives = false

abbrev pub has_extern_form : Proc → Bool
has_extern_form f =
    takes_range f.formals f.contract.needs && gives_int f.answer && (length f.contract.listed == 0) && (length f.contract.changes == 0)
    && gives_range f.contract.gives

abbrev pub breaks_extern : Proc → Bool
breaks_extern f = is_none f.body && not (has_extern_form f)
