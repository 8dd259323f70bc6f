-- The cases of small procedures, computed.
use Rattle.std.specs.Prelude.{ℕ, ◌≡◌, refl, true, false, List, [], ◌∷◌, codes, Some, None}
use Rattle.cv_core.specs.Names.{Name}
use Rattle.cv_core.specs.declared.program.Program.{Program}
use Rattle.cv_core.specs.declared.program.GlobalDecl.{GlobalDecl}
use Rattle.cv_core.specs.declared.program.GlobalBody.TheVariants as global
use Rattle.cv_core.specs.declared.program.Literal.{Literal}
use Rattle.cv_core.specs.declared.program.Proc.{Proc}
use Rattle.cv_core.specs.declared.program.Contract.{Contract}
use Rattle.cv_core.specs.declared.program.ResultKind.TheVariants as answer
use Rattle.cv_core.specs.declared.program.Local.{Local}
use Rattle.cv_core.specs.declared.program.LocalBody.TheVariants as local
use Rattle.cv_core.specs.declared.program.VarKind.{VarKind}
use Rattle.cv_core.specs.declared.program.VarKind.TheVariants as kind
use Rattle.cv_core.specs.declared.program.Stmt.{Stmt}
use Rattle.cv_core.specs.declared.program.Form.{Form}
use Rattle.cv_core.specs.declared.program.Form.TheVariants as form
use Rattle.cv_core.specs.declared.program.Formal.{Formal}
use Rattle.cv_core.specs.declared.program.Rel.TheVariants as rel
use Rattle.cv_core.specs.declared.program.Atom.{Atom}
use Rattle.cv_core.specs.declared.program.Atom.TheVariants as atom
use Rattle.cv_core.specs.declared.program.Item.{Item}
use Rattle.cv_core.specs.declared.program.Item.TheVariants as item
use Rattle.cv_core.specs.declared.program.LinPart.{LinPart}
use Rattle.cv_core.specs.declared.program.Term.{Term}
use Rattle.cv_core.specs.declared.program.Term.TheVariants as term
use Rattle.cv_core.specs.declared.program.PtrTerm.TheVariants as pointer
use Rattle.cv_points.specs.Closed.{Family}
use Rattle.cv_ppts.specs.Entities.{named_entities}
use Rattle.cv_ppts.specs.Listed.{named_lists}

abbrev formal : VarKind → Name → Formal
formal k x = record { kind = k; name = x }

abbrev contract : List Name → List Atom → List Item → Contract
contract listed needs changes = record { listed = listed; needs = needs; changes = changes; gives = [] }

abbrev at : Form → Stmt
at form = record { line = 1; form = form }

abbrev proc : Name → List Formal → Contract → List Local → List Stmt → Proc
proc x formals contract locals stmts =
    record { line = 1; answer = answer.Int; name = x; formals = formals; contract = contract; body = Some (record { locals = locals; stmts = stmts }) }

abbrev d : Name
d = codes "d"

abbrev s : Name
s = codes "s"

abbrev w : Name
w = codes "w"

abbrev term_part : Term → LinPart
term_part t = record { negative = false; number = None; term = Some t }

abbrev number_part : ℕ → LinPart
number_part n = record { negative = false; number = Some n; term = None }

abbrev at_least_one : Name → Atom
at_least_one x = atom.Compare (term_part (term.Alloc (pointer.Name x)) ∷ []) rel.Ge (number_part 1 ∷ [])

-- the cases of the first procedure of a program
abbrev cases_in : List GlobalDecl → List Literal → Proc → List Proc → Family → List (List ℕ)
cases_in globals literals f others S =
    let P : Program = record { globals = globals; literals = literals; procs = f ∷ others } in
    named_lists P S f (named_entities P S 0 f) [] []

-- ---- two formals that point to texts from outside

abbrev two_texts : List Atom → Proc
two_texts needs = proc (codes "main") (formal kind.Ptr d ∷ formal kind.Ptr s ∷ []) (contract [] needs (item.Body (pointer.Name d) ∷ [])) [] []

abbrev outside : Family
outside = (0 ∷ []) ∷ (0 ∷ []) ∷ []

both_needed : cases_in [] [] (two_texts (at_least_one d ∷ at_least_one s ∷ [])) [] outside ≡ (1 ∷ 1 ∷ []) ∷ (1 ∷ 2 ∷ []) ∷ []
both_needed = refl

apart_needed : cases_in [] [] (two_texts (at_least_one d ∷ at_least_one s ∷ atom.Apart (pointer.Name d) (pointer.Name s) ∷ [])) [] outside ≡ (1 ∷ 2 ∷ []) ∷ []
apart_needed = refl

nothing_needed : cases_in [] [] (two_texts []) [] outside ≡ (0 ∷ 0 ∷ []) ∷ (0 ∷ 1 ∷ []) ∷ (1 ∷ 0 ∷ []) ∷ (1 ∷ 1 ∷ []) ∷ (1 ∷ 2 ∷ []) ∷ []
nothing_needed = refl

-- a buffer and a literal never have one object
of_two_sites : cases_in [] [] (two_texts (atom.Clear (pointer.Name d) ∷ at_least_one s ∷ [])) [] ((2 ∷ []) ∷ (1 ∷ []) ∷ []) ≡ (1 ∷ 2 ∷ []) ∷ []
of_two_sites = refl

-- ---- a pointer cell whose content can be what a formal points to: the cell has the site 1

abbrev with_cell : Proc
with_cell = proc (codes "f") (formal kind.Pptr w ∷ formal kind.Ptr d ∷ []) (contract [] [] []) (record { name = codes "c"; body = local.PointerCell } ∷ []) []

content_aliases : cases_in [] [] with_cell [] ((1 ∷ []) ∷ (0 ∷ []) ∷ (0 ∷ []) ∷ []) ≡
    (0 ∷ 0 ∷ []) ∷ (0 ∷ 1 ∷ []) ∷ (1 ∷ 0 ∷ 0 ∷ []) ∷ (1 ∷ 0 ∷ 2 ∷ []) ∷ (1 ∷ 2 ∷ 0 ∷ []) ∷ (1 ∷ 2 ∷ 2 ∷ []) ∷ (1 ∷ 2 ∷ 3 ∷ []) ∷ []
content_aliases = refl

-- ---- a listed pointer global that a formal reaches too

abbrev with_global : Proc
with_global = proc (codes "f") (formal kind.Pptr w ∷ []) (contract (codes "g" ∷ []) (atom.Null (pointer.Star w) true ∷ []) []) [] []

global_reached : cases_in (record { name = codes "g"; body = global.Pointer } ∷ []) [] with_global [] ((1 ∷ []) ∷ (0 ∷ []) ∷ []) ≡
    (1 ∷ 1 ∷ 0 ∷ []) ∷ (1 ∷ 2 ∷ 0 ∷ 0 ∷ []) ∷ (1 ∷ 2 ∷ 0 ∷ 3 ∷ []) ∷ []
global_reached = refl

-- ---- a literal that a statement names, in a procedure that changes the bytes of its formal

abbrev with_literal : Proc
with_literal = proc (codes "f") (formal kind.Ptr d ∷ []) (contract [] [] (item.Body (pointer.Name d) ∷ [])) (record { name = s; body = local.Var kind.Ptr } ∷ []) (at (form.Address s (codes "l")) ∷ [])

literal_changed : cases_in [] (record { name = codes "l"; bytes = [] } ∷ []) with_literal [] ((1 ∷ []) ∷ (1 ∷ []) ∷ []) ≡ (0 ∷ 1 ∷ []) ∷ (1 ∷ 2 ∷ []) ∷ []
literal_changed = refl
