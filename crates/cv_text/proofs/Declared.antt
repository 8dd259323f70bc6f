-- A statement that has its kinds is the one that the declarations choose where two are spelled alike.
use Rattle.std.proofs.Common.{◌≡◌, Bool, true, false, cond, if◌then◌else◌, List, [], ◌∷◌, ◌++◌, Option, Some, None, refl, ap, ◌∙◌}
use Rattle.std.specs.Option.{option_map, option_or}
use Rattle.std.specs.List.{All, find}
use Rattle.std.specs.Str.{bytes_eq}
use Rattle.cv_core.specs.Both.{first_true}
use Rattle.cv_core.specs.Grammar.{Tree}
use Rattle.cv_core.specs.Kinds.{has_kinds, means_number, means_ptr, same_pointers}
use Rattle.cv_core.specs.Meant.{meant_by_global, meant_by_local, meant_in}
use Rattle.cv_core.specs.Names.{Name, is_pointer_kind, locals_of}
use Rattle.cv_core.specs.declared.program.Form.{Form}
use Rattle.cv_core.specs.declared.program.Form.TheVariants as form
use Rattle.cv_core.specs.declared.program.Formal.{Formal}
use Rattle.cv_core.specs.declared.program.GlobalBody.{GlobalBody}
use Rattle.cv_core.specs.declared.program.GlobalBody.TheVariants as global
use Rattle.cv_core.specs.declared.program.GlobalDecl.{GlobalDecl}
use Rattle.cv_core.specs.declared.program.Literal.{Literal}
use Rattle.cv_core.specs.declared.program.Local.{Local}
use Rattle.cv_core.specs.declared.program.LocalBody.{LocalBody}
use Rattle.cv_core.specs.declared.program.LocalBody.TheVariants as local
use Rattle.cv_core.specs.declared.program.Operand.TheVariants as operand
use Rattle.cv_core.specs.declared.program.Proc.{Proc}
use Rattle.cv_core.specs.declared.program.ProcBody.{ProcBody}
use Rattle.cv_core.specs.declared.program.Program.{Program}
use Rattle.cv_core.specs.declared.program.VarKind.{VarKind}
use Rattle.cv_core.specs.declared.program.VarKind.TheVariants as kind
use Rattle.cv_text.specs.Grammar.{AsDeclared, is_pointer, variables_of}

-- ---- the statements of a program

abbrev pub BodyDeclared : List Formal → Option ProcBody → Type 0
BodyDeclared formals None = Unit {0}
BodyDeclared formals (Some b) = All (λ s. AsDeclared (formals ++ variables_of b.locals) s.form) b.stmts

abbrev pub AreDeclared : Tree → Type 0
AreDeclared p = All (λ f. BodyDeclared f.formals f.body) p.procs

-- ---- the declaration that counts

formal_first : (fs vs : List Formal) (x : Name) (g : Formal) → find (λ y. bytes_eq y.name x) fs ≡ Some g → is_pointer (fs ++ vs) x ≡ is_pointer_kind g.kind
formal_first [] vs x g e = cc
formal_first (h ∷ fs) vs x g e = by_test (bytes_eq h.name x) (λ k. formal_first fs vs x g k) e
  where
    by_test : (t : Bool) → (find (λ y. bytes_eq y.name x) fs ≡ Some g → is_pointer (fs ++ vs) x ≡ is_pointer_kind g.kind) →
        cond t (Some h) (find (λ y. bytes_eq y.name x) fs) ≡ Some g → (if t then is_pointer_kind h.kind else is_pointer (fs ++ vs) x) ≡ is_pointer_kind g.kind
    by_test true below k = let same : h ≡ g = cc in ap (λ (y : Formal). is_pointer_kind y.kind) same
    by_test false below k = below k

no_formal : (fs vs : List Formal) (x : Name) → find (λ y. bytes_eq y.name x) fs ≡ None → is_pointer (fs ++ vs) x ≡ is_pointer vs x
no_formal [] vs x e = refl
no_formal (h ∷ fs) vs x e = by_test (bytes_eq h.name x) (λ k. no_formal fs vs x k) e
  where
    by_test : (t : Bool) → (find (λ y. bytes_eq y.name x) fs ≡ None → is_pointer (fs ++ vs) x ≡ is_pointer vs x) →
        cond t (Some h) (find (λ y. bytes_eq y.name x) fs) ≡ None → (if t then is_pointer_kind h.kind else is_pointer (fs ++ vs) x) ≡ is_pointer vs x
    by_test true below k = cc
    by_test false below k = below k

other_local : (b : LocalBody) (name x : Name) (vs : List Formal) → bytes_eq name x ≡ false →
    is_pointer (elim b [ local.Var k ↦ record { kind = k; name = name } ∷ vs | _ ↦ vs ]) x ≡ is_pointer vs x
other_local (local.Var k) name x vs e = ap (λ (t : Bool). if t then is_pointer_kind k else is_pointer vs x) e
other_local (local.Buffer n) name x vs e = refl
other_local local.PointerCell name x vs e = refl
other_local local.IntCell name x vs e = refl

this_local : (b : LocalBody) (name x : Name) (vs : List Formal) (k : VarKind) → bytes_eq name x ≡ true → b ≡ local.Var k →
    is_pointer (elim b [ local.Var k ↦ record { kind = k; name = name } ∷ vs | _ ↦ vs ]) x ≡ is_pointer_kind k
this_local (local.Var j) name x vs k e is = let same : j ≡ k = cc in ap (λ (t : Bool). if t then is_pointer_kind j else is_pointer vs x) e ∙ ap is_pointer_kind same
this_local (local.Buffer n) name x vs k e is = cc
this_local local.PointerCell name x vs k e is = cc
this_local local.IntCell name x vs k e is = cc

local_first : (ls : List Local) (x : Name) (l : Local) (k : VarKind) → find (λ y. bytes_eq y.name x) ls ≡ Some l → l.body ≡ local.Var k →
    is_pointer (variables_of ls) x ≡ is_pointer_kind k
local_first [] x l k e is = cc
local_first (m ∷ ls) x l k e is = by_test (bytes_eq m.name x) refl (λ h. local_first ls x l k h is) e
  where
    by_test : (t : Bool) → bytes_eq m.name x ≡ t → (find (λ y. bytes_eq y.name x) ls ≡ Some l → is_pointer (variables_of ls) x ≡ is_pointer_kind k) →
        cond t (Some m) (find (λ y. bytes_eq y.name x) ls) ≡ Some l → is_pointer (variables_of (m ∷ ls)) x ≡ is_pointer_kind k
    by_test true named below h = let same : m ≡ l = cc in this_local m.body m.name x (variables_of ls) k named (ap (λ (y : Local). y.body) same ∙ is)
    by_test false named below h = other_local m.body m.name x (variables_of ls) named ∙ below h

-- ---- tests of what a name stands for that variables alone pass, and those of one sort

record Sorts {M : Type 0} (own : LocalBody → M) (outer : GlobalBody → M) (test : Option M → Bool) (sort : Bool) : Type 0 where
  pub variable : (b : LocalBody) → test (Some (own b)) ≡ true → (k : VarKind) × (b ≡ local.Var k) × (is_pointer_kind k ≡ sort)
  pub global : (b : GlobalBody) → test (Some (outer b)) ≡ true → ⊥
  pub none : test None ≡ true → ⊥

variable_sort : (k j : VarKind) (sort : Bool) → local.Var k ≡ local.Var j → is_pointer_kind j ≡ sort → is_pointer_kind k ≡ sort
variable_sort k j sort e h = let same : k ≡ j = cc in ap is_pointer_kind same ∙ h

by_found : {M : Type 0} (own : LocalBody → M) (outer : GlobalBody → M) (test : Option M → Bool) (sort : Bool) → Sorts own outer test sort →
    (fs : List Formal) (ls : List Local) (x : Name) (fo : Option Formal) (lo : Option Local) (go : Option GlobalDecl) (so : Option Literal) →
    find (λ y. bytes_eq y.name x) fs ≡ fo → find (λ y. bytes_eq y.name x) ls ≡ lo →
    test (option_or (option_or (option_map (λ y. own (local.Var y.kind)) fo) (option_map (λ y. own y.body) lo)) (option_or (option_map (λ y. outer y.body) go) (option_map (λ y. own (local.Buffer 0)) so))) ≡ true →
    is_pointer (fs ++ variables_of ls) x ≡ sort
by_found own outer test sort s fs ls x (Some f) lo go so at there e =
    let (k, is, sorted) = s.variable (local.Var f.kind) e in formal_first fs (variables_of ls) x f at ∙ variable_sort f.kind k sort is sorted
by_found own outer test sort s fs ls x None (Some l) go so at there e =
    let (k, is, sorted) = s.variable l.body e in no_formal fs (variables_of ls) x at ∙ (local_first ls x l k there is ∙ sorted)
by_found own outer test sort s fs ls x None None (Some g) so at there e = absurd (s.global g.body e)
by_found own outer test sort s fs ls x None None None (Some l) at there e = absurd (let (k, is, sorted) = s.variable (local.Buffer 0) e in cc)
by_found own outer test sort s fs ls x None None None None at there e = absurd (s.none e)

number_kind : (k : VarKind) → means_number (Some (meant_by_local (local.Var k))) ≡ true → is_pointer_kind k ≡ false
number_kind kind.Int e = refl
number_kind kind.Char e = refl
number_kind kind.Ptr e = cc
number_kind kind.Pptr e = cc
number_kind kind.Iptr e = cc

numbers : Sorts meant_by_local meant_by_global means_number false
numbers = record { variable = own; global = outer; none = λ e. cc }
  where
    own : (b : LocalBody) → means_number (Some (meant_by_local b)) ≡ true → (k : VarKind) × (b ≡ local.Var k) × (is_pointer_kind k ≡ false)
    own (local.Var k) e = (k, refl, number_kind k e)
    own (local.Buffer n) e = absurd cc
    own local.PointerCell e = absurd cc
    own local.IntCell e = absurd cc

    outer : (b : GlobalBody) → means_number (Some (meant_by_global b)) ≡ true → ⊥
    outer (global.Buffer n) e = cc
    outer global.Pointer e = cc
    outer global.Int e = cc

text_pointer_kind : (k : VarKind) → means_ptr (Some (meant_by_local (local.Var k))) ≡ true → is_pointer_kind k ≡ true
text_pointer_kind kind.Int e = cc
text_pointer_kind kind.Char e = cc
text_pointer_kind kind.Ptr e = refl
text_pointer_kind kind.Pptr e = refl
text_pointer_kind kind.Iptr e = refl

text_pointers : Sorts meant_by_local meant_by_global means_ptr true
text_pointers = record { variable = own; global = outer; none = λ e. cc }
  where
    own : (b : LocalBody) → means_ptr (Some (meant_by_local b)) ≡ true → (k : VarKind) × (b ≡ local.Var k) × (is_pointer_kind k ≡ true)
    own (local.Var k) e = (k, refl, text_pointer_kind k e)
    own (local.Buffer n) e = absurd cc
    own local.PointerCell e = absurd cc
    own local.IntCell e = absurd cc

    outer : (b : GlobalBody) → means_ptr (Some (meant_by_global b)) ≡ true → ⊥
    outer (global.Buffer n) e = cc
    outer global.Pointer e = cc
    outer global.Int e = cc

-- what is copied from a name
copies_of : (P : Program) (f : Proc) (q : Name) → Sorts meant_by_local meant_by_global (λ m. same_pointers m (meant_in P f q)) true
copies_of P f q = record { variable = own; global = outer; none = λ e. cc }
  where
    copied_kind : (k : VarKind) → same_pointers (Some (meant_by_local (local.Var k))) (meant_in P f q) ≡ true → is_pointer_kind k ≡ true
    copied_kind kind.Int e = cc
    copied_kind kind.Char e = cc
    copied_kind kind.Ptr e = refl
    copied_kind kind.Pptr e = refl
    copied_kind kind.Iptr e = refl

    own : (b : LocalBody) → same_pointers (Some (meant_by_local b)) (meant_in P f q) ≡ true → (k : VarKind) × (b ≡ local.Var k) × (is_pointer_kind k ≡ true)
    own (local.Var k) e = (k, refl, copied_kind k e)
    own (local.Buffer n) e = absurd cc
    own local.PointerCell e = absurd cc
    own local.IntCell e = absurd cc

    outer : (b : GlobalBody) → same_pointers (Some (meant_by_global b)) (meant_in P f q) ≡ true → ⊥
    outer (global.Buffer n) e = cc
    outer global.Pointer e = cc
    outer global.Int e = cc

-- ---- kinds of the name on the left

as_number : (P : Program) (f : Proc) (x : Name) → means_number (meant_in P f x) ≡ true → is_pointer (f.formals ++ variables_of (locals_of f.body)) x ≡ false
as_number P f x e =
    by_found meant_by_local meant_by_global means_number false numbers f.formals (locals_of f.body) x (find (λ y. bytes_eq y.name x) f.formals) (find (λ y. bytes_eq y.name x) (locals_of f.body))
    (find (λ y. bytes_eq y.name x) P.globals) (find (λ y. bytes_eq y.name x) P.literals) refl refl e

as_text_pointer : (P : Program) (f : Proc) (x : Name) → means_ptr (meant_in P f x) ≡ true → is_pointer (f.formals ++ variables_of (locals_of f.body)) x ≡ true
as_text_pointer P f x e =
    by_found meant_by_local meant_by_global means_ptr true text_pointers f.formals (locals_of f.body) x (find (λ y. bytes_eq y.name x) f.formals) (find (λ y. bytes_eq y.name x) (locals_of f.body))
    (find (λ y. bytes_eq y.name x) P.globals) (find (λ y. bytes_eq y.name x) P.literals) refl refl e

as_copied : (P : Program) (f : Proc) (x q : Name) → same_pointers (meant_in P f x) (meant_in P f q) ≡ true → is_pointer (f.formals ++ variables_of (locals_of f.body)) x ≡ true
as_copied P f x q e =
    by_found meant_by_local meant_by_global (λ m. same_pointers m (meant_in P f q)) true (copies_of P f q) f.formals (locals_of f.body) x (find (λ y. bytes_eq y.name x) f.formals) (find (λ y. bytes_eq y.name x) (locals_of f.body))
    (find (λ y. bytes_eq y.name x) P.globals) (find (λ y. bytes_eq y.name x) P.literals) refl refl e

-- a statement that has its kinds is as it is declared
pub declared : (P : Program) (f : Proc) (form : Form) → has_kinds P f form ≡ true → AsDeclared (f.formals ++ variables_of (locals_of f.body)) form
declared P f (form.Assign x (operand.Var y)) e = as_number P f x (first_true _ _ e)
declared P f (form.Assign x (operand.Number z)) e = tt
declared P f (form.Sum x (operand.Var y) g) e = as_number P f x (first_true _ _ (first_true _ _ e))
declared P f (form.Sum x (operand.Number z) g) e = tt
declared P f (form.Minus x a b) e = tt
declared P f (form.Product x k a) e = tt
declared P f (form.Quotient x a k) e = tt
declared P f (form.Remainder x a k) e = tt
declared P f (form.CopyPtr p (Some q)) e = as_copied P f p q e
declared P f (form.CopyPtr p None) e = tt
declared P f (form.Address p a) e = tt
declared P f (form.Shift p q a) e = as_text_pointer P f p (first_true _ _ (first_true _ _ e))
declared P f (form.Load x p) e = tt
declared P f (form.Store p a) e = tt
declared P f (form.Get x w) e = tt
declared P f (form.Put w a) e = tt
declared P f (form.Diff x p q) e = tt
declared P f (form.Goto to) e = tt
declared P f (form.If a r b to) e = tt
declared P f (form.IfByte p equal to) e = tt
declared P f (form.Call into g args) e = tt
declared P f (form.Return a) e = tt
