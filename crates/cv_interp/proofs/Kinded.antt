-- What a name is declared as, and the kind and the slot of a variable.
use Rattle.std.proofs.Common.{◌≡◌, refl, sym, ap, ◌∙◌, ℕ, suc, ◌⊎◌, inl, inr, Bool, true, false, cond, List, [], ◌∷◌, ◌++◌, map, Option, Some, None}
use Rattle.std.specs.Prelude.{IsSome, if◌then◌else◌}
use Rattle.std.specs.List.{filter, find}
use Rattle.std.specs.Option.{option_map, option_or}
use Rattle.std.specs.Str.{bytes_eq}
use Rattle.cv_core.specs.Kinds.{means_int, means_iptr, means_number, means_pptr, means_ptr}
use Rattle.cv_core.specs.Meant.{meant_by_global, meant_by_local, meant_in}
use Rattle.cv_core.specs.Names.{Name, kind_among, kind_in_locals, kind_of, kind_of_local, locals_of}
use Rattle.cv_core.specs.declared.program.Program.{Program}
use Rattle.cv_core.specs.declared.program.Proc.{Proc}
use Rattle.cv_core.specs.declared.program.Formal.{Formal}
use Rattle.cv_core.specs.declared.program.GlobalBody.{GlobalBody}
use Rattle.cv_core.specs.declared.program.GlobalBody.TheVariants as global
use Rattle.cv_core.specs.declared.program.GlobalDecl.{GlobalDecl}
use Rattle.cv_core.specs.declared.program.Literal.{Literal}
use Rattle.cv_core.specs.declared.program.Local.{Local}
use Rattle.cv_core.specs.declared.program.LocalBody.{LocalBody}
use Rattle.cv_core.specs.declared.program.LocalBody.TheVariants as local
use Rattle.cv_core.specs.declared.program.VarKind.{VarKind}
use Rattle.cv_core.specs.declared.program.VarKind.TheVariants as kind
use Rattle.cv_interp.specs.Slots.{is_variable, slot_in, variables_of}
use Rattle.cv_interp.specs.Sound.{is_cell_kind}
use Rattle.cv_interp.specs.Takes.{HasSlot}

-- ---- what a name is declared as, in the words of locals

abbrev pub as_local : GlobalBody → LocalBody
as_local (global.Buffer n) = local.Buffer n
as_local global.Pointer = local.PointerCell
as_local global.Int = local.IntCell

abbrev pub formal_body : Option Formal → Option LocalBody
formal_body o = option_map (λ f. local.Var f.kind) o

abbrev pub outer_body : Option GlobalDecl → Option Literal → Option LocalBody
outer_body g l = option_or (option_map (λ g. as_local g.body) g) (option_map (λ l. local.Buffer 0) l)

abbrev pub body_by : Option Formal → Option Local → Option GlobalDecl → Option Literal → Option LocalBody
body_by f l g s = option_or (formal_body f) (option_or (option_map (λ l. l.body) l) (outer_body g s))

abbrev pub body_of : Program → Proc → Name → Option LocalBody
body_of P f x =
    body_by (find (λ y. bytes_eq y.name x) f.formals) (find (λ l. bytes_eq l.name x) (locals_of f.body)) (find (λ g. bytes_eq g.name x) P.globals)
    (find (λ l. bytes_eq l.name x) P.literals)

global_same : (b : GlobalBody) → meant_by_global b ≡ meant_by_local (as_local b)
global_same (global.Buffer n) = refl
global_same global.Pointer = refl
global_same global.Int = refl

means_by : (f : Option Formal) (l : Option Local) (g : Option GlobalDecl) (s : Option Literal) →
    option_or (option_or (option_map (λ f. meant_by_local (local.Var f.kind)) f) (option_map (λ l. meant_by_local l.body) l))
    (option_or (option_map (λ g. meant_by_global g.body) g) (option_map (λ l. meant_by_local (local.Buffer 0)) s)) ≡ option_map meant_by_local (body_by f l g s)
means_by (Some f) l g s = refl
means_by None (Some l) g s = refl
means_by None None (Some g) s = ap Some (global_same g.body)
means_by None None None (Some s) = refl
means_by None None None None = refl

pub means_is : (P : Program) (f : Proc) (x : Name) → meant_in P f x ≡ option_map meant_by_local (body_of P f x)
means_is P f x =
    means_by (find (λ y. bytes_eq y.name x) f.formals) (find (λ l. bytes_eq l.name x) (locals_of f.body)) (find (λ g. bytes_eq g.name x) P.globals)
    (find (λ l. bytes_eq l.name x) P.literals)

-- ---- the kind and the slot of a variable

some_if : (b : Bool) (o : Option ℕ) → IsSome o → IsSome (if b then Some 0 else option_map suc o)
some_if true o h = refl
some_if false None h = absurd (cc)
some_if false (Some i) h = refl

-- among the formals
formals_kind : (fs : List Formal) (ls : List Local) (x : Name) (k : VarKind) (rest : Option LocalBody) →
    option_or (formal_body (find (λ f. bytes_eq f.name x) fs)) rest ≡ Some (local.Var k) →
    ((kind_among x fs ls ≡ k) × IsSome (slot_in (map (λ f. f.name) fs) x)) ⊎ ((rest ≡ Some (local.Var k)) × (kind_among x fs ls ≡ kind_in_locals x ls))
formals_kind [] ls x k rest h = inr (h, refl)
formals_kind (f ∷ fs) ls x k rest h = cases (bytes_eq f.name x) h (formals_kind fs ls x k rest)
  where
    cases : (b : Bool) → option_or (formal_body (cond b (Some f) (find (λ f. bytes_eq f.name x) fs))) rest ≡ Some (local.Var k) →
        (option_or (formal_body (find (λ f. bytes_eq f.name x) fs)) rest ≡ Some (local.Var k) →
        ((kind_among x fs ls ≡ k) × IsSome (slot_in (map (λ f. f.name) fs) x)) ⊎ ((rest ≡ Some (local.Var k)) × (kind_among x fs ls ≡ kind_in_locals x ls))) →
        (((if b then f.kind else kind_among x fs ls) ≡ k) × IsSome (if b then Some 0 else option_map suc (slot_in (map (λ f. f.name) fs) x)))
        ⊎ ((rest ≡ Some (local.Var k)) × ((if b then f.kind else kind_among x fs ls) ≡ kind_in_locals x ls))
    cases true e ih = let same : f.kind ≡ k = cc in inl (same, refl)
    cases false e ih = elim (ih e) [ inl p ↦ inl (p.0, some_if false (slot_in (map (λ f. f.name) fs) x) p.1) | inr p ↦ inr p ]

local_kind : (b : LocalBody) (k : VarKind) → Some b ≡ Some (local.Var k) → (kind_of_local b ≡ k) × (is_variable b ≡ true)
local_kind (local.Var j) k h = let same : j ≡ k = cc in (same, refl)
local_kind (local.Buffer n) k h = absurd (cc)
local_kind local.PointerCell k h = absurd (cc)
local_kind local.IntCell k h = absurd (cc)

-- the slot, where the local l may be a variable and have the name
slot_cons : (v : Bool) (l : Local) (ls : List Local) (x : Name) → IsSome (slot_in (variables_of ls) x) →
    IsSome (slot_in (map (λ (k : Local). k.name) (cond v (l ∷ filter (λ (k : Local). is_variable k.body) ls) (filter (λ (k : Local). is_variable k.body) ls))) x)
slot_cons true l ls x h = some_if (bytes_eq l.name x) (slot_in (variables_of ls) x) h
slot_cons false l ls x h = h

slot_here : (v b : Bool) (l : Local) (ls : List Local) (x : Name) → v ≡ true → bytes_eq l.name x ≡ b → b ≡ true →
    IsSome (slot_in (map (λ (k : Local). k.name) (cond v (l ∷ filter (λ (k : Local). is_variable k.body) ls) (filter (λ (k : Local). is_variable k.body) ls))) x)
slot_here v b l ls x h e t = rw (h, e, t) refl

-- among the locals
locals_kind : (ls : List Local) (x : Name) (k : VarKind) (outer : Option LocalBody) → (outer ≡ Some (local.Var k) → ⊥) →
    option_or (option_map (λ l. l.body) (find (λ l. bytes_eq l.name x) ls)) outer ≡ Some (local.Var k) → (kind_in_locals x ls ≡ k) × IsSome (slot_in (variables_of ls) x)
locals_kind [] x k outer none h = absurd (none h)
locals_kind (l ∷ ls) x k outer none h = cases (bytes_eq l.name x) refl h (locals_kind ls x k outer none)
  where
    cases : (b : Bool) → bytes_eq l.name x ≡ b → option_or (option_map (λ l. l.body) (cond b (Some l) (find (λ l. bytes_eq l.name x) ls))) outer ≡ Some (local.Var k) →
        (option_or (option_map (λ l. l.body) (find (λ l. bytes_eq l.name x) ls)) outer ≡ Some (local.Var k) → (kind_in_locals x ls ≡ k) × IsSome (slot_in (variables_of ls) x)) →
        ((if b then kind_of_local l.body else kind_in_locals x ls) ≡ k) × IsSome (slot_in (variables_of (l ∷ ls)) x)
    cases true e s ih = let p = local_kind l.body k s in (p.0, slot_here (is_variable l.body) true l ls x p.1 e refl)
    cases false e s ih = let p = ih s in (p.0, slot_cons (is_variable l.body) l ls x p.1)

-- globals and literals are no variables
global_no_variable : (b : GlobalBody) (k : VarKind) → Some (as_local b) ≡ Some (local.Var k) → ⊥
global_no_variable (global.Buffer n) k h = cc
global_no_variable global.Pointer k h = cc
global_no_variable global.Int k h = cc

outer_no_variable : (g : Option GlobalDecl) (l : Option Literal) (k : VarKind) → outer_body g l ≡ Some (local.Var k) → ⊥
outer_no_variable (Some g) l k h = global_no_variable g.body k h
outer_no_variable None (Some l) k h = cc
outer_no_variable None None k h = cc

slot_before : (ns ms : List Name) (x : Name) → IsSome (slot_in ns x) → IsSome (slot_in (ns ++ ms) x)
slot_before [] ms x h = absurd (cc)
slot_before (n ∷ ns) ms x h = cases (bytes_eq n x) (slot_in ns x) h (slot_before ns ms x)
  where
    cases : (b : Bool) (o : Option ℕ) → IsSome (if b then Some 0 else option_map suc o) → (IsSome o → IsSome (slot_in (ns ++ ms) x)) →
        IsSome (if b then Some 0 else option_map suc (slot_in (ns ++ ms) x))
    cases true o s ih = refl
    cases false None s ih = absurd (cc)
    cases false (Some i) s ih = some_if false (slot_in (ns ++ ms) x) (ih refl)

slot_after : (ns ms : List Name) (x : Name) → IsSome (slot_in ms x) → IsSome (slot_in (ns ++ ms) x)
slot_after [] ms x h = h
slot_after (n ∷ ns) ms x h = some_if (bytes_eq n x) (slot_in (ns ++ ms) x) (slot_after ns ms x h)

-- a variable has its kind and a slot
pub variable_is : (P : Program) (f : Proc) (x : Name) (k : VarKind) → body_of P f x ≡ Some (local.Var k) → (kind_of f x ≡ k) × HasSlot f x
variable_is P f x k h =
    elim (formals_kind f.formals (locals_of f.body) x k
    (option_or (option_map (λ l. l.body) (find (λ l. bytes_eq l.name x) (locals_of f.body)))
    (outer_body (find (λ g. bytes_eq g.name x) P.globals) (find (λ l. bytes_eq l.name x) P.literals))) h) [
      | inl p ↦ (p.0, slot_before (map (λ f. f.name) f.formals) (variables_of (locals_of f.body)) x p.1)
      | inr p ↦ (
          let q = locals_kind (locals_of f.body) x k (outer_body (find (λ g. bytes_eq g.name x) P.globals) (find (λ l. bytes_eq l.name x) P.literals))
          (outer_no_variable (find (λ g. bytes_eq g.name x) P.globals) (find (λ l. bytes_eq l.name x) P.literals) k) p.0 in
          (p.1 ∙ q.0, slot_after (map (λ f. f.name) f.formals) (variables_of (locals_of f.body)) x q.1)
          )
    ]

-- ---- by the tests of the shape

number_variable : (b : Option LocalBody) → means_number (option_map meant_by_local b) ≡ true → (k : VarKind) × (b ≡ Some (local.Var k)) × (is_cell_kind k ≡ false)
number_variable None h = absurd (cc)
number_variable (Some (local.Buffer n)) h = absurd (cc)
number_variable (Some local.PointerCell) h = absurd (cc)
number_variable (Some local.IntCell) h = absurd (cc)
number_variable (Some (local.Var kind.Int)) h = (kind.Int, refl, refl)
number_variable (Some (local.Var kind.Char)) h = (kind.Char, refl, refl)
number_variable (Some (local.Var kind.Ptr)) h = absurd (cc)
number_variable (Some (local.Var kind.Pptr)) h = absurd (cc)
number_variable (Some (local.Var kind.Iptr)) h = absurd (cc)

int_variable : (b : Option LocalBody) → means_int (option_map meant_by_local b) ≡ true → b ≡ Some (local.Var kind.Int)
int_variable None h = absurd (cc)
int_variable (Some (local.Buffer n)) h = absurd (cc)
int_variable (Some local.PointerCell) h = absurd (cc)
int_variable (Some local.IntCell) h = absurd (cc)
int_variable (Some (local.Var kind.Int)) h = refl
int_variable (Some (local.Var kind.Char)) h = absurd (cc)
int_variable (Some (local.Var kind.Ptr)) h = absurd (cc)
int_variable (Some (local.Var kind.Pptr)) h = absurd (cc)
int_variable (Some (local.Var kind.Iptr)) h = absurd (cc)

pub ptr_variable : (b : Option LocalBody) → means_ptr (option_map meant_by_local b) ≡ true → b ≡ Some (local.Var kind.Ptr)
ptr_variable None h = absurd (cc)
ptr_variable (Some (local.Buffer n)) h = absurd (cc)
ptr_variable (Some local.PointerCell) h = absurd (cc)
ptr_variable (Some local.IntCell) h = absurd (cc)
ptr_variable (Some (local.Var kind.Int)) h = absurd (cc)
ptr_variable (Some (local.Var kind.Char)) h = absurd (cc)
ptr_variable (Some (local.Var kind.Ptr)) h = refl
ptr_variable (Some (local.Var kind.Pptr)) h = absurd (cc)
ptr_variable (Some (local.Var kind.Iptr)) h = absurd (cc)

pub pptr_variable : (b : Option LocalBody) → means_pptr (option_map meant_by_local b) ≡ true → b ≡ Some (local.Var kind.Pptr)
pptr_variable None h = absurd (cc)
pptr_variable (Some (local.Buffer n)) h = absurd (cc)
pptr_variable (Some local.PointerCell) h = absurd (cc)
pptr_variable (Some local.IntCell) h = absurd (cc)
pptr_variable (Some (local.Var kind.Int)) h = absurd (cc)
pptr_variable (Some (local.Var kind.Char)) h = absurd (cc)
pptr_variable (Some (local.Var kind.Ptr)) h = absurd (cc)
pptr_variable (Some (local.Var kind.Pptr)) h = refl
pptr_variable (Some (local.Var kind.Iptr)) h = absurd (cc)

pub iptr_variable : (b : Option LocalBody) → means_iptr (option_map meant_by_local b) ≡ true → b ≡ Some (local.Var kind.Iptr)
iptr_variable None h = absurd (cc)
iptr_variable (Some (local.Buffer n)) h = absurd (cc)
iptr_variable (Some local.PointerCell) h = absurd (cc)
iptr_variable (Some local.IntCell) h = absurd (cc)
iptr_variable (Some (local.Var kind.Int)) h = absurd (cc)
iptr_variable (Some (local.Var kind.Char)) h = absurd (cc)
iptr_variable (Some (local.Var kind.Ptr)) h = absurd (cc)
iptr_variable (Some (local.Var kind.Pptr)) h = absurd (cc)
iptr_variable (Some (local.Var kind.Iptr)) h = refl

plain : (P : Program) (f : Proc) (x : Name) (k : VarKind) → is_cell_kind k ≡ false → body_of P f x ≡ Some (local.Var k) → (is_cell_kind (kind_of f x) ≡ false) × HasSlot f x
plain P f x k c h = let p = variable_is P f x k h in (ap is_cell_kind p.0 ∙ c, p.1)

pub number_plain : (P : Program) (f : Proc) (x : Name) → means_number (meant_in P f x) ≡ true → (is_cell_kind (kind_of f x) ≡ false) × HasSlot f x
number_plain P f x h = let (k, e, c) = number_variable (body_of P f x) (ap means_number (sym (means_is P f x)) ∙ h) in plain P f x k c e

pub int_plain : (P : Program) (f : Proc) (x : Name) → means_int (meant_in P f x) ≡ true → (is_cell_kind (kind_of f x) ≡ false) × HasSlot f x
int_plain P f x h = plain P f x kind.Int refl (int_variable (body_of P f x) (ap means_int (sym (means_is P f x)) ∙ h))

pub ptr_plain : (P : Program) (f : Proc) (x : Name) → means_ptr (meant_in P f x) ≡ true → (is_cell_kind (kind_of f x) ≡ false) × HasSlot f x
ptr_plain P f x h = plain P f x kind.Ptr refl (ptr_variable (body_of P f x) (ap means_ptr (sym (means_is P f x)) ∙ h))

pub pptr_is : (P : Program) (f : Proc) (x : Name) → means_pptr (meant_in P f x) ≡ true → (kind_of f x ≡ kind.Pptr) × HasSlot f x
pptr_is P f x h = variable_is P f x kind.Pptr (pptr_variable (body_of P f x) (ap means_pptr (sym (means_is P f x)) ∙ h))

pub iptr_is : (P : Program) (f : Proc) (x : Name) → means_iptr (meant_in P f x) ≡ true → (kind_of f x ≡ kind.Iptr) × HasSlot f x
iptr_is P f x h = variable_is P f x kind.Iptr (iptr_variable (body_of P f x) (ap means_iptr (sym (means_is P f x)) ∙ h))
