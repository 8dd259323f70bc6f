-- What names stand for, looked up once before a run: the slots of variables, the homes of objects, the procedures called.
use Rattle.std.specs.Prelude.{ℕ, ◌+◌, List, [], ◌∷◌, length, map, sum, take, slice_get, Option, Some, None}
use Rattle.std.specs.Option.{option_and_then}
use Rattle.cv_core.specs.Names.{Name, kind_of, local_site, locals_of, mallocs_in, objects_of, place_of, stmts_of}
use Rattle.cv_core.specs.declared.program.Program.{Program}
use Rattle.cv_core.specs.declared.program.Proc.{Proc}
use Rattle.cv_core.specs.declared.program.VarKind.TheVariants as kind
use Rattle.cv_core.specs.declared.program.Operand.{Operand}
use Rattle.cv_core.specs.declared.program.Operand.TheVariants as operand
use Rattle.cv_core.specs.declared.program.AnyOperand.{AnyOperand}
use Rattle.cv_core.specs.declared.program.AnyOperand.TheVariants as any
use Rattle.cv_core.specs.declared.program.Form.{Form}
use Rattle.cv_core.specs.declared.program.Form.TheVariants as form
use Rattle.cv_interp.specs.declared.store.Slot.{Slot}
use Rattle.cv_interp.specs.declared.store.Home.{Home}
use Rattle.cv_interp.specs.declared.store.Home.TheVariants as home
use Rattle.cv_interp.specs.declared.store.Line.{Line}
use Rattle.cv_interp.specs.declared.store.Plan.{Plan}
use Rattle.cv_interp.specs.Slots.{slot_of}

-- ---- variables

abbrev pub slot_at : Proc → Name → Slot
slot_at f x = record { place = slot_of f x; kind = kind_of f x }

-- where no variable is named
abbrev pub nowhere : Slot
nowhere = record { place = None; kind = kind.Int }

abbrev pub slot_if : Proc → Option Name → Slot
slot_if f None = nowhere
slot_if f (Some x) = slot_at f x

abbrev pub operand_slot : Proc → Operand → Slot
operand_slot f (operand.Var x) = slot_at f x
operand_slot f (operand.Number z) = nowhere

abbrev pub any_slot : Proc → AnyOperand → Slot
any_slot f (any.Operand e) = operand_slot f e
any_slot f any.Null = nowhere

abbrev pub any_slot_if : Proc → Option AnyOperand → Slot
any_slot_if f None = nowhere
any_slot_if f (Some e) = any_slot f e

-- ---- objects: a local of the procedure, else a global, else a literal

abbrev pub home_in : Program → Option ℕ → Option ℕ → Option ℕ → Home
home_in P (Some i) g l = home.Own i
home_in P None (Some i) l = home.Shared i
home_in P None None (Some i) = home.Shared (length P.globals + i)
home_in P None None None = home.Shared 0

abbrev pub home_of : Program → Proc → Name → Home
home_of P f a = home_in P (place_of (λ l. l.name) a (objects_of f)) (place_of (λ g. g.name) a P.globals) (place_of (λ l. l.name) a P.literals)

-- the object, where those of the procedure begin with `first`
abbrev pub object_at : ℕ → Home → ℕ
object_at first (home.Own i) = first + i
object_at first (home.Shared o) = o

-- the place among the local objects; 0 for any other
abbrev pub own_place : Home → ℕ
own_place (home.Own i) = i
own_place (home.Shared o) = 0

-- ---- statements

-- a line of these slots, without an object and without a call
abbrev pub plain : Slot → Slot → Slot → Line
plain a b c = record { first = a; second = b; third = c; home = home.Shared 0; args = []; callee = None }

abbrev pub line_of : Program → Proc → Form → Line
line_of P f (form.Assign x e) = plain (slot_at f x) (operand_slot f e) nowhere
line_of P f (form.Sum x d e) = plain (slot_at f x) (operand_slot f d) (operand_slot f e)
line_of P f (form.Minus x d e) = plain (slot_at f x) (operand_slot f d) (operand_slot f e)
line_of P f (form.Product x z e) = plain (slot_at f x) (operand_slot f e) nowhere
line_of P f (form.Quotient x e z) = plain (slot_at f x) (operand_slot f e) nowhere
line_of P f (form.Remainder x e z) = plain (slot_at f x) (operand_slot f e) nowhere
line_of P f (form.CopyPtr p q) = plain (slot_at f p) (slot_if f q) nowhere
line_of P f (form.Address p a) = record (plain (slot_at f p) nowhere nowhere) { home = home_of P f a }
line_of P f (form.Shift p q e) = plain (slot_at f p) (slot_at f q) (operand_slot f e)
line_of P f (form.Load x p) = plain (slot_at f x) (slot_at f p) nowhere
line_of P f (form.Store p e) = plain (slot_at f p) (operand_slot f e) nowhere
line_of P f (form.Get x w) = plain (slot_at f x) (slot_at f w) nowhere
line_of P f (form.Put w e) = plain (slot_at f w) (any_slot f e) nowhere
line_of P f (form.Diff x p q) = plain (slot_at f x) (slot_at f p) (slot_at f q)
line_of P f (form.Goto to) = plain nowhere nowhere nowhere
line_of P f (form.If d r e to) = plain (operand_slot f d) (any_slot f e) nowhere
line_of P f (form.IfByte p equal to) = plain (slot_at f p) nowhere nowhere
line_of P f (form.Call into g args) =
    record (plain (slot_if f into) nowhere nowhere) { args = map (any_slot f) args; callee = place_of (λ h. h.name) g P.procs }
line_of P f (form.Return e) = plain (any_slot_if f e) nowhere nowhere

-- the plan of a procedure of which the first local object and the first call of malloc have these sites
abbrev pub plan_of : Program → Proc → ℕ → ℕ → Plan
plan_of P f site mallocs = record {
  lines = map (λ s. line_of P f s.form) (stmts_of f.body);
  locals = map (λ l. slot_at f l.name) (locals_of f.body);
  site = site;
  mallocs = mallocs;
}

-- the plans of procedures that follow one another
abbrev pub plans_from : Program → ℕ → ℕ → List Proc → List Plan
plans_from P site mallocs [] = []
plans_from P site mallocs (f ∷ fs) =
    plan_of P f site mallocs ∷ plans_from P (site + length (objects_of f)) (mallocs + mallocs_in (stmts_of f.body)) fs

-- the plans of all procedures
abbrev pub plans_of : Program → List Plan
plans_of P = plans_from P (local_site P 0) (local_site P (length P.procs)) P.procs

-- the site of the first call of malloc in the procedure i
abbrev pub first_malloc : Program → ℕ → ℕ
first_malloc P i = local_site P (length P.procs) + sum (map (λ g. mallocs_in (stmts_of g.body)) (take i P.procs))

-- the line of the statement k of the procedure i
abbrev pub line_in : List Plan → ℕ → ℕ → Option Line
line_in plans i k = option_and_then (λ p. slice_get p.lines k) (slice_get plans i)
