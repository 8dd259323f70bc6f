-- The state of a run, and what it takes from the world.
use Rattle.std.specs.Prelude.{ℕ, zero, suc, ◌+◌, ◌-◌, Bool, true, false, List, [], ◌∷◌, ◌++◌, length, map, take, drop, replicate, slice_get, slice_index_or, Option, Some, None, if◌then◌else◌, ℤ, pos, negsuc}
use Rattle.std.specs.Option.{unwrap_or}
use Rattle.std.specs.Str.{bytes_eq}
use Rattle.cv_core.specs.Names.{Name, place_of, kind_of, objects_of, stmts_of}
use Rattle.cv_core.specs.declared.program.Program.{Program}
use Rattle.cv_core.specs.declared.program.Proc.{Proc}
use Rattle.cv_core.specs.declared.program.Formal.{Formal}
use Rattle.cv_core.specs.declared.program.Local.{Local}
use Rattle.cv_core.specs.declared.program.LocalBody.{LocalBody}
use Rattle.cv_core.specs.declared.program.LocalBody.TheVariants as local
use Rattle.cv_core.specs.declared.program.VarKind.{VarKind}
use Rattle.cv_core.specs.declared.program.VarKind.TheVariants as kind
use Rattle.cv_core.specs.declared.program.Operand.{Operand}
use Rattle.cv_core.specs.declared.program.Operand.TheVariants as operand
use Rattle.cv_core.specs.declared.program.AnyOperand.{AnyOperand}
use Rattle.cv_core.specs.declared.program.AnyOperand.TheVariants as any
use Rattle.cv_meaning.specs.declared.memory.Object.{Object}
use Rattle.cv_meaning.specs.declared.memory.Body.TheVariants.{Buffer, Cell}
use Rattle.cv_meaning.specs.declared.memory.Ptr.{Ptr}
use Rattle.cv_meaning.specs.declared.memory.Ptr.TheVariants.{Null, Wild, At}
use Rattle.cv_meaning.specs.declared.memory.Value.{Value}
use Rattle.cv_meaning.specs.declared.memory.Value.TheVariants as value
use Rattle.cv_meaning.specs.declared.memory.Permit.{Permit}
use Rattle.cv_meaning.specs.declared.memory.World.{World}
use Rattle.cv_core.specs.Chars.{low_byte, char_of}
use Rattle.cv_meaning.specs.Memory.{Memory}
use Rattle.cv_meaning.specs.Contract.{Env}

-- what stays the same while a procedure runs
pub record Frame : Type 0 where
  -- the procedure's number
  pub number : ℕ
  pub proc : Proc
  -- the formals and the memory at entry
  pub formals : Env
  pub entry : Memory
  -- the first object made since entry, the objects of the modifies items, the literals
  pub permit : Permit

-- what a statement may change
pub record State : Type 0 where
  pub vars : Env
  pub memory : Memory
  pub world : World
  pub output : List ℕ

-- ---- variables

abbrev pub set : Env → Name → Value → Env
set vars x v y = if bytes_eq x y then v else vars y

abbrev pub bind : List Formal → List Value → Env → Env
bind [] vs vars = vars
bind (f ∷ fs) [] vars = vars
bind (f ∷ fs) (v ∷ vs) vars = set (bind fs vs vars) f.name v

abbrev pub no_vars : Env
no_vars x = value.Ptr Wild

abbrev pub number : Value → ℤ
number (value.Int z) = z
number (value.Ptr p) = pos 0

abbrev pub pointer : Value → Ptr
pointer (value.Ptr p) = p
pointer (value.Int z) = Wild

abbrev pub operand_value : Env → Operand → Value
operand_value vars (operand.Var x) = vars x
operand_value vars (operand.Number z) = value.Int z

abbrev pub any_value : Env → AnyOperand → Value
any_value vars (any.Operand e) = operand_value vars e
any_value vars any.Null = value.Ptr Null

-- a char variable holds the char that the number is wrapped to
abbrev pub as_kind : Program → VarKind → ℤ → Value
as_kind P kind.Char z = value.Int (char_of P z)
as_kind P k z = value.Int z

abbrev pub with_var : Name → Value → State → State
with_var x v s = record s { vars = set s.vars x v }

-- x = z
abbrev pub assign : Program → Frame → Name → ℤ → State → State
assign P f x z s = with_var x (as_kind P (kind_of f.proc x) z) s

-- x = v, of a number or a pointer
abbrev pub assign_value : Program → Frame → Name → Value → State → State
assign_value P f x (value.Int z) s = assign P f x z s
assign_value P f x (value.Ptr p) s = with_var x (value.Ptr p) s

-- ---- the world: 0 where the list of fresh numbers has ended

abbrev pub fresh_numbers : ℕ → List ℤ → List ℤ
fresh_numbers zero zs = []
fresh_numbers (suc n) [] = pos 0 ∷ fresh_numbers n []
fresh_numbers (suc n) (z ∷ zs) = z ∷ fresh_numbers n zs

abbrev pub fresh : World → ℤ
fresh w = slice_index_or w.fresh 0 (pos 0)

abbrev pub fresh_bytes : ℕ → World → List ℕ
fresh_bytes n w = map low_byte (fresh_numbers n w.fresh)

-- the world without the first n fresh numbers
abbrev pub spend : ℕ → State → State
spend n s = record s { world = record s.world { fresh = drop n s.world.fresh } }

abbrev pub with_object : Object → State → State
with_object x s = record s { memory = s.memory ++ x ∷ [] }

-- ---- entering a procedure

-- makes one local; `site` is that of the next object
abbrev pub make_local : Program → ℕ → Name → LocalBody → State → State
make_local P site x (local.Var kind.Int) s = spend 1 (with_var x (value.Int (fresh s.world)) s)
make_local P site x (local.Var kind.Char) s = spend 1 (with_var x (value.Int (char_of P (fresh s.world))) s)
make_local P site x (local.Var k) s = with_var x (value.Ptr Wild) s
make_local P site x (local.Buffer n) s = spend n (with_object (record { site = site; live = true; body = Buffer (fresh_bytes n s.world) }) s)
make_local P site x local.PointerCell s = with_object (record { site = site; live = true; body = Cell (value.Ptr Wild) }) s
make_local P site x local.IntCell s = spend 1 (with_object (record { site = site; live = true; body = Cell (value.Int (fresh s.world)) }) s)

abbrev pub next_site : ℕ → LocalBody → ℕ
next_site site (local.Var k) = site
next_site site b = suc site

abbrev pub make_locals : Program → ℕ → List Local → State → State
make_locals P site [] s = s
make_locals P site (l ∷ ls) s = make_locals P (next_site site l.body) ls (make_local P site l.name l.body s)

-- ---- objects by name

-- the object that &a names: a local of the procedure, else a global, else a literal
abbrev pub address_in : Program → Frame → Name → Option ℕ → Option ℕ → Option ℕ → ℕ
address_in P f a (Some i) g l = f.permit.first + i
address_in P f a None (Some i) l = i
address_in P f a None None (Some i) = length P.globals + i
address_in P f a None None None = 0

abbrev pub address : Program → Frame → Name → ℕ
address P f a =
    address_in P f a (place_of (λ l. l.name) a (objects_of f.proc)) (place_of (λ g. g.name) a P.globals) (place_of (λ l. l.name) a P.literals)
