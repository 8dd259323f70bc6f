-- A procedure is entered in a sound state.
use Rattle.std.proofs.Common.{◌≡◌, refl, sym, ap, subst, ◌∙◌, ℕ, zero, suc, ◌<◌, ◌^◌, Bool, true, false, List, [], ◌∷◌, ◌++◌, length, map, arith}
use Rattle.std.specs.Prelude.{All, if◌then◌else◌, ℤ}
use Rattle.std.specs.Str.{bytes_eq}
use Rattle.std.proofs.lemmas.List.{length-map}
use Rattle.cv_core.specs.Both.{first_true, second_true}
use Rattle.cv_core.specs.Grammar.{IsLocal, IsLocalBody}
use Rattle.cv_core.specs.Kinds.{takes, takes_each}
use Rattle.cv_core.specs.Names.{Name, kind_among, locals_of}
use Rattle.cv_core.specs.declared.program.Program.{Program}
use Rattle.cv_core.specs.declared.program.Proc.{Proc}
use Rattle.cv_core.specs.declared.program.Formal.{Formal}
use Rattle.cv_core.specs.declared.program.Local.{Local}
use Rattle.cv_core.specs.declared.program.LocalBody.{LocalBody}
use Rattle.cv_core.specs.declared.program.LocalBody.TheVariants as local
use Rattle.cv_core.specs.declared.program.AnyOperand.{AnyOperand}
use Rattle.cv_core.specs.declared.program.AnyOperand.TheVariants as any
use Rattle.cv_core.specs.declared.program.Operand.TheVariants as operand
use Rattle.cv_core.specs.declared.program.VarKind.{VarKind}
use Rattle.cv_core.specs.declared.program.VarKind.TheVariants as kind
use Rattle.cv_meaning.specs.declared.memory.Object.{Object}
use Rattle.cv_meaning.specs.declared.memory.Body.TheVariants.{Buffer, Cell}
use Rattle.cv_meaning.specs.declared.memory.Ptr.TheVariants.{Wild}
use Rattle.cv_meaning.specs.declared.memory.Value.{Value}
use Rattle.cv_meaning.specs.declared.memory.Value.TheVariants as value
use Rattle.cv_meaning.specs.Contract.{Env}
use Rattle.cv_meaning.specs.Memory.{Memory}
use Rattle.cv_meaning.specs.State.{State, any_value, bind, fresh, fresh_bytes, fresh_numbers, make_local, make_locals, no_vars, pointer, set}
use Rattle.cv_core.specs.Chars.{low_byte}
use Rattle.cv_interp.proofs.Kinded.{iptr_is, pptr_is}
use Rattle.cv_interp.proofs.Memories.{IsObject, append_keeps, append_memory}
use Rattle.cv_interp.proofs.Typed.{any_near, fit_keeps, fit_set}
use Rattle.cv_interp.specs.Sound.{IsFit, IsMemory, Keeps, PointsToCell, is_cell_kind}
use Rattle.cv_interp.specs.Takes.{IsNear}

-- ---- arguments

abbrev pub HoldsIf : Memory → VarKind → Value → Type 0
HoldsIf m k v = is_cell_kind k ≡ true → PointsToCell m (pointer v)

variable_holds : (P : Program) (f : Proc) (m : Memory) (vars : Env) (k : VarKind) (x : Name) → IsFit f m vars → takes P f k (any.Operand (operand.Var x)) ≡ true → HoldsIf m k (vars x)
variable_holds P f m vars kind.Int x h t = λ c. absurd (cc)
variable_holds P f m vars kind.Char x h t = λ c. absurd (cc)
variable_holds P f m vars kind.Ptr x h t = λ c. absurd (cc)
variable_holds P f m vars kind.Pptr x h t = λ c. (h x).cell (ap is_cell_kind (pptr_is P f x t).0)
variable_holds P f m vars kind.Iptr x h t = λ c. (h x).cell (ap is_cell_kind (iptr_is P f x t).0)

argument_holds : (P : Program) (f : Proc) (m : Memory) (vars : Env) (k : VarKind) (a : AnyOperand) → IsFit f m vars → takes P f k a ≡ true → HoldsIf m k (any_value vars a)
argument_holds P f m vars k any.Null h t = λ c. tt
argument_holds P f m vars k (any.Operand (operand.Number z)) h t = λ c. tt
argument_holds P f m vars k (any.Operand (operand.Var x)) h t = variable_holds P f m vars k x h t

abbrev pub Holds : Memory → VarKind → Value → Type 0
Holds m k v = IsNear v × HoldsIf m k v

pub either_holds : (m : Memory) (b : Bool) (k j : VarKind) (v w : Value) → Holds m k v → Holds m j w → Holds m (if b then k else j) (if b then v else w)
either_holds m true k j v w p q = p
either_holds m false k j v w p q = q

bind_holds : (P : Program) (f : Proc) (m : Memory) (vars : Env) (fs : List Formal) (ls : _) (args : List AnyOperand) (x : Name) → IsFit f m vars →
    takes_each P f (map (λ g. g.kind) fs) args ≡ true → Holds m (kind_among x fs ls) (bind fs (map (any_value vars) args) no_vars x)
bind_holds P f m vars [] ls args x h t = (tt, λ c. tt)
bind_holds P f m vars (g ∷ gs) ls [] x h t = (tt, λ c. tt)
bind_holds P f m vars (g ∷ gs) ls (a ∷ args) x h t =
    either_holds m (bytes_eq g.name x) g.kind (kind_among x gs ls) (any_value vars a) (bind gs (map (any_value vars) args) no_vars x)
    (any_near f m vars a h, argument_holds P f m vars g.kind a h (first_true (takes P f g.kind a) (takes_each P f (map (λ g. g.kind) gs) args) t))
    (bind_holds P f m vars gs ls args x h (second_true (takes P f g.kind a) (takes_each P f (map (λ g. g.kind) gs) args) t))

-- the formals of a call
pub arguments_fit : (P : Program) (f g : Proc) (m : Memory) (vars : Env) (args : List AnyOperand) → IsFit f m vars → takes_each P f (map (λ g. g.kind) g.formals) args ≡ true →
    IsFit g m (bind g.formals (map (any_value vars) args) no_vars)
arguments_fit P f g m vars args h t = λ x. let p = bind_holds P f m vars g.formals (locals_of g.body) args x h t in record { near = p.0; cell = p.1 }

-- ---- locals

pub record IsEntered (g : Proc) (s t : State) : Type 0 where
  pub fit : IsFit g t.memory t.vars
  pub memory : IsMemory t.memory
  pub keeps : Keeps s.memory t.memory

then_entered : (g : Proc) (s t u : State) → IsEntered g s t → IsEntered g t u → IsEntered g s u
then_entered g s t u p q = record { fit = q.fit; memory = q.memory; keeps = λ o c. q.keeps o (p.keeps o c) }

var_entered : (g : Proc) (s : State) (x : Name) (v : Value) (w : _) → IsFit g s.memory s.vars → IsMemory s.memory → IsNear v → PointsToCell s.memory (pointer v) →
    IsEntered g s (record s { vars = set s.vars x v; world = w })
var_entered g s x v w f m near cell = record {
  fit = fit_set g s.memory s.vars x v f (record { near = near; cell = λ c. cell });
  memory = m;
  keeps = λ o c. c;
}

object_entered : (g : Proc) (s : State) (y : Object) (w : _) → IsFit g s.memory s.vars → IsMemory s.memory → IsObject y → IsEntered g s (record s { memory = s.memory ++ y ∷ []; world = w })
object_entered g s y w f m fine = record {
  fit = fit_keeps g s.memory (s.memory ++ y ∷ []) s.vars (append_keeps s.memory y) f;
  memory = append_memory s.memory y m fine;
  keeps = append_keeps s.memory y;
}

numbers_length : (n : ℕ) (zs : List ℤ) → length (fresh_numbers n zs) ≡ n
numbers_length zero zs = refl
numbers_length (suc n) [] = ap suc (numbers_length n [])
numbers_length (suc n) (z ∷ zs) = ap suc (numbers_length n zs)

pub bytes_length : (n : ℕ) (w : _) → length (fresh_bytes n w) ≡ n
bytes_length n w = length-map (fresh_numbers n w.fresh) low_byte ∙ numbers_length n w.fresh

pub buffer_object : (site n : ℕ) (w : _) → n < 2 ^ 31 → IsObject (record { site = site; live = true; body = Buffer (fresh_bytes n w) })
buffer_object site n w lt = record { short = subst (λ k. k < 2 ^ 31) (sym (bytes_length n w)) lt; near = λ v e. absurd (cc) }

cell_object : (site : ℕ) (v : Value) → IsNear v → IsObject (record { site = site; live = true; body = Cell v })
cell_object site v near = record { short = omega arith; near = λ u e. let same : v ≡ u = cc in subst IsNear same near }

local_entered : (P : Program) (g : Proc) (site : ℕ) (x : Name) (b : LocalBody) (s : State) → IsLocalBody b → IsFit g s.memory s.vars → IsMemory s.memory → IsEntered g s (make_local P site x b s)
local_entered P g site x (local.Var kind.Int) s l f m = var_entered g s x _ _ f m tt tt
local_entered P g site x (local.Var kind.Char) s l f m = var_entered g s x _ _ f m tt tt
local_entered P g site x (local.Var kind.Ptr) s l f m = var_entered g s x _ _ f m tt tt
local_entered P g site x (local.Var kind.Pptr) s l f m = var_entered g s x _ _ f m tt tt
local_entered P g site x (local.Var kind.Iptr) s l f m = var_entered g s x _ _ f m tt tt
local_entered P g site x (local.Buffer n) s l f m = object_entered g s (record { site = site; live = true; body = Buffer (fresh_bytes n s.world) }) _ f m (buffer_object site n s.world l.1)
local_entered P g site x local.PointerCell s l f m = object_entered g s (record { site = site; live = true; body = Cell (value.Ptr Wild) }) _ f m (cell_object site (value.Ptr Wild) tt)
local_entered P g site x local.IntCell s l f m = object_entered g s (record { site = site; live = true; body = Cell (value.Int (fresh s.world)) }) _ f m (cell_object site _ tt)

all_tail : {X : Type 0} (Q : X → Type 0) (x : X) (xs : List X) → All Q (x ∷ xs) → All Q xs
all_tail Q x xs h = λ i d lt. h (suc i) d (omega arith)

all_head : {X : Type 0} (Q : X → Type 0) (x : X) (xs : List X) → All Q (x ∷ xs) → Q x
all_head Q x xs h = h 0 x (omega arith)

pub locals_entered : (P : Program) (g : Proc) (site : ℕ) (ls : List Local) (s : State) → All IsLocal ls → IsFit g s.memory s.vars → IsMemory s.memory → IsEntered g s (make_locals P site ls s)
locals_entered P g site [] s a f m = record { fit = f; memory = m; keeps = λ o c. c }
locals_entered P g site (l ∷ ls) s a f m =
    let p : IsEntered g s (make_local P site l.name l.body s) = local_entered P g site l.name l.body s (all_head IsLocal l ls a).1 f m in
    then_entered g s (make_local P site l.name l.body s) _ p (locals_entered P g _ ls (make_local P site l.name l.body s) (all_tail IsLocal l ls a) p.fit p.memory)
