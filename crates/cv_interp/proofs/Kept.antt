-- The local objects of a procedure that is entered.
use Rattle.std.proofs.Common.{◌≡◌, refl, sym, ap, subst, ◌∙◌, ℕ, zero, suc, ◌+◌, true, cond, List, [], ◌∷◌, ◌++◌, length, Option, Some, arith}
use Rattle.std.specs.Prelude.{slice_get, IsSome}
use Rattle.std.specs.List.{filter}
use Rattle.std.proofs.lemmas.List.{length-append}
use Rattle.cv_core.specs.Names.{Name, is_object}
use Rattle.cv_core.specs.declared.program.Program.{Program}
use Rattle.cv_core.specs.declared.program.Local.{Local}
use Rattle.cv_core.specs.declared.program.LocalBody.{LocalBody}
use Rattle.cv_core.specs.declared.program.LocalBody.TheVariants as local
use Rattle.cv_core.specs.declared.program.VarKind.TheVariants as kind
use Rattle.cv_meaning.specs.declared.memory.Object.{Object}
use Rattle.cv_meaning.specs.declared.memory.Body.TheVariants.{Buffer, Cell}
use Rattle.cv_meaning.specs.declared.memory.Ptr.TheVariants.{Wild}
use Rattle.cv_meaning.specs.declared.memory.Value.TheVariants as value
use Rattle.cv_meaning.specs.Memory.{Memory, cell_at, cell_held, cell_in}
use Rattle.cv_meaning.specs.State.{State, fresh, fresh_bytes, make_local, make_locals, next_site}
use Rattle.cv_interp.proofs.Memories.{append_keeps}
use Rattle.cv_interp.specs.Sound.{Keeps, is_cell_local}

-- ---- a memory with one more object

last_at : (m : Memory) (y : Object) (n : ℕ) → n ≡ length m → slice_get (m ++ y ∷ []) n ≡ Some y
last_at [] y zero e = refl
last_at [] y (suc n) e = absurd (omega arith)
last_at (x ∷ m) y zero e = absurd (omega arith)
last_at (x ∷ m) y (suc n) e = let h : n ≡ length m = omega arith in last_at m y n h

last_cell : (m : Memory) (y : Object) → IsSome (cell_in y.body) → IsSome (cell_at (m ++ y ∷ []) (length m + 0))
last_cell m y c = let e : length m + 0 ≡ length m = omega arith in subst (λ (o : Option Object). IsSome (cell_held o)) (sym (last_at m y (length m + 0) e)) c

one_on : (m : Memory) (y : Object) (j : ℕ) → length (m ++ y ∷ []) + j ≡ length m + suc j
one_on m y j = let e : length (m ++ y ∷ []) ≡ length m + length (y ∷ []) = length-append m (y ∷ []) in omega arith

-- ---- what were cells are cells

local_keeps : (P : Program) (site : ℕ) (x : Name) (b : LocalBody) (s : State) → Keeps s.memory (make_local P site x b s).memory
local_keeps P site x (local.Var kind.Int) s = λ o c. c
local_keeps P site x (local.Var kind.Char) s = λ o c. c
local_keeps P site x (local.Var kind.Ptr) s = λ o c. c
local_keeps P site x (local.Var kind.Pptr) s = λ o c. c
local_keeps P site x (local.Var kind.Iptr) s = λ o c. c
local_keeps P site x (local.Buffer n) s = append_keeps s.memory (record { site = site; live = true; body = Buffer (fresh_bytes n s.world) })
local_keeps P site x local.PointerCell s = append_keeps s.memory (record { site = site; live = true; body = Cell (value.Ptr Wild) })
local_keeps P site x local.IntCell s = append_keeps s.memory (record { site = site; live = true; body = Cell (value.Int (fresh s.world)) })

locals_keep : (P : Program) (site : ℕ) (ls : List Local) (s : State) → Keeps s.memory (make_locals P site ls s).memory
locals_keep P site [] s = λ o c. c
locals_keep P site (l ∷ ls) s = λ o c. locals_keep P (next_site site l.body) ls (make_local P site l.name l.body s) o (local_keeps P site l.name l.body s o c)

-- ---- the cells among the locals

abbrev objects_in : List Local → List Local
objects_in ls = filter (λ l. is_object l.body) ls

-- the object i of the locals ls is a cell of each memory that they lead to
abbrev AreCells : Program → List Local → Local → Type 0
AreCells P ls l = (site : ℕ) (s : State) (i : ℕ) → slice_get (objects_in ls) i ≡ Some l → IsSome (cell_at (make_locals P site ls s).memory (length s.memory + i))

no_cell : {A : Type 0} (l k : Local) (n : ℕ) → l.body ≡ local.Buffer n → Some l ≡ Some k → is_cell_local k.body ≡ true → A
no_cell l k n is same c =
    let e : l ≡ k = cc in
    let none : is_cell_local (local.Buffer n) ≡ true = ap is_cell_local (sym is ∙ ap (λ (m : Local). m.body) e) ∙ c in
    absurd (cc)

rest_cell : (P : Program) (ls : List Local) (k : Local) (site : ℕ) (m : Memory) (y : Object) (t : State) (j : ℕ) → t.memory ≡ m ++ y ∷ [] → AreCells P ls k →
    slice_get (objects_in ls) j ≡ Some k → IsSome (cell_at (make_locals P site ls t).memory (length m + suc j))
rest_cell P ls k site m y t j e h at =
    subst (λ n. IsSome (cell_at (make_locals P site ls t).memory n)) (ap (λ (n : Memory). length n + j) e ∙ one_on m y j) (h site t j at)

by_body : (P : Program) (site : ℕ) (x : Name) (b : LocalBody) (l : Local) (ls : List Local) (s : State) (i : ℕ) (k : Local) → l.body ≡ b →
    slice_get (cond (is_object b) (l ∷ objects_in ls) (objects_in ls)) i ≡ Some k → is_cell_local k.body ≡ true → AreCells P ls k →
    IsSome (cell_at (make_locals P (next_site site b) ls (make_local P site x b s)).memory (length s.memory + i))
by_body P site x (local.Var kind.Int) l ls s i k is at c h = h site (make_local P site x (local.Var kind.Int) s) i at
by_body P site x (local.Var kind.Char) l ls s i k is at c h = h site (make_local P site x (local.Var kind.Char) s) i at
by_body P site x (local.Var kind.Ptr) l ls s i k is at c h = h site (make_local P site x (local.Var kind.Ptr) s) i at
by_body P site x (local.Var kind.Pptr) l ls s i k is at c h = h site (make_local P site x (local.Var kind.Pptr) s) i at
by_body P site x (local.Var kind.Iptr) l ls s i k is at c h = h site (make_local P site x (local.Var kind.Iptr) s) i at
by_body P site x (local.Buffer n) l ls s zero k is at c h = no_cell l k n is at c
by_body P site x (local.Buffer n) l ls s (suc j) k is at c h =
    rest_cell P ls k (suc site) s.memory (record { site = site; live = true; body = Buffer (fresh_bytes n s.world) }) (make_local P site x (local.Buffer n) s) j refl h at
by_body P site x local.PointerCell l ls s zero k is at c h =
    locals_keep P (suc site) ls (make_local P site x local.PointerCell s) (length s.memory + 0) (last_cell s.memory (record { site = site; live = true; body = Cell (value.Ptr Wild) }) refl)
by_body P site x local.PointerCell l ls s (suc j) k is at c h =
    rest_cell P ls k (suc site) s.memory (record { site = site; live = true; body = Cell (value.Ptr Wild) }) (make_local P site x local.PointerCell s) j refl h at
by_body P site x local.IntCell l ls s zero k is at c h =
    locals_keep P (suc site) ls (make_local P site x local.IntCell s) (length s.memory + 0)
    (last_cell s.memory (record { site = site; live = true; body = Cell (value.Int (fresh s.world)) }) refl)
by_body P site x local.IntCell l ls s (suc j) k is at c h =
    rest_cell P ls k (suc site) s.memory (record { site = site; live = true; body = Cell (value.Int (fresh s.world)) }) (make_local P site x local.IntCell s) j refl h at

pub locals_cells : (P : Program) (ls : List Local) (k : Local) → is_cell_local k.body ≡ true → AreCells P ls k
locals_cells P [] k c = λ site s i at. none i at
  where
    none : {A : Type 0} (i : ℕ) → slice_get [] i ≡ Some k → A
    none zero at = absurd (cc)
    none (suc i) at = absurd (cc)
locals_cells P (l ∷ ls) k c = λ site s i at. by_body P site l.name l.body l ls s i k refl at c (locals_cells P ls k c)
