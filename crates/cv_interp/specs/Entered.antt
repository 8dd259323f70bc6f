-- A procedure that is to be entered.
use Rattle.std.specs.Prelude.{ℕ, ◌≡◌, ◌≤◌, ◌^◌, true, List, [], ◌∷◌, length}
use Rattle.cv_core.specs.declared.program.Proc.{Proc}
use Rattle.cv_core.specs.declared.program.Formal.{Formal}
use Rattle.cv_core.specs.declared.program.Local.{Local}
use Rattle.cv_meaning.specs.declared.memory.NamedValue.{NamedValue}
use Rattle.cv_meaning.specs.declared.memory.Value.{Value}
use Rattle.cv_meaning.specs.declared.memory.Value.TheVariants as value
use Rattle.cv_meaning.specs.declared.memory.Ptr.TheVariants.{Wild}
use Rattle.cv_meaning.specs.Look.{look}
use Rattle.cv_meaning.specs.Memory.{Memory}
use Rattle.cv_meaning.specs.State.{Frame}
use Rattle.cv_interp.specs.declared.entering.Guest.{Guest}
use Rattle.cv_interp.specs.declared.store.Room.{Room}
use Rattle.cv_interp.specs.Slots.{is_variable, slot_names}
use Rattle.cv_interp.specs.Takes.{HasSlot}

-- the formals with their arguments; wild where there is none
abbrev pub arguments : List Formal → List Value → List NamedValue
arguments [] vs = []
arguments (f ∷ fs) [] = record { name = f.name; value = value.Ptr Wild } ∷ arguments fs []
arguments (f ∷ fs) (v ∷ vs) = record { name = f.name; value = v } ∷ arguments fs vs

-- the frame of g, the procedure i, at its entry in the memory m
abbrev pub arrived : ℕ → Proc → Guest → Memory → Frame
arrived i g guest m = record { number = i; proc = g; formals = look guest.formals; entry = m; permit = guest.permit }

-- the variables among these locals are variables of g
abbrev pub AreVariables : Proc → List Local → Type 0
AreVariables g [] = Unit {0}
AreVariables g (l ∷ ls) = (is_variable l.body ≡ true → HasSlot g l.name) × AreVariables g ls

-- a value for each slot, and the number of objects
pub record IsRoom (g : Proc) (r : Room) : Type 0 where
  pub whole : length r.vars.items ≡ length (slot_names g)
  pub made : r.made ≡ length r.memory
  pub few : r.made ≤ 2 ^ 62
