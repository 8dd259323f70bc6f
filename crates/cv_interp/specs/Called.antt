-- What a call of the code leads to, as a turn of the meaning.
use Rattle.std.specs.Prelude.{ℕ, suc, ◌≡◌, Bool, true, false, ℤ, pos, ◌-ℤ◌, List, [], ◌∷◌, Option, Some, None}
use Rattle.cv_core.specs.Names.{Name}
use Rattle.cv_core.specs.declared.program.Proc.{Proc}
use Rattle.cv_meaning.specs.Call.{Turn, Errs, Goes, Enters}
use Rattle.cv_interp.specs.declared.calls.Called.{Called}
use Rattle.cv_interp.specs.declared.calls.Called.TheVariants as called
use Rattle.cv_interp.specs.declared.store.Activation.{Activation}
use Rattle.cv_interp.specs.declared.store.Store.{Store}
use Rattle.cv_interp.specs.Entered.{IsRoom}
use Rattle.cv_interp.specs.Seen.{frame, state}
use Rattle.cv_interp.specs.Takes.{HasSlot}
use Rattle.cv_core.specs.declared.program.Atom.{Atom}
use Rattle.cv_core.specs.declared.program.Atom.TheVariants as atom
use Rattle.cv_core.specs.declared.program.LinPart.{LinPart}

-- a destination is a variable
abbrev pub IsInto : Proc → Option Name → Type 0
IsInto f None = Unit {0}
IsInto f (Some x) = HasSlot f x

-- nothing has changed that can be seen
pub record IsSame (s t : Store) : Type 0 where
  pub room : t.room ≡ s.room
  pub world : t.world ≡ s.world
  pub output : t.output.items ≡ s.output.items

-- the turn is what the call led to, from s to t
abbrev pub IsCalled : Activation → ℕ → Turn → Store → Called → Store → Type 0
IsCalled a k turn s (called.Errs kind) t = (turn ≡ Errs kind) × IsSame s t
IsCalled a k turn s called.Goes t = (turn ≡ Goes (suc k) (state a.proc.now t)) × IsRoom a.proc.now t.room
IsCalled a k turn s (called.Enters e) t =
    (turn ≡ Enters (frame e.callee) (state e.callee.proc.now t)) × (e.vars.items ≡ s.room.vars.items) × IsRoom e.callee.proc.now t.room

-- ---- the range of an extern procedure

abbrev pub number_or_zero : Bool → Option ℕ → ℤ
number_or_zero negative None = pos 0
number_or_zero true (Some k) = pos 0 -ℤ pos k
number_or_zero false (Some k) = pos k

-- the number of a sum of one number
abbrev pub lone_or_zero : List LinPart → ℤ
lone_or_zero [] = pos 0
lone_or_zero (p ∷ []) = number_or_zero p.negative p.number
lone_or_zero (p ∷ q ∷ ps) = pos 0

abbrev pub bound_by : Option Atom → ℤ
bound_by (Some (atom.Compare left r right)) = lone_or_zero right
bound_by a = pos 0
