-- One step of a call or a return.
use Rattle.std.specs.Prelude.{ℕ, zero, suc, ◌+◌, ◌<◌, ◌%◌, Bool, true, false, not, ◌&&◌, ◌||◌, ◌==◌, nat_le, nat_lt, List, [], ◌∷◌, ◌++◌, length, map, drop, slice_get, slice_index_or, Option, Some, None, Ok, Err, if◌then◌else◌, codes, ℤ, pos, negsuc, ◌+ℤ◌, ◌-ℤ◌}
use Rattle.std.specs.List.{filter_map, list_all}
use Rattle.std.specs.Option.{unwrap_or}
use Rattle.std.specs.Int.RustNames.{int_le}
use Rattle.std.specs.Str.{bytes_eq}
use Rattle.cv_core.specs.Names.{Name, place_of, objects_of, locals_of, local_site, malloc_site}
use Rattle.cv_core.specs.declared.faults.ErrKind.{ErrKind}
use Rattle.cv_core.specs.declared.faults.ErrKind.TheVariants as err
use Rattle.cv_core.specs.declared.program.Program.{Program}
use Rattle.cv_core.specs.declared.program.Proc.{Proc}
use Rattle.cv_core.specs.declared.program.Formal.{Formal}
use Rattle.cv_core.specs.declared.program.ProcBody.{ProcBody}
use Rattle.cv_core.specs.declared.program.Contract.{Contract}
use Rattle.cv_core.specs.declared.program.Atom.{Atom}
use Rattle.cv_core.specs.declared.program.Atom.TheVariants as atom
use Rattle.cv_core.specs.declared.program.Item.{Item}
use Rattle.cv_core.specs.declared.program.AnyOperand.{AnyOperand}
use Rattle.cv_core.specs.declared.program.Form.{Form}
use Rattle.cv_core.specs.declared.program.Form.TheVariants as form
use Rattle.cv_meaning.specs.declared.memory.Body.TheVariants.{Buffer, Cell}
use Rattle.cv_meaning.specs.declared.memory.Ptr.{Ptr}
use Rattle.cv_meaning.specs.declared.memory.Ptr.TheVariants.{Null, Wild, At}
use Rattle.cv_meaning.specs.declared.memory.Value.{Value}
use Rattle.cv_meaning.specs.declared.memory.Value.TheVariants as value
use Rattle.cv_meaning.specs.declared.memory.Permit.{Permit}
use Rattle.cv_meaning.specs.declared.memory.World.{World}
use Rattle.cv_meaning.specs.Checked.{Checked, ◌>>=◌, unless}
use Rattle.cv_core.specs.Chars.{low_byte}
use Rattle.cv_meaning.specs.Memory.{Memory, live, kill_from, is_no_literal, may_change}
use Rattle.cv_meaning.specs.Contract.{Env, Scene, requires_hold, ensures_hold, item_object, lin_value}
use Rattle.cv_meaning.specs.State.{Frame, State, bind, no_vars, number, any_value, assign_value, fresh_bytes, spend, with_object, make_locals}

-- what one step leads to
pub data Turn : Type 0 where
  Errs : ErrKind → Turn
  -- at this statement, in this state
  Goes : ℕ → State → Turn
  -- a procedure with a body is entered
  Enters : Frame → State → Turn
  -- this procedure returns
  Leaves : Option Value → State → Turn

abbrev pub as_turn : Checked Turn → Turn
as_turn (Ok t) = t
as_turn (Err e) = Errs e

-- the place for the result of a call
abbrev pub give : Program → Frame → Option Name → Option Value → State → State
give P f (Some x) (Some v) s = assign_value P f x v s
give P f into v s = s

-- ---- built-in procedures

abbrev pub malloc_of : Program → Bool → ℕ → ℕ → Frame → Option Name → State → State
malloc_of P false n site f into s = give P f into (Some (value.Ptr Null)) s
malloc_of P true n site f into s =
    give P f into (Some (value.Ptr (At (length s.memory) 0)))
    (spend n (with_object (record { site = site; live = true; body = Buffer (fresh_bytes n s.world) }) s))

-- the next allocation answer; 1 where the list has ended
abbrev pub malloc : Program → ℤ → ℕ → Frame → ℕ → Option Name → State → Turn
malloc P (negsuc n) site f k into s = Errs err.Requires
malloc P (pos n) site f k into s =
    Goes (suc k) (malloc_of P (slice_index_or s.world.allocations 0 true) n site f into
    (record s { world = record s.world { allocations = drop 1 s.world.allocations } }))

abbrev pub byte_read : List ℕ → ℤ
byte_read [] = negsuc 0
byte_read (b ∷ bytes) = pos b

abbrev pub getchar : Program → Frame → ℕ → Option Name → State → Turn
getchar P f k into s =
    Goes (suc k) (give P f into (Some (value.Int (byte_read s.world.input)))
    (record s { world = record s.world { input = drop 1 s.world.input } }))

abbrev pub putchar : Program → ℤ → Frame → ℕ → Option Name → State → Turn
putchar P c f k into s =
    Goes (suc k) (give P f into (Some (value.Int (pos (low_byte c)))) (record s { output = s.output ++ low_byte c ∷ [] }))

-- ---- calls of the program's procedures

abbrev pub scene_of : Program → Frame → Memory → Option Value → Scene
scene_of P f now answer =
    record { globals = P.globals; formals = f.formals; entry = f.entry; now = now; answer = answer; first = f.permit.first }

-- the frame of g at its entry
abbrev pub entered : Program → ℕ → Proc → List Value → Memory → Frame
entered P i g args m =
    let formals : Env = bind g.formals args no_vars in
    let at_entry : Scene = record { globals = P.globals; formals = formals; entry = m; now = m; answer = None; first = length m } in
    record {
      number = i;
      proc = g;
      formals = formals;
      entry = m;
      permit = record {
        first = length m;
        allowed = filter_map (item_object at_entry) g.contract.changes;
        literals = (length P.globals, length P.globals + length P.literals);
      };
    }

abbrev pub may_enter : Program → Frame → Bool
may_enter P g = requires_hold (scene_of P g g.entry None) (map (λ (f : Formal). f.name) g.proc.formals) g.proc.contract

-- the objects of a call's modifies items: no literal among them, and then each one that the caller may change
abbrev pub permitted : {A : Type 0} → Permit → List ℕ → Checked A → Checked A
permitted caller os next = unless (list_all (is_no_literal caller) os) err.Literal (unless (list_all (may_change caller) os) err.Modifies next)

-- the constant on the right of an extern's ensures atom, as result >= C
abbrev pub bound : Scene → Option Atom → ℤ
bound s (Some (atom.Compare left r right)) = unwrap_or (lin_value s right) (pos 0)
bound s a = pos 0

-- what an extern with the range least..most answers
abbrev pub answer_in : ℤ → ℤ → List ℤ → ℤ
answer_in least most [] = least
answer_in least most (z ∷ zs) = if int_le least z && int_le z most then z else least

abbrev pub first_alternative : List (List Atom) → List Atom
first_alternative [] = []
first_alternative (atoms ∷ more) = atoms

abbrev pub extern_answer : Program → Frame → State → ℤ
extern_answer P g s =
    let scene : Scene = scene_of P g g.entry None in
    let atoms : List Atom = first_alternative g.proc.contract.gives in
    answer_in (bound scene (slice_get atoms 0)) (bound scene (slice_get atoms 1)) s.world.answers

abbrev pub entry_turn : Program → Frame → Frame → ℕ → Option Name → Option ProcBody → State → Turn
entry_turn P f g k into None s =
    Goes (suc k) (give P f into (Some (value.Int (extern_answer P g s))) (record s { world = record s.world { answers = drop 1 s.world.answers } }))
entry_turn P f g k into (Some b) s =
    Enters g (make_locals P (local_site P g.number) b.locals (record s { vars = g.formals }))

abbrev pub call_turn : Program → Frame → Frame → ℕ → Option Name → State → Turn
call_turn P f g k into s =
    as_turn (unless (may_enter P g) err.Requires (permitted f.permit g.permit.allowed (Ok (entry_turn P f g k into g.proc.body s))))

abbrev pub call_proc : Program → Frame → ℕ → Option Name → ℕ → List Value → State → Option Proc → Turn
call_proc P f k into i args s None = Goes (suc k) s
call_proc P f k into i args s (Some g) = call_turn P f (entered P i g args s.memory) k into s

abbrev pub call_named : Program → Frame → ℕ → Option Name → Option ℕ → List Value → State → Turn
call_named P f k into None args s = Goes (suc k) s
call_named P f k into (Some i) args s = call_proc P f k into i args s (slice_get P.procs i)

abbrev pub first_number : List Value → ℤ
first_number args = number (slice_index_or args 0 (value.Int (pos 0)))

unfoldable pub call : Program → Frame → ℕ → Option Name → Name → List Value → State → Turn
call P f k into g args s =
    if bytes_eq g (codes "malloc") then malloc P (first_number args) (malloc_site P f.number k) f k into s
    else if bytes_eq g (codes "getchar") then getchar P f k into s
    else if bytes_eq g (codes "putchar") then putchar P (first_number args) f k into s
    else call_named P f k into (place_of (λ h. h.name) g P.procs) args s

-- ---- returns

abbrev pub is_own : Frame → ℕ → Bool
is_own f o = nat_le f.permit.first o && nat_lt o (f.permit.first + length (objects_of f.proc))

-- Wild, Dead
abbrev pub returnable : {A : Type 0} → Frame → Memory → Option Value → Checked A → Checked A
returnable f m (Some (value.Ptr Wild)) next = Err err.Wild
returnable f m (Some (value.Ptr (At o at))) next = unless (live m o && not (is_own f o)) err.Dead next
returnable f m v next = next

abbrev pub left_memory : Frame → Memory → Memory
left_memory f m = kill_from f.permit.first (length (objects_of f.proc)) m

abbrev pub leave : Program → Frame → Option Value → State → Turn
leave P f v s =
    as_turn (returnable f s.memory v
    (unless (ensures_hold (scene_of P f (left_memory f s.memory) v) f.proc.contract) err.Ensures
    (Ok (Leaves v (record s { memory = left_memory f s.memory })))))

abbrev pub option_value : State → Option AnyOperand → Option Value
option_value s None = None
option_value s (Some e) = Some (any_value s.vars e)
