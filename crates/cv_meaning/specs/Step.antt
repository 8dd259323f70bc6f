-- One step of a statement that is no call and no return: the first error that applies, or where it goes on and in which state.
use Rattle.std.specs.Prelude.{ℕ, zero, suc, Bool, true, false, not, ◌&&◌, ◌||◌, ◌==◌, List, [], ◌∷◌, Option, Some, None, Ok, Err, if◌then◌else◌, ℤ, pos, negsuc, ◌+ℤ◌, ◌-ℤ◌, ◌*ℤ◌}
use Rattle.std.specs.Ordering.{int_eq}
use Rattle.std.specs.Int.RustNames.{int_le, int_div, int_rem}
use Rattle.cv_core.specs.Names.{Name}
use Rattle.cv_core.specs.declared.faults.ErrKind.{ErrKind}
use Rattle.cv_core.specs.declared.faults.ErrKind.TheVariants as err
use Rattle.cv_core.specs.declared.program.Program.{Program}
use Rattle.cv_core.specs.declared.program.Form.{Form}
use Rattle.cv_core.specs.declared.program.Form.TheVariants as form
use Rattle.cv_core.specs.declared.program.Rel.{Rel}
use Rattle.cv_core.specs.declared.program.Rel.TheVariants as rel
use Rattle.cv_core.specs.declared.program.Operand.{Operand}
use Rattle.cv_meaning.specs.declared.memory.Ptr.{Ptr}
use Rattle.cv_meaning.specs.declared.memory.Ptr.TheVariants.{Null, Wild, At}
use Rattle.cv_meaning.specs.declared.memory.Value.{Value}
use Rattle.cv_meaning.specs.declared.memory.Value.TheVariants as value
use Rattle.cv_meaning.specs.declared.memory.World.{World}
use Rattle.cv_meaning.specs.Checked.{Checked, ◌>>=◌, unless}
use Rattle.cv_core.specs.Chars.{low_byte, char_of}
use Rattle.cv_meaning.specs.Memory.{Memory, load, store, shift, get, put, diff}
use Rattle.cv_meaning.specs.Contract.{compare}
use Rattle.cv_meaning.specs.State.{Frame, State, number, pointer, operand_value, any_value, with_var, assign, assign_value, fresh, spend, address}

-- the next statement, and the state there
abbrev pub Next : Type 0
Next = Checked (ℕ × State)

abbrev pub goes : ℕ → State → Next
goes k s = Ok (suc k, s)

abbrev pub jumps : Bool → ℕ → ℕ → State → Next
jumps true to k s = Ok (to, s)
jumps false to k s = Ok (suc k, s)

abbrev pub value_of : State → Operand → ℤ
value_of s e = number (operand_value s.vars e)

abbrev pub pointer_of : State → Name → Ptr
pointer_of s p = pointer (s.vars p)

abbrev pub is_int : ℤ → Bool
is_int z = int_le (negsuc 2147483647) z && int_le z (pos 2147483647)

-- x = z, where the exact result has to be an int
abbrev pub ranged : Program → Frame → ℕ → Name → ℤ → State → Next
ranged P f k x z s = unless (is_int z) err.Range (goes k (assign P f x z s))

abbrev pub equal_pointers : Ptr → Ptr → Bool
equal_pointers Null Null = true
equal_pointers (At o i) (At u j) = (o == u) && (i == j)
equal_pointers p q = false

abbrev pub is_wild : Ptr → Bool
is_wild Wild = true
is_wild p = false

abbrev pub by_rel : Rel → Bool → Bool
by_rel rel.Eq b = b
by_rel rel.Ne b = not b
by_rel r b = false

-- where one of them is wild, a fresh number answers
abbrev pub branch_pointers : Rel → Ptr → Ptr → ℕ → ℕ → State → Next
branch_pointers r p q to k s =
    if is_wild p || is_wild q
    then jumps (by_rel r (not (int_eq (fresh s.world) (pos 0)))) to k (spend 1 s)
    else jumps (by_rel r (equal_pointers p q)) to k s

abbrev pub branch : Rel → Value → Value → ℕ → ℕ → State → Next
branch r (value.Ptr p) v to k s = branch_pointers r p (pointer v) to k s
branch r (value.Int z) v to k s = jumps (compare r z (number v)) to k s

abbrev pub copied : State → Option Name → Value
copied s None = value.Ptr Null
copied s (Some q) = s.vars q

unfoldable pub step : Program → Frame → ℕ → Form → State → Next
step P f k (form.Assign x e) s = goes k (assign P f x (value_of s e) s)
step P f k (form.Sum x d e) s = ranged P f k x (value_of s d +ℤ value_of s e) s
step P f k (form.Minus x d e) s = ranged P f k x (value_of s d -ℤ value_of s e) s
step P f k (form.Product x z e) s = ranged P f k x (z *ℤ value_of s e) s
step P f k (form.Quotient x e z) s = goes k (assign P f x (int_div (value_of s e) z) s)
step P f k (form.Remainder x e z) s = goes k (assign P f x (int_rem (value_of s e) z) s)
step P f k (form.CopyPtr p q) s = goes k (with_var p (copied s q) s)
step P f k (form.Address p a) s = goes k (with_var p (value.Ptr (At (address P f a) 0)) s)
step P f k (form.Shift p q e) s = shift s.memory (pointer_of s q) (value_of s e) >>= λ r. goes k (with_var p (value.Ptr r) s)
step P f k (form.Load x p) s = load s.memory (pointer_of s p) >>= λ b. goes k (assign P f x (char_of P (pos b)) s)
step P f k (form.Store p e) s =
    store s.memory (pointer_of s p) (low_byte (value_of s e)) f.permit >>= λ m. goes k (record s { memory = m })
step P f k (form.Get x w) s = get s.memory (pointer_of s w) >>= λ v. goes k (assign_value P f x v s)
step P f k (form.Put w e) s =
    put s.memory (pointer_of s w) (any_value s.vars e) f.permit >>= λ m. goes k (record s { memory = m })
step P f k (form.Diff x p q) s = diff s.memory (pointer_of s p) (pointer_of s q) >>= λ z. goes k (assign P f x z s)
step P f k (form.Goto to) s = jumps true to k s
step P f k (form.If e r d to) s = branch r (operand_value s.vars e) (any_value s.vars d) to k s
step P f k (form.IfByte p equal to) s =
    load s.memory (pointer_of s p) >>= λ b. jumps (by_rel (if equal then rel.Eq else rel.Ne) (b == 0)) to k s
step P f k (form.Call into g args) s = goes k s
step P f k (form.Return e) s = goes k s
