-- A memory is the list of its objects, in the order of making.
use Rattle.std.specs.Prelude.{ℕ, ◌<◌, ◌^◌, zero, suc, ◌+◌, ◌-◌, ◌%◌, Bool, true, false, not, ◌&&◌, ◌||◌, ◌==◌, nat_le, nat_lt, List, [], ◌∷◌, length, slice_get, slice_set, slice_index, Option, Some, None, Ok, Err, if◌then◌else◌, ℤ, pos, negsuc, ◌+ℤ◌, ◌-ℤ◌}
use Rattle.std.specs.List.{list_any, position_or_len}
use Rattle.std.specs.Option.{option_and_then}
use Rattle.cv_core.specs.declared.faults.ErrKind.{ErrKind}
use Rattle.cv_core.specs.declared.faults.ErrKind.TheVariants as err
use Rattle.cv_meaning.specs.declared.memory.Object.{Object}
use Rattle.cv_meaning.specs.declared.memory.Body.{Body}
use Rattle.cv_meaning.specs.declared.memory.Body.TheVariants.{Buffer, Cell}
use Rattle.cv_meaning.specs.declared.memory.Ptr.{Ptr}
use Rattle.cv_meaning.specs.declared.memory.Ptr.TheVariants.{Null, Wild, At}
use Rattle.cv_meaning.specs.declared.memory.Value.{Value}
use Rattle.cv_meaning.specs.declared.memory.Value.TheVariants as value
use Rattle.cv_meaning.specs.declared.memory.Permit.{Permit}
use Rattle.cv_meaning.specs.Checked.{Checked, ◌>>=◌, unless}

abbrev pub Memory : Type 0
Memory = List Object

abbrev pub bytes_of : Body → List ℕ
bytes_of (Buffer bytes) = bytes
bytes_of (Cell v) = []

abbrev pub cell_of : Body → Value
cell_of (Buffer bytes) = value.Int (pos 0)
cell_of (Cell v) = v

-- the place of the first zero byte, or the length where there is none
abbrev pub first_zero : List ℕ → ℕ
first_zero bytes = position_or_len (λ b. b == 0) bytes

abbrev pub is_live : Option Object → Bool
is_live None = false
is_live (Some x) = x.live

abbrev pub live : Memory → ℕ → Bool
live m o = is_live (slice_get m o)

abbrev pub body_set : Body → Memory → ℕ → Option Object → Memory
body_set b m o None = m
body_set b m o (Some x) = slice_set m o (record x { body = b })

abbrev pub with_body : ℕ → Body → Memory → Memory
with_body o b m = body_set b m o (slice_get m o)

abbrev pub live_ended : Memory → ℕ → Option Object → Memory
live_ended m o None = m
live_ended m o (Some x) = slice_set m o (record x { live = false })

abbrev pub kill : ℕ → Memory → Memory
kill o m = live_ended m o (slice_get m o)

-- the objects from `first` on, `count` of them, are no longer live
abbrev pub kill_from : ℕ → ℕ → Memory → Memory
kill_from first zero m = m
kill_from first (suc count) m = kill_from (suc first) count (kill first m)

-- ---- pointers

-- where a pointer points, in a live object
pub record Place : Type 0 where
  pub object : ℕ
  pub offset : ℕ
  pub body : Body

abbrev pub place_at : ℕ → ℕ → Option Object → Checked Place
place_at o at None = Err err.Dead
place_at o at (Some x) = unless x.live err.Dead (Ok (record { object = o; offset = at; body = x.body }))

-- Null, Wild, Dead
abbrev pub place : Memory → Ptr → Checked Place
place m Null = Err err.Null
place m Wild = Err err.Wild
place m (At o at) = place_at o at (slice_get m o)

-- a byte lies there
abbrev pub is_inside : Place → Bool
is_inside at = nat_lt at.offset (length (bytes_of at.body))

abbrev pub load : Memory → Ptr → Checked ℕ
load m p =
    place m p >>= λ at.
    unless (is_inside at) err.Bounds
    (unless (nat_le at.offset (first_zero (bytes_of at.body))) err.Terminator
    (Ok (slice_index (bytes_of at.body) at.offset)))

-- the object is no literal
abbrev pub is_no_literal : Permit → ℕ → Bool
is_no_literal permit o = nat_lt o permit.literals.0 || nat_le permit.literals.1 o

-- the object was made since entry, or is the object of a modifies item
abbrev pub may_change : Permit → ℕ → Bool
may_change permit o = nat_le permit.first o || list_any (λ a. a == o) permit.allowed

-- Literal, Modifies
abbrev pub writable : {A : Type 0} → Permit → ℕ → Checked A → Checked A
writable permit o next = unless (is_no_literal permit o) err.Literal (unless (may_change permit o) err.Modifies next)

abbrev pub store : Memory → Ptr → ℕ → Permit → Checked Memory
store m p byte permit =
    place m p >>= λ at.
    unless (is_inside at) err.Bounds
    (writable permit at.object
    (Ok (with_body at.object (Buffer (slice_set (bytes_of at.body) at.offset byte)) m)))

abbrev pub within : ℕ → ℕ → ℤ → Checked Ptr
within o size (pos at) = unless (nat_le at size) err.Bounds (Ok (At o at))
within o size (negsuc n) = Err err.Bounds

abbrev pub shift : Memory → Ptr → ℤ → Checked Ptr
shift m p by = place m p >>= λ at. within at.object (length (bytes_of at.body)) (pos at.offset +ℤ by)

abbrev pub get : Memory → Ptr → Checked Value
get m w = place m w >>= λ at. Ok (cell_of at.body)

abbrev pub put : Memory → Ptr → Value → Permit → Checked Memory
put m w v permit = place m w >>= λ at. unless (may_change permit at.object) err.Modifies (Ok (with_body at.object (Cell v) m))

-- the offset of p less that of q
abbrev pub diff : Memory → Ptr → Ptr → Checked ℤ
diff m p q =
    place m p >>= λ a. place m q >>= λ b.
    unless (a.object == b.object) err.Bounds (Ok (pos a.offset -ℤ pos b.offset))

-- ---- what is asked of a memory by the number of an object

abbrev pub first_zero_in : Body → Option ℕ
first_zero_in (Buffer bytes) = Some (first_zero bytes)
first_zero_in (Cell v) = None

abbrev pub body_held : Option Object → Option Body
body_held None = None
body_held (Some x) = Some x.body

-- None where there is no such object
abbrev pub body_at : Memory → ℕ → Option Body
body_at m o = body_held (slice_get m o)

-- None where the object is no buffer
abbrev pub first_zero_of : Memory → ℕ → Option ℕ
first_zero_of m o = option_and_then first_zero_in (body_at m o)

abbrev pub cell_in : Body → Option Value
cell_in (Buffer bytes) = None
cell_in (Cell v) = Some v

abbrev pub cell_held : Option Object → Option Value
cell_held None = None
cell_held (Some x) = cell_in x.body

-- None where the object is no cell
abbrev pub cell_at : Memory → ℕ → Option Value
cell_at m o = cell_held (slice_get m o)

abbrev pub site_held : Option Object → Option ℕ
site_held None = None
site_held (Some x) = Some x.site

-- None where there is no such object
abbrev pub site_at : Memory → ℕ → Option ℕ
site_at m o = site_held (slice_get m o)

abbrev pub bytes_held : Option Object → List ℕ
bytes_held None = []
bytes_held (Some x) = bytes_of x.body

-- the bytes of an object, none where it is no buffer
abbrev pub bytes_at : Memory → ℕ → List ℕ
bytes_at m o = bytes_held (slice_get m o)

-- a buffer has at most 2147483647 bytes
abbrev pub IsShort : Body → Type 0
IsShort b = length (bytes_of b) < 2 ^ 31
