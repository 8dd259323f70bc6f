-- The integer program of a straight-line main over one buffer b of a declared size and one pointer p. Its variables are the code
-- of p (-1: nothing known, 1: the buffer), the offset of p, and the first zero of b; a store has one fresh variable beside them.
use Rattle.std.specs.Prelude.{ℕ, Bool, true, false, ◌==◌, List, [], ◌∷◌, ◌++◌, if◌then◌else◌, ℤ, pos, negsuc, ◌-ℤ◌}
use Rattle.std.specs.List.{list_any}
use Rattle.cv_num.specs.declared.rows.Row.{Row}
use Rattle.cv_check.specs.declared.place.Group.{Group}
use Rattle.cv_check.specs.declared.place.Move.{Move}
use Rattle.cv_check.specs.declared.place.Place.{Place}
use Rattle.cv_num.specs.Algebra.{number}
use Rattle.cv_core.specs.Chars.{low_byte}
use Rattle.cv_core.specs.declared.program.Stmt.{Stmt}
use Rattle.cv_core.specs.declared.program.Form.{Form}
use Rattle.cv_core.specs.declared.program.Form.TheVariants as form
use Rattle.cv_core.specs.declared.program.Operand.TheVariants as operand

-- ---- rows

-- v + z
abbrev pub plus : ℕ → ℤ → Row
plus v z = record { pairs = (v, pos 1) ∷ []; constant = z }

-- z - v
abbrev pub less : ℤ → ℕ → Row
less z v = record { pairs = (v, negsuc 0) ∷ []; constant = z }

-- v - u + z, where u is below v
abbrev pub over : ℕ → ℕ → ℤ → Row
over u v z = record { pairs = (u, negsuc 0) ∷ (v, pos 1) ∷ []; constant = z }

-- u - v + z, where u is below v
abbrev pub under : ℕ → ℕ → ℤ → Row
under u v z = record { pairs = (u, pos 1) ∷ (v, negsuc 0) ∷ []; constant = z }

-- ---- the variables

abbrev pub code : ℕ
code = 0

abbrev pub offset : ℕ
offset = 1

abbrev pub first_zero : ℕ
first_zero = 2

abbrev pub fresh : ℕ
fresh = 3

-- ---- facts and entry

abbrev pub is_address : Form → Bool
is_address (form.Address p a) = true
is_address f = false

-- some statement points p to the buffer: 1 is among the codes of p
abbrev pub has_address : List Stmt → Bool
has_address stmts = list_any (λ s. is_address s.form) stmts

-- the greatest code of p
abbrev pub greatest_code : Bool → ℤ
greatest_code target = if target then pos 1 else negsuc 0

-- the ranges of the three variables
abbrev pub facts : ℕ → Bool → List Row
facts size target =
    plus code (pos 1) ∷ less (greatest_code target) code
    ∷ plus offset (pos 0) ∷ less (pos 2147483647) offset
    ∷ plus first_zero (pos 0) ∷ less (pos size) first_zero ∷ []

-- code = -1, offset = 0
abbrev pub entry : List Row
entry = plus code (pos 1) ∷ less (negsuc 0) code ∷ plus offset (pos 0) ∷ less (pos 0) offset ∷ []

-- ---- statements

-- code = -1
abbrev pub at_nothing : List Row
at_nothing = plus code (pos 1) ∷ less (negsuc 0) code ∷ []

-- code = 1, and the offset is at most the size
abbrev pub at_buffer : ℕ → List Row
at_buffer size = plus code (negsuc 0) ∷ less (pos 1) code ∷ less (pos size) offset ∷ []

-- a wild pointer is no pointer to move or to store through
abbrev pub wild : Group
wild = record { guard = at_nothing; goals = number (negsuc 0) ∷ [] }

abbrev pub when : {X : Type 0} → Bool → List X → List X
when true xs = xs
when false xs = []

-- a byte lies at the offset
abbrev pub has_byte : ℕ → Row
has_byte size = less (pos size -ℤ pos 1) offset

-- where a byte lies at the offset, and more holds, these assignments
abbrev pub stored : ℕ → List Row → List (ℕ × Row) → Move
stored size more assign = record { guard = at_buffer size ++ has_byte size ∷ more; assign = assign }

-- a zero byte before the first zero is the first one from then on
abbrev pub zero_before : ℕ → Move
zero_before size = stored size (over offset first_zero (negsuc 0) ∷ []) ((first_zero, plus offset (pos 0)) ∷ [])

-- a zero byte at the first zero or behind it leaves it
abbrev pub zero_behind : ℕ → Move
zero_behind size = stored size (under offset first_zero (pos 0) ∷ []) []

-- another byte at the first zero: the first zero is a later one
abbrev pub other_at : ℕ → Move
other_at size =
    stored size (under offset first_zero (pos 0) ∷ over offset first_zero (pos 0) ∷ over offset fresh (negsuc 0) ∷ less (pos size) fresh ∷ [])
    ((first_zero, plus fresh (pos 0)) ∷ [])

-- another byte before the first zero, or behind it, leaves it
abbrev pub other_before : ℕ → Move
other_before size = stored size (over offset first_zero (negsuc 0) ∷ []) []

abbrev pub other_behind : ℕ → Move
other_behind size = stored size (under offset first_zero (negsuc 0) ∷ []) []

abbrev pub zero_moves : ℕ → List Move
zero_moves size = zero_before size ∷ zero_behind size ∷ []

abbrev pub other_moves : ℕ → List Move
other_moves size = other_at size ∷ other_before size ∷ other_behind size ∷ []

abbrev pub store_moves : ℕ → ℤ → List Move
store_moves size k = if low_byte k == 0 then zero_moves size else other_moves size

-- p = &b
abbrev pub address_place : Place
address_place = record {
  groups = [];
  moves = record { guard = []; assign = (code, number (pos 1)) ∷ (offset, number (pos 0)) ∷ [] } ∷ [];
}

-- p = p + k
abbrev pub shift_place : ℕ → Bool → ℤ → Place
shift_place size target k = record {
  groups = wild ∷ when target (record { guard = at_buffer size; goals = plus offset k ∷ less (pos size -ℤ k) offset ∷ [] } ∷ []);
  moves = when target (record { guard = at_buffer size; assign = (code, number (pos 1)) ∷ (offset, plus offset k) ∷ [] } ∷ []);
}

-- store p, k
abbrev pub store_place : ℕ → Bool → ℤ → Place
store_place size target k = record {
  groups = wild ∷ when target (record { guard = at_buffer size; goals = has_byte size ∷ [] } ∷ []);
  moves = when target (store_moves size k);
}

-- return k
abbrev pub return_place : Place
return_place = record { groups = record { guard = []; goals = [] } ∷ []; moves = [] }

abbrev pub no_place : Place
no_place = record { groups = []; moves = [] }

-- the groups and the transitions of a statement; each transition leads to the next statement
abbrev pub place : ℕ → Bool → Form → Place
place size target (form.Address p a) = address_place
place size target (form.Shift p q (operand.Number k)) = shift_place size target k
place size target (form.Store p (operand.Number k)) = store_place size target k
place size target (form.Return e) = return_place
place size target f = no_place
