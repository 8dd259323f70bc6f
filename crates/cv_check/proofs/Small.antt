-- The assignments of a straight-line program's transitions are small.
use Rattle.std.proofs.Common.{ℕ, ◌≤◌, ◌^◌, Bool, true, false, [], ◌∷◌, ℤ, pos, negsuc, arith, if◌then◌else◌, FitsSigned}
use Rattle.std.specs.Prelude.{◌==◌}
use Rattle.std.specs.Int.{w32}
use Rattle.std.specs.Int.RustNames.{unsigned_abs}
use Rattle.std.specs.List.{All}
use Rattle.std.proofs.lemmas.Int.{ints}
use Rattle.std.proofs.lemmas.List.Elements.{All-nil, All-cons}
use Rattle.cv_num.specs.declared.rows.Row.{Row}
use Rattle.cv_num.specs.Assigned.{IsSmallAssign}
use Rattle.cv_num.specs.Algebra.{number}
use Rattle.cv_core.specs.Chars.{low_byte}
use Rattle.cv_check.specs.declared.place.Move.{Move}
use Rattle.cv_check.specs.Integer.{plus, shift_place, store_place, address_place, zero_moves, other_moves, zero_before, zero_behind, other_at, other_before, other_behind}

abbrev Small : Row → Type 0
Small r = All (λ p. unsigned_abs p.1 ≤ 2 ^ 31) r.pairs × (unsigned_abs r.constant ≤ 2 ^ 31)

small_number : (z : ℤ) → unsigned_abs z ≤ 2 ^ 31 → Small (number z)
small_number z h = (All-nil (λ p. unsigned_abs p.1 ≤ 2 ^ 31), h)

small_plus : (v : ℕ) (z : ℤ) → unsigned_abs z ≤ 2 ^ 31 → Small (plus v z)
small_plus v z h = (All-cons (λ p. unsigned_abs p.1 ≤ 2 ^ 31) (v, pos 1) [] (omega arith) (All-nil (λ p. unsigned_abs p.1 ≤ 2 ^ 31)), h)

abbrev SmallAt : ℕ × Row → Type 0
SmallAt e = Small e.1

pub none_small : IsSmallAssign []
none_small = All-nil SmallAt

one_small : (v : ℕ) (r : Row) → Small r → IsSmallAssign ((v, r) ∷ [])
one_small v r h = All-cons SmallAt (v, r) [] h (All-nil SmallAt)

two_small : (v w : ℕ) (r s : Row) → Small r → Small s → IsSmallAssign ((v, r) ∷ (w, s) ∷ [])
two_small v w r s h k = All-cons SmallAt (v, r) ((w, s) ∷ []) h (one_small w s k)

abbrev SmallMove : Move → Type 0
SmallMove t = IsSmallAssign t.assign

pub address_small : All SmallMove address_place.moves
address_small =
    All-cons SmallMove _ [] (two_small 0 1 (number (pos 1)) (number (pos 0)) (small_number (pos 1) (omega arith)) (small_number (pos 0) (omega arith))) (All-nil SmallMove)

abs_small : (k : ℤ) → FitsSigned w32 k → unsigned_abs k ≤ 2 ^ 31
abs_small (pos n) h = grind (arith, ints)
abs_small (negsuc n) h = grind (arith, ints)

pub shift_small : (size : ℕ) (target : Bool) (k : ℤ) → FitsSigned w32 k → All SmallMove (shift_place size target k).moves
shift_small size true k h =
    All-cons SmallMove _ [] (two_small 0 1 (number (pos 1)) (plus 1 k) (small_number (pos 1) (omega arith)) (small_plus 1 k (abs_small k h))) (All-nil SmallMove)
shift_small size false k h = All-nil SmallMove

becomes_small : (v : ℕ) → IsSmallAssign ((2, plus v (pos 0)) ∷ [])
becomes_small v = one_small 2 (plus v (pos 0)) (small_plus v (pos 0) (omega arith))

stored_small : (size : ℕ) (zero : Bool) → All SmallMove (if zero then zero_moves size else other_moves size)
stored_small size true =
    All-cons SmallMove (zero_before size) (zero_behind size ∷ []) (becomes_small 1) (All-cons SmallMove (zero_behind size) [] none_small (All-nil SmallMove))
stored_small size false =
    All-cons SmallMove (other_at size) (other_before size ∷ other_behind size ∷ []) (becomes_small 3)
    (All-cons SmallMove (other_before size) (other_behind size ∷ []) none_small (All-cons SmallMove (other_behind size) [] none_small (All-nil SmallMove)))

pub store_small : (size : ℕ) (target : Bool) (k : ℤ) → All SmallMove (store_place size target k).moves
store_small size true k = stored_small size (low_byte k == 0)
store_small size false k = All-nil SmallMove
