-- Linear expressions as rows: constants, variables, sums and multiples. In each result the variables ascend and no coefficient is 0.
use Rattle.std.specs.Ordering.{int_eq}
use Rattle.std.specs.Prelude.{Bool, List, None, Option, Some, [], false, if◌then◌else◌, int_le, nat_lt, negsuc, pos, suc, true, zero, ℕ, ℤ, ◌&&◌, ◌*ℤ◌, ◌+ℤ◌, ◌==◌, ◌∷◌}
use Rattle.cv_num.specs.declared.rows.Row.{Row}

-- c * v before pairs of greater variables
abbrev pub with_pair : ℕ → ℤ → List (ℕ × ℤ) → List (ℕ × ℤ)
with_pair v (pos zero) ps = ps
with_pair v (pos (suc n)) ps = (v, pos (suc n)) ∷ ps
with_pair v (negsuc n) ps = (v, negsuc n) ∷ ps

-- c * v added to pairs
abbrev pub add_pair : ℕ → ℤ → List (ℕ × ℤ) → List (ℕ × ℤ)
add_pair v c [] = with_pair v c []
add_pair v c (p ∷ ps) =
    if nat_lt v p.0 then with_pair v c (p ∷ ps)
    else if v == p.0 then with_pair v (c +ℤ p.1) ps
    else p ∷ add_pair v c ps

-- the sum of two lists of pairs
abbrev pub add_pairs : List (ℕ × ℤ) → List (ℕ × ℤ) → List (ℕ × ℤ)
add_pairs [] qs = qs
add_pairs (p ∷ ps) qs = add_pair p.0 p.1 (add_pairs ps qs)

-- each coefficient times k
abbrev pub times_pairs : ℤ → List (ℕ × ℤ) → List (ℕ × ℤ)
times_pairs k [] = []
times_pairs k (p ∷ ps) = with_pair p.0 (k *ℤ p.1) (times_pairs k ps)

-- ---- the four forms of an expression

abbrev pub number : ℤ → Row
number z = record { pairs = []; constant = z }

abbrev pub variable : ℕ → Row
variable v = record { pairs = (v, pos 1) ∷ []; constant = pos 0 }

infixl 70 ◌⊕◌
abbrev pub ◌⊕◌ : Row → Row → Row
a ⊕ b = record { pairs = add_pairs a.pairs b.pairs; constant = a.constant +ℤ b.constant }

abbrev pub times : ℤ → Row → Row
times k a = record { pairs = times_pairs k a.pairs; constant = k *ℤ a.constant }

abbrev pub negative : Row → Row
negative a = times (negsuc 0) a

infixl 70 ◌⊖◌
abbrev pub ◌⊖◌ : Row → Row → Row
a ⊖ b = a ⊕ negative b

abbrev pub zero_row : Row
zero_row = number (pos 0)

abbrev pub one : Row
one = number (pos 1)

-- the two rows of `a = b`
abbrev pub equal : Row → Row → List Row
equal a b = (a ⊖ b) ∷ (negative (a ⊖ b)) ∷ []

-- the sum of all rows of a list
abbrev pub sum_of_rows : List Row → Row
sum_of_rows [] = zero_row
sum_of_rows (a ∷ more) = a ⊕ sum_of_rows more

-- ---- tests

-- the same variables with the same coefficients
abbrev pub same_pairs : List (ℕ × ℤ) → List (ℕ × ℤ) → Bool
same_pairs [] [] = true
same_pairs (p ∷ ps) (q ∷ qs) = (p.0 == q.0) && int_eq p.1 q.1 && same_pairs ps qs
same_pairs ps qs = false

-- the constant z of a row whose pairs are none
abbrev pub number_in : List (ℕ × ℤ) → ℤ → Option ℤ
number_in [] z = Some z
number_in (p ∷ ps) z = None

-- the number that a row without pairs is
abbrev pub number_of : Row → Option ℤ
number_of a = number_in a.pairs a.constant

-- a number of at least 0
abbrev pub is_natural : Option ℤ → Bool
is_natural None = false
is_natural (Some z) = int_le (pos 0) z

-- the variable of a lone pair with coefficient 1 beside the constant 0
abbrev pub variable_in : List (ℕ × ℤ) → ℤ → Option ℕ
variable_in (p ∷ []) (pos zero) = if int_eq p.1 (pos 1) then Some p.0 else None
variable_in ps z = None

-- the variable that a row alone is, with coefficient 1
abbrev pub variable_of : Row → Option ℕ
variable_of a = variable_in a.pairs a.constant

-- ---- substitution

-- what the variable v becomes by the assignments: the row of its first entry, and itself where it has none
abbrev pub image : List (ℕ × Row) → ℕ → Row
image [] v = variable v
image (a ∷ more) v = if a.0 == v then a.1 else image more v

-- the sum of coefficient * image of its variable
abbrev pub substituted_pairs : List (ℕ × Row) → List (ℕ × ℤ) → Row
substituted_pairs by [] = zero_row
substituted_pairs by (p ∷ ps) = times p.1 (image by p.0) ⊕ substituted_pairs by ps

-- each variable replaced by its image
abbrev pub substituted : List (ℕ × Row) → Row → Row
substituted by a = substituted_pairs by a.pairs ⊕ number a.constant

-- the assignments with one more; one that is there already stays
abbrev pub assign_also : ℕ → Row → List (ℕ × Row) → List (ℕ × Row)
assign_also v e [] = (v, e) ∷ []
assign_also v e (a ∷ more) =
    if nat_lt v a.0 then (v, e) ∷ a ∷ more
    else if v == a.0 then a ∷ more
    else a ∷ assign_also v e more
