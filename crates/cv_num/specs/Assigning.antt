-- What is looked up in the assignments with one more: the one that is there, else the new one.
use Rattle.std.proofs.Common.{◌≡◌, ◌≢◌, ℕ, ◌<◌, ◌≤◌, List, [], ◌∷◌, Bool, true, false, refl, sym, ap, ◌∙◌, arith, eqb-true, if◌then◌else◌, subst, Option, Some, None}
use Rattle.std.specs.Prelude.{nat_lt, ◌==◌}
use Rattle.std.specs.List.{All}
use Rattle.std.specs.Option.{option_or, unwrap_or}
use Rattle.std.proofs.lemmas.Bool.{ltb-true, ltb-false, eqb-false}
use Rattle.std.proofs.lemmas.List.Elements.{All-head, All-tail, All-cons, All-weaker, All-nil}
use Rattle.cv_num.specs.declared.rows.Row.{Row}
use Rattle.cv_num.specs.Algebra.{variable, image, assign_also}
use Rattle.cv_num.specs.Assigned.{IsAscending}

abbrev pub lookup : List (ℕ × Row) → ℕ → Option Row
lookup [] n = None
lookup (a ∷ more) n = if a.0 == n then Some a.1 else lookup more n

abbrev pub only_if : Bool → Row → Option Row
only_if true e = Some e
only_if false e = None

image-cases : (a : ℕ × Row) (more : List (ℕ × Row)) (n : ℕ) (here : Bool) → image more n ≡ unwrap_or (lookup more n) (variable n) →
    (if here then a.1 else image more n) ≡ unwrap_or (if here then Some a.1 else lookup more n) (variable n)
image-cases a more n true h = refl
image-cases a more n false h = h

pub image-lookup : (by : List (ℕ × Row)) (n : ℕ) → image by n ≡ unwrap_or (lookup by n) (variable n)
image-lookup [] n = refl
image-lookup (a ∷ more) n = image-cases a more n (a.0 == n) (image-lookup more n)

above-cases : (a : ℕ × Row) (more : List (ℕ × Row)) (n : ℕ) (here : Bool) → (a.0 == n) ≡ here → n < a.0 → lookup more n ≡ None →
    (if here then Some a.1 else lookup more n) ≡ None
above-cases a more n true e l h = absurd (omega (arith, eqb-true a.0 n e))
above-cases a more n false e l h = h

lookup-above : (by : List (ℕ × Row)) (n : ℕ) → All (λ b. n < b.0) by → lookup by n ≡ None
lookup-above [] n h = refl
lookup-above (a ∷ more) n h =
    above-cases a more n (a.0 == n) refl (All-head (λ b. n < b.0) a more h) (lookup-above more n (All-tail (λ b. n < b.0) a more h))

pub or-none : (o : Option Row) → option_or o None ≡ o
or-none None = refl
or-none (Some x) = refl

or-of_none : (o p : Option Row) → o ≡ None → option_or o p ≡ p
or-of_none o p e = ap (λ x. option_or x p) e

-- the new one stands before a
before-a : (a : ℕ × Row) (more : List (ℕ × Row)) (m n : ℕ) (e : Row) (mine : Bool) → (m == n) ≡ mine → m < a.0 → IsAscending (a ∷ more) →
    (if mine then Some e else lookup (a ∷ more) n) ≡ option_or (lookup (a ∷ more) n) (only_if mine e)
before-a a more m n e true f l h =
    let same : m ≡ n = eqb-true m n f in
    let lt : n < a.0 = subst (λ k. k < a.0) same l in
    let nothing : lookup (a ∷ more) n ≡ None = lookup-above (a ∷ more) n (All-cons (λ b. n < b.0) a more lt (All-weaker (λ b. a.0 < b.0) (λ b. n < b.0) (λ b k. omega arith) more h.0)) in
    sym (or-of_none (lookup (a ∷ more) n) (Some e) nothing)
before-a a more m n e false f l h = sym (or-none (lookup (a ∷ more) n))

-- a is there
at-a : (a : ℕ × Row) (more : List (ℕ × Row)) (m n : ℕ) (e : Row) (here mine : Bool) → (a.0 == n) ≡ here → (m == n) ≡ mine → m ≡ a.0 →
    (if here then Some a.1 else lookup more n) ≡ option_or (if here then Some a.1 else lookup more n) (only_if mine e)
at-a a more m n e true mine f g s = refl
at-a a more m n e false true f g s = absurd (eqb-false a.0 n f (sym s ∙ eqb-true m n g))
at-a a more m n e false false f g s = sym (or-none (lookup more n))

behind-a : (a : ℕ × Row) (new more : List (ℕ × Row)) (n : ℕ) (p : Option Row) (here : Bool) → lookup new n ≡ option_or (lookup more n) p →
    (if here then Some a.1 else lookup new n) ≡ option_or (if here then Some a.1 else lookup more n) p
behind-a a new more n p true h = refl
behind-a a new more n p false h = h

also-cases : (a : ℕ × Row) (more : List (ℕ × Row)) (m n : ℕ) (e : Row) (less same : Bool) → nat_lt m a.0 ≡ less → (m == a.0) ≡ same → IsAscending (a ∷ more) →
    lookup (assign_also m e more) n ≡ option_or (lookup more n) (only_if (m == n) e) →
    lookup (if less then (m, e) ∷ a ∷ more else if same then a ∷ more else a ∷ assign_also m e more) n ≡ option_or (lookup (a ∷ more) n) (only_if (m == n) e)
also-cases a more m n e true same f g h k = before-a a more m n e (m == n) refl (ltb-true m a.0 f) h
also-cases a more m n e false true f g h k = at-a a more m n e (a.0 == n) (m == n) refl refl (eqb-true m a.0 g)
also-cases a more m n e false false f g h k = behind-a a (assign_also m e more) more n (only_if (m == n) e) (a.0 == n) k

pub assign_also-lookup : (m n : ℕ) (e : Row) (by : List (ℕ × Row)) → IsAscending by →
    lookup (assign_also m e by) n ≡ option_or (lookup by n) (only_if (m == n) e)
assign_also-lookup m n e [] h = alone (m == n)
  where
    alone : (mine : Bool) → (if mine then Some e else None) ≡ only_if mine e
    alone true = refl
    alone false = refl
assign_also-lookup m n e (a ∷ more) h = also-cases a more m n e (nat_lt m a.0) (m == a.0) refl refl h (assign_also-lookup m n e more h.1)

-- ---- the assignments ascend

asc-above-cases : (u m : ℕ) (e : Row) (a : ℕ × Row) (more : List (ℕ × Row)) → u < m → All (λ b. u < b.0) (a ∷ more) → All (λ b. u < b.0) (assign_also m e more) → (less same : Bool) →
    All (λ b. u < b.0) (if less then (m, e) ∷ a ∷ more else if same then a ∷ more else a ∷ assign_also m e more)
asc-above-cases u m e a more l h k true same = All-cons (λ b. u < b.0) (m, e) (a ∷ more) l h
asc-above-cases u m e a more l h k false true = h
asc-above-cases u m e a more l h k false false = All-cons (λ b. u < b.0) a (assign_also m e more) (All-head (λ b. u < b.0) a more h) k

asc-above : (u m : ℕ) (e : Row) (by : List (ℕ × Row)) → u < m → All (λ b. u < b.0) by → All (λ b. u < b.0) (assign_also m e by)
asc-above u m e [] l h = All-cons (λ b. u < b.0) (m, e) [] l h
asc-above u m e (a ∷ more) l h =
    asc-above-cases u m e a more l h (asc-above u m e more l (All-tail (λ b. u < b.0) a more h)) (nat_lt m a.0) (m == a.0)

asc-cases : (m : ℕ) (e : Row) (a : ℕ × Row) (more : List (ℕ × Row)) → IsAscending (a ∷ more) → IsAscending (assign_also m e more) → (less same : Bool) →
    nat_lt m a.0 ≡ less → (m == a.0) ≡ same →
    IsAscending (if less then (m, e) ∷ a ∷ more else if same then a ∷ more else a ∷ assign_also m e more)
asc-cases m e a more h k true same f g =
    let l : m < a.0 = ltb-true m a.0 f in
    (All-cons (λ b. m < b.0) a more l (All-weaker (λ b. a.0 < b.0) (λ b. m < b.0) (λ b j. omega arith) more h.0), h)
asc-cases m e a more h k false true f g = h
asc-cases m e a more h k false false f g =
    let le : a.0 ≤ m = ltb-false m a.0 f in
    let apart : m ≢ a.0 = eqb-false m a.0 g in
    let l : a.0 < m = omega arith in (asc-above a.0 m e more l h.0, k)

pub assign_also-ascending : (m : ℕ) (e : Row) (by : List (ℕ × Row)) → IsAscending by → IsAscending (assign_also m e by)
assign_also-ascending m e [] h = (All-nil (λ b. m < b.0), tt)
assign_also-ascending m e (a ∷ more) h = asc-cases m e a more h (assign_also-ascending m e more h.1) (nat_lt m a.0) (m == a.0) refl refl
