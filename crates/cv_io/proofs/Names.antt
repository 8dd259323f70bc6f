-- Names in lists of names and files.
use Rattle.std.proofs.Common.{◌≡◌, ◌≢◌, ℕ, ◌+◌, List, [], ◌∷◌, ◌++◌, if◌then◌else◌, true, false, arith, refl, Some}
use Rattle.std.specs.Str.{bytes_eq}
use Rattle.std.proofs.lemmas.Slice.Eq.{bytes_eq-Decides}
use Rattle.cv_io.specs.Counts.{Rose, NoneFell}
use Rattle.cv_io.specs.Memory.{times_in, count_in, file_of}

-- a name equals itself
pub bytes_eq_same : (name : List ℕ) → bytes_eq name name ≡ true
bytes_eq_same name = (bytes_eq-Decides name name).1 refl

-- two names differ
pub bytes_eq_other : (name other : List ℕ) → other ≢ name → bytes_eq name other ≡ false
bytes_eq_other name other differ =
    let yes = (bytes_eq-Decides name other).0 in
    elim (bytes_eq name other) as (λ b. (b ≡ true → name ≡ other) → b ≡ false) [ true ↦ λ f. absurd (differ (cc (f refl))) | false ↦ λ _. refl ] yes

-- one name more at the end
pub times_in_append : (names : List (List ℕ)) (last name : List ℕ) →
    times_in (names ++ last ∷ []) name ≡ times_in names name + (if bytes_eq last name then 1 else 0)
times_in_append [] last name = omega arith
times_in_append (other ∷ names) last name = omega (arith, times_in_append names last name)

-- a name's count rises where the name is added
pub count_rose : (names : List (List ℕ)) (name : List ℕ) → Rose (count_in names name) (count_in (names ++ name ∷ []) name)
count_rose names name =
    let more : times_in (names ++ name ∷ []) name ≡ times_in names name + 1 =
    rw (bytes_eq_same name) at (times_in_append names name name) in
    grind (arith, more)

-- no count falls where a name is added
pub counts_kept : (names : List (List ℕ)) (last : List ℕ) → NoneFell (count_in names) (count_in (names ++ last ∷ []))
counts_kept names last name = grind (arith, times_in_append names last name)

-- a file before the others is the one of its name
pub file_of_same : (files : List (List ℕ × List ℕ)) (name bytes : List ℕ) → file_of ((name, bytes) ∷ files) name ≡ Some bytes
file_of_same files name bytes = rw (bytes_eq_same name)

-- and no other name's
pub file_of_other : (files : List (List ℕ × List ℕ)) (name bytes other : List ℕ) → other ≢ name →
    file_of ((name, bytes) ∷ files) other ≡ file_of files other
file_of_other files name bytes other differ = let e = bytes_eq_other name other differ in rw e
