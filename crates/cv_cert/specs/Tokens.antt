-- The numbers that tokens spell.
use Rattle.std.specs.Prelude.{ℕ, zero, suc, ◌+◌, ◌*◌, ◌-◌, ◌^◌, ℤ, pos, negsuc, Bool, true, false, not, ◌&&◌, ◌||◌, ◌==◌, nat_le, nat_lt, if◌then◌else◌, List, [], ◌∷◌, Option, Some, None, option_map, option_and_then}
use Rattle.std.specs.List.{list_all}
use Rattle.std.specs.Str.{all_ascii_digits}
use Rattle.std.specs.Ordering.{int_eq}
use Rattle.cv_num.specs.declared.rows.Row.{Row}
use Rattle.cv_cert.specs.Certificate.{is_before}
use Rattle.cv_cert.specs.Reading.{tokens_of}
use Rattle.cv_cert.specs.Text.{Line}

-- the number that digits spell behind the number n
abbrev pub digits_after : ℕ → List ℕ → ℕ
digits_after n [] = n
digits_after n (c ∷ cs) = digits_after (10 * n + (c - 48)) cs

-- the one byte of a token, or one that doesn't begin with a 0
abbrev pub no_leading_zero : List ℕ → Bool
no_leading_zero [] = false
no_leading_zero (c ∷ []) = true
no_leading_zero (c ∷ (d ∷ ds)) = not (c == 48)

-- the number of at most `most` that a token spells
unfoldable pub natural_of : ℕ → List ℕ → Option ℕ
natural_of most token =
    if no_leading_zero token && (all_ascii_digits token && nat_le (digits_after 0 token) most) then Some (digits_after 0 token) else None

unfoldable pub number_of : List ℕ → Option ℕ
number_of token = natural_of 4294967295 token

abbrev pub negative_of : Option ℕ → Option ℤ
negative_of None = None
negative_of (Some zero) = None
negative_of (Some (suc n)) = Some (negsuc n)

-- the number of 64 bits that a token spells
unfoldable pub integer_of : List ℕ → Option ℤ
integer_of [] = None
integer_of (c ∷ cs) =
    if c == 45 then negative_of (natural_of 9223372036854775808 cs) else option_map (λ n. pos n) (natural_of 9223372036854775807 (c ∷ cs))

-- ---- lists of tokens

abbrev pub both : {A B C : Type 0} → (A → B → C) → Option A → Option B → Option C
both f (Some a) (Some b) = Some (f a b)
both f (Some a) None = None
both f None b = None

abbrev pub numbers_of : Line → Option (List ℕ)
numbers_of [] = Some []
numbers_of (t ∷ ts) = both (λ n ns. n ∷ ns) (number_of t) (numbers_of ts)

-- numbers that strictly ascend, of which each is at least `from`
abbrev pub ascending_from : ℕ → Line → Option (List ℕ)
ascending_from from [] = Some []
ascending_from from (t ∷ ts) = option_and_then (λ n. if nat_lt n from then None else option_map (λ ns. n ∷ ns) (ascending_from (suc n) ts)) (number_of t)

-- pairs of a number and what f reads
abbrev pub pairs_by : {B : Type 0} → (List ℕ → Option B) → Line → Option (List (ℕ × B))
pairs_by f [] = Some []
pairs_by f (t ∷ []) = None
pairs_by f (t ∷ (u ∷ ts)) = both (λ p ps. p ∷ ps) (both (λ n b. (n, b)) (number_of t) (f u)) (pairs_by f ts)

-- ---- rows

abbrev pub is_canonical : List (ℕ × ℤ) → Bool
is_canonical [] = true
is_canonical (x ∷ xs) = not (int_eq x.1 (pos 0)) && (list_all (λ y. nat_lt x.0 y.0) xs && is_canonical xs)

-- whether there are n coefficients above this one
abbrev pub room_above : ℕ → ℤ → Bool
room_above n (pos k) = nat_lt (n + k) (2 ^ 63)
room_above n (negsuc k) = true

-- whether n rows can stand behind one with these pairs: behind (4294967295, c) there are but those with a greater coefficient of that variable
abbrev pub has_room : ℕ → List (ℕ × ℤ) → Bool
has_room n [] = true
has_room n (p ∷ ps) = nat_lt p.0 4294967295 || room_above n p.1

abbrev pub is_after : Option Row → Row → Bool
is_after None r = true
is_after (Some before) r = is_before before.pairs r.pairs

-- the tokens of what stands behind a token: nothing, or a space and more of the line
abbrev pub fields : List ℕ → Line
fields [] = []
fields (c ∷ cs) = tokens_of cs
