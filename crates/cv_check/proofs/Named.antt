-- Rows that name the code and the offset of the pointer alone.
use Rattle.std.proofs.Common.{◌≡◌, ℕ, ◌≤◌, ◌<◌, true, List, [], ◌∷◌, length, ℤ, arith}
use Rattle.std.specs.Prelude.{nat_lt, nat_le}
use Rattle.std.specs.List.{All, list_all}
use Rattle.std.proofs.lemmas.Bool.{and_parts, ltb-true, leb-true}
use Rattle.std.proofs.lemmas.List.Elements.{All-nil, All-cons}
use Rattle.cv_num.specs.declared.rows.Row.{Row}
use Rattle.cv_check.specs.Accepted.{names_pointer}
use Rattle.cv_check.proofs.Follows.{Each}

-- the variables are below 2
abbrev pub IsFree : Row → Type 0
IsFree r = Each (λ q. q.0 < 2) r.pairs

below : (ps : List (ℕ × ℤ)) → list_all (λ q. nat_lt q.0 2) ps ≡ true → Each (λ q. q.0 < 2) ps
below [] h = tt
below (q ∷ ps) h = let parts : _ = and_parts (nat_lt q.0 2) (list_all (λ q. nat_lt q.0 2) ps) h in (ltb-true q.0 2 parts.0, below ps parts.1)

pub is_free : (r : Row) → names_pointer r ≡ true → IsFree r
is_free r h = let parts : _ = and_parts (list_all (λ q. nat_lt q.0 2) r.pairs) (nat_le (length r.pairs) 2) h in below r.pairs parts.0

is_few : (r : Row) → names_pointer r ≡ true → length r.pairs ≤ 200
is_few r h =
    let parts : _ = and_parts (list_all (λ q. nat_lt q.0 2) r.pairs) (nat_le (length r.pairs) 2) h in
    let two : length r.pairs ≤ 2 = leb-true (length r.pairs) 2 parts.1 in omega (arith, two)

pub are_free : (rs : List Row) → list_all names_pointer rs ≡ true → Each IsFree rs
are_free [] h = tt
are_free (r ∷ rs) h = let parts : _ = and_parts (names_pointer r) (list_all names_pointer rs) h in (is_free r parts.0, are_free rs parts.1)

abbrev Few : Row → Type 0
Few r = length r.pairs ≤ 200

are_few : (rs : List Row) → list_all names_pointer rs ≡ true → All Few rs
are_few [] h = All-nil Few
are_few (r ∷ rs) h = let parts : _ = and_parts (names_pointer r) (list_all names_pointer rs) h in All-cons Few r rs (is_few r parts.0) (are_few rs parts.1)

-- so that they can be substituted
pub named_few : (rows : List (List Row)) → list_all (list_all names_pointer) rows ≡ true → All (λ rs. All (λ r. length r.pairs ≤ 200) rs) rows
named_few [] h = All-nil (All Few)
named_few (rs ∷ rows) h =
    let parts : _ = and_parts (list_all names_pointer rs) (list_all (list_all names_pointer) rows) h in
    All-cons (All Few) rs rows (are_few rs parts.0) (named_few rows parts.1)
